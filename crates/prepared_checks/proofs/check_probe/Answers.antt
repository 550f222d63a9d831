-- `prepared_checks::check_probe`: what each call says is the test of its checks, and the checks are passed in their order.
-- Assumes nothing.
use Prim.Native.Nat.{◌*◌, ◌≤◌, ℕ}
use lib.Dec.{eqb}
use lib.IntN.{ℤ}
use lib.ListN.{length}
use mathlib.Core.Bool.{true}
use mathlib.Core.List.{List, ◌∷◌, ◌++◌}
use mathlib.Core.Path.{◌≡◌, sym}
use native.Mathlib.Nat.{mul-le-mul_right}
use native.Mathlib.Omega.{arith}
use Rattle.std.proofs.lemmas.Result.{err_from_is_err_and}
use Rattle.call.specs.FieldChecks.{probe_checks}
use Rattle.integer.proofs.Tests.{eqb-test, test-false, test-true}
use Rattle.model.specs.Checks.{box_checks, first, must, table, table_byte_checks}
use Rattle.model.proofs.CheckLaws.{accepts, ends, fails, past, refuses}
use Rattle.prepared_model.specs.Layout.{is_ours, variables_of}
use Rattle.prepared_model.proofs.OursLaws.{ours-is}
use Rattle.prepared_checks.specs.Checks.{lent_checks, prepared_probe_checks, probe_fault, sides_fit}
use Rattle.prepared_checks.proofs.ProbeCheckLaws.{box-valid}
use Rattle.prepared_checks.proofs.check_probe.Goals as goal

square : (W : List ℕ) → is_ours W ≡ true → variables_of W * variables_of W ≤ 16_384
square W e = let few = (ours-is e).few in let a = mul-le-mul_right (variables_of W) few in omega arith

-- past the tests of the workspace and the bounds
to_table : {r : ℕ} (W : List ℕ) (B : List ℤ) (t R : List ℕ) (k budget : ℕ) → let n = variables_of W in is_ours W ≡ true → length B ≡ 2 * n
    → r ≡ first (must (eqb (length t) (4 * (n * n))) 5 ∷ (must (sides_fit n R) 5 ∷ (box_checks n B ++ table_byte_checks (table t))) ++ probe_checks n B k budget)
    → r ≡ probe_fault W B t R k budget
unfolding probe_fault prepared_probe_checks lent_checks
to_table W B t R k budget o b h = past _ 5 _ o (past _ 5 _ (test-true _ (eqb-test (length B) (2 * variables_of W)) b) h)

-- the checks of lengths are passed
passed : {r : ℕ} (W : List ℕ) (B : List ℤ) (t R : List ℕ) (k budget : ℕ) → let n = variables_of W in is_ours W ≡ true → length B ≡ 2 * n
    → length t ≡ 4 * (n * n) → sides_fit n R ≡ true
    → r ≡ first ((box_checks n B ++ table_byte_checks (table t)) ++ probe_checks n B k budget) → r ≡ probe_fault W B t R k budget
unfolding probe_fault prepared_probe_checks lent_checks
passed W B t R k budget o b l s h =
    let n = variables_of W in
    past _ 5 _ o (past _ 5 _ (test-true _ (eqb-test (length B) (2 * n)) b) (past _ 5 _ (test-true _ (eqb-test (length t) (4 * (n * n))) l) (past _ 5 _ s h)))

pub returns-then-not-is_ours : goal.returns-then-not-is_ours
unfolding probe_fault prepared_probe_checks lent_checks
returns-then-not-is_ours c = fails _ 5 _ (sym c.if-not-is_ours.ensures)

pub bounds-ws-1 : goal.bounds-ws-1
bounds-ws-1 c = omega (arith, (ours-is (sym c.if-not-is_ours.ensures)).len)

pub overflow_mul-n : goal.overflow_mul-n
overflow_mul-n c = omega (arith, (ours-is (sym c.if-not-is_ours.ensures)).few)

pub returns-then-bounds-n : goal.returns-then-bounds-n
unfolding probe_fault prepared_probe_checks lent_checks
returns-then-bounds-n c =
    past _ 5 _ (sym c.if-not-is_ours.ensures) (fails _ 5 _ (test-false _ (eqb-test (length c.args.bounds.now) (2 * variables_of c.args.ws.now)) c.if-bounds-n.true))

pub overflow_mul-n-2 : goal.overflow_mul-n-2
overflow_mul-n-2 c = omega (arith, square c.args.ws.now (sym c.if-not-is_ours.ensures))

pub overflow_mul-n-3 : goal.overflow_mul-n-3
overflow_mul-n-3 c = omega (arith, square c.args.ws.now (sym c.if-not-is_ours.ensures))

pub returns-then-table-n : goal.returns-then-table-n
unfolding probe_fault prepared_probe_checks lent_checks
returns-then-table-n c =
    let n = variables_of c.args.ws.now in
    past _ 5 _ (sym c.if-not-is_ours.ensures) (past _ 5 _ (test-true _ (eqb-test (length c.args.bounds.now) (2 * n)) c.if-bounds-n.false)
    (fails _ 5 _ (test-false _ (eqb-test (length c.args.table.now) (4 * (n * n))) c.if-table-n.true)))

pub sides_fit-requires : goal.sides_fit-requires
sides_fit-requires c = (ours-is (sym c.if-not-is_ours.ensures)).few

pub returns-then-not-sides_fit : goal.returns-then-not-sides_fit
unfolding probe_fault prepared_probe_checks lent_checks
returns-then-not-sides_fit c =
    let n = variables_of c.args.ws.now in
    past _ 5 _ (sym c.if-not-is_ours.ensures) (past _ 5 _ (test-true _ (eqb-test (length c.args.bounds.now) (2 * n)) c.if-bounds-n.false)
    (past _ 5 _ (test-true _ (eqb-test (length c.args.table.now) (4 * (n * n))) c.if-table-n.false) (fails _ 5 _ (sym c.if-not-sides_fit.ensures))))

pub returns-in_err-check_box : goal.returns-in_err-check_box
returns-in_err-check_box c =
    let p = err_from_is_err_and c.from_residual.result c.from_residual.ensures.1 in
    rw (p.1, p.2) (passed c.args.ws.now c.args.bounds.now c.args.table.now c.args.reasons.now c.args.variable c.args.budget
    (sym c.if-not-is_ours.ensures) c.if-bounds-n.false c.if-table-n.false (sym c.if-not-sides_fit.ensures)
    (refuses _ _ _ (refuses _ _ _ c.in_err-check_box.ensures)))

pub returns-then-not-is_bits : goal.returns-then-not-is_bits
unfolding box_checks table_byte_checks
returns-then-not-is_bits c =
    passed c.args.ws.now c.args.bounds.now c.args.table.now c.args.reasons.now c.args.variable c.args.budget
    (sym c.if-not-is_ours.ensures) c.if-bounds-n.false c.if-table-n.false (sym c.if-not-sides_fit.ensures)
    (accepts (box_checks _ _) _ tt c.in_ok-check_box.ensures (fails _ 10 _ (sym c.if-not-is_bits.ensures)))

pub check_probe_fields-requires : goal.check_probe_fields-requires
check_probe_fields-requires c =
    record { valid_box = box-valid _ c.args.bounds.now c.if-bounds-n.false (sym c.in_ok-check_box.ensures); n_nonzero = (ours-is (sym c.if-not-is_ours.ensures)).some }

pub returns : goal.returns
unfolding box_checks table_byte_checks
returns c =
    passed c.args.ws.now c.args.bounds.now c.args.table.now c.args.reasons.now c.args.variable c.args.budget
    (sym c.if-not-is_ours.ensures) c.if-bounds-n.false c.if-table-n.false (sym c.if-not-sides_fit.ensures)
    (accepts (box_checks _ _ ++ table_byte_checks (table _)) _ tt
    (accepts (box_checks _ _) _ tt c.in_ok-check_box.ensures (past _ 10 _ (sym c.if-not-is_bits.ensures) ends)) c.check_probe_fields.ensures)
