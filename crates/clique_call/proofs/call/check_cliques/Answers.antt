-- `clique_call::call::check_cliques`: what each call says is the test of its check, and the checks are passed in their order.
-- Assumes nothing.
use Prim.Native.Nat.{◌*◌, ℕ}
use borrow.Author.Tests.{ne_eqb}
use lib.Dec.{eqb}
use lib.IntN.{ℤ}
use lib.ListN.{length}
use mathlib.Core.Bool.{true}
use mathlib.Core.List.{List, ◌++◌, ◌∷◌}
use mathlib.Core.Path.{◌≡◌, sym}
use native.Mathlib.Omega.{arith}
use Rattle.std.proofs.lemmas.Result.{err_from_is_err_and}
use Rattle.integer.proofs.Tests.{eqb-test, test-true}
use Rattle.model.specs.Checks.{Check, first, must, size_checks, table, table_byte_checks, table_length_checks}
use Rattle.model.proofs.CheckLaws.{accepts, ends, fails, past, refuses}
use Rattle.cliques.specs.CliqueCall.{clique_checks}
use Rattle.clique_call.proofs.CallLaws.{sizes-passed, square-fits}
use Rattle.clique_call.proofs.call.check_cliques.Goals as goal

-- past check 3
module _ (n : ℕ) (passed : 0 ≡ first (size_checks n 0)) where
  past-size : {r : ℕ} (ys : List Check) → r ≡ first ys → r ≡ first (size_checks n 0 ++ ys)
  unfolding size_checks
  past-size ys h = accepts (size_checks n 0) ys tt passed h

  -- past the table's length
  past-table : {r : ℕ} (t : List ℕ) (ys : List Check) → true ≡ eqb (length t) (4 * (n * n)) → r ≡ first ys
      → r ≡ first (size_checks n 0 ++ (table_length_checks n (table t) ++ ys))
  unfolding table_length_checks
  past-table t ys e h = past-size _ (past _ 5 _ (sym e) h)

  -- past the coefficients' length
  past-coefs : {r : ℕ} (t : List ℕ) (C : List ℤ) (ys : List Check) → true ≡ eqb (length t) (4 * (n * n)) → true ≡ eqb (length C) (2 * n * n) → r ≡ first ys
      → r ≡ first (size_checks n 0 ++ (table_length_checks n (table t) ++ (must (eqb (length C) (2 * n * n)) 5 ∷ ys)))
  past-coefs t C ys e f h = past-table t _ e (past _ 5 _ (sym f) h)

  -- past the right sides' length
  past-rhs : {r : ℕ} (t : List ℕ) (C R : List ℤ) (ys : List Check) → true ≡ eqb (length t) (4 * (n * n)) → true ≡ eqb (length C) (2 * n * n)
      → length R ≡ 2 * n → r ≡ first ys
      → r ≡ first (size_checks n 0 ++ (table_length_checks n (table t) ++ (must (eqb (length C) (2 * n * n)) 5 ∷ must (eqb (length R) (2 * n)) 5 ∷ ys)))
  past-rhs t C R ys e f g h =
      past-coefs t C _ e f (past _ 5 _ (test-true (eqb (length R) (2 * n)) (eqb-test (length R) (2 * n)) g) h)

pub returns-in_err-check_size : goal.returns-in_err-check_size
unfolding clique_checks
returns-in_err-check_size c =
    let p = err_from_is_err_and c.from_residual.result c.from_residual.ensures.1 in
    rw (p.1, p.2) (refuses _ _ _ c.in_err-check_size.ensures)

pub overflow_mul-n : goal.overflow_mul-n
overflow_mul-n c = square-fits (sizes-passed c.args.n (sym c.in_ok-check_size.ensures))

pub returns-then-not-is_product : goal.returns-then-not-is_product
unfolding clique_checks table_length_checks
returns-then-not-is_product c = past-size c.args.n c.in_ok-check_size.ensures _ (fails _ 5 _ (sym c.if-not-is_product.ensures))

pub overflow_mul-n-2 : goal.overflow_mul-n-2
overflow_mul-n-2 c = omega (arith, sizes-passed c.args.n (sym c.in_ok-check_size.ensures))

pub returns-then-not-is_product-2 : goal.returns-then-not-is_product-2
unfolding clique_checks
returns-then-not-is_product-2 c =
    past-table c.args.n c.in_ok-check_size.ensures c.args.table.now _ c.if-not-is_product.ensures (fails _ 5 _ (sym c.if-not-is_product-2.ensures))

pub overflow_mul-n-3 : goal.overflow_mul-n-3
overflow_mul-n-3 c = omega (arith, sizes-passed c.args.n (sym c.in_ok-check_size.ensures))

pub returns-then-rhs-n : goal.returns-then-rhs-n
unfolding clique_checks
returns-then-rhs-n c =
    past-coefs c.args.n c.in_ok-check_size.ensures c.args.table.now c.args.coefs.now _ c.if-not-is_product.ensures c.if-not-is_product-2.ensures
    (fails _ 5 _ (ne_eqb _ _ c.if-rhs-n.true))

pub returns-then-not-is_bits : goal.returns-then-not-is_bits
unfolding clique_checks table_byte_checks
returns-then-not-is_bits c =
    past-rhs c.args.n c.in_ok-check_size.ensures c.args.table.now c.args.coefs.now c.args.rhs.now _ c.if-not-is_product.ensures c.if-not-is_product-2.ensures
    c.if-rhs-n.false (fails _ 10 _ (sym c.if-not-is_bits.ensures))

pub returns : goal.returns
unfolding clique_checks table_byte_checks
returns c =
    past-rhs c.args.n c.in_ok-check_size.ensures c.args.table.now c.args.coefs.now c.args.rhs.now _ c.if-not-is_product.ensures c.if-not-is_product-2.ensures
    c.if-rhs-n.false (past _ 10 _ (sym c.if-not-is_bits.ensures) ends)
