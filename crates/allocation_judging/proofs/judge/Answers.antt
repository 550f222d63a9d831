-- `allocation_judging::judge`: the checks are made in their order, and what passes is split.
use Prim.Native.Nat.{ℕ, ◌≤◌}
use lib.ListN.{length, take}
use lib.Seq.{length-take-le}
use mathlib.Core.Path.{◌∙◌, ◌≡◌, ap, refl, sym}
use native.Mathlib.Omega.{arith}
use Rattle.model.specs.Checks.{first}
use Rattle.book.proofs.AcceptLaws.{Head, head-test}
use Rattle.allocation_input.specs.Input.{book_end, input_fault, model_of_input, proposal_checks}
use Rattle.std.specs.Prelude.{Result, Ok, Err}
use Rattle.std.specs.Result.{result_and}
use Rattle.std.proofs.lemmas.Result.{err_from_is_err_and}
use mathlib.Core.List.{List}
use Rattle.model.specs.declared.refusal.Refusal.{Refusal}
use Rattle.model.specs.Refusals.{fault_of}
use Rattle.model.proofs.RefusalLaws.{number_of-ne0}
use Rattle.allocation_input.specs.Judging.{Answers}
use Rattle.allocation_input.proofs.InputLaws.{end-head, end-variables, refused-behind, refused-head}
use Rattle.allocation_judging.proofs.judge.Goals as goal

-- what is refused by its head
refused-by_head : (r : Result (Unit {0}) Refusal) (bs Y : List ℕ) → (fault_of r ≡ input_fault bs) × (fault_of r ≡ 0 → ⊥) → Answers (result_and r (Ok 0)) bs Y
refused-by_head (Ok x) bs Y h = absurd (h.1 refl)
refused-by_head (Err r) bs Y h = h

pub returns-then-input-end : goal.returns-then-input-end
returns-then-input-end c =
    let h = refused-head _ c.requires.0 (omega (arith, c.book_end-end.ensures, c.if-input-end.true)) c.check_head.ensures in
    rw c.and.ensures (refused-by_head c.check_head.result c.args.input.now c.args.verdicts.now h)

pub slice_bounds-trailer_u16-end : goal.slice_bounds-trailer_u16-end
slice_bounds-trailer_u16-end c = sym (length-take-le _ _ (omega arith))

-- the book has a head
headed : (bs : List ℕ) {e : ℕ} → e ≡ book_end bs → e ≤ length bs → Head (take e bs)
headed bs {e} q h = (head-test _).0 (end-head bs e q h)

pub trailer_u16-n-requires : goal.trailer_u16-n-requires
trailer_u16-n-requires c = ((headed _ c.book_end-end.ensures (omega arith)).long, omega arith)

pub check_proposals-requires : goal.check_proposals-requires
check_proposals-requires c =
    (c.requires.0, omega arith, omega (arith, c.trailer_u16-n.ensures, (headed _ c.book_end-end.ensures (omega arith)).layout.few))

-- checks 22 and 5 are made of what stands behind it, and its n is the model's
behind : (bs : List ℕ) (e n : ℕ) {k : ℕ} → n ≡ (model_of_input bs).n → k ≡ first (proposal_checks n e bs)
    → k ≡ first (proposal_checks (model_of_input bs).n e bs)
behind bs e n m h = h ∙ ap (λ (i : ℕ). first (proposal_checks i e bs)) m

behind-end : (bs : List ℕ) (e n : ℕ) {k : ℕ} → e ≡ book_end bs → n ≡ (model_of_input bs).n → k ≡ first (proposal_checks n e bs)
    → k ≡ first (proposal_checks (model_of_input bs).n (book_end bs) bs)
behind-end bs e n q m h = behind bs e n m h ∙ ap (λ (i : ℕ). first (proposal_checks (model_of_input bs).n i bs)) q

pub returns-in_err-check_proposals : goal.returns-in_err-check_proposals
returns-in_err-check_proposals c =
    let p = err_from_is_err_and c.from_residual.result c.from_residual.ensures.1 in
    let bs = c.args.input.now in
    let q = c.book_end-end.ensures in
    let k = behind-end bs c.book_end-end.result c.trailer_u16-n.result q (c.trailer_u16-n.ensures ∙ end-variables _ _ q) c.in_err-check_proposals.ensures in
    rw (p.1, p.2) (refused-behind bs c.requires.0 (omega (arith, q, c.if-input-end.false)) k (number_of-ne0 _), number_of-ne0 _)

pub judge_at-requires : goal.judge_at-requires
judge_at-requires c =
    let bs = c.args.input.now in
    let q = c.book_end-end.ensures in
    let k = behind bs c.book_end-end.result c.trailer_u16-n.result (c.trailer_u16-n.ensures ∙ end-variables _ _ q) c.in_ok-check_proposals.ensures in
    (record { short = c.requires.0; end = q; within = omega arith; behind = sym k }, c.requires.1)
