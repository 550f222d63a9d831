-- `intake::checking::sizes`: the checks in their order; past check 2 the trailer call makes what is left of them.
use Prim.Native.Nat.{ℕ}
use borrow.Author.Tests.{eq-eqb, le-leb, lt-leb, ne_eqb}
use lib.ListN.{length}
use mathlib.Core.Path.{◌∙◌, ◌≡◌, ap, refl, sym}
use native.Mathlib.Omega.{arith}
use Rattle.model.specs.Checks.{first}
use Rattle.model.proofs.CheckLaws.{fails, past}
use Rattle.book.specs.Answers.{sizes_answer, sizes_are, trailer_call, unless}
use Rattle.book.specs.Book.{length_given, rows, variables}
use Rattle.book.specs.BookChecks.{given_length_checks, layout_checks, trailer_checks}
use Rattle.book.proofs.AnswerLaws.{refused-by}
use Rattle.intake.specs.Checks.{input_call, input_checks}
use Rattle.intake.proofs.CheckLaws.{answers}
use Rattle.intake.proofs.checking.sizes.Goals as goal

pub returns-then-is_short : goal.returns-then-is_short
unfolding sizes_answer input_call input_checks
returns-then-is_short c =
    let h = answers c.args.tail.now c.args.len (refused-by (fails _ 1 _ (lt-leb _ _ c.if-is_short.true)) (λ z. omega arith) _) in
    record { answer = h.0; right = h.1.0; sized = h.1.1 }

pub returns-then-tail-ne-TRAILER : goal.returns-then-tail-ne-TRAILER
unfolding sizes_answer input_call input_checks
returns-then-tail-ne-TRAILER c =
    let h = answers c.args.tail.now c.args.len (refused-by (past _ 1 _ (le-leb _ _ c.if-is_short.false) (fails _ 5 _ (ne_eqb _ _ c.if-tail-ne-TRAILER.true))) (λ z. omega arith) _) in
    record { answer = h.0; right = h.1.0; sized = h.1.1 }

pub returns-then-is_other : goal.returns-then-is_other
unfolding sizes_answer input_call input_checks given_length_checks
returns-then-is_other c =
    let h = answers c.args.tail.now c.args.len
    (refused-by
    (past _ 1 _ (le-leb _ _ c.if-is_short.false)
    (past _ 5 _ (eq-eqb _ _ c.if-tail-ne-TRAILER.false) (fails _ 2 _ (ne_eqb _ _ (λ e. c.if-is_other.true (c.length_given-given.ensures ∙ e))))))
    (λ z. omega arith) _) in
    record { answer = h.0; right = h.1.0; sized = h.1.1 }

pub returns : goal.returns
unfolding input_call input_checks given_length_checks trailer_call trailer_checks
returns c =
    let a = c.args in
    let t = a.tail.now in
    let long = le-leb 16 a.len c.if-is_short.false in
    let l = c.if-tail-ne-TRAILER.false in
    let g = eq-eqb (length_given t) a.len (sym c.length_given-given.ensures ∙ c.if-is_other.false) in
    let e : first (trailer_checks t) ≡ first (input_checks t a.len) =
    sym (past _ 1 _ (le-leb 16 (length t) (omega arith)) (past _ 5 _ (le-leb (length t) 16 (omega arith)) refl))
    ∙ past _ 1 _ long (past _ 5 _ (eq-eqb (length t) 16 l) (past _ 2 (layout_checks t) g refl)) in
    let h = answers c.args.tail.now c.args.len (c.trailer.ensures ∙ ap (λ (f : ℕ). unless f (sizes_are (variables t) (rows t))) e) in
    record { answer = h.0; right = h.1.0; sized = h.1.1 }
