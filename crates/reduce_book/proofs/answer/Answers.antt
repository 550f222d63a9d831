-- An input whose sizes are accepted is no longer than a book, so it is held whole (`held-sized`); one that is refused by
-- them prints that number (`head-output`).
use Rattle.std.proofs.Common.{◌≡◌, ◌≤◌, ◌∙◌, ap, sym, refl, ℕ, List, length, take, arith}
use Rattle.std.proofs.Math.Seq.{length-take-le}
use Rattle.std.proofs.lemmas.Result.{IfOk-equal}
use Rattle.book.specs.Answers.{sizes_answer}
use Rattle.reduction.specs.Output.{output_as}
use Rattle.reduce_book.proofs.ProgramLaws.{head-output, held-sized}
use Rattle.reduce_book.proofs.answer.Goals as goal

pub slice_bounds-reduce-end : goal.slice_bounds-reduce-end
unfolding sizes_answer
slice_bounds-reduce-end g c =
    let s = c.in-Ok.ensures.sized c.in-Ok.sizes.n c.in-Ok.sizes.m refl in
    sym (length-take-le _ _ (omega (arith, s.short)))

pub reduce-requires-clause-n_le_max_variables : goal.reduce-requires-clause-n_le_max_variables
unfolding sizes_answer
reduce-requires-clause-n_le_max_variables g c =
    let h = c.requires.max_book_in_bounds.1 in
    let s = c.in-Ok.ensures.sized c.in-Ok.sizes.n c.in-Ok.sizes.m refl in
    (s.few, s.few_rows, held-sized h.1 (omega (arith, s.short)) (c.in-Ok.ensures.right h.0 h.1.size h.1.end))

pub returns-in-Err : goal.returns-in-Err
unfolding sizes_answer
returns-in-Err g c = λ bs h.
    IfOk-equal c.refused.result _ _ _ (rw c.number.ensures at c.refused.ensures)
    (ap length (head-output c.args.form c.args.limit bs _ (c.in-Err.ensures.right bs h.size h.end)))

pub returns-in-Ok : goal.returns-in-Ok
unfolding sizes_answer
returns-in-Ok g c = λ bs h.
    let a = c.args in
    let s = c.in-Ok.ensures.sized c.in-Ok.sizes.n c.in-Ok.sizes.m refl in
    let within : length bs ≤ length a.start.now = omega (arith, h.size, s.short) in
    let w : take a.len a.start.now ≡ bs = ap (λ (r : ℕ). take r a.start.now) h.size ∙ h.whole within in
    IfOk-equal c.reduce.result _ _ _ c.reduce.ensures (ap (λ (b : List ℕ). length (output_as a.form a.limit b)) w)
