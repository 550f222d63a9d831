-- `allocation_judging::hold_in`: with buffers of the right lengths the book is refused by its numbers alone, and so is the call
-- (`read-refused`, `answered`).
use Rattle.std.proofs.Common.{ℕ, ◌∙◌, ap}
use Rattle.std.proofs.lemmas.Result.{err_from_is_err_and}
use Rattle.model.specs.Rows.{rows_of}
use Rattle.book.specs.Answers.{sizes_answer}
use Rattle.little_endian.specs.Bytes.{integers_at}
use Rattle.allocation_input.proofs.InputLaws.{answered, read-model, read-refused}
use Rattle.allocation_judging.proofs.hold_in.Goals as goal

pub returns-in_err-n : goal.returns-in_err-n
unfolding sizes_answer
returns-in_err-n c =
    let p = err_from_is_err_and c.from_residual.result c.from_residual.ensures.1 in
    let a = c.args in
    let f = read-refused _ _ _ _ c.requires.holdable a.bounds.now (rows_of a.coefs.now a.rhs.now a.kinds.now) _ c.requires.fact _ c.in_err-n.ensures.answer in
    rw (p.1, p.2) (record { fault = f.0; told = λ z. absurd (f.1 z) })

pub returns : goal.returns
unfolding sizes_answer
returns c =
    let a = c.args in
    let e = c.in_ok-n.ensures in
    let h = answered _ _ _ _ c.requires.holdable
    (read-model _ _ _ _ c.requires.holdable a.bounds.now (rows_of a.coefs.now a.rhs.now a.kinds.now) _ c.requires.fact _ _ e.answer
    e.bounds_read e.coefs_read e.rhs_read e.kinds_read)
    (c.read_integers.ensures ∙ ap (λ (k : ℕ). integers_at 0 4 k a.behind.now) c.requires.fact.numbers)
    c.check_allocations.ensures.number
    c.check_allocations.ensures.told in
    record { fault = h.0; told = h.1 }
