-- Where the length is told, the book is accepted, and is written into a part of that length (`sparse-book`).
use Rattle.std.proofs.Common.{◌∙◌, sym, arith}
use Rattle.std.proofs.Math.Seq.{length-take-le}
use Rattle.std.proofs.lemmas.Result.{err_from_is_err_and}
use Rattle.sparse_calls.specs.SparseCalls.{length_answer}
use Rattle.convert.specs.Answers.{answer_bytes}
use Rattle.convert.proofs.ConvertLaws.{length-refused, length-told, part-fits, sparse-book, sparse-room}
use Rattle.convert.proofs.conversion.sparse_edition.Goals as goal

pub slice_bounds-to_sparse-end : goal.slice_bounds-to_sparse-end
unfolding length_answer
slice_bounds-to_sparse-end c =
    let h = length-told c.args.from.now c.in_ok-len.len c.in_ok-len.ensures in
    omega (arith, h.1, sparse-room c.args.from.now h.0, c.requires)

pub slice_bounds-to_sparse-end-2 : goal.slice_bounds-to_sparse-end-2
unfolding length_answer
slice_bounds-to_sparse-end-2 c =
    let h = length-told c.args.from.now c.in_ok-len.len c.in_ok-len.ensures in
    sym (length-take-le _ _ (omega (arith, h.1, sparse-room c.args.from.now h.0, c.requires)))

pub returns-in_err-len : goal.returns-in_err-len
unfolding answer_bytes length_answer
returns-in_err-len c =
    let p = err_from_is_err_and c.from_residual.result c.from_residual.ensures.1 in
    rw (p.1, p.2) (record { bytes = length-refused c.args.from.now _ c.in_err-len.ensures; fits = tt })

pub returns-clause-bytes : goal.returns-clause-bytes
unfolding answer_bytes length_answer
returns-clause-bytes c =
    let from = c.args.from.now in
    let w = c.to_sparse in
    let h = length-told from c.in_ok-len.len c.in_ok-len.ensures in
    let l = length-take-le c.in_ok-len.len c.args.to.now (omega (arith, h.1, sparse-room from h.0, c.requires)) in
    sparse-book from _ w.new.to _ c.in_ok-len.len c.in_ok-len.ensures l (w.auto.to ∙ l) w.ensures.book_written

pub returns-clause-fits : goal.returns-clause-fits
unfolding length_answer
returns-clause-fits c =
    let from = c.args.from.now in
    let w = c.to_sparse in
    let h = length-told from c.in_ok-len.len c.in_ok-len.ensures in
    let l = length-take-le c.in_ok-len.len c.args.to.now (omega (arith, h.1, sparse-room from h.0, c.requires)) in
    part-fits w.new.to _ (w.auto.to ∙ l)
