-- n and m are within their limits, so the part that is lent is as long as the book to be written.
use Rattle.std.proofs.Common.{◌≡◌, ◌≤◌, ◌∙◌, ap₂, sym, arith, ℕ, List, length, take}
use Rattle.std.proofs.Math.Seq.{length-take-le}
use Rattle.std.proofs.lemmas.Result.{err_from_is_err_and}
use Rattle.book.specs.Answers.{write_answer}
use Rattle.book.specs.Book.{book_length, rows, trailer_of, variables}
use Rattle.book.proofs.EncodeLaws.{length-below}
use Rattle.convert.specs.Answers.{Framed, answer_bytes}
use Rattle.convert.specs.Output.{max_sparse}
use Rattle.convert.proofs.ConvertLaws.{first-book, first-refused, part-fits}
use Rattle.convert.proofs.conversion.first_edition.Goals as goal

-- of a buffer that holds the longest sparse book, a part for a book of the first edition
module _ (from to : List ℕ) (f : Framed from) (m : max_sparse ≡ length to) (n r len : ℕ) (l : len ≡ book_length n r)
    (e : n ≡ variables (trailer_of from)) (k : r ≡ rows (trailer_of from)) where
  len_is : len ≡ book_length (variables (trailer_of from)) (rows (trailer_of from))
  len_is = l ∙ ap₂ book_length e k

  room : len ≤ length to
  room = omega (arith, len_is, length-below _ _ f.few f.few_rows, m)

  lent : length (take len to) ≡ len
  lent = length-take-le len to room

pub slice_bounds-to_first-end : goal.slice_bounds-to_first-end
slice_bounds-to_first-end c =
    room _ _ c.requires.0 c.requires.1 _ _ _ c.book_length-len.ensures c.trailer_u16.ensures c.trailer_u16-2.ensures

pub slice_bounds-to_first-end-2 : goal.slice_bounds-to_first-end-2
slice_bounds-to_first-end-2 c =
    sym (lent _ _ c.requires.0 c.requires.1 _ _ _ c.book_length-len.ensures c.trailer_u16.ensures c.trailer_u16-2.ensures)

pub returns-in_err-to_first : goal.returns-in_err-to_first
unfolding answer_bytes write_answer
returns-in_err-to_first c =
    let p = err_from_is_err_and c.from_residual.result c.from_residual.ensures.1 in
    let from = c.args.from.now in
    let r = c.requires in
    let is = len_is from _ r.0 r.1 _ _ _ c.book_length-len.ensures c.trailer_u16.ensures c.trailer_u16-2.ensures in
    let l = lent from _ r.0 r.1 _ _ _ c.book_length-len.ensures c.trailer_u16.ensures c.trailer_u16-2.ensures in
    rw (p.1, p.2) (record { bytes = first-refused from _ (l ∙ is) _ c.in_err-to_first.ensures.answer; fits = tt })

pub returns-clause-bytes : goal.returns-clause-bytes
unfolding answer_bytes write_answer
returns-clause-bytes c =
    let from = c.args.from.now in
    let r = c.requires in
    let w = c.to_first in
    let is = len_is from _ r.0 r.1 _ _ _ c.book_length-len.ensures c.trailer_u16.ensures c.trailer_u16-2.ensures in
    let l = lent from _ r.0 r.1 _ _ _ c.book_length-len.ensures c.trailer_u16.ensures c.trailer_u16-2.ensures in
    first-book from _ (l ∙ is) w.new.to _ _ c.in_ok-to_first.ensures.answer (w.auto.to ∙ l) w.ensures.book_written

pub returns-clause-fits : goal.returns-clause-fits
returns-clause-fits c =
    let r = c.requires in
    let w = c.to_first in
    let l = lent c.args.from.now _ r.0 r.1 _ _ _ c.book_length-len.ensures c.trailer_u16.ensures c.trailer_u16-2.ensures in
    part-fits w.new.to _ (w.auto.to ∙ l)
