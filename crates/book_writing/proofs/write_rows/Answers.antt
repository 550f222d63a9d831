-- `book_writing::write_rows`: after i turns the bytes of the first i rows are written. Assumes nothing.
use Rattle.std.proofs.Common.{◌*◌, ◌+◌, ◌≤◌, ℕ, ℤ, length, List, [], ◌++◌, ◌∙◌, ◌≡◌, ap, ap₂, sym, to_z-of_z, w32, SFits, arith, rules}
use Rattle.model.specs.Box.{at}
use Rattle.model.specs.Rows.{row_at, row_of, rows_of}
use Rattle.model.proofs.RowsLaws.{at-row_of}
use Rattle.matrix.proofs.PartLaws.{part_length}
use Rattle.book.specs.Book.{row_bytes, row_bytes_at, row_place}
use Rattle.little_endian.specs.Bytes.{integer_bytes, integers_bytes}
use Rattle.little_endian.specs.Pieces.{joined, overwrite}
use Rattle.little_endian.proofs.ByteLaws.{integers_bytes-part, length-integer_bytes}
use Rattle.book.proofs.EncodeLaws.{length-row_bytes, row_within}
use Rattle.little_endian.proofs.PieceLaws.{joined-cong, length-joined, overwrite-next, overwrite-start, overwrite-turn, piece-within}
use Rattle.book_writing.proofs.write_rows.Goals as goal

-- the bytes of row i's coefficients
row-bytes : (n i : ℕ) (C : List ℤ) → i * n + n ≤ length C → integers_bytes (row_of n C i) ≡ joined n (λ j. integer_bytes (at (row_of n C i) j))
unfolding row_of
row-bytes n i C h = integers_bytes-part (i * n) n C h ∙ joined-cong n _ _ (λ j k. ap integer_bytes (sym (at-row_of n C i j k)))

pub loop-i-init : goal.loop-i-init
loop-i-init c = overwrite-start _ _ _

-- row i lies within the book, and its coefficients within the model's
pub write_i32-requires : goal.write_i32-requires
write_i32-requires c = omega (arith, row_within c.args.n (length c.args.rhs.now) c.loop-i.i (omega arith))

pub overflow_add-row : goal.overflow_add-row
overflow_add-row c = omega (arith, row_within c.args.n (length c.args.rhs.now) c.loop-i.i (omega arith))

pub coefficients-requires : goal.coefficients-requires
coefficients-requires c = omega (arith, piece-within (length c.args.rhs.now) c.args.n c.loop-i.i (omega arith))

pub write_integers-requires : goal.write_integers-requires
write_integers-requires c =
    let a = c.args in
    let i = c.loop-i.i in
    let p = piece-within (length a.rhs.now) a.n i (omega arith) in
    let long = ap length c.coefficients.ensures ∙ part_length i a.n a.coefs.now (omega arith) in
    omega (arith, row_within a.n (length a.rhs.now) i (omega arith))

pub loop-i-preserved : goal.loop-i-preserved
unfolding row_bytes row_place
loop-i-preserved c =
    let a = c.args in
    let i = c.loop-i.i in
    let n = a.n in
    let R = a.rhs.now in
    let A = rows_of a.coefs.now R [] in
    let p = c.row_place-row.result in
    let book = c.loop-i.book in
    let X = integer_bytes (at R i) in
    let Y : List ℕ = joined n (λ j. integer_bytes (at (row_at n A i).coefs j)) in
    let fx : SFits w32 (at R i) = search rules in
    let within = piece-within (length R) n i (omega arith) in
    let there = row_within n (length R) i (omega arith) in
    let x = length-integer_bytes (at R i) in
    let y : length Y ≡ n * 4 = length-joined n 4 _ (λ j _. length-integer_bytes (at (row_at n A i).coefs j)) in
    let rows = length-joined i (4 + 4 * n) (row_bytes_at n A) (λ r _. length-row_bytes n (row_at n A r)) in
    let first = c.write_i32.ensures ∙ ap (λ (z : ℤ). overwrite p (integer_bytes z) book) (to_z-of_z fx) in
    let row = ap integers_bytes c.coefficients.ensures ∙ row-bytes n i a.coefs.now (omega arith) in
    c.write_integers.ensures
    ∙ ap₂ (overwrite (p + 4)) row first
    ∙ overwrite-next p (p + 4) X Y book (omega arith) (omega arith)
    ∙ ap (overwrite p (X ++ Y)) c.loop-i.invariant
    ∙ overwrite-turn (8 * n) p i (row_bytes_at n A) a.book.now (omega arith) (omega (arith, length-row_bytes n (row_at n A i)))

pub returns : goal.returns
returns c =
    let end : c.loop-i.i ≡ length c.args.rhs.now = omega arith in
    rw end at c.loop-i.invariant
