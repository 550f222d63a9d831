-- `sparse_writing::write_rows`: row i has its place in the book (`rows-rise`), and comes right after the rows before it.
-- Assumes nothing.
use Rattle.std.proofs.Common.{◌*◌, length, ◌∙◌, ◌≡◌, ap, ap₂, to_z-of_z, w32, SFits, of_z, to_z, arith, rules}
use Rattle.model.specs.Box.{at}
use Rattle.model.specs.Rows.{row_at, row_of, row_with, rows_of}
use Rattle.matrix.proofs.PartLaws.{part_length}
use Rattle.little_endian.specs.Pieces.{overwrite}
use Rattle.little_endian.proofs.PieceLaws.{overwrite-start, overwrite-turn, piece-within}
use Rattle.sparse_layout.specs.SparseBook.{nonzeros, rows_length, sparse_row_bytes, sparse_row_bytes_at}
use Rattle.sparse_layout.proofs.RowLaws.{length-row}
use Rattle.sparse_layout.proofs.SparseEncodeLaws.{length-rows}
use Rattle.sparse_layout.proofs.WritingLaws.{rows_more, rows-rise}
use Rattle.sparse_writing.proofs.write_rows.Goals as goal

pub loop-i-init : goal.loop-i-init
unfolding rows_length
loop-i-init c = record { ends = omega arith; are_written = overwrite-start _ _ _ }

-- row i's coefficients lie within the model's
pub coefficients-requires : goal.coefficients-requires
coefficients-requires c = omega (arith, piece-within (length c.args.rhs.now) c.args.n c.loop-i.i (omega arith))

-- what is lent is row i, with n coefficients, and it has its place in the book
pub write_row-p-requires : goal.write_row-p-requires
write_row-p-requires c =
    let a = c.args in
    let i = c.loop-i.i in
    let n = a.n in
    let A = rows_of a.coefs.now a.rhs.now a.kinds.now in
    let inside = piece-within (length a.rhs.now) n i (omega arith) in
    let R = c.coefficients.result.now in
    let is_row : R ≡ row_of n a.coefs.now i = c.coefficients.ensures in
    let long : length R ≡ n = ap length is_row ∙ part_length i n a.coefs.now (omega arith) in
    let rise = rows-rise n A (length a.rhs.now) i (omega arith) in
    rw (long, is_row) (omega arith, omega arith)

pub loop-i-preserved : goal.loop-i-preserved
loop-i-preserved c =
    let a = c.args in
    let i = c.loop-i.i in
    let n = a.n in
    let A = rows_of a.coefs.now a.rhs.now a.kinds.now in
    let inside = piece-within (length a.rhs.now) n i (omega arith) in
    let R = c.coefficients.result.now in
    let is_row : R ≡ row_of n a.coefs.now i = c.coefficients.ensures in
    let long : length R ≡ n = ap length is_row ∙ part_length i n a.coefs.now (omega arith) in
    let rise = rows-rise n A (length a.rhs.now) i (omega arith) in
    let f = sparse_row_bytes_at n A in
    let fx : SFits w32 (at a.rhs.now i) = search rules in
    let row : sparse_row_bytes (length R) (row_with R (to_z w32 (of_z w32 (at a.rhs.now i))) (row_at n A i).kind) ≡ f i =
    rw (long, is_row, to_z-of_z fx) in
    let count : nonzeros (length R) (at R) ≡ nonzeros n (at (row_at n A i).coefs) = rw (long, is_row) in
    record {
      ends = omega (arith, c.write_row-p.ensures.end, count, rows_more n A i);
      are_written = c.write_row-p.ensures.written
          ∙ ap₂ (overwrite c.loop-i.p) row c.loop-i.invariant.are_written
          ∙ overwrite-turn (8 * n) c.loop-i.p i f a.book.now (omega (arith, length-rows n A i)) (omega (arith, length-row n (row_at n A i), count));
    }

pub returns : goal.returns
returns c =
    let end : c.loop-i.i ≡ length c.args.rhs.now = omega arith in
    rw end at c.loop-i.invariant.are_written
