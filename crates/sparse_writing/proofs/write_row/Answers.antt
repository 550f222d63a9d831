-- `sparse_writing::write_row`: right side, kind, count and entries one after the other (`row-assembled`). Assumes nothing.
use Rattle.std.proofs.Common.{◌+◌, ℕ, ℤ, length, length-set, set, ◌∙◌, ap, to_z-of_z, arith}
use Rattle.model.specs.Box.{at}
use Rattle.model.specs.Rows.{row_with}
use Rattle.little_endian.specs.Bytes.{bytes_of, integer_bytes}
use Rattle.little_endian.specs.Pieces.{overwrite}
use Rattle.sparse_layout.proofs.RowLaws.{nonzeros-le}
use Rattle.sparse_layout.proofs.WritingLaws.{row-assembled}
use Rattle.sparse_writing.proofs.write_row.Goals as goal

pub overflow_cast-count : goal.overflow_cast-count
overflow_cast-count c = let R = c.args.row.now in omega (arith, c.nonzeros-count.ensures, nonzeros-le (length R) (at R))

pub write_u16-requires : goal.write_u16-requires
write_u16-requires c = simp length-set (omega (arith, c.write_i32.auto.bytes))

pub write_entries-requires : goal.write_entries-requires
write_entries-requires c =
    (omega (arith, c.write_u16.auto.bytes ∙ length-set c.write_i32.new.bytes _ _ ∙ c.write_i32.auto.bytes), omega arith)

pub returns : goal.returns
returns c =
    let a = c.args in
    let R = a.row.now in
    let b₀ = a.book.now in
    let count = c.nonzeros-count.ensures in
    record {
      end = omega (arith, count);
      written = row-assembled (length R) a.place (row_with R a.rhs a.kind) b₀ c.write_i32.new.bytes c.write_u16.new.bytes c.write_entries.new.book (omega arith) (omega arith)
          (c.write_i32.ensures ∙ ap (λ (z : ℤ). overwrite a.place (integer_bytes z) b₀) (to_z-of_z c.ranges.rhs))
          (c.write_u16.ensures ∙ ap (λ (k : ℕ). overwrite (a.place + 5) (bytes_of 2 k) (set c.write_i32.new.bytes (a.place + 4) a.kind)) count)
          c.write_entries.ensures;
    }
