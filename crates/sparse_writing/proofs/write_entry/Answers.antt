-- `sparse_writing::write_entry`: the column's two bytes and the coefficient's four, one after the other; none for a 0.
-- Assumes nothing.
use Rattle.std.proofs.Common.{◌+◌, ℕ, ℤ, pos, length, List, ◌∙◌, ◌≡◌, ap, ap₂, sym, to_z-of_z, w32, of_z, to_z, arith}
use Rattle.little_endian.specs.Bytes.{bytes_of, integer_bytes}
use Rattle.little_endian.specs.Pieces.{overwrite}
use Rattle.little_endian.proofs.ByteLaws.{length-bytes_of, length-integer_bytes}
use Rattle.little_endian.proofs.PieceLaws.{overwrite-next, overwrite-none}
use Rattle.sparse_layout.specs.SparseBook.{entry_of}
use Rattle.sparse_layout.proofs.WritingLaws.{an-entry, entry_length, no-entry}
use Rattle.sparse_writing.proofs.write_entry.Goals as goal

pub returns-then-x-eq0 : goal.returns-then-x-eq0
returns-then-x-eq0 c =
    let a = c.args in
    let z : a.x ≡ pos 0 = sym (to_z-of_z c.ranges.x) ∙ ap (to_z w32) c.if-x-eq0.true in
    rw (no-entry a.x a.column z) (record { end = omega arith; written = sym (overwrite-none a.place a.book.now) })

-- the coefficient is not 0, so it has an entry
six : (column : ℕ) (x : ℤ) → (x ≡ pos 0 → ⊥) → length (entry_of column x) ≡ 6
six column x n = ap length (an-entry x column n) ∙ entry_length _ _

pub write_u16-requires : goal.write_u16-requires
write_u16-requires c = omega (arith, six c.args.column c.args.x (λ z. c.if-x-eq0.false (ap (of_z w32) z)))

pub write_i32-requires : goal.write_i32-requires
write_i32-requires c = omega (arith, six c.args.column c.args.x (λ z. c.if-x-eq0.false (ap (of_z w32) z)), c.write_u16.auto.bytes)

pub returns : goal.returns
returns c =
    let a = c.args in
    let b = bytes_of 2 a.column in
    let x = integer_bytes a.x in
    let n : a.x ≡ pos 0 → ⊥ = λ z. c.if-x-eq0.false (ap (of_z w32) z) in
    let l = six a.column a.x n in
    record {
      end = omega (arith, l);
      written = c.write_i32.ensures
          ∙ ap₂ (λ (z : ℤ) (ys : List ℕ). overwrite (a.place + 2) (integer_bytes z) ys) (to_z-of_z c.ranges.x) c.write_u16.ensures
          ∙ overwrite-next a.place (a.place + 2) b x a.book.now (omega (arith, length-bytes_of 2 a.column)) (omega (arith, length-integer_bytes a.x, l))
          ∙ ap (λ (ys : List ℕ). overwrite a.place ys a.book.now) (sym (an-entry a.x a.column n));
    }
