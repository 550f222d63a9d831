-- `sparse_writing::write_entries`: the entry of column j comes right after those before it, within the book (`part-span`).
-- Assumes nothing.
use Rattle.std.proofs.Common.{◌+◌, ◌≤◌, ◌<◌, ◌*◌, ℕ, ℤ, List, length, length-append, ◌∙◌, ◌≡◌, ap, ap₂, to_z-of_z, w32, SFits, of_z, to_z, arith, rules}
use Rattle.model.specs.Box.{at}
use Rattle.little_endian.specs.Pieces.{joined, overwrite}
use Rattle.little_endian.proofs.PieceLaws.{joined-more, overwrite-start, overwrite-turn}
use Rattle.sparse_layout.specs.SparseBook.{entry_bytes, entry_of, nonzeros}
use Rattle.sparse_layout.proofs.RowLaws.{length-entries}
use Rattle.sparse_layout.proofs.SpanLaws.{part-span}
use Rattle.sparse_writing.proofs.write_entries.Goals as goal

-- the entry of column j lies within the book
entry-within : (R : List ℤ) (j p place L : ℕ) → j < length R → place + nonzeros (length R) (at R) * 6 ≤ L → p ≡ place + length (joined j (entry_bytes (at R)))
    → p + length (entry_bytes (at R) j) ≤ L
entry-within R j p place L h k e =
    let span = (part-span (length R) (entry_bytes (at R)) j h).0 in
    omega (arith, length-entries (length R) (at R))

pub loop-j-init : goal.loop-j-init
unfolding joined
loop-j-init c = record { ends = omega arith; are_written = overwrite-start _ (entry_bytes (at c.args.row.now)) _ }

-- the entry that is to be written is that of column j
pub write_entry-p-requires : goal.write_entry-p-requires
write_entry-p-requires c =
    let R = c.args.row.now in
    let j = c.loop-j.j in
    let fx : SFits w32 (at R j) = search rules in
    let lent : entry_of j (to_z w32 (of_z w32 (at R j))) ≡ entry_bytes (at R) j = ap (entry_of j) (to_z-of_z fx) in
    let within = entry-within R j c.loop-j.p c.args.place (length c.args.book.now) (omega arith) c.requires.0 c.loop-j.invariant.ends in
    (rw lent (omega arith), omega arith)

pub loop-j-preserved : goal.loop-j-preserved
loop-j-preserved c =
    let a = c.args in
    let R = a.row.now in
    let j = c.loop-j.j in
    let f = entry_bytes (at R) in
    let call = c.write_entry-p in
    let fx : SFits w32 (at R j) = search rules in
    let lent : entry_of j (to_z w32 (of_z w32 (at R j))) ≡ f j = ap (entry_of j) (to_z-of_z fx) in
    let within = entry-within R j c.loop-j.p a.place (length a.book.now) (omega arith) c.requires.0 c.loop-j.invariant.ends in
    record {
      ends = omega (arith, call.ensures.end, ap length lent, ap length (joined-more j f), length-append (joined j f) (f j));
      are_written = call.ensures.written
          ∙ ap₂ (overwrite c.loop-j.p) lent c.loop-j.invariant.are_written
          ∙ overwrite-turn a.place c.loop-j.p j f a.book.now c.loop-j.invariant.ends within;
    }

pub returns : goal.returns
returns c =
    let end : c.loop-j.j ≡ length c.args.row.now = omega arith in
    rw end at c.loop-j.invariant.are_written
