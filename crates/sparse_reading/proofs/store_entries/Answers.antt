-- `sparse_reading::store_entries`: after e turns the row is what the first e entries say (`dense-stored`). Assumes nothing.
use Rattle.std.proofs.Common.{◌+◌, ◌*◌, ℕ, List, length, ◌∙◌, ◌≡◌, to_z-of_z, w32, SFits, of_z, to_z, arith}
use Rattle.little_endian.specs.Bytes.{number_at}
use Rattle.sparse_layout.specs.SparseBook.{column_at, value_at}
use Rattle.sparse_layout.proofs.CheckingLaws.{entry_value}
use Rattle.sparse_layout.proofs.SparseAcceptLaws.{entries-test}
use Rattle.sparse_layout.proofs.WritingLaws.{dense-stored, dense-zeros}
use Rattle.sparse_reading.proofs.store_entries.Goals as goal

pub loop-e-init : goal.loop-e-init
loop-e-init c = c.requires.zeros ∙ dense-zeros _ _ _

-- the entry's column, as it is read
column-read : {r : ℕ} (p e : ℕ) (bs : List ℕ) → r ≡ number_at 2 (p + 7 + e * 6) bs → r ≡ column_at p bs e
unfolding column_at
column-read p e bs h = h

-- the column of the entry that is read lies within the row
pub bounds-row-column : goal.bounds-row-column
unfolding column_at
bounds-row-column c =
    let a = c.args in
    omega (arith, ((entries-test (length a.row.now) a.p a.book.now a.count).0 c.requires.entries.1).below c.loop-e.e c.loop-e-test.true)

pub loop-e-preserved : goal.loop-e-preserved
loop-e-preserved c =
    let a = c.args in
    let e = c.loop-e.e in
    let bs = a.book.now in
    let fx : SFits w32 c.read_i32.result = record { sfits = c.read_i32.type_inv } in
    let x : to_z w32 (of_z w32 c.read_i32.result) ≡ value_at a.p bs e = to_z-of_z fx ∙ c.read_i32.ensures ∙ entry_value a.p e bs in
    let column : c.read_u16-column.result ≡ column_at a.p bs e = column-read a.p e bs c.read_u16-column.ensures in
    let within = ((entries-test (length a.row.now) a.p bs a.count).0 c.requires.entries.1).below e c.loop-e-test.true in
    rw (x, column, c.loop-e.invariant) (dense-stored (length a.row.now) a.p bs e within)
