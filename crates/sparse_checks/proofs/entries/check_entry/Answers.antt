-- `sparse_checks::entries::check_entry`: the column decides first, and the entry before is 6 bytes back.
-- Assumes nothing.
use Rattle.std.proofs.Common.{◌<◌, ◌∙◌, ◌≡◌, ap, sym, to_z-of_z, w32, SFits, of_z, to_z, arith}
use Rattle.sparse_layout.specs.SparseBook.{column_at, value_at}
use Rattle.sparse_layout.proofs.CheckingLaws.{Rises, column-refused, entry-accepted, entry-before, entry_value, value-refused}
use Rattle.sparse_checks.proofs.entries.check_entry.Goals as goal
use Rattle.sparse_checks.proofs.entries.check_entry.Goals.{then-e-ne0+else-column-read_u16, else-e-ne0}

pub returns-then-n-column : goal.returns-then-n-column
unfolding column_at
returns-then-n-column c = column-refused _ _ _ _ (λ h. omega arith)

pub returns-then-column-read_u16 : goal.returns-then-column-read_u16
unfolding column_at
returns-then-column-read_u16 c =
    let a = c.args in
    let ne = c.if-e-ne0.true in
    let e = entry-before a.p a.e a.book.now ne in
    column-refused _ _ _ _ (λ h. let k = h.1 ne in omega (arith, e))

-- past both comparisons the column is right
pub returns-then-read_i32-eq0 : goal.returns-then-read_i32-eq0
unfolding column_at
returns-then-read_i32-eq0 c =
    let a = c.args in
    let bs = a.book.now in
    let below : column_at a.p bs a.e < a.n = omega arith in
    let rises : Rises a.p bs a.e = elim c.if-e-ne0.branch [
      | then-e-ne0+else-column-read_u16 w ↦ λ ne. let e = entry-before a.p a.e bs ne in omega (arith, e)
      | else-e-ne0 w ↦ λ ne. absurd (ne w.if-e-ne0.false)
    ] in
    let read : c.read_i32.result ≡ value_at a.p bs a.e = c.read_i32.ensures ∙ entry_value a.p a.e bs in
    let fx : SFits w32 c.read_i32.result = record { sfits = c.read_i32.type_inv } in
    value-refused _ _ _ _ below rises (sym read ∙ sym (to_z-of_z fx) ∙ ap (to_z w32) c.if-read_i32-eq0.true)

pub returns : goal.returns
unfolding column_at
returns c =
    let a = c.args in
    let bs = a.book.now in
    let below : column_at a.p bs a.e < a.n = omega arith in
    let rises : Rises a.p bs a.e = elim c.if-e-ne0.branch [
      | then-e-ne0+else-column-read_u16 w ↦ λ ne. let e = entry-before a.p a.e bs ne in omega (arith, e)
      | else-e-ne0 w ↦ λ ne. absurd (ne w.if-e-ne0.false)
    ] in
    let read : c.read_i32.result ≡ value_at a.p bs a.e = c.read_i32.ensures ∙ entry_value a.p a.e bs in
    entry-accepted _ _ _ _ below rises (λ z. c.if-read_i32-eq0.false (ap (of_z w32) (read ∙ z)))
