-- Each chunk is printed after the lines before it (`chunks-length`), and has a line more.
use Rattle.std.proofs.Common.{[], ◌≡◌, ◌∙◌, ap, sym, ℕ, length, arith}
use Rattle.model.specs.Rows.{rows_of}
use Rattle.model.specs.State.{state_of}
use Rattle.report.specs.Report.{line_at, line_count}
use Rattle.text.specs.Text.{chunk}
use Rattle.report.proofs.ReportLaws.{report-chunks}
use Rattle.text.proofs.TextLaws.{chunk-none}
use Rattle.streams.proofs.StreamLaws.{written-length}
use Rattle.printing.proofs.PrintLaws.{chunks-length, lines-few}
use Rattle.printing.proofs.reduced.Goals as goal

pub line_count-count-requires-clause-n_le_max_variables : goal.line_count-count-requires-clause-n_le_max_variables
unfolding state_of
line_count-count-requires-clause-n_le_max_variables g c = c.requires.fact.few

pub line_count-count-requires-clause-m_le_max_rows : goal.line_count-count-requires-clause-m_le_max_rows
unfolding state_of
line_count-count-requires-clause-m_le_max_rows g c = c.requires.fact.few_rows

pub loop-next-init : goal.loop-next-init
loop-next-init g c =
    let a = c.args in
    let z = c.requires.printed_value in
    record { within = omega arith; lines = z ∙ sym (ap length (chunk-none (line_at a.rounds (state_of a.n a.m a.bounds.now (rows_of a.coefs.now a.rhs.now []) a.table.now)) 0)); few = omega (arith, z) }

pub print-requires : goal.print-requires
unfolding state_of
print-requires g c =
    let w = c.fill-chunk.ensures.text in
    let few = lines-few c.requires.fact.few c.requires.fact.few_rows in
    omega (arith, written-length w, w.end, w.fits, few, c.line_count-count.ensures)

pub loop-next-preserved : goal.loop-next-preserved
unfolding state_of
loop-next-preserved g c =
    let a = c.args in
    let lines = line_at a.rounds (state_of a.n a.m a.bounds.now (rows_of a.coefs.now a.rhs.now []) a.table.now) in
    let w = c.fill-chunk.ensures.text in
    let p = c.in_ok-print.ensures in
    let k = c.fill-chunk.ensures.progress (omega (arith, c.line_count-count.ensures)) in
    let more = chunks-length lines c.loop-next.next c.fill-chunk.result.next c.fill-chunk.ensures.within.0 in
    record {
      within = omega (arith, c.line_count-count.ensures);
      lines = omega (arith, p, written-length w, more);
      few = omega (arith, p, written-length w, w.end, w.fits, k);
    }

pub returns : goal.returns
unfolding state_of
returns g c =
    let a = c.args in
    let s = state_of a.n a.m a.bounds.now (rows_of a.coefs.now a.rhs.now []) a.table.now in
    let e : c.loop-next.next ≡ line_count a.n a.m = omega (arith, c.line_count-count.ensures) in
    c.loop-next.invariant.lines
    ∙ ap (λ (k : ℕ). length (chunk (line_at a.rounds s) 0 k)) e
    ∙ ap length (report-chunks a.rounds s)
