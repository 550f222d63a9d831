-- `report_chunk::fill`: the invariant says that the chunk up to `next` is written; lines that are passed over have no text. There is
-- room for one line at the start, so one is written where one is left.
use Prim.Native.Nat.{◌+◌, ◌*◌, ◌≤◌, ℕ}
use lib.ListN.{length}
use mathlib.Core.List.{[], List}
use mathlib.Core.Path.{◌≡◌, refl}
use native.Mathlib.Omega.{arith}
use Rattle.model.specs.Rows.{rows_of}
use Rattle.model.specs.State.{state_of}
use Rattle.report.proofs.ReportLaws.{line-silent}
use Rattle.report.specs.Report.{line_at, line_count}
use Rattle.text.proofs.TextLaws.{◌⨾◌, chunk-more, chunk-none, chunk-silent, wrote-length, wrote_none}
use Rattle.report_chunk.proofs.fill.Goals as goal

pub loop-next-init : goal.loop-next-init
loop-next-init c =
    (omega arith, omega arith, λ _. refl, rw chunk-none (wrote_none _ 0 (omega arith)))

pub overflow_sub-buf : goal.overflow_sub-buf
overflow_sub-buf c = omega (arith, wrote-length)

pub shape_of-buf-then-buf-end-lt-MAX_LINE : goal.shape_of-buf-then-buf-end-lt-MAX_LINE
shape_of-buf-then-buf-end-lt-MAX_LINE c = omega (arith, wrote-length)

pub returns-then-buf-end-lt-MAX_LINE : goal.returns-then-buf-end-lt-MAX_LINE
returns-then-buf-end-lt-MAX_LINE c =
    let l = c.loop-next in
    let from = c.args.from in
    let first : l.next ≡ from → ⊥ = λ e. let z : l.end ≡ 0 = l.invariant.2 e in let n : ⊥ = omega (arith, wrote-length) in n in
    record { text = l.invariant.3; within = (omega arith, omega arith); progress = λ _. omega arith }

pub write_line-end-requires : goal.write_line-end-requires
write_line-end-requires c = record { fact = c.requires.fact; i_bound = omega arith; max_line_in_bounds = omega (arith, wrote-length) }

pub overflow_add-n : goal.overflow_add-n
unfolding state_of
overflow_add-n c = omega (arith, c.requires.fact.few, c.requires.fact.few_rows)

pub overflow_add-n-in-loop-next : goal.overflow_add-n-in-loop-next
unfolding state_of
overflow_add-n-in-loop-next c = omega (arith, c.requires.fact.few, c.requires.fact.few_rows)

-- the lines end with those of the table
lines_end : (n m count : ℕ) (table : List ℕ) → length table ≡ 4 * (n * n) → count ≡ line_count n m → 1 + (n + m) + length table ≡ count
unfolding line_count
lines_end n m count table h e = omega arith

pub next_line-next-requires : goal.next_line-next-requires
unfolding state_of
next_line-next-requires c =
    let e = lines_end c.args.n c.args.m c.line_count-count.result c.args.table.now c.requires.fact.table c.line_count-count.ensures in
    (omega arith, omega arith)

pub loop-next-smaller : goal.loop-next-smaller
unfolding state_of
loop-next-smaller c =
    let e = lines_end c.args.n c.args.m c.line_count-count.result c.args.table.now c.requires.fact.table c.line_count-count.ensures in
    omega (arith, c.next_line-next.ensures.within)

pub loop-next-preserved : goal.loop-next-preserved
unfolding state_of
loop-next-preserved c =
    let a = c.args in
    let l = c.loop-next in
    let A = rows_of a.coefs.now a.rhs.now [] in
    let f = line_at a.rounds (state_of a.n a.m a.bounds.now A a.table.now) in
    let e = c.next_line-next.ensures in
    let ends = lines_end a.n a.m c.line_count-count.result a.table.now c.requires.fact.table c.line_count-count.ensures in
    let first : l.next + 1 ≤ c.next_line-next.result = e.within.0 in
    let last : c.next_line-next.result ≤ 1 + (a.n + a.m) + length a.table.now = e.within.1 in
    let skipped = chunk-silent f a.from (l.next + 1) c.next_line-next.result (omega arith) first
    (λ q h k. let s = e.silent q h k in line-silent a.rounds a.n a.m a.bounds.now A a.table.now q s.0 s.1) in (
      omega arith,
      omega arith,
      λ e. absurd (let z : ⊥ = omega arith in z),
      rw (skipped, chunk-more f a.from l.next (omega arith)) (◌⨾◌ {t = f l.next} l.invariant.3 c.write_line-end.ensures),
    )

pub shape_of-buf : goal.shape_of-buf
shape_of-buf c = omega (arith, wrote-length)

pub returns : goal.returns
returns c =
    let l = c.loop-next in
    record { text = l.invariant.3; within = (omega arith, omega arith); progress = λ h. omega arith }
