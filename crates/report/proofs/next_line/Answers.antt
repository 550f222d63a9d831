-- A byte that is passed over is not 1.
use Rattle.std.proofs.Common.{◌≡◌, ◌+◌, ◌-◌, ◌≤◌, get_or, arith}
use native.Mathlib.Decide.{ℕ_discrete}
use Rattle.report.proofs.next_line.Goals as goal

pub loop-byte-preserved : goal.loop-byte-preserved
loop-byte-preserved c q a b = go (ℕ_discrete q (c.args.first + c.loop-byte.byte))
  where
    go : Dec (q ≡ c.args.first + c.loop-byte.byte) → (c.args.first ≤ q) × (get_or c.args.table.now (q - c.args.first) 0 ≡ 1 → ⊥)
    go (yes d) = let k : q - c.args.first ≡ c.loop-byte.byte = omega arith in (omega arith, rw k c.if-is_recorded.false)
    go (no d) = c.loop-byte.invariant q a (omega arith)
