-- Laws of what is printed of a report: each chunk after the other.
use Prim.Native.Nat.{◌+◌, ◌≤◌, ℕ}
use lib.ListN.{length, length-append}
use mathlib.Core.List.{List}
use mathlib.Core.Path.{◌∙◌, ◌≡◌, ap, sym}
use native.Mathlib.Omega.{arith}
use Rattle.model.specs.Limits.{max_rows, max_variables}
use Rattle.report.specs.Report.{line_count}
use Rattle.text.specs.Text.{chunk}
use Rattle.text.proofs.TextLaws.{chunk-chunk}
use Rattle.reduction.proofs.ReductionLaws.{table_fits}

-- the chunks up to a and from there to b
pub chunks-length : (f : ℕ → List ℕ) (a b : ℕ) → a ≤ b → length (chunk f 0 a) + length (chunk f a b) ≡ length (chunk f 0 b)
chunks-length f a b h = sym (length-append (chunk f 0 a) (chunk f a b)) ∙ ap length (chunk-chunk f 0 a b (omega arith) h)

-- a report has few lines
pub lines-few : {n m : ℕ} → n ≤ max_variables → m ≤ max_rows → line_count n m ≤ 65_785
unfolding line_count
lines-few few few_rows = omega (arith, table_fits few few_rows)
