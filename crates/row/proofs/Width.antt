-- The total width of a box: what each change by propagation makes less.
use Prim.Native.Nat.{◌*◌, ◌<◌, ℕ}
use lib.IntN.{◌+ℤ◌, ◌-ℤ◌, pos, ℤ}
use lib.ListN.{length}
use lib.Signed.{◌≤ℤ◌}
use mathlib.Core.List.{List}
use mathlib.Core.Path.{◌≡◌}
use Rattle.integer.proofs.IndexLaws.{sum-gap, sum_mono, sum_nonneg}
use Rattle.integer.proofs.Parts.{zarith, zify}
use Rattle.model.specs.Box.{Inside, NonEmpty, lower, upper, width}
use Rattle.model.proofs.BoxLaws.{box-ext}

pub width-nonneg : {n : ℕ} {B : List ℤ} → NonEmpty n B → pos 0 ≤ℤ width n B
unfolding width
width-nonneg {n} {B} p = sum_nonneg n _ (λ j k. let o = p.order j k in simp zify (omega zarith))

module _ {n : ℕ} {P B : List ℤ} (i : Inside n P B) where
  term-mono : (j : ℕ) → j < n → (upper P j -ℤ lower P j) ≤ℤ (upper B j -ℤ lower B j)
  term-mono j k = let l = i.low j k in let u = i.high j k in simp zify (omega zarith)

  pub width-mono : width n P ≤ℤ width n B
  unfolding width
  width-mono = sum_mono n _ _ term-mono

  -- a box inside another that is as wide is the other
  pub width_same : length P ≡ 2 * n → length B ≡ 2 * n → width n B ≤ℤ width n P → P ≡ B
  unfolding width
  width_same p b w = box-ext n P B p b
      (λ j k. let g = gap j k in let l = i.low j k in let u = i.high j k in simp zify (omega (zarith, simp zify at g)))
      (λ j k. let g = gap j k in let l = i.low j k in let u = i.high j k in simp zify (omega (zarith, simp zify at g)))
    where
      gap : (j : ℕ) → j < n → ((upper B j -ℤ lower B j) +ℤ width n P) ≤ℤ ((upper P j -ℤ lower P j) +ℤ width n B)
      gap j k = sum-gap n (λ j. upper P j -ℤ lower P j) (λ j. upper B j -ℤ lower B j) term-mono j k
