-- What the functions of this crate need of the definition: the cases of one coefficient, and that what is written is in range.
use Prim.Native.Nat.{ℕ}
use lib.IntN.{◌+ℤ◌, ◌-ℤ◌, nat_abs, negsuc, pos, ℤ}
use lib.ListN.{set}
use lib.Signed.{◌<ℤ◌, ◌≤ℤ◌, lt_z}
use mathlib.Core.List.{List}
use mathlib.Core.Path.{◌≡◌, refl}
use Rattle.integer.specs.Range.{Within}
use Rattle.integer.proofs.Parts.{le_is, le-isn't, lt-is, lt-isn't, zarith, zify}
use Rattle.integer.proofs.RangeLaws.{within-lit}
use Rattle.model.specs.Limits.{min_rhs}
use Rattle.row.specs.Outcome.{changed, unchanged}
use Rattle.row.specs.Tightening.{NewRow, tighten_at}
use Rattle.row.proofs.RowLoops.{and-false, within-between}

pub less-abs-pos : {a : ℤ} (L : ℤ) → pos 0 <ℤ a → L -ℤ pos (nat_abs a) ≡ L -ℤ a
less-abs-pos {a = pos n} L h = refl
less-abs-pos {a = negsuc n} L h = absurd h.lt

pub less-abs-neg : {a : ℤ} (L : ℤ) → a ≤ℤ pos 0 → L -ℤ pos (nat_abs a) ≡ L +ℤ a
less-abs-neg {a = pos n} L h = simp zify (omega zarith)
less-abs-neg {a = negsuc n} L h = refl

module _ (A : List ℤ) (k : ℕ) (a L b : ℤ) where
  abbrev same : NewRow
  same = record { outcome = unchanged; coefs = A; rhs = b }

  -- the row cannot be broken
  pub stays-redundant : L ≤ℤ b → tighten_at a L A b k ≡ same
  unfolding tighten_at
  stays-redundant h = rw (lt-isn't h)

  -- with x_k at its other bound the sum still reaches b
  stays-loose : b ≤ℤ (L -ℤ pos (nat_abs a)) → tighten_at a L A b k ≡ same
  unfolding tighten_at
  stays-loose h = rw (lt-isn't h, and-false (lt_z b L))

  pub stays-loose-pos : pos 0 <ℤ a → b ≤ℤ (L -ℤ a) → tighten_at a L A b k ≡ same
  stays-loose-pos p h = stays-loose (rw (less-abs-pos L p) h)

  pub stays-loose-neg : a ≤ℤ pos 0 → b ≤ℤ (L +ℤ a) → tighten_at a L A b k ≡ same
  stays-loose-neg p h = stays-loose (rw (less-abs-neg L p) h)

  -- the new right side would be out of range
  pub stays-limit : pos 0 <ℤ a → b <ℤ L → (L -ℤ a) <ℤ b → (L -ℤ a) <ℤ min_rhs → tighten_at a L A b k ≡ same
  unfolding tighten_at
  stays-limit p h g l = rw (less-abs-pos L p, lt-is h, lt-is g, lt-is p, le-isn't l)

  -- the coefficient shrinks
  pub tightens-pos : pos 0 <ℤ a → b <ℤ L → (L -ℤ a) <ℤ b → min_rhs ≤ℤ (L -ℤ a)
      → tighten_at a L A b k ≡ record { outcome = changed; coefs = set A k (L -ℤ b); rhs = L -ℤ a }
  unfolding tighten_at
  tightens-pos p h g l = rw (less-abs-pos L p, lt-is h, lt-is g, lt-is p, le_is l)

  pub tightens-neg : a ≤ℤ pos 0 → b <ℤ L → (L +ℤ a) <ℤ b
      → tighten_at a L A b k ≡ record { outcome = changed; coefs = set A k (b -ℤ L); rhs = b }
  unfolding tighten_at
  tightens-neg p h g = rw (less-abs-neg L p, lt-is h, lt-is g, lt-isn't p)

-- the numbers that it writes are in range
pub new-coef-pos : (a L b : ℤ) → Within 1_000_000 a → b <ℤ L → (L -ℤ a) <ℤ b → Within 1_000_000 (L -ℤ b)
new-coef-pos a L b w h g =
    within-between {l = pos 0} {u = a} (within-lit tt) w (simp zify (omega zarith)) (simp zify (omega (zarith, simp zify at g)))

pub new-coef-neg : (a L b : ℤ) → Within 1_000_000 a → b <ℤ L → (L +ℤ a) <ℤ b → Within 1_000_000 (b -ℤ L)
new-coef-neg a L b w h g =
    within-between {l = a} {u = pos 0} w (within-lit tt) (simp zify (omega (zarith, simp zify at g))) (simp zify (omega zarith))

pub new-rhs : {z b : ℤ} → Within 1_000_000_000 b → min_rhs ≤ℤ z → z <ℤ b → Within 1_000_000_000 z
new-rhs {z} {b} w h g = within-between {l = min_rhs} {u = b} (within-lit tt) w h (omega zarith)
