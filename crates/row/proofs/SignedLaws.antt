-- The coefficients of a row with a sign: the row's own for 1, those of its negated form for −1. What is read of them one by one is
-- the sign times the coefficient, within the row's limits.
use Prim.Native.Nat.{suc, zero, ℕ}
use lib.IntN.{◌*ℤ◌, ◌-ℤ◌, negsuc, neg_ℤ, pos, ℤ}
use lib.ListN.{length}
use mathlib.Core.List.{List, [], ◌∷◌}
use mathlib.Core.Logic.{inl, inr}
use mathlib.Core.Path.{◌∙◌, ◌≡◌, ap, ap₂, refl, sym}
use mir.Facts.{to_z-of_z}
use mir.Syntax.{w32}
use mir.Val.{SFits, of_z, to_z}
use Rattle.integer.specs.Range.{Within}
use Rattle.integer.proofs.Parts.{zarith, zify}
use Rattle.integer.proofs.RangeLaws.{within-fits, within-lit, within-neg}
use Rattle.model.specs.Box.{at}
use Rattle.model.specs.Rows.{negated_coefs}
use Rattle.model.specs.Valid.{Between}
use Rattle.row.specs.Kinds.{signed}
use Rattle.row.proofs.RowLoops.{rhs-within}
use Rattle.row.specs.ValidRow.{ImpliesBox, IsSign, ValidCoefs, ValidRow}

one-times : (a : ℤ) → pos 1 *ℤ a ≡ a
one-times a = simp zify (omega zarith)

minus-times : (a : ℤ) → negsuc 0 *ℤ a ≡ neg_ℤ a
minus-times a = simp zify (omega zarith)

times_zero : (s : ℤ) → s *ℤ pos 0 ≡ pos 0
times_zero s = simp zify (omega zarith)

pub length-signed : (s : ℤ) (A : List ℤ) → length (signed s A) ≡ length A
unfolding signed
length-signed s [] = refl
length-signed s (a ∷ A) = ap suc (length-signed s A)

pub at-signed : (s : ℤ) (A : List ℤ) (j : ℕ) → at (signed s A) j ≡ s *ℤ at A j
unfolding signed
at-signed s [] j = sym (times_zero s)
at-signed s (a ∷ A) zero = refl
at-signed s (a ∷ A) (suc j) = at-signed s A j

pub signed-one : (A : List ℤ) → signed (pos 1) A ≡ A
unfolding signed
signed-one [] = refl
signed-one (a ∷ A) = ap₂ ◌∷◌ (one-times a) (signed-one A)

pub signed-negated : (A : List ℤ) → signed (negsuc 0) A ≡ negated_coefs A
unfolding signed negated_coefs
signed-negated [] = refl
signed-negated (a ∷ A) = ap₂ ◌∷◌ (minus-times a) (signed-negated A)

-- ---- within the limits

sign-between : (m : ℕ) (s : ℤ) {z : ℤ} → IsSign s → Between (neg_ℤ (pos m)) (pos m) z → Between (neg_ℤ (pos m)) (pos m) (s *ℤ z)
sign-between m s {z} (inl e) b = rw (e, one-times z) b
sign-between m s {z} (inr e) b =
    let l = simp zify at b.above in let u = simp zify at b.below in
    rw (e, minus-times z) (record { above = simp zify (omega (zarith, l, u)); below = simp zify (omega (zarith, l, u)) })

sign-within : (m : ℕ) (s : ℤ) {z : ℤ} → IsSign s → Within m z → Within m (s *ℤ z)
sign-within m s {z} (inl e) w = rw (e, one-times z) w
sign-within m s {z} (inr e) w = rw (e, minus-times z) (within-neg w)

neg_is : (b : ℤ) → pos 0 -ℤ b ≡ neg_ℤ b
neg_is b = simp zify (omega zarith)

-- the right side of the negated form, as bits
module _ {n : ℕ} {A : List ℤ} {b : ℤ} {B : List ℤ} (v : ValidRow n A b B) where
  neg-within : Within 1_000_000_000 (neg_ℤ b)
  neg-within = within-neg (rhs-within v.rhs)

  pub rhs-read : to_z w32 (of_z w32 b) ≡ b
  rhs-read = to_z-of_z {w = w32} (within-fits w32 tt (rhs-within v.rhs))

  pub rhs-fits : SFits w32 (pos 0 -ℤ to_z w32 (of_z w32 b))
  rhs-fits = rw (rhs-read, neg_is b) (within-fits w32 tt neg-within)

  pub rhs-negated : to_z w32 (of_z w32 (pos 0 -ℤ to_z w32 (of_z w32 b))) ≡ neg_ℤ b
  rhs-negated = rw (rhs-read, neg_is b) (to_z-of_z {w = w32} (within-fits w32 tt neg-within))

  -- with the other right side the row is within its limits too
  pub negated-rhs : ValidRow n A (neg_ℤ b) B
  negated-rhs = record { coefs = v.coefs; rhs = rw (← minus-times b) (sign-between 1_000_000_000 (negsuc 0) (inr refl) v.rhs) }

module _ {s : ℤ} (g : IsSign s) where
  pub signed-coefs : {n : ℕ} {A B : List ℤ} → ValidCoefs n A B → ValidCoefs n (signed s A) B
  signed-coefs {n} {A} v = record {
    some = v.some;
    few = v.few;
    len = length-signed s A ∙ v.len;
    range = λ j. rw (at-signed s A j) (sign-between 1_000_000 s g (v.range j));
    box = v.box;
  }

  pub signed-row : {n : ℕ} {A B : List ℤ} {b : ℤ} → ValidRow n A b B → ValidRow n (signed s A) b B
  signed-row v = record { coefs = signed-coefs v.coefs; rhs = v.rhs }

  pub signed-implies : {n : ℕ} {A B : List ℤ} {b least : ℤ} → ImpliesBox n A b least B → ImpliesBox n (signed s A) b least B
  signed-implies {n} {A} v = record {
    len = length-signed s A ∙ v.len;
    box_len = v.box_len;
    few = v.few;
    coefs = λ j. rw (at-signed s A j) (sign-within 1_000_000 s g (v.coefs j));
    rhs = v.rhs;
    activity = v.activity;
    met = v.met;
    bounds = v.bounds;
  }

  sign_small : Within 1 s
  sign_small = small g
    where
      small : IsSign s → Within 1 s
      small (inl e) = rw e (within-lit tt)
      small (inr e) = rw e (within-lit tt)

  pub sign-is : to_z w32 (of_z w32 s) ≡ s
  sign-is = to_z-of_z {w = w32} (within-fits w32 tt sign_small)

  -- a coefficient that is read with its sign, as bits
  pub signed-fits : (A : List ℤ) (j : ℕ) → Within 1_000_000 (at A j) → SFits w32 (to_z w32 (of_z w32 s) *ℤ to_z w32 (of_z w32 (at A j)))
  signed-fits A j w = rw (sign-is, to_z-of_z {w = w32} (within-fits w32 tt w)) (within-fits w32 tt (sign-within 1_000_000 s g w))

  pub signed-read : (A : List ℤ) (j : ℕ) → Within 1_000_000 (at A j)
      → to_z w32 (of_z w32 (to_z w32 (of_z w32 s) *ℤ to_z w32 (of_z w32 (at A j)))) ≡ at (signed s A) j
  signed-read A j w =
      rw (sign-is, to_z-of_z {w = w32} (within-fits w32 tt w), at-signed s A j) (to_z-of_z {w = w32} (within-fits w32 tt (sign-within 1_000_000 s g w)))

  -- the same of the sign as bits
  pub signed-bits : (A : List ℤ) (j : ℕ) → Within 1_000_000 (at A j)
      → to_z w32 (of_z w32 (to_z w32 (of_z w32 s) *ℤ to_z w32 (of_z w32 (at A j)))) ≡ at (signed (to_z w32 (of_z w32 s)) A) j
  signed-bits A j w = signed-read A j w ∙ ap (λ (z : ℤ). at (signed z A) j) (sym sign-is)

  pub sign-bits : IsSign (to_z w32 (of_z w32 s))
  sign-bits = rw sign-is g
