-- A row that may take the place of another over the box: the same integer points, and no fractional point more.
use Prim.Native.Nat.{ℕ}
use lib.IntN.{◌*ℤ◌, pos, ℤ}
use lib.ListN.{length}
use lib.Signed.{◌≤ℤ◌}
use mathlib.Core.List.{List}
use mathlib.Core.Logic.{◌↔◌}
use mathlib.Core.Path.{◌≡◌}
use Rattle.model.specs.Point.{InBox, InBoxOver, RowHolds, RowHoldsOver, dot}

pub record Replaces (n : ℕ) (A : List ℤ) (b : ℤ) (A' : List ℤ) (b' : ℤ) (B : List ℤ) : Type 0 where
  pub len : length A' ≡ n
  pub points : {x : List ℤ} → InBox n B x → RowHolds n A' b' x ↔ RowHolds n A b x
  pub over : {x : List ℤ} {d : ℕ} → InBoxOver n B x d → RowHoldsOver n A' b' x d → RowHoldsOver n A b x d

pub replaces-refl : (n : ℕ) (A : List ℤ) (b : ℤ) (B : List ℤ) → length A ≡ n → Replaces n A b A b B
replaces-refl n A b B l = record { len = l; points = λ i. ((λ h. h), (λ h. h)); over = λ i h. h }

-- by the left sides at each point
pub replaces-i : (n : ℕ) (A : List ℤ) (b : ℤ) (A' : List ℤ) (b' : ℤ) (B : List ℤ) → length A' ≡ n
    → ((x : List ℤ) → InBox n B x → (dot n A' x ≤ℤ b') ↔ (dot n A x ≤ℤ b))
    → ((x : List ℤ) (d : ℕ) → InBoxOver n B x d → dot n A' x ≤ℤ (b' *ℤ pos d) → dot n A x ≤ℤ (b *ℤ pos d))
    → Replaces n A b A' b' B
replaces-i n A b A' b' B l f g = record {
  len = l;
  points = λ {x} i. ((λ h. record { le = (f x i).0 h.le }), (λ h. record { le = (f x i).1 h.le }));
  over = λ {x} {d} i h. record { le = g x d i h.le };
}
