-- A point as the degenerate box [x, x].
use Prim.Native.Nat.{◌<◌, ℕ}
use lib.IntN.{ℤ}
use lib.Signed.{≤ℤ_refl}
use mathlib.Core.List.{List}
use mathlib.Core.Path.{◌≡◌}
use Rattle.model.specs.Box.{Inside, NonEmpty, at, box_of, lower, upper}
use Rattle.model.specs.Point.{InBox}
use Rattle.model.proofs.BoxLaws.{lower-box_of, non_empty-box_of, upper-box_of}

unfoldable pub box_at : ℕ → List ℤ → List ℤ
box_at n x = box_of n (at x) (at x)

module _ (n : ℕ) (x : List ℤ) where
  pub lower-at : (j : ℕ) → j < n → lower (box_at n x) j ≡ at x j
  unfolding box_at
  lower-at j k = lower-box_of n (at x) (at x) j k

  pub upper-at : (j : ℕ) → j < n → upper (box_at n x) j ≡ at x j
  unfolding box_at
  upper-at j k = upper-box_of n (at x) (at x) j k

  pub non_empty-at : NonEmpty n (box_at n x)
  unfolding box_at
  non_empty-at = non_empty-box_of n (at x) (at x) (λ j k. ≤ℤ_refl (at x j))

pub in→Inside : {n : ℕ} {B x : List ℤ} → InBox n B x → Inside n (box_at n x) B
in→Inside {n} {B} {x} i = record {
  low = λ j k. rw (lower-at n x j k) (i.low j k);
  high = λ j k. rw (upper-at n x j k) (i.high j k);
}

pub Inside→in : (n : ℕ) (B x : List ℤ) → Inside n (box_at n x) B → InBox n B x
Inside→in n B x i = record {
  low = λ j k. rw (lower-at n x j k) at (i.low j k);
  high = λ j k. rw (upper-at n x j k) at (i.high j k);
}
