-- A box in the front of a local array of 256 numbers: that there is room for it, and that what a call left there is read back.
use Prim.Native.Nat.{◌≤◌, ℕ}
use lib.IntN.{pos, ℤ}
use lib.ListN.{drop, length, length-append, length-replicate, replicate, take}
use lib.Seq.{length-take-le, take_at}
use mathlib.Core.List.{List, ◌++◌}
use mathlib.Core.Path.{◌∙◌, ◌≡◌, ap}
use native.Mathlib.Omega.{arith}
use Rattle.model.specs.Valid.{ValidModel}
use Rattle.model.specs.Model.{model_of}
use Rattle.model.specs.Rows.{Rows}

-- the array as it is made
abbrev pub blank : List ℤ
blank = replicate 256 (pos 0)

pub box-small : {n m : ℕ} {B : List ℤ} {A : Rows} → ValidModel (model_of n m B A) → length B ≤ 256
box-small v = omega (arith, v.few, v.box.len)

pub box-room : {n m : ℕ} {B : List ℤ} {A : Rows} → ValidModel (model_of n m B A) → length (take (length B) blank) ≡ length B
box-room {B = B} v = length-take-le (length B) blank (rw length-replicate (box-small v))

module _ (P : List ℤ) (k : ℕ) (e : length P ≡ k) where
  pub held : take k (P ++ drop k blank) ≡ P
  held = take_at P (drop k blank) k e

  pub held-length : length (take k (P ++ drop k blank)) ≡ k
  held-length = ap length held ∙ e

  pub held_fits : k ≤ length (P ++ drop k blank)
  held_fits = omega (arith, e, length-append P (drop k blank))
