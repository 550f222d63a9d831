-- Tests of two numbers, from their bits as the machine has them.
use lib.Dec.{eqb, eqb→eq, not_T}
use lib.IntN.{ℤ}
use lib.Signed.{le_z}
use mathlib.Core.Bool.{Bool, false, true}
use mathlib.Core.Path.{◌∙◌, ◌≡◌, ap, ap₂, sym}
use mir.Facts.{to_z-of_z}
use mir.Syntax.{Width}
use mir.Val.{SFits, of_z, to_z}
use Rattle.integer.specs.Order.{eq_z}
use Rattle.integer.proofs.Reading.{eq-read}
use Rattle.integer.proofs.Tests.{T→false, T→true, bool-ext, eq_z→eq, eqb-test, eq→eq_z}

pub other-bits : (w : Width) (x y : ℤ) → (of_z w x ≡ of_z w y → ⊥) → eq_z x y ≡ false
other-bits w x y h = T→false (eq_z x y) (not_T (eq_z x y) (λ t. h (ap (of_z w) (eq_z→eq x y t))))

module _ (w : Width) {x y : ℤ} (f : SFits w x) (g : SFits w y) where
  pub le-bits : {b : Bool} → le_z (to_z w (of_z w x)) (to_z w (of_z w y)) ≡ b → le_z x y ≡ b
  le-bits t = sym (ap₂ le_z (to_z-of_z {w = w} f) (to_z-of_z {w = w} g)) ∙ t

  pub same_bits : of_z w x ≡ of_z w y → eq_z x y ≡ true
  same_bits e = T→true (eq_z x y) (eq→eq_z x y (eq-read w f g e))

  pub eq-bits : eqb (of_z w x) (of_z w y) ≡ eq_z x y
  eq-bits = bool-ext (eqb (of_z w x) (of_z w y)) (eq_z x y)
      (λ t. eq→eq_z x y (eq-read w f g (eqb→eq (of_z w x) (of_z w y) t)))
      (λ t. (eqb-test (of_z w x) (of_z w y)).1 (ap (of_z w) (eq_z→eq x y t)))
