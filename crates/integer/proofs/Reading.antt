-- Reading back a signed number that the machine holds as bits, and the tests of two such numbers, as facts of ℤ.
use lib.IntN.{ℤ}
use lib.Signed.{◌<ℤ◌, ◌≤ℤ◌, le_z, lt_z}
use mathlib.Core.Bool.{false, true}
use mathlib.Core.Path.{◌∙◌, ◌≡◌, ap, ap₂, subst⁻¹, sym}
use mir.Facts.{sfits_widen, to_z-of_z}
use mir.Syntax.{Width, w32, w64}
use mir.Val.{SFits, of_z, to_z}
use Rattle.integer.proofs.Parts.{le-false, le-true, lt-false, lt-true}

-- the number that a need asks to fit
abbrev pub asked : {w : Width} {z : ℤ} → SFits w z → ℤ
asked {w} {z} f = z

pub read : (w : Width) {raw z : ℤ} → SFits w raw → raw ≡ z → to_z w (of_z w raw) ≡ z
read w f e = to_z-of_z {w = w} f ∙ e

-- an i32 as an i64
pub wide_fits : {z : ℤ} → SFits w32 z → SFits w64 (to_z w32 (of_z w32 z))
wide_fits f = subst⁻¹ (SFits w64) (to_z-of_z {w = w32} f) (sfits_widen tt f)

pub read_wide : {z : ℤ} → SFits w32 z → to_z w64 (of_z w64 (to_z w32 (of_z w32 z))) ≡ z
read_wide f = read w64 (wide_fits f) (to_z-of_z {w = w32} f)

pub fits_read : {w : Width} {x z : ℤ} → x ≡ z → SFits w z → SFits w x
fits_read {w} e f = subst⁻¹ (SFits w) e f

pub le_read : {x y a b : ℤ} → x ≡ a → y ≡ b → le_z x y ≡ true → a ≤ℤ b
le_read {x} {y} {a} {b} e f t = le-true a b (sym (ap₂ le_z e f) ∙ t)

pub gt-read : {x y a b : ℤ} → x ≡ a → y ≡ b → le_z x y ≡ false → b <ℤ a
gt-read {x} {y} {a} {b} e f t = le-false a b (sym (ap₂ le_z e f) ∙ t)

pub lt-read : {x y a b : ℤ} → x ≡ a → y ≡ b → lt_z x y ≡ true → a <ℤ b
lt-read {x} {y} {a} {b} e f t = lt-true a b (sym (ap₂ lt_z e f) ∙ t)

pub ge-read : {x y a b : ℤ} → x ≡ a → y ≡ b → lt_z x y ≡ false → b ≤ℤ a
ge-read {x} {y} {a} {b} e f t = lt-false a b (sym (ap₂ lt_z e f) ∙ t)

pub eq-read : (w : Width) {x y : ℤ} → SFits w x → SFits w y → of_z w x ≡ of_z w y → x ≡ y
eq-read w f g e = sym (to_z-of_z {w = w} f) ∙ ap (to_z w) e ∙ to_z-of_z {w = w} g
