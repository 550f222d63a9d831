-- `boxes::greater` is max_z: std's `max` makes the opposite test. Assumes nothing.
use lib.IntN.{ℤ}
use lib.Signed.{le_z, lt_z}
use mathlib.Core.Bool.{Bool, cond, false, true}
use mathlib.Core.Path.{◌∙◌, ◌≡◌, ap₂, refl}
use mir.Facts.{to_z-of_z}
use mir.Syntax.{w32}
use Rattle.std.specs.Int.{int_max}
use Rattle.integer.specs.Order.{max_z}
use Rattle.integer.proofs.Parts.{le-false, le-true, lt-false, lt-true, zarith}
use Rattle.integer.proofs.Reading.{read}
use Rattle.boxes.proofs.greater.Goals as goal

max-is : (x y : ℤ) → int_max x y ≡ max_z x y
unfolding max_z
max-is x y = go (lt_z y x) (le_z x y) refl refl
  where
    go : (a b : Bool) → lt_z y x ≡ a → le_z x y ≡ b → cond a x y ≡ cond b y x
    go true true e f = absurd (let l = lt-true y x e in let k = le-true x y f in omega zarith)
    go true false e f = refl
    go false true e f = refl
    go false false e f = absurd (let l = lt-false y x e in let k = le-false x y f in omega zarith)

pub returns : goal.returns
returns c =
    let f = c.ranges in
    read w32 (record { sfits = c.max.type_inv })
    (c.max.ensures.value ∙ ap₂ int_max (to_z-of_z f.x) (to_z-of_z f.y) ∙ max-is c.args.x c.args.y)
