-- `prepared_box::copy_same`: the numbers so far are copied (`copied-one`), and as long as the flag is true they are those that are kept. Assumes
-- nothing.
use Rattle.std.proofs.Common.{rules}
use Prim.Native.Nat.{◌+◌, ◌≤◌, ℕ}
use borrow.Author.Count.{below_more}
use lib.Dec.{eqb, eqb→eq}
use lib.ListN.{get_or}
use mathlib.Core.Bool.{Bool, ◌&&◌, false, true, true≢false}
use mathlib.Core.Path.{◌∙◌, ◌≡◌, refl, sym}
use mir.Facts.{to_z-of_z}
use mir.Syntax.{w32}
use mir.Val.{SFits}
use native.Mathlib.Omega.{arith}
use Rattle.integer.proofs.Reading.{eq-read}
use Rattle.integer.proofs.Tests.{true→T}
use Rattle.model.specs.Box.{at}
use Rattle.prepared_model.specs.Layout.{bound_of}
use Rattle.prepared_box.proofs.TakenLaws.{copied_none, copied-one}
use Rattle.prepared_box.proofs.copy_same.Goals as goal

pub loop-i-init : goal.loop-i-init
loop-i-init c = (copied_none _, λ e k a b. absurd (let z : ⊥ = omega arith in z))

-- the flag is still true after bits were compared
still : (f : Bool) (x y : ℕ) → (f && eqb x y) ≡ true → (f ≡ true) × (x ≡ y)
still true x y e = (refl, eqb→eq x y (true→T _ e))
still false x y e = absurd (true≢false (sym e))

pub loop-i-preserved : goal.loop-i-preserved
loop-i-preserved c =
    let W = c.args.ws.now in
    let new = c.args.new.now in
    let i = c.loop-i.i in
    let f : SFits w32 (at new i) = search rules in (
      copied-one (omega arith) (omega (arith, c.requires.3)) (to_z-of_z f) c.loop-i.invariant.0,
      λ e k a b.
          let w = still _ _ _ e in
          let now : bound_of (get_or W (8 + i) 0) ≡ at new i = sym c.kept_bound.ensures ∙ eq-read w32 (record { sfits = c.kept_bound.type_inv }) f w.1 in
          below_more (λ (q : ℕ). c.args.from ≤ q → bound_of (get_or W (8 + q) 0) ≡ at new q) i (λ q l g. c.loop-i.invariant.1 w.0 q g l) (λ _. now) k b a,
    )

pub returns : goal.returns
returns c =
    let e : c.loop-i.i ≡ c.args.to = omega arith in
    record { copied = rw e at c.loop-i.invariant.0; same = rw e at c.loop-i.invariant.1 }
