-- `sweep::tighten_bounds_by`: the invariant says that the bounds of the variables so far are the implied ones (`write_to`), and
-- that `moved` tells how many of them differ (`moved_more`, `step-moved`). A variable not yet visited has its old bounds
-- (`write_to-late`). Assumes nothing.
use Prim.Native.Nat.{ℕ}
use lib.IntN.{◌*ℤ◌, ℤ}
use lib.ListN.{length}
use mathlib.Core.List.{List}
use mathlib.Core.Logic.{inl, inr}
use mathlib.Core.Path.{◌∙◌, ◌≡◌, ap, ap₂, refl}
use mir.Facts.{to_z-of_z}
use mir.Syntax.{w32, w64}
use mir.Val.{of_z, to_z}
use native.Mathlib.Omega.{arith}
use Rattle.model.specs.Box.{at, lower, upper}
use Rattle.model.proofs.BoxLoops.{write_to}
use Rattle.row.specs.Moved.{moved_bounds}
use Rattle.row.specs.Propagation.{implied_box}
use Rattle.row.specs.Kinds.{signed}
use Rattle.row.specs.ValidRow.{ImpliesBox, IsSign}
use Rattle.row.proofs.MovedLaws.{moved-le}
use Rattle.row.proofs.RowLoops.{implies-at, lower-there, moved_more, moved_to, tighten-all, tighten-more, tighten_to, upper-there}
use Rattle.row.proofs.SignedLaws.{sign-bits, sign-is, signed-bits, signed-fits, signed-implies}
use Prim.Native.Nat.{◌<◌}
use Rattle.sweep.proofs.StepLaws.{signed_steps, step-box, step-moved}
use Rattle.sweep.proofs.tighten_bounds_by.Goals as goal
use Rattle.sweep.proofs.tighten_bounds_by.Goals.{else-tighten_bounds_at, then-tighten_bounds_at}

-- what a turn at variable j reads, with the right side and the least activity as the machine holds them
module _ {C B : List ℤ} {sign b least : ℤ} (v : ImpliesBox (length C) C b least B) (g : IsSign sign) (j : ℕ) where
  abbrev row_read : List ℤ
  row_read = signed (to_z w32 (of_z w32 sign)) C

  implied : ImpliesBox (length C) row_read b least B
  implied = signed-implies (sign-bits g) v

  coef_read : to_z w32 (of_z w32 (to_z w32 (of_z w32 sign) *ℤ to_z w32 (of_z w32 (at C j)))) ≡ at row_read j
  coef_read = signed-bits g C j (v.coefs j)

pub loop-j-init : goal.loop-j-init
unfolding write_to moved_bounds
loop-j-init c = (omega arith, refl, refl)

pub overflow_mul-sign : goal.overflow_mul-sign
overflow_mul-sign c = signed-fits c.requires.sign c.args.coefs.now c.loop-j.j (c.requires.implies_box.coefs c.loop-j.j)

pub tighten_bounds_at-requires : goal.tighten_bounds_at-requires
tighten_bounds_at-requires c =
    let v = c.requires.implies_box in
    let g = c.requires.sign in
    let A = row_read v g 0 in
    let B = c.args.bounds.now in
    let j = c.loop-j.j in
    let fb = c.ranges.b in
    let fl = c.ranges.least in
    let b = to_z w64 (of_z w64 c.args.b) in
    let L = to_z w64 (of_z w64 c.args.least) in
    let l : lower c.loop-j.bounds j ≡ lower B j = ap (λ (P : List ℤ). lower P j) c.loop-j.invariant.1 ∙ lower-there A b L B j in
    let u : upper c.loop-j.bounds j ≡ upper B j = ap (λ (P : List ℤ). upper P j) c.loop-j.invariant.1 ∙ upper-there A b L B j in
    record {
      implies_bounds =
          rw (coef_read v g j, to_z-of_z fb, to_z-of_z fl, l, u) (implies-at A c.args.b c.args.least B (implied v g j) j);
      j_in_bounds = omega (arith, v.box_len);
    }

pub overflow_add-moved : goal.overflow_add-moved
overflow_add-moved c =
    let v = c.requires.implies_box in
    let A = row_read v c.requires.sign 0 in
    let B = c.args.bounds.now in
    let j = c.loop-j.j in
    omega (
      arith,
      v.few,
      c.loop-j.invariant.2,
      moved-le j B (implied_box (length c.args.coefs.now) A (to_z w64 (of_z w64 c.args.b)) (to_z w64 (of_z w64 c.args.least)) B),
    )

pub bounds-steps-j : goal.bounds-steps-j
bounds-steps-j c = omega (arith, c.requires.steps.len)

pub overflow_cast-j : goal.overflow_cast-j
overflow_cast-j c = omega (arith, c.requires.steps.within c.loop-j.j (omega arith))

pub overflow_add-j : goal.overflow_add-j
overflow_add-j c = omega (arith, c.requires.steps.within c.loop-j.j (omega arith))

pub loop-j-smaller : goal.loop-j-smaller
loop-j-smaller c =
    let s = c.requires.steps in
    omega (arith, s.within c.loop-j.j (omega arith), s.forward c.loop-j.j (omega arith))

pub loop-j-preserved : goal.loop-j-preserved
loop-j-preserved c =
    let v = c.requires.implies_box in
    let g = c.requires.sign in
    let A = row_read v g 0 in
    let B = c.args.bounds.now in
    let j = c.loop-j.j in
    let b = to_z w64 (of_z w64 c.args.b) in
    let L = to_z w64 (of_z w64 c.args.least) in
    let call = c.tighten_bounds_at in
    let inv = c.loop-j.invariant in
    let k : j < length c.args.coefs.now = omega arith in
    let steps = signed_steps (to_z w32 (of_z w32 c.args.sign)) c.requires.steps in (
      steps.within j k,
      tighten-more A b L B j (coef_read v g j) inv.1 call.ensures.left ∙ step-box steps k b L B,
      moved_more A b L B (length c.args.coefs.now) j k (coef_read v g j) inv.1 inv.2 call.ensures.moved
          (elim c.if-tighten_bounds_at.branch [
            | then-tighten_bounds_at w ↦ inl (w.if-tighten_bounds_at.true, w.moved-is)
            | else-tighten_bounds_at w ↦ inr (w.if-tighten_bounds_at.false, w.moved-is)
          ])
          ∙ step-moved steps k b L B,
    )

pub returns : goal.returns
returns c =
    let v = c.requires.implies_box in
    let g = c.requires.sign in
    let C = c.args.coefs.now in
    let A = row_read v g 0 in
    let B = c.args.bounds.now in
    let n = length C in
    let end : c.loop-j.j ≡ n = omega arith in
    let e = sign-is g in
    let b-is = to_z-of_z {w = w64} c.ranges.b in
    let least-is = to_z-of_z {w = w64} c.ranges.least in
    record {
      left =
          c.loop-j.invariant.1
          ∙ ap₂ (λ (x y : ℤ). tighten_to A x y B c.loop-j.j) b-is least-is
          ∙ ap (tighten_to A c.args.b c.args.least B) end
          ∙ tighten-all A c.args.b c.args.least B n v.box_len
          ∙ ap (λ (z : ℤ). implied_box n (signed z C) c.args.b c.args.least B) e;
      moved =
          c.loop-j.invariant.2
          ∙ ap₂ (λ (x y : ℤ). moved_to A x y B n c.loop-j.j) b-is least-is
          ∙ ap (moved_to A c.args.b c.args.least B n) end
          ∙ ap (λ (z : ℤ). moved_bounds n B (implied_box n (signed z C) c.args.b c.args.least B)) e;
    }
