-- `sweep::reach_by`: the invariant says that the sum and the greatest width are those of the terms so far, each coefficient read with
-- its sign (`signed-bits`), and a step passes only over terms that are 0. Assumes nothing.
use Prim.Native.Nat.{◌<◌, ℕ}
use lib.IntN.{ℤ}
use lib.ListN.{length}
use mathlib.Core.Path.{◌∙◌, ◌≡◌, ap, refl, sym}
use mir.Facts.{to_z-of_z}
use mir.Syntax.{w32, w64}
use mir.Val.{of_z, to_z}
use native.Mathlib.Omega.{arith}
use Rattle.integer.specs.Index.{sum as total}
use Rattle.integer.specs.Order.{max_z}
use Rattle.row.specs.Activity.{greatest, min_activity, widest_term}
use Rattle.row.specs.Kinds.{signed}
use Rattle.row.proofs.ReachLaws.{greatest-more, min_term_at, width_at}
use Rattle.row.proofs.RowLoops.{coefs-small, min-terms, turn, turn-fits}
use Rattle.row.proofs.SignedLaws.{sign-is, signed-fits}
use Rattle.row.proofs.Turn.{coef_read, coefs_read, lower_read, reads_small, row_read, upper_read}
use Rattle.sweep.proofs.StepLaws.{signed_steps, step_sum, step-widest}
use Rattle.sweep.proofs.reach_by.Goals as goal

pub loop-j-init : goal.loop-j-init
unfolding total greatest
loop-j-init c = (omega arith, refl, refl)

pub overflow_mul-a : goal.overflow_mul-a
overflow_mul-a c = let j = c.loop-j.j in signed-fits c.requires.sign c.args.coefs.now j (coefs-small c.requires.valid_coefs j)

pub term-least-requires : goal.term-least-requires
term-least-requires c =
    let v = c.requires.valid_coefs in
    let g = c.requires.sign in
    let j = c.loop-j.j in
    let s = reads_small v g j in
    rw (coef_read v g j, lower_read v g j, upper_read v g j) (record { within = s.0; within_2 = s.1.0; within_3 = s.1.1 })

pub overflow_add-least : goal.overflow_add-least
overflow_add-least c =
    let v = c.requires.valid_coefs in
    let g = c.requires.sign in
    let j = c.loop-j.j in
    let next : to_z w64 (of_z w64 c.term-least.result) ≡ min_term_at (row_read v g) c.args.bounds.now j =
    to_z-of_z {w = w64} (record { sfits = c.term-least.type_inv })
    ∙ (rw (coef_read v g j, lower_read v g j, upper_read v g j) at c.term-least.ensures) in
    turn-fits (min-terms (coefs_read v g)) j c.loop-j.invariant.1 next (omega arith)

pub wider-widest-requires : goal.wider-widest-requires
wider-widest-requires c =
    let v = c.requires.valid_coefs in
    let g = c.requires.sign in
    let j = c.loop-j.j in
    let s = reads_small v g j in
    rw (coef_read v g j, lower_read v g j, upper_read v g j) (record { within = s.0; within_2 = s.1.0; within_3 = s.1.1 })

pub bounds-steps-j : goal.bounds-steps-j
bounds-steps-j c = omega (arith, c.requires.steps.len)

pub overflow_cast-j : goal.overflow_cast-j
overflow_cast-j c = omega (arith, c.requires.steps.within c.loop-j.j (omega arith))

pub overflow_add-j : goal.overflow_add-j
overflow_add-j c = omega (arith, c.requires.steps.within c.loop-j.j (omega arith))

pub loop-j-smaller : goal.loop-j-smaller
loop-j-smaller c =
    let s = c.requires.steps in
    omega (arith, s.within c.loop-j.j (omega arith), s.forward c.loop-j.j (omega arith))

pub loop-j-preserved : goal.loop-j-preserved
loop-j-preserved c =
    let v = c.requires.valid_coefs in
    let g = c.requires.sign in
    let A = row_read v g in
    let B = c.args.bounds.now in
    let j = c.loop-j.j in
    let k : j < length c.args.coefs.now = omega arith in
    let steps = signed_steps (to_z w32 (of_z w32 c.args.sign)) c.requires.steps in
    let terms = min-terms (coefs_read v g) in
    let next : to_z w64 (of_z w64 c.term-least.result) ≡ min_term_at A B j =
    to_z-of_z {w = w64} (record { sfits = c.term-least.type_inv })
    ∙ (rw (coef_read v g j, lower_read v g j, upper_read v g j) at c.term-least.ensures) in (
      steps.within j k,
      to_z-of_z {w = w64} (turn-fits terms j c.loop-j.invariant.1 next k) ∙ turn terms j c.loop-j.invariant.1 next ∙ step_sum steps k B,
      to_z-of_z {w = w64} (record { sfits = c.wider-widest.type_inv })
          ∙ (rw (coef_read v g j, lower_read v g j, upper_read v g j) at c.wider-widest.ensures)
          ∙ ap (λ (x : ℤ). max_z x (width_at A B j)) c.loop-j.invariant.2
          ∙ sym (greatest-more (width_at A B) j)
          ∙ step-widest steps k B,
    )

pub returns : goal.returns
unfolding min_activity widest_term
returns c =
    let v = c.requires.valid_coefs in
    let g = c.requires.sign in
    let C = c.args.coefs.now in
    let A = row_read v g in
    let B = c.args.bounds.now in
    let end : c.loop-j.j ≡ length C = omega arith in
    let e = sign-is g in
    record {
      least =
          c.loop-j.invariant.1 ∙ ap (λ (i : ℕ). total i (min_term_at A B)) end
          ∙ ap (λ (z : ℤ). total (length C) (min_term_at (signed z C) B)) e;
      widest =
          c.loop-j.invariant.2 ∙ ap (λ (i : ℕ). greatest i (width_at A B)) end
          ∙ ap (λ (z : ℤ). greatest (length C) (width_at (signed z C) B)) e;
    }
