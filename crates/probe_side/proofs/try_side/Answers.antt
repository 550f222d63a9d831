-- `probe_side::try_side`: the copy with two stores is fix (`fix-stores`), a valid box, and that is propagated by the marks of the box.
-- Assumes nothing.
use Prim.Native.Nat.{◌*◌, ◌+◌, ◌<◌, ℕ}
use lib.IntN.{pos, ℤ}
use lib.ListN.{length, length-set, set, take}
use mathlib.Core.List.{List}
use mathlib.Core.Logic.{⊎_elim}
use mathlib.Core.Path.{◌∙◌, ◌≡◌, ap, sym}
use mir.Facts.{to_z-of_z}
use mir.Syntax.{w32}
use mir.Val.{SFits, of_z, to_z}
use native.Mathlib.Omega.{arith}
use Rattle.model.specs.Box.{with_bounds}
use Rattle.model.specs.Rows.{rows_of}
use Rattle.semantics.specs.Probe.{fix}
use Rattle.semantics.specs.Propagate.{propagate}
use Rattle.marked_row.proofs.LocalBox.{blank, box-room}
use Rattle.probe_side.proofs.MarkedLaws.{side-ready}
use Rattle.probe_side.proofs.SideLaws.{fix-stores}
use Rattle.probe_side.proofs.try_side.Goals as goal

-- the copy with two stores
stored : {n : ℕ} (k : ℕ) {P B : List ℤ} {v : ℤ} → SFits w32 v → (w : ℕ) → v ≡ pos w → P ≡ B → length B ≡ 2 * n → k < n
    → set (set P (2 * k) (to_z w32 (of_z w32 v))) (2 * k + 1) (to_z w32 (of_z w32 v)) ≡ fix n B k w
unfolding with_bounds
stored {n} k {P} {B} f w e p l h = rw (to_z-of_z {w = w32} f, e, p) (fix-stores n B k w l h)

pub bounds-side-k-2 : goal.bounds-side-k-2
bounds-side-k-2 c = simp length-set (omega (arith, ap length c.copy_box.ensures))

pub slice_bounds-propagate_side-end : goal.slice_bounds-propagate_side-end
slice_bounds-propagate_side-end c = sym (box-room c.requires.valid_model)

pub propagate_side-requires : goal.propagate_side-requires
propagate_side-requires c =
    let a = c.args in
    let p = c.requires in
    let room = sym (box-room p.valid_model) in
    let seen = take (length a.bounds.now) blank in
    ⊎_elim
    (λ e. side-ready p.valid_model a.k 0 p.t p.k_lt_n (omega arith) p.fact_2 seen room c.copy_marks.ensures (stored a.k c.ranges.v 0 e c.copy_box.ensures p.valid_model.box.len p.k_lt_n))
    (λ e. side-ready p.valid_model a.k 1 p.t p.k_lt_n (omega arith) p.fact_2 seen room c.copy_marks.ensures (stored a.k c.ranges.v 1 e c.copy_box.ensures p.valid_model.box.len p.k_lt_n))
    p.fact

pub shape_of-side : goal.shape_of-side
shape_of-side c = simp length-set at c.propagate_side.auto.side ∙ ap length c.copy_box.ensures ∙ sym c.requires.side_len

pub returns-clause-answer : goal.returns-clause-answer
returns-clause-answer c =
    let a = c.args in
    λ w e. c.propagate_side.ensures.answer ∙ ap (propagate a.budget a.n a.m (rows_of a.coefs.now a.rhs.now a.kinds.now)) (stored a.k c.ranges.v w e c.copy_box.ensures c.requires.valid_model.box.len c.requires.k_lt_n)
