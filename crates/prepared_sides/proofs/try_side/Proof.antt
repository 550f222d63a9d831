-- `prepared_probe::sides::try_side`: the copy with two stores is fix (`fix-stores`), a valid box, and that is propagated. Assumes nothing.
use Prim.Native.Nat.{◌*◌, ◌+◌, ℕ}
use borrow.Author.Rules.{rules}
use lib.IntN.{pos, ℤ}
use lib.ListN.{length, length-set, set, take}
use mathlib.Core.List.{List}
use mathlib.Core.Logic.{⊎_elim}
use mathlib.Core.Path.{◌∙◌, ◌≡◌, ap, sym}
use mir.Facts.{to_z-of_z}
use mir.Syntax.{w32}
use mir.Val.{of_z, to_z}
use native.Mathlib.Omega.{arith}
use Rattle.marked_row.proofs.LocalBox.{blank}
use Rattle.model.specs.Box.{with_bounds}
use Rattle.probe_side.proofs.MarkedLaws.{front-room}
use Rattle.probe_side.proofs.SideLaws.{fix-stores}
use Rattle.prepared_model.specs.ProbeReasons.{side_reasons}
use Rattle.prepared_model.specs.Reasons.{reasons_of}
use Rattle.semantics.specs.Probe.{fix}
use Rattle.semantics.specs.Propagate.{propagate}
use Rattle.prepared_sides.proofs.SideLaws.{boxed-side}
use Rattle.prepared_sides.proofs.try_side.Statement.{statement}
use Rattle.prepared_sides.proofs.try_side.Tie as tie

copy-box-requires : tie.Need-copy_box-requires
copy-box-requires c κs = search rules

mul-v : tie.Need-overflow_mul-v
mul-v c = search rules

mul-v-2 : tie.Need-offset_bounds-side-k
mul-v-2 c = search rules

slice-set-from-v : tie.Need-bounds-side-k
slice-set-from-v c = search rules

mul-v-3 : tie.Need-overflow_mul-v-2
mul-v-3 c = search rules

add-v : tie.Need-overflow_add-v
add-v c = search rules

mul-v-4 : tie.Need-offset_bounds-side-k-2
mul-v-4 c = search rules

slice-set-from-v-2 : tie.Need-bounds-side-k-2
slice-set-from-v-2 c = simp length-set (omega (arith, ap length c.copy_box.ensures))

-- the copy with two stores
stored : (c : tie.After-copy_box) (w : ℕ) → let a = c.args in a.v ≡ pos w
    → let v = to_z w32 (of_z w32 a.v) in set (set c.copy_box.new.to (2 * a.k) v) (2 * a.k + 1) v ≡ fix a.n a.bounds.now a.k w
unfolding with_bounds
stored c w e =
    let s = c.before.before.before.before in
    let a = s.args in
    rw (to_z-of_z {w = w32} s.ranges.v, e, c.copy_box.ensures) (fix-stores a.n a.bounds.now a.k w s.requires.0.0.sized.box.len s.requires.0.2)

room : (s : tie.Start) → length (take (length s.args.bounds.now) blank) ≡ length s.args.bounds.now
room s = let b = s.requires.0.0.sized in front-room s.args.bounds.now (omega (arith, b.few, b.box.len))

array-borrow-prefix-seen : tie.Need-slice_bounds-seen-end
array-borrow-prefix-seen c = search rules

slice-aggregate-propagate-side : tie.Need-slice_bounds-propagate_side-end
slice-aggregate-propagate-side c = sym (room c.before.before.before.before.before.before)

propagate-side-requires : tie.Need-propagate_side-requires
propagate-side-requires c κs =
    let d = c.before.before.before.before in
    let s = d.before.before.before.before in
    let p = s.requires in
    let b = p.0.0 in
    ⊎_elim
    (λ e. let x = boxed-side b s.args.k 0 p.0.1 (omega arith) (stored d 0 e) in (x, room s ∙ b.sized.box.len ∙ sym x.sized.box.len, p.1.1.1))
    (λ e. let x = boxed-side b s.args.k 1 p.0.1 (omega arith) (stored d 1 e) in (x, room s ∙ b.sized.box.len ∙ sym x.sized.box.len, p.1.1.1))
    p.1.0

same_length : tie.Need-shape_of-side
same_length c = search rules

same-length-2 : tie.Need-shape_of-reasons
same-length-2 c = search rules

returns : tie.Need-returns
unfolding side_reasons
returns c =
    let call = c.propagate_side.ensures in
    let d = c.before.before.before.before.before.before.before.before.before in
    let a = d.args in (
      (λ A P w e. call.0 A P ∙ ap (propagate a.budget a.n a.m A) (stored d w e)),
      (
        (λ A P w e. call.1.0 A P ∙ ap (λ (X : List ℤ). reasons_of a.budget a.n a.m A X (length a.reasons.now)) (stored d w e)),
        call.1.1,
      ),
    )

pub try_side_spec : {M : Type 1} → statement M
try_side_spec =
    tie.close
    (tie.spec
    copy-box-requires
    mul-v
    mul-v-2
    slice-set-from-v
    mul-v-3
    add-v
    mul-v-4
    slice-set-from-v-2
    array-borrow-prefix-seen
    slice-aggregate-propagate-side
    propagate-side-requires
    same_length
    same-length-2
    returns)
