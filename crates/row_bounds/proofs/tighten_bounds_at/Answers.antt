-- `row_bounds::tighten_bounds_at`: which of the two bounds can move goes by the coefficient's sign; a bound is written only
-- where it differs (`none-moved`, `upper-moved`, `lower-moved`). Assumes nothing.
use Prim.Native.Nat.{◌*◌, ◌+◌}
use lib.IntN.{pos}
use lib.ListN.{get_or}
use lib.Signed.{◌<ℤ◌, ◌≤ℤ◌}
use mathlib.Core.Path.{◌∙◌, ◌≡◌, ap, sym}
use mir.Facts.{to_z-of_z}
use mir.Syntax.{w32}
use mir.Val.{SFits, of_z}
use Rattle.integer.proofs.Parts.{lt-false, lt-true, zarith}
use Rattle.integer.proofs.RangeLaws.{within-fits}
use Rattle.model.specs.Box.{lower, upper}
use Rattle.row.specs.Propagation.{new_lower, new_upper}
use Rattle.integer.proofs.Reading.{eq-read}
use Rattle.row.proofs.RowLoops.{lower-kept, lower-moved, none-moved, upper-kept, upper-moved}
use Rattle.row_bounds.proofs.tighten_bounds_at.Goals as goal

pub new_upper-v-requires : goal.new_upper-v-requires
new_upper-v-requires c =
    let a = c.args in
    let q = c.requires.implies_bounds in
    let B = a.bounds.now in
    let fa = c.ranges.a in
    let fb = c.ranges.b in
    let f-least = c.ranges.least in
    let fl : SFits w32 (get_or B (2 * a.j) (pos 0)) = within-fits w32 tt q.low in
    let fu : SFits w32 (get_or B (2 * a.j + 1) (pos 0)) = within-fits w32 tt q.high in
    let p : pos 0 <ℤ a.a = lt-true _ _ (simp to_z-of_z at c.if-a-gt0.true) in
    simp to_z-of_z (record { implies_bounds = q; pos_bound = p })

pub returns-then-v-u : goal.returns-then-v-u
returns-then-v-u c =
    let a = c.args in
    let q = c.requires.implies_bounds in
    let B = a.bounds.now in
    let fa = c.ranges.a in
    let fb = c.ranges.b in
    let f-least = c.ranges.least in
    let fl : SFits w32 (get_or B (2 * a.j) (pos 0)) = within-fits w32 tt q.low in
    let fu : SFits w32 (get_or B (2 * a.j + 1) (pos 0)) = within-fits w32 tt q.high in
    let p : pos 0 <ℤ a.a = lt-true _ _ (simp to_z-of_z at c.if-a-gt0.true) in
    let v-is : c.new_upper-v.result ≡ new_upper a.a a.b a.least (lower B a.j) (upper B a.j) = simp to_z-of_z at c.new_upper-v.ensures in
    let v-fits : SFits w32 c.new_upper-v.result = record { sfits = c.new_upper-v.type_inv } in
    let low-kept : new_lower a.a a.b a.least (lower B a.j) (upper B a.j) ≡ lower B a.j = lower-kept _ _ _ _ (omega zarith) in
    let e = none-moved _ _ _ B a.j low-kept (sym v-is ∙ eq-read w32 v-fits fu c.if-v-u.true) in
    record { left = e.0; moved = e.1 }

pub returns-then-a-gt0 : goal.returns-then-a-gt0
returns-then-a-gt0 c =
    let a = c.args in
    let q = c.requires.implies_bounds in
    let B = a.bounds.now in
    let fa = c.ranges.a in
    let fb = c.ranges.b in
    let f-least = c.ranges.least in
    let fl : SFits w32 (get_or B (2 * a.j) (pos 0)) = within-fits w32 tt q.low in
    let fu : SFits w32 (get_or B (2 * a.j + 1) (pos 0)) = within-fits w32 tt q.high in
    let p : pos 0 <ℤ a.a = lt-true _ _ (simp to_z-of_z at c.if-a-gt0.true) in
    let v-is : c.new_upper-v.result ≡ new_upper a.a a.b a.least (lower B a.j) (upper B a.j) = simp to_z-of_z at c.new_upper-v.ensures in
    let v-fits : SFits w32 c.new_upper-v.result = record { sfits = c.new_upper-v.type_inv } in
    let low-kept : new_lower a.a a.b a.least (lower B a.j) (upper B a.j) ≡ lower B a.j = lower-kept _ _ _ _ (omega zarith) in
    let e = upper-moved _ _ _ B a.j low-kept (λ e. c.if-v-u.false (ap (of_z w32) (v-is ∙ e))) in
    rw (to_z-of_z {w = w32} v-fits ∙ v-is) (record { left = e.0; moved = e.1 })

pub new_lower-v-requires : goal.new_lower-v-requires
new_lower-v-requires c =
    let a = c.args in
    let q = c.requires.implies_bounds in
    let B = a.bounds.now in
    let fa = c.ranges.a in
    let fb = c.ranges.b in
    let f-least = c.ranges.least in
    let fl : SFits w32 (get_or B (2 * a.j) (pos 0)) = within-fits w32 tt q.low in
    let fu : SFits w32 (get_or B (2 * a.j + 1) (pos 0)) = within-fits w32 tt q.high in
    let not-positive : a.a ≤ℤ pos 0 = lt-false _ _ (simp to_z-of_z at c.if-a-gt0.false) in
    let negative : a.a <ℤ pos 0 = lt-true _ _ (simp to_z-of_z at c.if-a-lt0.true) in
    simp to_z-of_z (record { implies_bounds = q; a_bound = negative })

pub returns-then-v-l : goal.returns-then-v-l
returns-then-v-l c =
    let a = c.args in
    let q = c.requires.implies_bounds in
    let B = a.bounds.now in
    let fa = c.ranges.a in
    let fb = c.ranges.b in
    let f-least = c.ranges.least in
    let fl : SFits w32 (get_or B (2 * a.j) (pos 0)) = within-fits w32 tt q.low in
    let fu : SFits w32 (get_or B (2 * a.j + 1) (pos 0)) = within-fits w32 tt q.high in
    let not-positive : a.a ≤ℤ pos 0 = lt-false _ _ (simp to_z-of_z at c.if-a-gt0.false) in
    let negative : a.a <ℤ pos 0 = lt-true _ _ (simp to_z-of_z at c.if-a-lt0.true) in
    let v-is : c.new_lower-v.result ≡ new_lower a.a a.b a.least (lower B a.j) (upper B a.j) = simp to_z-of_z at c.new_lower-v.ensures in
    let v-fits : SFits w32 c.new_lower-v.result = record { sfits = c.new_lower-v.type_inv } in
    let high-kept : new_upper a.a a.b a.least (lower B a.j) (upper B a.j) ≡ upper B a.j = upper-kept _ _ _ _ not-positive in
    let e = none-moved _ _ _ B a.j (sym v-is ∙ eq-read w32 v-fits fl c.if-v-l.true) high-kept in
    record { left = e.0; moved = e.1 }

pub returns-then-a-lt0 : goal.returns-then-a-lt0
returns-then-a-lt0 c =
    let a = c.args in
    let q = c.requires.implies_bounds in
    let B = a.bounds.now in
    let fa = c.ranges.a in
    let fb = c.ranges.b in
    let f-least = c.ranges.least in
    let fl : SFits w32 (get_or B (2 * a.j) (pos 0)) = within-fits w32 tt q.low in
    let fu : SFits w32 (get_or B (2 * a.j + 1) (pos 0)) = within-fits w32 tt q.high in
    let not-positive : a.a ≤ℤ pos 0 = lt-false _ _ (simp to_z-of_z at c.if-a-gt0.false) in
    let negative : a.a <ℤ pos 0 = lt-true _ _ (simp to_z-of_z at c.if-a-lt0.true) in
    let v-is : c.new_lower-v.result ≡ new_lower a.a a.b a.least (lower B a.j) (upper B a.j) = simp to_z-of_z at c.new_lower-v.ensures in
    let v-fits : SFits w32 c.new_lower-v.result = record { sfits = c.new_lower-v.type_inv } in
    let high-kept : new_upper a.a a.b a.least (lower B a.j) (upper B a.j) ≡ upper B a.j = upper-kept _ _ _ _ not-positive in
    let e = lower-moved _ _ _ B a.j (λ e. c.if-v-l.false (ap (of_z w32) (v-is ∙ e))) high-kept in
    rw (to_z-of_z {w = w32} v-fits ∙ v-is) (record { left = e.0; moved = e.1 })

pub returns : goal.returns
returns c =
    let fa = c.ranges.a in
    let h : pos 0 ≤ℤ c.args.a = lt-false _ _ (simp to_z-of_z at c.if-a-lt0.false) in
    let k : c.args.a ≤ℤ pos 0 = lt-false _ _ (simp to_z-of_z at c.if-a-gt0.false) in
    let e = none-moved _ _ _ c.args.bounds.now c.args.j (lower-kept _ _ _ _ h) (upper-kept _ _ _ _ k) in
    record { left = e.0; moved = e.1 }
