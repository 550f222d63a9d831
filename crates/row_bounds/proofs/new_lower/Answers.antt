-- `row_bounds::new_lower` is new_lower: the mirror of `new_upper` (`lower-stays`, `lower-moves`, `lower-small`).
-- Assumes nothing.
use lib.IntN.{◌*ℤ◌, ◌+ℤ◌, ◌-ℤ◌, neg_ℤ}
use lib.Signed.{◌<ℤ◌}
use mathlib.Core.Path.{◌∙◌, ◌≡◌, sym}
use mir.Facts.{sfits_widen, to_z-of_z}
use mir.Syntax.{w32, w64}
use mir.Val.{SFits}
use Rattle.integer.specs.Division.{ceil_div}
use Rattle.integer.proofs.RangeLaws.{within-add, within-fits, within-mul, within-neg, within-sub}
use Rattle.row.proofs.RowLoops.{g-pos, lower-moves, lower-small, lower-stays, zero_minus}
use lib.Signed.{◌≤ℤ◌}
use Rattle.integer.proofs.Parts.{le-false, le-true}
use Rattle.row_bounds.proofs.new_lower.Goals as goal

pub overflow_cast-g : goal.overflow_cast-g
overflow_cast-g c = let fa = c.ranges.a in simp to_z-of_z (sfits_widen tt fa)

pub overflow_sub-g : goal.overflow_sub-g
overflow_sub-g c =
    let q = c.requires.implies_bounds in
    let fa = c.ranges.a in
    let fb = c.ranges.b in
    let f-least = c.ranges.least in
    let fl = c.ranges.l in
    let fu = c.ranges.u in
    let wa : SFits w64 c.args.a = sfits_widen tt fa in
    let wl : SFits w64 c.args.l = sfits_widen tt fl in
    let wu : SFits w64 c.args.u = sfits_widen tt fu in
    let f-g : SFits w64 (neg_ℤ c.args.a) = within-fits w64 tt (within-neg q.coef) in
    let f-gl : SFits w64 (neg_ℤ c.args.a *ℤ c.args.l) = within-fits w64 tt (within-mul (within-neg q.coef) q.low) in
    let f-gu : SFits w64 (neg_ℤ c.args.a *ℤ c.args.u) = within-fits w64 tt (within-mul (within-neg q.coef) q.high) in
    let f-add : SFits w64 (c.args.least +ℤ neg_ℤ c.args.a *ℤ c.args.u) =
    within-fits w64 tt (within-add q.activity (within-mul (within-neg q.coef) q.high)) in
    let f-need : SFits w64 (c.args.least +ℤ neg_ℤ c.args.a *ℤ c.args.u -ℤ c.args.b) =
    within-fits w64 tt (within-sub (within-add q.activity (within-mul (within-neg q.coef) q.high)) q.rhs) in
    simp (to_z-of_z, zero_minus) f-g

pub overflow_cast-need : goal.overflow_cast-need
overflow_cast-need c = let fu = c.ranges.u in simp to_z-of_z (sfits_widen tt fu)

pub overflow_mul-need : goal.overflow_mul-need
overflow_mul-need c =
    let q = c.requires.implies_bounds in
    let fa = c.ranges.a in
    let fb = c.ranges.b in
    let f-least = c.ranges.least in
    let fl = c.ranges.l in
    let fu = c.ranges.u in
    let wa : SFits w64 c.args.a = sfits_widen tt fa in
    let wl : SFits w64 c.args.l = sfits_widen tt fl in
    let wu : SFits w64 c.args.u = sfits_widen tt fu in
    let f-g : SFits w64 (neg_ℤ c.args.a) = within-fits w64 tt (within-neg q.coef) in
    let f-gl : SFits w64 (neg_ℤ c.args.a *ℤ c.args.l) = within-fits w64 tt (within-mul (within-neg q.coef) q.low) in
    let f-gu : SFits w64 (neg_ℤ c.args.a *ℤ c.args.u) = within-fits w64 tt (within-mul (within-neg q.coef) q.high) in
    let f-add : SFits w64 (c.args.least +ℤ neg_ℤ c.args.a *ℤ c.args.u) =
    within-fits w64 tt (within-add q.activity (within-mul (within-neg q.coef) q.high)) in
    let f-need : SFits w64 (c.args.least +ℤ neg_ℤ c.args.a *ℤ c.args.u -ℤ c.args.b) =
    within-fits w64 tt (within-sub (within-add q.activity (within-mul (within-neg q.coef) q.high)) q.rhs) in
    simp (to_z-of_z, zero_minus) f-gu

pub overflow_add-need : goal.overflow_add-need
overflow_add-need c =
    let q = c.requires.implies_bounds in
    let fa = c.ranges.a in
    let fb = c.ranges.b in
    let f-least = c.ranges.least in
    let fl = c.ranges.l in
    let fu = c.ranges.u in
    let wa : SFits w64 c.args.a = sfits_widen tt fa in
    let wl : SFits w64 c.args.l = sfits_widen tt fl in
    let wu : SFits w64 c.args.u = sfits_widen tt fu in
    let f-g : SFits w64 (neg_ℤ c.args.a) = within-fits w64 tt (within-neg q.coef) in
    let f-gl : SFits w64 (neg_ℤ c.args.a *ℤ c.args.l) = within-fits w64 tt (within-mul (within-neg q.coef) q.low) in
    let f-gu : SFits w64 (neg_ℤ c.args.a *ℤ c.args.u) = within-fits w64 tt (within-mul (within-neg q.coef) q.high) in
    let f-add : SFits w64 (c.args.least +ℤ neg_ℤ c.args.a *ℤ c.args.u) =
    within-fits w64 tt (within-add q.activity (within-mul (within-neg q.coef) q.high)) in
    let f-need : SFits w64 (c.args.least +ℤ neg_ℤ c.args.a *ℤ c.args.u -ℤ c.args.b) =
    within-fits w64 tt (within-sub (within-add q.activity (within-mul (within-neg q.coef) q.high)) q.rhs) in
    simp (to_z-of_z, zero_minus) f-add

pub overflow_sub-need : goal.overflow_sub-need
overflow_sub-need c =
    let q = c.requires.implies_bounds in
    let fa = c.ranges.a in
    let fb = c.ranges.b in
    let f-least = c.ranges.least in
    let fl = c.ranges.l in
    let fu = c.ranges.u in
    let wa : SFits w64 c.args.a = sfits_widen tt fa in
    let wl : SFits w64 c.args.l = sfits_widen tt fl in
    let wu : SFits w64 c.args.u = sfits_widen tt fu in
    let f-g : SFits w64 (neg_ℤ c.args.a) = within-fits w64 tt (within-neg q.coef) in
    let f-gl : SFits w64 (neg_ℤ c.args.a *ℤ c.args.l) = within-fits w64 tt (within-mul (within-neg q.coef) q.low) in
    let f-gu : SFits w64 (neg_ℤ c.args.a *ℤ c.args.u) = within-fits w64 tt (within-mul (within-neg q.coef) q.high) in
    let f-add : SFits w64 (c.args.least +ℤ neg_ℤ c.args.a *ℤ c.args.u) =
    within-fits w64 tt (within-add q.activity (within-mul (within-neg q.coef) q.high)) in
    let f-need : SFits w64 (c.args.least +ℤ neg_ℤ c.args.a *ℤ c.args.u -ℤ c.args.b) =
    within-fits w64 tt (within-sub (within-add q.activity (within-mul (within-neg q.coef) q.high)) q.rhs) in
    simp (to_z-of_z, zero_minus) f-need

pub overflow_cast-l : goal.overflow_cast-l
overflow_cast-l c = let fl = c.ranges.l in simp to_z-of_z (sfits_widen tt fl)

pub overflow_mul-g : goal.overflow_mul-g
overflow_mul-g c =
    let q = c.requires.implies_bounds in
    let fa = c.ranges.a in
    let fb = c.ranges.b in
    let f-least = c.ranges.least in
    let fl = c.ranges.l in
    let fu = c.ranges.u in
    let wa : SFits w64 c.args.a = sfits_widen tt fa in
    let wl : SFits w64 c.args.l = sfits_widen tt fl in
    let wu : SFits w64 c.args.u = sfits_widen tt fu in
    let f-g : SFits w64 (neg_ℤ c.args.a) = within-fits w64 tt (within-neg q.coef) in
    let f-gl : SFits w64 (neg_ℤ c.args.a *ℤ c.args.l) = within-fits w64 tt (within-mul (within-neg q.coef) q.low) in
    let f-gu : SFits w64 (neg_ℤ c.args.a *ℤ c.args.u) = within-fits w64 tt (within-mul (within-neg q.coef) q.high) in
    let f-add : SFits w64 (c.args.least +ℤ neg_ℤ c.args.a *ℤ c.args.u) =
    within-fits w64 tt (within-add q.activity (within-mul (within-neg q.coef) q.high)) in
    let f-need : SFits w64 (c.args.least +ℤ neg_ℤ c.args.a *ℤ c.args.u -ℤ c.args.b) =
    within-fits w64 tt (within-sub (within-add q.activity (within-mul (within-neg q.coef) q.high)) q.rhs) in
    simp (to_z-of_z, zero_minus) f-gl

pub returns-then-need-g : goal.returns-then-need-g
returns-then-need-g c =
    let q = c.requires.implies_bounds in
    let fa = c.ranges.a in
    let fb = c.ranges.b in
    let f-least = c.ranges.least in
    let fl = c.ranges.l in
    let fu = c.ranges.u in
    let wa : SFits w64 c.args.a = sfits_widen tt fa in
    let wl : SFits w64 c.args.l = sfits_widen tt fl in
    let wu : SFits w64 c.args.u = sfits_widen tt fu in
    let f-g : SFits w64 (neg_ℤ c.args.a) = within-fits w64 tt (within-neg q.coef) in
    let f-gl : SFits w64 (neg_ℤ c.args.a *ℤ c.args.l) = within-fits w64 tt (within-mul (within-neg q.coef) q.low) in
    let f-gu : SFits w64 (neg_ℤ c.args.a *ℤ c.args.u) = within-fits w64 tt (within-mul (within-neg q.coef) q.high) in
    let f-add : SFits w64 (c.args.least +ℤ neg_ℤ c.args.a *ℤ c.args.u) =
    within-fits w64 tt (within-add q.activity (within-mul (within-neg q.coef) q.high)) in
    let f-need : SFits w64 (c.args.least +ℤ neg_ℤ c.args.a *ℤ c.args.u -ℤ c.args.b) =
    within-fits w64 tt (within-sub (within-add q.activity (within-mul (within-neg q.coef) q.high)) q.rhs) in
    let need = c.args.least +ℤ neg_ℤ c.args.a *ℤ c.args.u -ℤ c.args.b in
    let h : need ≤ℤ (neg_ℤ c.args.a *ℤ c.args.l) = le-true need (neg_ℤ c.args.a *ℤ c.args.l) (simp (to_z-of_z, zero_minus) at c.if-need-g.true) in
    simp to_z-of_z (sym (lower-stays _ _ _ _ _ c.requires.a_bound h))

pub ceil_div-requires : goal.ceil_div-requires
ceil_div-requires c =
    let q = c.requires.implies_bounds in
    let fa = c.ranges.a in
    let fb = c.ranges.b in
    let f-least = c.ranges.least in
    let fl = c.ranges.l in
    let fu = c.ranges.u in
    let wa : SFits w64 c.args.a = sfits_widen tt fa in
    let wl : SFits w64 c.args.l = sfits_widen tt fl in
    let wu : SFits w64 c.args.u = sfits_widen tt fu in
    let f-g : SFits w64 (neg_ℤ c.args.a) = within-fits w64 tt (within-neg q.coef) in
    let f-gl : SFits w64 (neg_ℤ c.args.a *ℤ c.args.l) = within-fits w64 tt (within-mul (within-neg q.coef) q.low) in
    let f-gu : SFits w64 (neg_ℤ c.args.a *ℤ c.args.u) = within-fits w64 tt (within-mul (within-neg q.coef) q.high) in
    let f-add : SFits w64 (c.args.least +ℤ neg_ℤ c.args.a *ℤ c.args.u) =
    within-fits w64 tt (within-add q.activity (within-mul (within-neg q.coef) q.high)) in
    let f-need : SFits w64 (c.args.least +ℤ neg_ℤ c.args.a *ℤ c.args.u -ℤ c.args.b) =
    within-fits w64 tt (within-sub (within-add q.activity (within-mul (within-neg q.coef) q.high)) q.rhs) in
    simp (to_z-of_z, zero_minus) (g-pos c.requires.a_bound)

pub overflow_cast-result : goal.overflow_cast-result
overflow_cast-result c =
    let q = c.requires.implies_bounds in
    let fa = c.ranges.a in
    let fb = c.ranges.b in
    let f-least = c.ranges.least in
    let fl = c.ranges.l in
    let fu = c.ranges.u in
    let wa : SFits w64 c.args.a = sfits_widen tt fa in
    let wl : SFits w64 c.args.l = sfits_widen tt fl in
    let wu : SFits w64 c.args.u = sfits_widen tt fu in
    let f-g : SFits w64 (neg_ℤ c.args.a) = within-fits w64 tt (within-neg q.coef) in
    let f-gl : SFits w64 (neg_ℤ c.args.a *ℤ c.args.l) = within-fits w64 tt (within-mul (within-neg q.coef) q.low) in
    let f-gu : SFits w64 (neg_ℤ c.args.a *ℤ c.args.u) = within-fits w64 tt (within-mul (within-neg q.coef) q.high) in
    let f-add : SFits w64 (c.args.least +ℤ neg_ℤ c.args.a *ℤ c.args.u) =
    within-fits w64 tt (within-add q.activity (within-mul (within-neg q.coef) q.high)) in
    let f-need : SFits w64 (c.args.least +ℤ neg_ℤ c.args.a *ℤ c.args.u -ℤ c.args.b) =
    within-fits w64 tt (within-sub (within-add q.activity (within-mul (within-neg q.coef) q.high)) q.rhs) in
    let need = c.args.least +ℤ neg_ℤ c.args.a *ℤ c.args.u -ℤ c.args.b in
    let moves : (neg_ℤ c.args.a *ℤ c.args.l) <ℤ need = le-false need (neg_ℤ c.args.a *ℤ c.args.l) (simp (to_z-of_z, zero_minus) at c.if-need-g.false) in
    let quotient : c.ceil_div.result ≡ ceil_div need (neg_ℤ c.args.a) = simp (to_z-of_z, zero_minus) at c.ceil_div.ensures in
    let f-result : SFits w64 c.ceil_div.result = record { sfits = c.ceil_div.type_inv } in
    let f-quotient : SFits w32 c.ceil_div.result =
    rw quotient (within-fits w32 tt (lower-small _ _ _ _ _ c.requires.a_bound q moves)) in
    simp to_z-of_z f-quotient

pub returns : goal.returns
returns c =
    let q = c.requires.implies_bounds in
    let fa = c.ranges.a in
    let fb = c.ranges.b in
    let f-least = c.ranges.least in
    let fl = c.ranges.l in
    let fu = c.ranges.u in
    let wa : SFits w64 c.args.a = sfits_widen tt fa in
    let wl : SFits w64 c.args.l = sfits_widen tt fl in
    let wu : SFits w64 c.args.u = sfits_widen tt fu in
    let f-g : SFits w64 (neg_ℤ c.args.a) = within-fits w64 tt (within-neg q.coef) in
    let f-gl : SFits w64 (neg_ℤ c.args.a *ℤ c.args.l) = within-fits w64 tt (within-mul (within-neg q.coef) q.low) in
    let f-gu : SFits w64 (neg_ℤ c.args.a *ℤ c.args.u) = within-fits w64 tt (within-mul (within-neg q.coef) q.high) in
    let f-add : SFits w64 (c.args.least +ℤ neg_ℤ c.args.a *ℤ c.args.u) =
    within-fits w64 tt (within-add q.activity (within-mul (within-neg q.coef) q.high)) in
    let f-need : SFits w64 (c.args.least +ℤ neg_ℤ c.args.a *ℤ c.args.u -ℤ c.args.b) =
    within-fits w64 tt (within-sub (within-add q.activity (within-mul (within-neg q.coef) q.high)) q.rhs) in
    let need = c.args.least +ℤ neg_ℤ c.args.a *ℤ c.args.u -ℤ c.args.b in
    let moves : (neg_ℤ c.args.a *ℤ c.args.l) <ℤ need = le-false need (neg_ℤ c.args.a *ℤ c.args.l) (simp (to_z-of_z, zero_minus) at c.if-need-g.false) in
    let quotient : c.ceil_div.result ≡ ceil_div need (neg_ℤ c.args.a) = simp (to_z-of_z, zero_minus) at c.ceil_div.ensures in
    let f-result : SFits w64 c.ceil_div.result = record { sfits = c.ceil_div.type_inv } in
    let f-quotient : SFits w32 c.ceil_div.result =
    rw quotient (within-fits w32 tt (lower-small _ _ _ _ _ c.requires.a_bound q moves)) in
    simp to_z-of_z (quotient ∙ sym (lower-moves _ _ _ _ _ c.requires.a_bound moves))
