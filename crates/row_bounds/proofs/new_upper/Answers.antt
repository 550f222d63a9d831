-- `row_bounds::new_upper` is new_upper: a · u ≤ room decides whether the bound stays (`upper-stays`, `upper-moves`), and a
-- bound that moves lies between l and u, so it fits (`upper-small`). Assumes nothing.
use lib.IntN.{◌*ℤ◌, ◌+ℤ◌, ◌-ℤ◌}
use lib.Signed.{◌<ℤ◌}
use mathlib.Core.Path.{◌∙◌, ◌≡◌, sym}
use mir.Facts.{sfits_widen, to_z-of_z}
use mir.Syntax.{w32, w64}
use mir.Val.{SFits}
use Rattle.integer.specs.Division.{floor_div}
use Rattle.integer.proofs.RangeLaws.{within-add, within-fits, within-mul, within-sub}
use Rattle.row.proofs.RowLoops.{upper-moves, upper-small, upper-stays}
use lib.Signed.{◌≤ℤ◌}
use Rattle.integer.proofs.Parts.{le-false, le-true}
use Rattle.row_bounds.proofs.new_upper.Goals as goal

pub overflow_cast-g : goal.overflow_cast-g
overflow_cast-g c = let fa = c.ranges.a in simp to_z-of_z (sfits_widen tt fa)

pub overflow_sub-room : goal.overflow_sub-room
overflow_sub-room c =
    let q = c.requires.implies_bounds in
    let fa = c.ranges.a in
    let fb = c.ranges.b in
    let f-least = c.ranges.least in
    let fl = c.ranges.l in
    let fu = c.ranges.u in
    let wa : SFits w64 c.args.a = sfits_widen tt fa in
    let wl : SFits w64 c.args.l = sfits_widen tt fl in
    let wu : SFits w64 c.args.u = sfits_widen tt fu in
    let f-sub : SFits w64 (c.args.b -ℤ c.args.least) = within-fits w64 tt (within-sub q.rhs q.activity) in
    let f-al : SFits w64 (c.args.a *ℤ c.args.l) = within-fits w64 tt (within-mul q.coef q.low) in
    let f-au : SFits w64 (c.args.a *ℤ c.args.u) = within-fits w64 tt (within-mul q.coef q.high) in
    let f-room : SFits w64 (c.args.b -ℤ c.args.least +ℤ c.args.a *ℤ c.args.l) =
    within-fits w64 tt (within-add (within-sub q.rhs q.activity) (within-mul q.coef q.low)) in
    simp to_z-of_z f-sub

pub overflow_cast-room : goal.overflow_cast-room
overflow_cast-room c = let fl = c.ranges.l in simp to_z-of_z (sfits_widen tt fl)

pub overflow_mul-room : goal.overflow_mul-room
overflow_mul-room c =
    let q = c.requires.implies_bounds in
    let fa = c.ranges.a in
    let fb = c.ranges.b in
    let f-least = c.ranges.least in
    let fl = c.ranges.l in
    let fu = c.ranges.u in
    let wa : SFits w64 c.args.a = sfits_widen tt fa in
    let wl : SFits w64 c.args.l = sfits_widen tt fl in
    let wu : SFits w64 c.args.u = sfits_widen tt fu in
    let f-sub : SFits w64 (c.args.b -ℤ c.args.least) = within-fits w64 tt (within-sub q.rhs q.activity) in
    let f-al : SFits w64 (c.args.a *ℤ c.args.l) = within-fits w64 tt (within-mul q.coef q.low) in
    let f-au : SFits w64 (c.args.a *ℤ c.args.u) = within-fits w64 tt (within-mul q.coef q.high) in
    let f-room : SFits w64 (c.args.b -ℤ c.args.least +ℤ c.args.a *ℤ c.args.l) =
    within-fits w64 tt (within-add (within-sub q.rhs q.activity) (within-mul q.coef q.low)) in
    simp to_z-of_z f-al

pub overflow_add-room : goal.overflow_add-room
overflow_add-room c =
    let q = c.requires.implies_bounds in
    let fa = c.ranges.a in
    let fb = c.ranges.b in
    let f-least = c.ranges.least in
    let fl = c.ranges.l in
    let fu = c.ranges.u in
    let wa : SFits w64 c.args.a = sfits_widen tt fa in
    let wl : SFits w64 c.args.l = sfits_widen tt fl in
    let wu : SFits w64 c.args.u = sfits_widen tt fu in
    let f-sub : SFits w64 (c.args.b -ℤ c.args.least) = within-fits w64 tt (within-sub q.rhs q.activity) in
    let f-al : SFits w64 (c.args.a *ℤ c.args.l) = within-fits w64 tt (within-mul q.coef q.low) in
    let f-au : SFits w64 (c.args.a *ℤ c.args.u) = within-fits w64 tt (within-mul q.coef q.high) in
    let f-room : SFits w64 (c.args.b -ℤ c.args.least +ℤ c.args.a *ℤ c.args.l) =
    within-fits w64 tt (within-add (within-sub q.rhs q.activity) (within-mul q.coef q.low)) in
    simp to_z-of_z f-room

pub overflow_cast-u : goal.overflow_cast-u
overflow_cast-u c = let fu = c.ranges.u in simp to_z-of_z (sfits_widen tt fu)

pub overflow_mul-g : goal.overflow_mul-g
overflow_mul-g c =
    let q = c.requires.implies_bounds in
    let fa = c.ranges.a in
    let fb = c.ranges.b in
    let f-least = c.ranges.least in
    let fl = c.ranges.l in
    let fu = c.ranges.u in
    let wa : SFits w64 c.args.a = sfits_widen tt fa in
    let wl : SFits w64 c.args.l = sfits_widen tt fl in
    let wu : SFits w64 c.args.u = sfits_widen tt fu in
    let f-sub : SFits w64 (c.args.b -ℤ c.args.least) = within-fits w64 tt (within-sub q.rhs q.activity) in
    let f-al : SFits w64 (c.args.a *ℤ c.args.l) = within-fits w64 tt (within-mul q.coef q.low) in
    let f-au : SFits w64 (c.args.a *ℤ c.args.u) = within-fits w64 tt (within-mul q.coef q.high) in
    let f-room : SFits w64 (c.args.b -ℤ c.args.least +ℤ c.args.a *ℤ c.args.l) =
    within-fits w64 tt (within-add (within-sub q.rhs q.activity) (within-mul q.coef q.low)) in
    simp to_z-of_z f-au

pub returns-then-g-u : goal.returns-then-g-u
returns-then-g-u c =
    let q = c.requires.implies_bounds in
    let fa = c.ranges.a in
    let fb = c.ranges.b in
    let f-least = c.ranges.least in
    let fl = c.ranges.l in
    let fu = c.ranges.u in
    let wa : SFits w64 c.args.a = sfits_widen tt fa in
    let wl : SFits w64 c.args.l = sfits_widen tt fl in
    let wu : SFits w64 c.args.u = sfits_widen tt fu in
    let f-sub : SFits w64 (c.args.b -ℤ c.args.least) = within-fits w64 tt (within-sub q.rhs q.activity) in
    let f-al : SFits w64 (c.args.a *ℤ c.args.l) = within-fits w64 tt (within-mul q.coef q.low) in
    let f-au : SFits w64 (c.args.a *ℤ c.args.u) = within-fits w64 tt (within-mul q.coef q.high) in
    let f-room : SFits w64 (c.args.b -ℤ c.args.least +ℤ c.args.a *ℤ c.args.l) =
    within-fits w64 tt (within-add (within-sub q.rhs q.activity) (within-mul q.coef q.low)) in
    let room = c.args.b -ℤ c.args.least +ℤ c.args.a *ℤ c.args.l in
    let h : (c.args.a *ℤ c.args.u) ≤ℤ room = le-true (c.args.a *ℤ c.args.u) room (simp to_z-of_z at c.if-g-u.true) in
    simp to_z-of_z (sym (upper-stays _ _ _ _ _ c.requires.pos_bound h))

pub floor_div-requires : goal.floor_div-requires
floor_div-requires c =
    let fa = c.ranges.a in
    let wa : SFits w64 c.args.a = sfits_widen tt fa in
    simp to_z-of_z c.requires.pos_bound

pub overflow_cast-result : goal.overflow_cast-result
overflow_cast-result c =
    let q = c.requires.implies_bounds in
    let fa = c.ranges.a in
    let fb = c.ranges.b in
    let f-least = c.ranges.least in
    let fl = c.ranges.l in
    let fu = c.ranges.u in
    let wa : SFits w64 c.args.a = sfits_widen tt fa in
    let wl : SFits w64 c.args.l = sfits_widen tt fl in
    let wu : SFits w64 c.args.u = sfits_widen tt fu in
    let f-sub : SFits w64 (c.args.b -ℤ c.args.least) = within-fits w64 tt (within-sub q.rhs q.activity) in
    let f-al : SFits w64 (c.args.a *ℤ c.args.l) = within-fits w64 tt (within-mul q.coef q.low) in
    let f-au : SFits w64 (c.args.a *ℤ c.args.u) = within-fits w64 tt (within-mul q.coef q.high) in
    let f-room : SFits w64 (c.args.b -ℤ c.args.least +ℤ c.args.a *ℤ c.args.l) =
    within-fits w64 tt (within-add (within-sub q.rhs q.activity) (within-mul q.coef q.low)) in
    let room = c.args.b -ℤ c.args.least +ℤ c.args.a *ℤ c.args.l in
    let moves : room <ℤ (c.args.a *ℤ c.args.u) = le-false (c.args.a *ℤ c.args.u) room (simp to_z-of_z at c.if-g-u.false) in
    let quotient : c.floor_div.result ≡ floor_div room c.args.a = simp to_z-of_z at c.floor_div.ensures in
    let f-result : SFits w64 c.floor_div.result = record { sfits = c.floor_div.type_inv } in
    let f-quotient : SFits w32 c.floor_div.result =
    rw quotient (within-fits w32 tt (upper-small _ _ _ _ _ c.requires.pos_bound q moves)) in
    simp to_z-of_z f-quotient

pub returns : goal.returns
returns c =
    let q = c.requires.implies_bounds in
    let fa = c.ranges.a in
    let fb = c.ranges.b in
    let f-least = c.ranges.least in
    let fl = c.ranges.l in
    let fu = c.ranges.u in
    let wa : SFits w64 c.args.a = sfits_widen tt fa in
    let wl : SFits w64 c.args.l = sfits_widen tt fl in
    let wu : SFits w64 c.args.u = sfits_widen tt fu in
    let f-sub : SFits w64 (c.args.b -ℤ c.args.least) = within-fits w64 tt (within-sub q.rhs q.activity) in
    let f-al : SFits w64 (c.args.a *ℤ c.args.l) = within-fits w64 tt (within-mul q.coef q.low) in
    let f-au : SFits w64 (c.args.a *ℤ c.args.u) = within-fits w64 tt (within-mul q.coef q.high) in
    let f-room : SFits w64 (c.args.b -ℤ c.args.least +ℤ c.args.a *ℤ c.args.l) =
    within-fits w64 tt (within-add (within-sub q.rhs q.activity) (within-mul q.coef q.low)) in
    let room = c.args.b -ℤ c.args.least +ℤ c.args.a *ℤ c.args.l in
    let moves : room <ℤ (c.args.a *ℤ c.args.u) = le-false (c.args.a *ℤ c.args.u) room (simp to_z-of_z at c.if-g-u.false) in
    let quotient : c.floor_div.result ≡ floor_div room c.args.a = simp to_z-of_z at c.floor_div.ensures in
    let f-result : SFits w64 c.floor_div.result = record { sfits = c.floor_div.type_inv } in
    let f-quotient : SFits w32 c.floor_div.result =
    rw quotient (within-fits w32 tt (upper-small _ _ _ _ _ c.requires.pos_bound q moves)) in
    simp to_z-of_z (quotient ∙ sym (upper-moves _ _ _ _ _ c.requires.pos_bound moves))
