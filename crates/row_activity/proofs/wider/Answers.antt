-- `row_activity::wider` is the greater of the number given and the term's width: the greatest of the term is the least with the
-- bounds exchanged. Assumes nothing.
use lib.IntN.{◌-ℤ◌, ℤ}
use mathlib.Core.Path.{◌∙◌, ◌≡◌, ap₂}
use mir.Facts.{to_z-of_z}
use mir.Syntax.{w64}
use mir.Val.{SFits, of_z, to_z}
use Rattle.std.specs.Int.{int_max}
use Rattle.integer.proofs.RangeLaws.{within-fits}
use Rattle.integer.proofs.Reading.{read}
use Rattle.row.specs.Activity.{min_term, term_width}
use Rattle.row.proofs.ReachLaws.{max-is, term_width-is, term_width-within}
use Rattle.row_activity.proofs.wider.Goals as goal

-- the width, from the machine's numbers
width_is : (a l u : ℤ) {g s : ℤ} → SFits w64 g → SFits w64 s → g ≡ min_term a u l → s ≡ min_term a l u
    → to_z w64 (of_z w64 g) -ℤ to_z w64 (of_z w64 s) ≡ term_width a l u
width_is a l u f h e k = ap₂ ◌-ℤ◌ (to_z-of_z {w = w64} f ∙ e) (to_z-of_z {w = w64} h ∙ k) ∙ term_width-is a l u

pub overflow_sub-width : goal.overflow_sub-width
overflow_sub-width c =
    let fa = c.ranges.a in
    let fl = c.ranges.low in
    let fu = c.ranges.high in
    let e =
    width_is c.args.a c.args.low c.args.high (record { sfits = c.term.type_inv }) (record { sfits = c.term-2.type_inv })
    (simp to_z-of_z at c.term.ensures) (simp to_z-of_z at c.term-2.ensures) in
    rw e (within-fits w64 tt (term_width-within c.requires.within c.requires.within_2 c.requires.within_3))

pub returns : goal.returns
returns c =
    let fa = c.ranges.a in
    let fl = c.ranges.low in
    let fu = c.ranges.high in
    let e =
    width_is c.args.a c.args.low c.args.high (record { sfits = c.term.type_inv }) (record { sfits = c.term-2.type_inv })
    (simp to_z-of_z at c.term.ensures) (simp to_z-of_z at c.term-2.ensures) in
    let f : SFits w64 (term_width c.args.a c.args.low c.args.high) =
    within-fits w64 tt (term_width-within c.requires.within c.requires.within_2 c.requires.within_3) in
    read w64 (record { sfits = c.max.type_inv })
    (c.max.ensures.value ∙ ap₂ int_max (to_z-of_z {w = w64} c.ranges.widest) (rw e (to_z-of_z {w = w64} f))
    ∙ max-is c.args.widest (term_width c.args.a c.args.low c.args.high))
