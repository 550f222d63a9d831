-- `sweep::propagate_form_by` is propagate_row of the row with its sign: each way out is one of its four cases (`on-empty`,
-- `staying`, `unmet`, `moving`), told by the least sum and the widest term, and the callees do the rest. Assumes nothing.
use lib.ListN.{length}
use lib.Signed.{◌≤ℤ◌}
use mathlib.Core.Bool.{false}
use mathlib.Core.Path.{◌∙◌, ◌≡◌, sym}
use Rattle.model.specs.Box.{is_empty}
use Rattle.integer.proofs.Reading.{ge-read, gt-read, le_read, lt-read, read_wide, wide_fits}
use Rattle.row.specs.Activity.{min_activity, widest_term}
use Rattle.row.specs.Answers.{propagated_row_of}
use Rattle.row.specs.Kinds.{signed}
use Rattle.row.specs.ValidRow.{ValidRow}
use Rattle.row.proofs.ReachLaws.{least-read, moving, on-empty, slack-fits, slack-read, staying, unmet, widest-read}
use Rattle.row.proofs.RowLoops.{implies-box, min-activity-small}
use Rattle.row.proofs.SignedLaws.{sign-bits, sign-is, signed-row}
use Rattle.sweep.proofs.propagate_form_by.Goals as goal

pub returns-then-is_empty : goal.returns-then-is_empty
unfolding propagated_row_of
returns-then-is_empty c =
    let v = c.requires.valid_row.coefs in
    sym (on-empty _ _ _ _ (sym (c.is_empty.ensures _ v.some v.box) ∙ c.if-is_empty.true))

pub overflow_cast-rhs : goal.overflow_cast-rhs
overflow_cast-rhs c = wide_fits c.ranges.b

pub reach_by-r-requires : goal.reach_by-r-requires
reach_by-r-requires c = record { valid_coefs = c.requires.valid_row.coefs; sign = sign-bits c.requires.sign; steps = c.requires.steps }

pub overflow_sub-rhs : goal.overflow_sub-rhs
overflow_sub-rhs c =
    let a = c.args in
    let g = c.requires.sign in
    let n = length a.coefs.now in
    let A = signed a.sign a.coefs.now in
    let B = a.bounds.now in
    let v : ValidRow n A a.b B = signed-row g c.requires.valid_row in
    let some : is_empty n B ≡ false = sym (c.is_empty.ensures _ v.coefs.some v.coefs.box) ∙ c.if-is_empty.false in
    let least : c.reach_by-r.result.least ≡ min_activity n A B = rw (sign-is g) at c.reach_by-r.ensures.least in
    let widest : c.reach_by-r.result.widest ≡ widest_term n A B = rw (sign-is g) at c.reach_by-r.ensures.widest in
    slack-fits v least widest

pub returns-then-r-rhs : goal.returns-then-r-rhs
unfolding propagated_row_of
returns-then-r-rhs c =
    let a = c.args in
    let g = c.requires.sign in
    let n = length a.coefs.now in
    let A = signed a.sign a.coefs.now in
    let B = a.bounds.now in
    let v : ValidRow n A a.b B = signed-row g c.requires.valid_row in
    let some : is_empty n B ≡ false = sym (c.is_empty.ensures _ v.coefs.some v.coefs.box) ∙ c.if-is_empty.false in
    let least : c.reach_by-r.result.least ≡ min_activity n A B = rw (sign-is g) at c.reach_by-r.ensures.least in
    let widest : c.reach_by-r.result.widest ≡ widest_term n A B = rw (sign-is g) at c.reach_by-r.ensures.widest in
    sym
    (staying n A a.b B some v.coefs.box.len (le_read (widest-read v least widest) (slack-read v least widest) c.if-r-rhs.true))

pub returns-then-rhs-least : goal.returns-then-rhs-least
unfolding propagated_row_of
returns-then-rhs-least c =
    let a = c.args in
    let g = c.requires.sign in
    let n = length a.coefs.now in
    let A = signed a.sign a.coefs.now in
    let B = a.bounds.now in
    let v : ValidRow n A a.b B = signed-row g c.requires.valid_row in
    let some : is_empty n B ≡ false = sym (c.is_empty.ensures _ v.coefs.some v.coefs.box) ∙ c.if-is_empty.false in
    let least : c.reach_by-r.result.least ≡ min_activity n A B = rw (sign-is g) at c.reach_by-r.ensures.least in
    let widest : c.reach_by-r.result.widest ≡ widest_term n A B = rw (sign-is g) at c.reach_by-r.ensures.widest in
    let h = lt-read (read_wide c.ranges.b) (least-read v least widest) c.if-rhs-least.true in
    rw (c.make_empty.ensures _ v.coefs.box.len) (sym (unmet n A a.b B some h))

pub tighten_bounds_by-requires : goal.tighten_bounds_by-requires
tighten_bounds_by-requires c =
    let a = c.args in
    let g = c.requires.sign in
    let n = length a.coefs.now in
    let A = signed a.sign a.coefs.now in
    let B = a.bounds.now in
    let v : ValidRow n A a.b B = signed-row g c.requires.valid_row in
    let some : is_empty n B ≡ false = sym (c.is_empty.ensures _ v.coefs.some v.coefs.box) ∙ c.if-is_empty.false in
    let least : c.reach_by-r.result.least ≡ min_activity n A B = rw (sign-is g) at c.reach_by-r.ensures.least in
    let widest : c.reach_by-r.result.widest ≡ widest_term n A B = rw (sign-is g) at c.reach_by-r.ensures.widest in
    let rhs-is = read_wide c.ranges.b in
    let least-is = least-read v least widest in
    let met : min_activity n A B ≤ℤ a.b = ge-read rhs-is least-is c.if-rhs-least.false in
    record {
      implies_box = rw (rhs-is, least-is) (implies-box c.requires.valid_row (min-activity-small v.coefs) met);
      sign = sign-bits g;
      steps = c.requires.steps;
    }

pub returns : goal.returns
unfolding propagated_row_of
returns c =
    let a = c.args in
    let g = c.requires.sign in
    let n = length a.coefs.now in
    let A = signed a.sign a.coefs.now in
    let B = a.bounds.now in
    let v : ValidRow n A a.b B = signed-row g c.requires.valid_row in
    let some : is_empty n B ≡ false = sym (c.is_empty.ensures _ v.coefs.some v.coefs.box) ∙ c.if-is_empty.false in
    let least : c.reach_by-r.result.least ≡ min_activity n A B = rw (sign-is g) at c.reach_by-r.ensures.least in
    let widest : c.reach_by-r.result.widest ≡ widest_term n A B = rw (sign-is g) at c.reach_by-r.ensures.widest in
    let rhs-is = read_wide c.ranges.b in
    let least-is = least-read v least widest in
    let met : min_activity n A B ≤ℤ a.b = ge-read rhs-is least-is c.if-rhs-least.false in
    let told = rw (rhs-is, least-is, sign-is g) at c.tighten_bounds_by.ensures in
    rw (told.left, told.moved)
    (sym (moving n A a.b B some met (gt-read (widest-read v least widest) (slack-read v least widest) c.if-r-rhs.false)))
