-- `row_propagation::form_moves` is row_moves of the row with its sign: in a box that is not empty, one comparison of the room with
-- the widest term tells (`moves-test`). Assumes nothing.
use lib.ListN.{length}
use lib.Signed.{lt_z}
use mathlib.Core.Path.{◌∙◌, ◌≡◌, ap₂, sym}
use Rattle.integer.proofs.Reading.{wide_fits}
use Rattle.row.specs.Activity.{min_activity, widest_term}
use Rattle.row.specs.Kinds.{signed}
use Rattle.row.specs.ValidRow.{ValidRow}
use Rattle.row.proofs.SignedLaws.{sign-bits, sign-is, signed-row}
use Rattle.row.proofs.ReachLaws.{moves-empty, moves-test, slack-fits, slack-read, widest-read}
use Rattle.row_propagation.proofs.form_moves.Goals as goal

pub returns-then-is_empty : goal.returns-then-is_empty
returns-then-is_empty c =
    let v = c.requires.valid_row.coefs in
    sym (moves-empty _ _ _ _ (sym (c.is_empty.ensures _ v.some v.box) ∙ c.if-is_empty.true))

pub reach_of-r-requires : goal.reach_of-r-requires
reach_of-r-requires c = record { valid_coefs = c.requires.valid_row.coefs; sign = sign-bits c.requires.sign }

pub overflow_cast-result : goal.overflow_cast-result
overflow_cast-result c = wide_fits c.ranges.b

pub overflow_sub-result : goal.overflow_sub-result
overflow_sub-result c =
    let g = c.requires.sign in
    let n = length c.args.coefs.now in
    let A = signed c.args.sign c.args.coefs.now in
    let B = c.args.bounds.now in
    let least : c.reach_of-r.result.least ≡ min_activity n A B = rw (sign-is g) at c.reach_of-r.ensures.least in
    let widest : c.reach_of-r.result.widest ≡ widest_term n A B = rw (sign-is g) at c.reach_of-r.ensures.widest in
    slack-fits (signed-row g c.requires.valid_row) least widest

pub returns : goal.returns
returns c =
    let g = c.requires.sign in
    let n = length c.args.coefs.now in
    let A = signed c.args.sign c.args.coefs.now in
    let B = c.args.bounds.now in
    let v : ValidRow n A c.args.b B = signed-row g c.requires.valid_row in
    let least : c.reach_of-r.result.least ≡ min_activity n A B = rw (sign-is g) at c.reach_of-r.ensures.least in
    let widest : c.reach_of-r.result.widest ≡ widest_term n A B = rw (sign-is g) at c.reach_of-r.ensures.widest in
    let some = sym (c.is_empty.ensures _ v.coefs.some v.coefs.box) ∙ c.if-is_empty.false in
    ap₂ lt_z (slack-read v least widest) (widest-read v least widest) ∙ moves-test n A c.args.b B some v.coefs.box.len
