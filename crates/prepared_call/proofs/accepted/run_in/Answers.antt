-- `accepted::run_in`: the lent box is taken (`take_box`), in which the passes are made (`ran-is`). Assumes nothing.
use mathlib.Core.Path.{◌∙◌, refl}
use Rattle.prepared_call.proofs.CoreLaws.{ran-is}
use Rattle.prepared_call.proofs.accepted.run_in.Goals as goal

pub propagate_prepared-requires : goal.propagate_prepared-requires
propagate_prepared-requires c =
    let v = c.requires.0 in
    let box = c.take_box in
    let a = v.accepting in (
      record {
        sized = record { some = a.ours.some; few = a.ours.few; few_rows = a.ours.few_rows; len = a.ours.len; box = a.box };
        non_empty = v.non_empty;
        known = box.ensures.known;
        set = box.auto.dirty ∙ v.set;
      },
      a.lent,
    )

pub returns : goal.returns
returns c =
    let box = c.take_box in
    let end = c.propagate_prepared in
    let f = end.ensures in
    ran-is c.args.budget (λ A q. box.ensures.calm A q refl) (end.auto.dirty ∙ box.auto.dirty ∙ c.requires.0.set) f.answer f.calm f.left f.reasons f.row
