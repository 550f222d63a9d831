-- `accepted::keep`: the set is written, then the box. Assumes nothing.
use mathlib.Core.Path.{◌∙◌}
use native.Mathlib.Omega.{arith}
use Rattle.prepared_model.specs.Layout.{variables_of}
use Rattle.prepared_call.proofs.accepted.keep.Goals as goal

pub keep_set-requires : goal.keep_set-requires
keep_set-requires c = let p = c.requires in (p.set, p.ours.len)

pub keep_box-requires : goal.keep_box-requires
keep_box-requires c =
    let p = c.requires in
    (omega (arith, p.box.len, p.ours.few), p.box.range, c.keep_set.ensures.others.len ∙ p.ours.len)

pub returns : goal.returns
returns c =
    let set = c.keep_set in
    let box = c.keep_box.ensures in
    record {
      between = set.new.ws;
      first = set.ensures.others;
      second = box.others;
      set = set.ensures.kept;
      box = box.kept (variables_of c.args.ws.now) c.requires.box.len;
    }
