-- `plan_replies::put_lengths`: stores into places that are all 0 leave the lengths and a zero behind them, by computation.
use Rattle.std.proofs.Common.{refl}
use Rattle.plan.specs.Lengths.{lengths_of}
use Rattle.replies.specs.Replies.{lengths_reply, written}
use Rattle.plan_replies.proofs.put_lengths.Goals as goal

pub returns : goal.returns
unfolding lengths_reply written lengths_of
returns c = rw (c.clear.ensures, c.requires) refl
