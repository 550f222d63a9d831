use Rattle.model.specs.State.{state_of}
use Rattle.reduction.specs.Output.{left_text}
use Rattle.printing.proofs.left.Goals as goal

pub paper-requires-clause-paper : goal.paper-requires-clause-paper
unfolding state_of
paper-requires-clause-paper g c = (c.requires.fact.1, c.requires.fact.0.table)

pub returns-in-Report : goal.returns-in-Report
unfolding left_text
returns-in-Report g c = rw c.in-Report.is c.reduced.ensures

pub returns-in-Paper : goal.returns-in-Paper
unfolding left_text state_of
returns-in-Paper g c = rw c.in-Paper.is c.paper.ensures
