-- `reasons::no_reasons`: every place is `no_row`. Assumes nothing.
use Rattle.prepared_propagation.proofs.reasons.no_reasons.Goals as goal

pub returns : goal.returns
returns c = c.fill.ensures.after (λ y e. e)
