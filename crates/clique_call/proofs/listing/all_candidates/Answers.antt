-- `clique_call::listing::all_candidates`: the array is written so. Assumes nothing.
use mathlib.Core.Path.{refl}
use Rattle.clique_grow.specs.Candidates.{all_ones}
use Rattle.clique_call.proofs.listing.all_candidates.Goals as goal

pub returns : goal.returns
unfolding all_ones
returns c = refl
