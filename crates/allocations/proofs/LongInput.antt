-- An input that is longer than the longest one is refused by 2, under a name that code can write.
use Rattle.allocation_input.proofs.OutputLaws.{output-long}

pub ruleset long_input = (output-long)
