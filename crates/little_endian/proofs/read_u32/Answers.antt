-- `little_endian::read_u32`: std's number of the four bytes is ours. Assumes nothing.
use Rattle.std.proofs.Common.{◌∙◌}
use Rattle.little_endian.proofs.ByteLaws.{le_number-four}
use Rattle.little_endian.proofs.read_u32.Goals as goal

pub returns : goal.returns
returns c = c.from_le_bytes.ensures ∙ le_number-four c.args.at c.args.bytes.now c.requires
