-- `little_endian::read_u16`: std's number of the two bytes is ours. Assumes nothing.
use Rattle.std.proofs.Common.{◌∙◌}
use Rattle.little_endian.proofs.ByteLaws.{le_number-two}
use Rattle.little_endian.proofs.read_u16.Goals as goal

pub returns : goal.returns
returns c = c.from_le_bytes.ensures ∙ le_number-two c.args.at c.args.bytes.now c.requires
