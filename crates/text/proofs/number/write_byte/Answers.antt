-- `text::number::write_byte`: a store is a text of one byte.
use Rattle.text.proofs.TextLaws.{wrote-byte}
use Rattle.text.proofs.number.write_byte.Goals as goal

pub returns : goal.returns
returns c = wrote-byte _ _ _ c.requires
