-- `packed_row::coef` is coef_of: its quotient is below 2^31, so the cast loses nothing. Assumes nothing.
use Rattle.std.proofs.Common.{rules}
use Rattle.packed_row.proofs.PackedLaws.{coef-inside, coef-outside}
use Rattle.packed_row.proofs.coef.Goals as goal
use Rattle.std.proofs.Common.{sym}

pub returns-then-is_out : goal.returns-then-is_out
returns-then-is_out c = sym (coef-outside c.args.word c.if-is_out.true)

pub returns : goal.returns
returns c = rw (coef-inside c.args.word c.if-is_out.false) (search rules)
