-- `packed_row::right_side` is rhs_of: its quotient is below 2^31, so the cast loses nothing. Assumes nothing.
use Rattle.std.proofs.Common.{rules, sym}
use Rattle.packed_row.proofs.PackedLaws.{rhs-inside, rhs-outside}
use Rattle.packed_row.proofs.right_side.Goals as goal

pub returns-then-b-gt-RAISED_RHS : goal.returns-then-b-gt-RAISED_RHS
returns-then-b-gt-RAISED_RHS c = sym (rhs-outside c.args.rhs_word c.if-b-gt-RAISED_RHS.true)

pub returns : goal.returns
returns c = rw (rhs-inside c.args.rhs_word c.if-b-gt-RAISED_RHS.false) (search rules)
