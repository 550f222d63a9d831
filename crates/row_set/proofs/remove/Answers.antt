-- `row_set::remove`: the word of row r becomes another in bit r % 32 only (`bit-removed`). Assumes nothing.
use native.Mathlib.Omega.{arith}
use Rattle.row_set.proofs.BitLaws.{bit-removed}
use Rattle.row_set.proofs.remove.Goals as goal

pub returns : goal.returns
returns c = bit-removed c.args.set.now c.args.r (omega (arith, c.requires))
