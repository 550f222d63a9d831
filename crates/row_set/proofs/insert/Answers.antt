-- `row_set::insert`: the word of row r becomes another in bit r % 32 only, which is set (`bit-insert`, `bit-inserted`). Assumes nothing.
use native.Mathlib.Omega.{arith}
use Rattle.row_set.proofs.BitLaws.{bit-insert, bit-inserted}
use Rattle.row_set.proofs.insert.Goals as goal

pub returns : goal.returns
returns c =
    let D = c.args.set.now in
    let r = c.args.r in
    record { row = bit-insert D r (omega (arith, c.requires)); others = bit-inserted D r (omega (arith, c.requires)) }
