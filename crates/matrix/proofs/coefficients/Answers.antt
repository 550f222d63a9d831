-- `matrix::coefficients` is row r of the matrix. Assumes nothing.
use Rattle.matrix.proofs.PartLaws.{part-is}
use Rattle.matrix.proofs.coefficients.Goals as goal

pub returns : goal.returns
returns c = let a = c.args in part-is a.r a.n a.coefs.now
