-- `matrix::row_bytes` is the part of the table that is row r's. Assumes nothing.
use Prim.Native.Nat.{◌*◌, ◌+◌, ◌-◌}
use mathlib.Core.Path.{◌≡◌}
use native.Mathlib.Omega.{arith}
use Rattle.matrix.proofs.row_bytes.Goals as goal

pub returns : goal.returns
returns c = let a = c.args in let d : a.r * a.n + a.n - a.r * a.n ≡ a.n = omega arith in rw d
