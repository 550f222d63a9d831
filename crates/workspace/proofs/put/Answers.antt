-- `workspace::put`: the numbers stand in the workspace, and nothing else was written. Assumes nothing.
use Prim.Native.Nat.{◌+◌, ◌-◌}
use lib.ListN.{length}
use mathlib.Core.Path.{◌≡◌, refl}
use native.Mathlib.Omega.{arith}
use Rattle.workspace.proofs.PartLaws.{part-same, part-written}
use Rattle.workspace.proofs.put.Goals as goal

pub returns : goal.returns
returns c =
    let p = c.args.place in
    let N = c.args.numbers.now in
    let W = c.args.ws.now in
    let k : p + length N - p ≡ length N = omega arith in
    let e = c.copy_from_slice.ensures.after in
    rw (k, e) (record { numbers = part-written W N p (length N) _ c.requires.0 refl refl; others = part-same W N p (length N) _ c.requires.0 refl refl })
