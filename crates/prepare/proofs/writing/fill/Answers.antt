-- `writing::fill`: the places have the number, and nothing else was written. Assumes nothing.
use Prim.Native.Nat.{◌+◌, ◌-◌, ◌≤◌}
use lib.ListN.{drop, get_or, get_or-replicate, length, length-drop}
use lib.Seq.{length-take-le}
use mathlib.Core.Path.{◌∙◌, ◌≡◌, ap}
use native.Mathlib.Omega.{arith}
use Rattle.workspace.proofs.PartLaws.{part-at, part-same}
use Rattle.prepare.proofs.writing.fill.Goals as goal

pub returns : goal.returns
returns c =
    let p = c.args.from in
    let q = c.args.to in
    let W = c.args.ws.now in
    let N = c.fill.new.self in
    let room : q ≤ length W = omega (arith, c.requires) in
    let some : p + (q - p) ≡ q = omega arith in
    let part = length-take-le (q - p) (drop p W) (omega (arith, length-drop p W)) in
    let long : length N ≡ q - p = omega (arith, c.fill.ensures.len) in
    record {
      numbers = λ i a b. part-at W N p (q - p) q room some long i a b ∙ ap (λ L. get_or L (i - p) 0) (c.fill.ensures.after (λ y e. e))
          ∙ get_or-replicate _ (i - p) c.args.number 0 (omega arith);
      others = part-same W N p (q - p) q room some long;
    }
