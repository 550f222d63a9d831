-- `little_endian::integers::write_integers`: after k turns the bytes of the first k numbers are written. Assumes nothing.
use Prim.Native.Nat.{◌*◌, ◌+◌, ℕ}
use lib.IntN.{ℤ}
use lib.ListN.{length}
use mathlib.Core.List.{List}
use mathlib.Core.Path.{◌∙◌, ◌≡◌, ap₂}
use borrow.Author.Rules.{rules}
use mir.Facts.{to_z-of_z}
use mir.Syntax.{w32}
use mir.Val.{SFits}
use native.Mathlib.Omega.{arith}
use Rattle.model.specs.Box.{at}
use Rattle.little_endian.specs.Bytes.{integer_bytes, integers_bytes}
use Rattle.little_endian.specs.Pieces.{overwrite}
use Rattle.little_endian.proofs.ByteLaws.{length-integer_bytes}
use Rattle.little_endian.proofs.PieceLaws.{length-joined, overwrite-start, overwrite-turn}
use Rattle.little_endian.proofs.integers.write_integers.Invariants.{piece}
use Rattle.little_endian.proofs.integers.write_integers.Goals as goal

pub loop-k-init : goal.loop-k-init
loop-k-init c = overwrite-start _ _ _

pub loop-k-preserved : goal.loop-k-preserved
loop-k-preserved c =
    let a = c.args in
    let k = c.loop-k.k in
    let xs = a.xs.now in
    let l = length-joined k 4 (piece xs) (λ i _. length-integer_bytes (at xs i)) in
    let fx : SFits w32 (at xs k) = search rules in
    c.write_i32.ensures
    ∙ ap₂ (λ (z : ℤ) (bs : List ℕ). overwrite (a.at + k * 4) (integer_bytes z) bs) (to_z-of_z fx) c.loop-k.invariant
    ∙ overwrite-turn a.at (a.at + k * 4) k (piece xs) a.bytes.now (omega (arith, l)) (omega (arith, length-integer_bytes (at xs k)))

pub returns : goal.returns
unfolding integers_bytes
returns c =
    let end : c.loop-k.k ≡ length c.args.xs.now = omega arith in
    rw end at c.loop-k.invariant
