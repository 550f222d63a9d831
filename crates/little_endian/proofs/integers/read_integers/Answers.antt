-- `little_endian::integers::read_integers`: after k turns the first k numbers are overwritten by those read. Assumes nothing.
use Prim.Native.Nat.{◌*◌, ◌+◌, ℕ}
use lib.IntN.{ℤ}
use lib.ListN.{length}
use mathlib.Core.List.{List, [], ◌∷◌}
use mathlib.Core.Path.{◌∙◌, ◌≡◌, ap₂}
use mir.Facts.{to_z-of_z}
use mir.Syntax.{w32}
use mir.Val.{SFits}
use native.Mathlib.Omega.{arith}
use Rattle.little_endian.specs.Bytes.{integer_at, integers_at}
use Rattle.little_endian.specs.Pieces.{overwrite}
use Rattle.little_endian.proofs.ByteLaws.{length-integers_at}
use Rattle.little_endian.proofs.PieceLaws.{length-list_of, overwrite-all, overwrite-one, overwrite-start, overwrite-turn}
use Rattle.little_endian.proofs.integers.read_integers.Goals as goal

pub loop-k-init : goal.loop-k-init
unfolding integers_at
loop-k-init c = overwrite-start 0 _ _

pub overflow_mul-k : goal.overflow_mul-k
overflow_mul-k c = omega (arith, c.requires c.loop-k.k (omega arith))

pub overflow_add-at : goal.overflow_add-at
overflow_add-at c = omega (arith, c.requires c.loop-k.k (omega arith))

pub read_i32-requires : goal.read_i32-requires
read_i32-requires c = c.requires c.loop-k.k (omega arith)

pub loop-k-preserved : goal.loop-k-preserved
unfolding integers_at
loop-k-preserved c =
    let a = c.args in
    let k = c.loop-k.k in
    let f : ℕ → List ℤ = λ i. integer_at (a.at + i * a.step) a.bytes.now ∷ [] in
    let fx : SFits w32 c.read_i32.result = record { sfits = c.read_i32.type_inv } in
    overwrite-one k _ c.loop-k.xs (omega arith)
    ∙ ap₂ (λ (z : ℤ) (ys : List ℤ). overwrite k (z ∷ []) ys) (to_z-of_z fx ∙ c.read_i32.ensures) c.loop-k.invariant
    ∙ overwrite-turn 0 k k f a.xs.now (omega (arith, length-list_of k (λ i. integer_at (a.at + i * a.step) a.bytes.now))) (omega arith)

pub returns : goal.returns
returns c =
    let a = c.args in
    let end : c.loop-k.k ≡ length a.xs.now = omega arith in
    rw end at c.loop-k.invariant
    ∙ overwrite-all (integers_at a.at a.step (length a.xs.now) a.bytes.now) a.xs.now (length-integers_at a.at a.step (length a.xs.now) a.bytes.now)
