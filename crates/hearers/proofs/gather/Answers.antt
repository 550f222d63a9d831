-- `hearers::gather`: the sets hold the rows so far that hear of the variable (`column-more`). Assumes nothing.
use Prim.Native.Nat.{◌*◌, ◌+◌, ◌<◌, ◌≤◌, ℕ}
use borrow.Author.Count.{below_none}
use Rattle.std.proofs.Common.{rules}
use mathlib.Core.Path.{◌≡◌}
use mir.Facts.{to_z-of_z}
use mir.Syntax.{w32}
use mir.Val.{SFits}
use native.Mathlib.Nat.{mul-le-mul, mul-le-mul_right, suc-mul}
use native.Mathlib.Omega.{arith}
use Rattle.model.specs.Box.{at}
use Rattle.hearers.proofs.ColumnLaws.{column-more}
use Rattle.hearers.proofs.gather.Goals as goal

pub loop-r-init : goal.loop-r-init
loop-r-init c = record { rising = below_none _; falling = below_none _ }

-- the coefficient lies in the matrix
room : (n m r j k : ℕ) → j < n → n ≤ 128 → m ≤ 120 → k ≡ m * n → r < m → (r * n + j < k) × (k ≤ 15_360)
room n m r j k a b d e h =
    let all : m * n ≤ 120 * 128 = mul-le-mul d b in
    (omega (arith, mul-le-mul_right n h, suc-mul r n), omega arith)

pub overflow_mul-r : goal.overflow_mul-r
overflow_mul-r c = omega (arith, room c.args.n c.args.m c.loop-r.r c.args.j _ c.requires.0 c.requires.1 c.requires.2 c.requires.3 (omega arith))

pub overflow_add-r : goal.overflow_add-r
overflow_add-r c = omega (arith, room c.args.n c.args.m c.loop-r.r c.args.j _ c.requires.0 c.requires.1 c.requires.2 c.requires.3 (omega arith))

pub bounds-coefs-r : goal.bounds-coefs-r
bounds-coefs-r c = omega (arith, room c.args.n c.args.m c.loop-r.r c.args.j _ c.requires.0 c.requires.1 c.requires.2 c.requires.3 (omega arith))

pub loop-r-preserved : goal.loop-r-preserved
loop-r-preserved c =
    let C = c.args.coefs.now in
    let f : SFits w32 (at C (c.loop-r.r * c.args.n + c.args.j)) = search rules in
    let told = simp to_z-of_z at c.hear.ensures in
    column-more c.args.n c.loop-r.r C c.args.kinds.now c.args.j _ _ c.loop-r.invariant told.rising told.falling told.others
