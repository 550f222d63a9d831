-- `reasons::blame`: the invariant is `Blamed`; both numbers of a variable that is read are written (`blamed-next`), those between two
-- such are as they were. Nothing is told to an empty list (`blame-none`). Assumes nothing.
use Prim.Native.Nat.{◌<◌}
use lib.ListN.{length}
use mathlib.Core.Path.{sym}
use native.Mathlib.Omega.{arith}
use borrow.Author.Tests.{eqb-false, eqb-true}
use Rattle.prepared_model.proofs.RowReasonLaws.{blame-none}
use Rattle.prepared_row.proofs.BlameLaws.{blamed-all, blamed-first, blamed-next}
use Rattle.prepared_row.proofs.reasons.blame.Goals as goal

pub returns-then-is_empty : goal.returns-then-is_empty
returns-then-is_empty c = blame-none _ _ _ _ (eqb-true _ _ (sym c.if-is_empty.ensures))

pub loop-j-init : goal.loop-j-init
loop-j-init c = blamed-first _ _ _ _ c.requires.lent (eqb-false _ _ (sym c.if-is_empty.ensures))

pub blame_bound-requires : goal.blame_bound-requires
blame_bound-requires c =
    let v = c.requires in
    let i = c.loop-j.invariant in
    (omega (arith, v.old_len), omega (arith, v.new_len), omega (arith, i.full, i.len))

pub blame_bound-requires-in-loop-j : goal.blame_bound-requires-in-loop-j
blame_bound-requires-in-loop-j c =
    let v = c.requires in
    let i = c.loop-j.invariant in
    (omega (arith, v.old_len), omega (arith, v.new_len), omega (arith, i.full, i.len, c.blame_bound.auto.reasons))

pub overflow_add-j-in-loop-j-2 : goal.overflow_add-j-in-loop-j-2
overflow_add-j-in-loop-j-2 c = omega (arith, c.requires.few)

pub loop-j-preserved : goal.loop-j-preserved
loop-j-preserved c =
    let one = c.blame_bound in
    let two = c.blame_bound-in-loop-j in
    let k : c.loop-j.j < length c.args.words.now = omega arith in
    blamed-next c.requires c.loop-j.invariant k one.ensures two.ensures one.auto.reasons two.auto.reasons

pub returns : goal.returns
returns c = blamed-all c.loop-j.invariant (omega arith)
