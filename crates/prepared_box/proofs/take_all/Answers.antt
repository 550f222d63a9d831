-- `prepared_box::take_all`: the invariant is `Copied` and `NotedKept` of the blocks so far, from the last on; a block is copied, and noted where a
-- bound differs. Assumes nothing.
use mathlib.Core.Path.{◌∙◌}
use native.Mathlib.Omega.{arith}
use Rattle.prepared_box.proofs.TakenLaws.{copied-join, copied_none, noted-down, noted-none, noted-same}
use Rattle.prepared_box.proofs.take_all.Goals as goal

pub loop-end-init : goal.loop-end-init
loop-end-init c = (omega arith, copied_none _, noted-none _)

pub copy_same-requires : goal.copy_same-requires
copy_same-requires c =
    let p = c.requires in
    let i = c.loop-end.invariant in
    (p.0, omega arith, omega (arith, p.1, i.0), omega (arith, p.3, i.0, i.1.len), omega (arith, p.4, i.0))

pub note_block-requires : goal.note_block-requires
note_block-requires c =
    let p = c.requires in
    let i = c.loop-end.invariant in
    (p.0, omega arith, omega (arith, p.1, i.0), i.2.set ∙ p.2, omega (arith, p.4, i.0))

pub loop-end-preserved-then-not-copy_same : goal.loop-end-preserved-then-not-copy_same
loop-end-preserved-then-not-copy_same c =
    let i = c.loop-end.invariant in (
      omega (arith, i.0),
      copied-join (omega arith) (omega arith) (omega (arith, i.0)) i.1 c.copy_same.ensures.copied,
      noted-down i.2 c.note_block.ensures,
    )

pub loop-end-preserved : goal.loop-end-preserved
loop-end-preserved c =
    let i = c.loop-end.invariant in (
      omega (arith, i.0),
      copied-join (omega arith) (omega arith) (omega (arith, i.0)) i.1 c.copy_same.ensures.copied,
      noted-down i.2 (noted-same (omega arith) (omega (arith, c.requires.1, i.0)) (c.copy_same.ensures.same c.if-not-copy_same.false)),
    )

pub copy_same-requires-2 : goal.copy_same-requires-2
copy_same-requires-2 c =
    let p = c.requires in
    let i = c.loop-end.invariant in
    (p.0, omega arith, omega (arith, p.1, i.0), omega (arith, p.3, i.0, i.1.len), omega (arith, p.4, i.0))

pub note_block-requires-then-not-copy_same-2 : goal.note_block-requires-then-not-copy_same-2
note_block-requires-then-not-copy_same-2 c =
    let p = c.requires in
    let i = c.loop-end.invariant in
    (p.0, omega arith, omega (arith, p.1, i.0), i.2.set ∙ p.2, omega (arith, p.4, i.0))

pub returns-then-not-copy_same-2 : goal.returns-then-not-copy_same-2
returns-then-not-copy_same-2 c =
    let i = c.loop-end.invariant in
    record {
      copied = copied-join (omega arith) (omega arith) (omega (arith, i.0)) i.1 c.copy_same-2.ensures.copied;
      noted = noted-down i.2 c.note_block-then-not-copy_same-2.ensures;
    }

pub returns-else-not-copy_same-2 : goal.returns-else-not-copy_same-2
returns-else-not-copy_same-2 c =
    let i = c.loop-end.invariant in
    record {
      copied = copied-join (omega arith) (omega arith) (omega (arith, i.0)) i.1 c.copy_same-2.ensures.copied;
      noted = noted-down i.2 (noted-same (omega arith) (omega (arith, c.requires.1, i.0)) (c.copy_same-2.ensures.same c.if-not-copy_same-2.false));
    }
