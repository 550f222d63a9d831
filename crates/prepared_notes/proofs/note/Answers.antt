-- `prepared_notes::note`: the invariant is `Noted`; a variable that differs is noted (`noted-next`), any other is passed over (`noted-still`).
-- Assumes nothing.
use Prim.Native.Nat.{◌<◌, ◌≤◌}
use lib.ListN.{length}
use mathlib.Core.Path.{◌∙◌}
use native.Mathlib.Omega.{arith}
use Rattle.prepared_notes.proofs.HeardLaws.{noted-all, noted-first, noted-next, noted-still}
use Rattle.prepared_notes.proofs.note.Goals as goal
use Rattle.prepared_notes.proofs.note.Goals.{then-differs_at, else-differs_at}

pub loop-j-init : goal.loop-j-init
loop-j-init c = noted-first _ _ _ _ _

pub differs_at-requires : goal.differs_at-requires
differs_at-requires c = (omega (arith, c.requires.old_len, c.loop-j.invariant.old_len), omega (arith, c.requires.new_len))

pub note_at-requires : goal.note_at-requires
note_at-requires c =
    let i = c.loop-j.invariant in
    let k : c.loop-j.j < length c.args.words.now = omega arith in
    (c.requires.len, omega (arith, c.requires.few), i.set_len ∙ c.requires.set, omega (arith, c.requires.old_len, i.old_len), omega (arith, c.requires.new_len))

pub overflow_add-j-in-loop-j : goal.overflow_add-j-in-loop-j
overflow_add-j-in-loop-j c = omega (arith, c.requires.few)

pub loop-j-preserved : goal.loop-j-preserved
loop-j-preserved c =
    let k : c.loop-j.j < length c.args.words.now = omega arith in
    elim c.if-differs_at.branch [
      | then-differs_at w ↦
          let call = w.note_at in
          rw (w.old-is, w.dirty-is) (noted-next c.requires c.loop-j.invariant k call.new.dirty call.ensures.left call.auto.old call.auto.dirty call.ensures.dirty)
      | else-differs_at w ↦ rw (w.old-is, w.dirty-is) (noted-still c.requires c.loop-j.invariant k (c.differs_at.ensures w.if-differs_at.false))
    ]

pub returns : goal.returns
returns c =
    let i = c.loop-j.invariant in
    let e : length c.args.words.now ≤ c.loop-j.j = omega arith in
    record { left = noted-all c.requires i e; dirty = λ r p z. let w = i.heard r p z in (w.0, λ k l. w.1 k (omega arith) l) }
