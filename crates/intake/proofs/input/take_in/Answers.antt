-- `intake::input::take_in`: the piece is shifted in, and stored where there is room (`held-stored`, `held-passed`).
use native.Mathlib.Omega.{arith}
use Rattle.intake.proofs.InputLaws.{held-passed, held-stored}
use Rattle.intake.proofs.input.take_in.Goals as goal

pub returns-then-piece-start : goal.returns-then-piece-start
returns-then-piece-start c =
    let a = c.args in
    λ bs h. rw (c.store.ensures, c.shift_in.ensures) (held-stored h a.piece.now (omega arith))

pub returns-else-piece-start : goal.returns-else-piece-start
returns-else-piece-start c =
    let a = c.args in
    λ bs h. rw c.shift_in.ensures (held-passed h a.piece.now (omega arith))

pub returns-else-len-start : goal.returns-else-len-start
returns-else-len-start c =
    let a = c.args in
    λ bs h. rw c.shift_in.ensures (held-passed h a.piece.now (omega arith))
