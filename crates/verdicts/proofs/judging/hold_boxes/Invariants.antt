-- `verdicts::judging::hold_boxes`: the invariant says that the verdicts so far are told.
use Prim.Native.Nat.{◌<◌, ℕ}
use Rattle.proposals.specs.Proposals.{proposal}
use Rattle.proposals.specs.Telling.{Says, box_verdict}
use Rattle.verdicts.proofs.judging.hold_boxes.Given as goal

abbrev pub invariant-loop-c : goal.invariant-loop-c
invariant-loop-c l = (d : ℕ) → d < l.c → Says l.verdicts d (box_verdict l.n l.bounds (proposal l.n l.proposals d))
