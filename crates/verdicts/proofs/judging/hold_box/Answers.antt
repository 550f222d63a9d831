-- `verdicts::judging::hold_box`: the lowest variable outside the box is told, or that there is none.
use mathlib.Core.Path.{◌∙◌, ap, sym}
use native.Mathlib.Omega.{arith}
use Rattle.proposals.specs.Verdict.{outside_at}
use Rattle.proposals.proofs.TellingLaws.{told-inside, told-outside}
use Rattle.proposals.proofs.HeldLaws.{box-inside, box-outside}
use Rattle.verdicts.proofs.judging.hold_box.Goals as goal

pub returns-then-j-n : goal.returns-then-j-n
returns-then-j-n c =
    c.tell.ensures
    ∙ told-outside c.args.verdicts.now c.args.c
    (box-outside c.args.n c.args.bounds.now c.args.x.now (omega (arith, c.first_outside-j.ensures))
    ∙ ap outside_at (sym c.first_outside-j.ensures))

pub returns : goal.returns
returns c =
    c.tell-2.ensures
    ∙ told-inside c.args.verdicts.now c.args.c
    (box-inside c.args.n c.args.bounds.now c.args.x.now (omega (arith, c.first_outside-j.ensures)))
