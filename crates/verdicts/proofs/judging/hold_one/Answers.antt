-- `verdicts::judging::hold_one`: a verdict that is told stays (`held-told`); else the row decides.
use mathlib.Core.Path.{◌∙◌, sym}
use mir.Facts.{to_z-of_z}
use Rattle.proposals.proofs.TellingLaws.{told-again, told-breaks}
use Rattle.proposals.proofs.VerdictLaws.{inside-case}
use Rattle.proposals.proofs.HeldLaws.{held-broken, held-met, held-told}
use Rattle.verdicts.proofs.judging.hold_one.Goals as goal

pub returns-then-verdicts-c-ne-INSIDE : goal.returns-then-verdicts-c-ne-INSIDE
returns-then-verdicts-c-ne-INSIDE c v t =
    let a = c.args in
    sym (told-again a.verdicts.now a.c _ (rw (held-told a.i _ v (λ e. c.if-verdicts-c-ne-INSIDE.true (t.case ∙ e))) t))

pub returns-then-not-meets_row : goal.returns-then-not-meets_row
returns-then-not-meets_row c v t =
    let f = c.ranges.b in
    c.tell.ensures
    ∙ told-breaks c.args.verdicts.now c.args.c
    (held-broken c.args.i ((inside-case v).0 (sym t.case ∙ c.if-verdicts-c-ne-INSIDE.false)) (sym (simp to_z-of_z at c.if-not-meets_row.ensures)))

pub returns-else-not-meets_row : goal.returns-else-not-meets_row
returns-else-not-meets_row c v t =
    let a = c.args in
    let f = c.ranges.b in
    sym (told-again a.verdicts.now a.c _
    (rw (held-met a.i ((inside-case v).0 (sym t.case ∙ c.if-verdicts-c-ne-INSIDE.false)) (sym (simp to_z-of_z at c.if-not-meets_row.ensures))) t))
