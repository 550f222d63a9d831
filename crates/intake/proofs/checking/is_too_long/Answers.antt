-- `intake::checking::is_too_long`: from 2³² on no trailer gives the length (`too_long`).
use borrow.Author.Tests.{leb-false, leb-true}
use Rattle.intake.specs.Checks.{too_long}
use Rattle.intake.proofs.CheckLaws.{too_long_lem}
use Rattle.intake.proofs.checking.is_too_long.Goals as goal

pub returns : goal.returns
returns c =
    let len = c.args.len in
    record { refused = λ e. too_long_lem len (leb-true too_long len e); within = λ e. leb-false too_long len e }
