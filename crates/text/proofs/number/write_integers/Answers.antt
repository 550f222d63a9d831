-- `text::number::write_integers` writes a field for each number, and no field is longer than 12 bytes.
use Rattle.std.proofs.Common.{arith, rules, ◌≡◌, length, FitsSigned, w32}
use Rattle.std.proofs.Math.Facts.{to_z-of_z}
use Rattle.model.specs.Box.{at}
use Rattle.text.specs.Fields.{fields}
use Rattle.text.specs.Text.{texts}
use Rattle.text.proofs.TextLaws.{texts-more, ◌⨾◌, wrote_none}
use Rattle.text.proofs.number.write_integers.Goals as goal

pub loop-x-init : goal.loop-x-init
unfolding texts
loop-x-init c = (omega arith, wrote_none _ _ (omega arith))

pub loop-x-preserved : goal.loop-x-preserved
loop-x-preserved c =
    let f : FitsSigned w32 (at c.args.xs.now c.loop-x.x-index) = search rules in
    (omega arith, rw texts-more (c.loop-x.invariant.1 ⨾ (simp to_z-of_z at c.write_integer-end.ensures.text)))

pub returns-clause-text : goal.returns-clause-text
unfolding fields
returns-clause-text c =
    let end : c.loop-x.x-index ≡ length c.args.xs.now = omega arith in
    rw end at c.loop-x.invariant.1
