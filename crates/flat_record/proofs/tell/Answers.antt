-- `flat_record::tell`: place i is set, and beyond the end nothing is (`set_out`). Assumes nothing.
use borrow.Author.Rules.{rules}
use lib.ListN.{set}
use lib.Seq.{set_out}
use mathlib.Core.Path.{ap, sym}
use Rattle.flat_record.proofs.tell.Goals as goal

pub returns-then-i-classes : goal.returns-then-i-classes
returns-then-i-classes c = let a = c.args in ap (set a.classes.now a.i) c.class_byte.ensures

pub returns-else-i-classes : goal.returns-else-i-classes
returns-else-i-classes c = let a = c.args in sym (set_out a.classes.now a.i _ c.if-i-classes.false)
