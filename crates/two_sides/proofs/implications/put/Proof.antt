-- `two_sides::implications::put` is put on a table with nothing counted: the byte is stored, and the answer goes by the old one.
-- Assumes nothing.
use borrow.Author.Rules.{rules}
use borrow.Author.Tests.{eq-eqb, ne_eqb}
use mathlib.Core.Path.{refl}
use native.Mathlib.Omega.{arith}
use Rattle.semantics.specs.Probe.{put}
use Rattle.two_sides.specs.Results.{table_of}
use Rattle.two_sides.proofs.implications.put.Statement.{statement}
use Rattle.two_sides.proofs.implications.put.Tie as tie

slice-read-old : tie.Need-bounds-table-i
slice-read-old c = search rules

slice-write-table : tie.Need-bounds-table-i-2
slice-write-table c = search rules

same_length : tie.Need-shape_of-table-then-old-eq0
same_length c = search rules

returns : tie.Need-returns-then-old-eq0
unfolding put table_of
returns c = (refl, rw (eq-eqb _ _ c.if-old-eq0.true) (omega arith))

same-length-2 : tie.Need-shape_of-table-else-old-eq0
same-length-2 c = search rules

returns-2 : tie.Need-returns-else-old-eq0
unfolding put table_of
returns-2 c = (refl, rw (ne_eqb _ _ c.if-old-eq0.false) (omega arith))

pub put_spec : {M : Type 1} → statement M
put_spec =
    tie.close
    (tie.spec slice-read-old slice-write-table same_length returns same-length-2 returns-2)
