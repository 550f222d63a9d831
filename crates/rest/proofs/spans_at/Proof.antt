-- `rest::spans_at`: a variable that is not free asks for nothing. Assumes nothing.
use borrow.Author.Rules.{rules}
use mathlib.Core.Bool.{true}
use mathlib.Core.Path.{◌≡◌, refl}
use native.Mathlib.Omega.{arith}
use Rattle.integer.proofs.Tests.{told-false, told-true, true→T}
use Rattle.model.specs.Box.{is_free}
use Rattle.rest.proofs.spans_at.Statement.{statement}
use Rattle.rest.proofs.spans_at.Tie as tie

free-is : (c : tie.Else-not-is_free) → let s = c.before.before.before.before.before.before in is_free s.args.bounds.now s.args.k ≡ true
free-is c = told-true _ c.is_free.ensures c.if-not-is_free.false-raw

is-free-requires : tie.Need-is_free-requires
is-free-requires c κs = let s = c.before.before.before.before in omega (arith, s.requires.0.box.len, s.requires.1.0)

returns : tie.Need-returns-then-not-is_free
returns c = (rw (told-false _ c.is_free.ensures c.if-not-is_free.true-raw) refl, c.requires.1.1.index)

sides-span-requires : tie.Need-sides_span-requires
sides-span-requires c κs =
    let p = c.requires in
    (p.0, (true→T _ (free-is c.before.before), (p.1.0, p.1.1)))

same_length : tie.Need-shape_of-across
same_length c = search rules

same-length-2 : tie.Need-shape_of-signs
same-length-2 c = search rules

returns-2 : tie.Need-returns
returns-2 c =
    let e = c.sides_span.ensures in
    (rw (free-is c.before.before.before.before.before.before.before) e.0, e.1)

pub spans_at_spec : {M : Type 1} → statement M
spans_at_spec =
    tie.close
    (tie.spec
    is-free-requires
    returns
    sides-span-requires
    same_length
    same-length-2
    returns-2)
