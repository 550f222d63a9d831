-- `rest::is_infeasible`: the answer's tag is the ending. Assumes nothing.
use borrow.Author.Rules.{rules}
use mathlib.Core.List.{[]}
use mathlib.Core.Path.{sym}
use Rattle.semantics.specs.Propagate.{is_none}
use Rattle.propagation.specs.Results.{propagation_of}
use Rattle.probe_side.proofs.SideLaws.{is_some}
use Rattle.rest.proofs.is_infeasible.Statement.{statement}
use Rattle.rest.proofs.is_infeasible.Tie as tie

enum_told : tie.Need-enum_told-1
enum_told c = search rules

returns : tie.Need-returns-in_default
returns c = sym (is_some c.args.p [] c.in_default.in_default-own.keys2)

returns-2 : tie.Need-returns
unfolding propagation_of is_none
returns-2 c = rw c.in-Infeasible.is

pub is_infeasible_spec : {M : Type 1} → statement M
is_infeasible_spec = tie.close (tie.spec enum_told returns returns-2)
