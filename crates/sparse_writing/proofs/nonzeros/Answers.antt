-- `sparse_writing::nonzeros`: a number counts as one if it is not 0 (`counted`). Assumes nothing.
use Rattle.std.proofs.Common.{length, cond, not, eqb, ◌≡◌, refl, of_z, w32, SFits, arith, rules}
use mir.Val.{bool_byte}
use Rattle.model.specs.Box.{at}
use Rattle.sparse_layout.specs.SparseBook.{is_zero, nonzeros}
use Rattle.sparse_layout.proofs.RowLaws.{nonzeros-le}
use Rattle.sparse_layout.proofs.WritingLaws.{at_most_one, counted, nonzeros-more}
use Rattle.sparse_writing.proofs.nonzeros.Goals as goal

pub loop-x-init : goal.loop-x-init
unfolding nonzeros
loop-x-init c = refl

-- the number that the code adds
pub overflow_add-count : goal.overflow_add-count
overflow_add-count c =
    let z = at c.args.xs.now c.loop-x.x-index in
    let fx : SFits w32 z = search rules in
    let one : bool_byte (not (eqb (of_z w32 z) 0)) ≡ cond (is_zero z) 0 1 = counted _ fx in
    rw one (omega (arith, at_most_one (is_zero z), nonzeros-le c.loop-x.x-index (at c.args.xs.now)))

pub loop-x-preserved : goal.loop-x-preserved
loop-x-preserved c =
    let f = at c.args.xs.now in
    let i = c.loop-x.x-index in
    let fx : SFits w32 (f i) = search rules in
    let one : bool_byte (not (eqb (of_z w32 (f i)) 0)) ≡ cond (is_zero (f i)) 0 1 = counted _ fx in
    omega (arith, nonzeros-more f i)

pub returns : goal.returns
returns c =
    let end : c.loop-x.x-index ≡ length c.args.xs.now = omega arith in
    rw end at c.loop-x.invariant
