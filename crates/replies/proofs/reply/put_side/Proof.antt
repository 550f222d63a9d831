-- `replies::reply::put_side`: three stores. Assumes nothing.
use borrow.Author.Rules.{rules}
use lib.ListN.{length-set}
use native.Mathlib.Omega.{arith}
use Rattle.replies.proofs.reply.put_side.Statement.{statement}
use Rattle.replies.proofs.reply.put_side.Tie as tie

cast-answer : tie.Need-overflow_cast-answer
cast-answer c = search rules

mul-answer : tie.Need-offset_bounds-answer-at
mul-answer c = search rules

slice-write-answer : tie.Need-bounds-answer-at
slice-write-answer c = search rules

bit-requires : tie.Need-bit-requires
bit-requires c κs = search rules

add-answer : tie.Need-overflow_add-answer
add-answer c = search rules

mul-answer-2 : tie.Need-offset_bounds-answer-at-2
mul-answer-2 c = search rules

slice-write-answer-2 : tie.Need-bounds-answer-at-2
slice-write-answer-2 c = simp length-set (omega arith)

cast-answer-2 : tie.Need-overflow_cast-answer-2
cast-answer-2 c = search rules

add-answer-2 : tie.Need-overflow_add-answer-2
add-answer-2 c = search rules

mul-answer-3 : tie.Need-offset_bounds-answer-at-3
mul-answer-3 c = search rules

slice-write-answer-3 : tie.Need-bounds-answer-at-3
slice-write-answer-3 c = search rules

same_length : tie.Need-shape_of-answer
same_length c = search rules

returns : tie.Need-returns
returns c = rw c.bit.ensures

pub put_side_spec : {M : Type 1} → statement M
put_side_spec =
    tie.close
    (tie.spec
    cast-answer
    mul-answer
    slice-write-answer
    bit-requires
    add-answer
    mul-answer-2
    slice-write-answer-2
    cast-answer-2
    add-answer-2
    mul-answer-3
    slice-write-answer-3
    same_length
    returns)
