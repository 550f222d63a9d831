-- `pack::pack_rows`: the words of the rows so far say them, and nothing else was written (`rows_more`). Assumes nothing.
use Prim.Native.Nat.{◌*◌, ◌+◌, ◌<◌, ◌≤◌}
use borrow.Author.Count.{below_none}
use lib.ListN.{length}
use mathlib.Core.Path.{◌∙◌, ◌≡◌}
use native.Mathlib.Nat.{mul-le-mul_right}
use native.Mathlib.Omega.{arith}
use Rattle.prepared_model.specs.Layout.{row_words}
use Rattle.prepared_model.proofs.KeptLaws.{same_none, same-wider}
use Rattle.pack.proofs.PackLaws.{length-row, row-range, row_room, rows_more, rows_same}
use Rattle.pack.proofs.pack_rows.Goals as goal

pub loop-r-init : goal.loop-r-init
loop-r-init c = (same-wider (omega arith) (same_none 1_408 c.args.ws.now), below_none _)

pub coefficients-requires : goal.coefficients-requires
coefficients-requires c =
    (row_room c.args.n c.args.m c.loop-r.r c.args.coefs.now c.requires.0 c.requires.1 c.requires.2 (omega arith)).0

pub overflow_mul-r : goal.overflow_mul-r
overflow_mul-r c =
    omega (arith, row_room c.args.n c.args.m c.loop-r.r c.args.coefs.now c.requires.0 c.requires.1 c.requires.2 (omega arith))

pub overflow_add-r : goal.overflow_add-r
overflow_add-r c =
    omega (arith, row_room c.args.n c.args.m c.loop-r.r c.args.coefs.now c.requires.0 c.requires.1 c.requires.2 (omega arith))

pub pack_row-requires : goal.pack_row-requires
pack_row-requires c =
    let C = c.args.coefs.now in
    let n = c.args.n in
    let m = c.args.m in
    let r = c.loop-r.r in
    let in_rows : r < m = omega arith in
    let long = length-row n m r C c.requires.0 c.requires.1 c.requires.2 in_rows in
    rw c.coefficients.ensures (
      omega (arith, long, c.requires.0),
      row-range n m r C c.requires.0 c.requires.1 c.requires.2 in_rows c.requires.3,
      omega (arith, long, row_room n m r C c.requires.0 c.requires.1 c.requires.2 in_rows),
      c.loop-r.invariant.0.len ∙ c.requires.4,
    )

pub loop-r-preserved : goal.loop-r-preserved
unfolding row_words
loop-r-preserved c =
    let C = c.args.coefs.now in
    let n = c.args.n in
    let m = c.args.m in
    let r = c.loop-r.r in
    let in_rows : r < m = omega arith in
    let part = c.coefficients.ensures in
    let long = length-row n m r C c.requires.0 c.requires.1 c.requires.2 in_rows in
    let row = rw (part, long) at c.pack_row.ensures.row in
    let others = rw (part, long) at c.pack_row.ensures.others in
    let fits : 1_408 + r * n + n ≤ length c.args.ws.now = omega (arith, row_room n m r C c.requires.0 c.requires.1 c.requires.2 in_rows, c.requires.4) in (
      rows_same n r C _ _ _ fits c.loop-r.invariant.0 others,
      rows_more n r C _ _ _ fits c.loop-r.invariant.0 others c.loop-r.invariant.1 row,
    )

pub returns : goal.returns
returns c =
    let all : c.args.m * c.args.n ≤ 120 * c.args.n = mul-le-mul_right c.args.n c.requires.1 in
    let end : c.loop-r.r ≡ c.args.m = omega arith in
    record {
      rows = λ r k. c.loop-r.invariant.1 r (omega arith);
      others = same-wider (omega (arith, c.requires.0)) (rw end at c.loop-r.invariant.0);
    }
