-- `row_moves_prepared`: the part of the workspace that is row r has n words and says row r of the decoded rows (`part_length`, `part-row`).
-- Assumes nothing.
use Prim.Native.Nat.{ℕ}
use mathlib.Core.Path.{◌∙◌, ap₂}
use native.Mathlib.Omega.{arith}
use Rattle.model.specs.Rows.{Row}
use Rattle.row.specs.Kinds.{row_moves_of}
use Rattle.prepared_row.proofs.CalmLaws.{part_length, part-readable, part-row, row_room}
use Rattle.prepared_row.proofs.row_moves_prepared.Goals as goal

pub overflow_mul-start : goal.overflow_mul-start
overflow_mul-start c = omega (arith, row_room c.requires.0 c.args.r c.requires.1)

pub overflow_add-start : goal.overflow_add-start
overflow_add-start c = omega (arith, row_room c.requires.0 c.args.r c.requires.1)

pub overflow_add-start-2 : goal.overflow_add-start-2
overflow_add-start-2 c = omega (arith, row_room c.requires.0 c.args.r c.requires.1)

pub offset_bounds-ws-start : goal.offset_bounds-ws-start
offset_bounds-ws-start c = omega (arith, row_room c.requires.0 c.args.r c.requires.1)

pub slice_bounds-row_moves_packed-end : goal.slice_bounds-row_moves_packed-end
slice_bounds-row_moves_packed-end c = omega (arith, row_room c.requires.0 c.args.r c.requires.1, c.requires.0.len)

pub row_moves_packed-requires : goal.row_moves_packed-requires
row_moves_packed-requires c = part-readable c.requires.0 c.args.r c.requires.1

pub returns : goal.returns
returns c =
    let v = c.requires.0 in
    let r = c.args.r in
    let h = c.requires.1 in
    c.row_moves_packed.ensures ∙ ap₂ (λ (k : ℕ) (row : Row). row_moves_of k row c.args.bounds.now) (part_length v r h) (part-row v r h)
