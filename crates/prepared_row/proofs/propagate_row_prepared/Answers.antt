-- `propagate_row_prepared`: the part of the workspace that is row r has n words and says row r of the decoded rows (`part_length`, `part-row`).
-- Assumes nothing.
use Prim.Native.Nat.{ℕ}
use mathlib.Core.Path.{◌∙◌, ap₂, sym}
use native.Mathlib.Omega.{arith}
use Rattle.model.specs.Rows.{Row}
use Rattle.prepared_model.specs.Layout.{decode}
use Rattle.prepared_model.specs.RowReasons.{row_reasons}
use Rattle.row.specs.Kinds.{propagate_row_of}
use Rattle.prepared_row.proofs.CalmLaws.{part_length, part-looking, part-row, row_room}
use Rattle.prepared_row.proofs.propagate_row_prepared.Goals as goal

pub overflow_mul-start : goal.overflow_mul-start
overflow_mul-start c = omega (arith, row_room c.requires.0.sized c.args.r c.requires.1)

pub overflow_add-start : goal.overflow_add-start
overflow_add-start c = omega (arith, row_room c.requires.0.sized c.args.r c.requires.1)

pub overflow_add-start-2 : goal.overflow_add-start-2
overflow_add-start-2 c = omega (arith, row_room c.requires.0.sized c.args.r c.requires.1)

pub offset_bounds-ws-start : goal.offset_bounds-ws-start
offset_bounds-ws-start c = omega (arith, row_room c.requires.0.sized c.args.r c.requires.1)

pub slice_bounds-propagate_row_noted-end : goal.slice_bounds-propagate_row_noted-end
slice_bounds-propagate_row_noted-end c = omega (arith, row_room c.requires.0.sized c.args.r c.requires.1, c.requires.0.sized.len)

pub propagate_row_noted-requires : goal.propagate_row_noted-requires
propagate_row_noted-requires c =
    (part-looking c.requires.0 c.args.r c.requires.1, rw (part_length c.requires.0.sized c.args.r c.requires.1) c.requires.2)

pub returns : goal.returns
returns c =
    let v = c.requires.0 in
    let r = c.args.r in
    let h = c.requires.1 in
    let B = c.args.bounds.now in
    let told = c.propagate_row_noted.ensures in
    let long = part_length v.sized r h in
    let is = part-row v.sized r h in
    record {
      propagated = told.propagated ∙ ap₂ (λ (k : ℕ) (row : Row). propagate_row_of k row B) long is;
      known = λ p. told.known (rw long p);
      calm = λ hearers calm. (rw long at told.calm) c.args.m (decode c.args.n c.args.m c.args.ws.now) (omega (arith, v.sized.few_rows)) (sym is) hearers calm;
      reasons = told.reasons ∙ ap₂ (λ (k : ℕ) (row : Row). row_reasons r B (propagate_row_of k row B) c.args.reasons.now) long is;
    }
