-- `packed_row::propagate_row_packed`: the row that the words say is valid (`readable_row`), and `propagate_forms` propagates it.
-- Assumes nothing.
use Prim.Native.Nat.{◌%◌}
use borrow.Author.Rules.{rules}
use lib.IntN.{ℤ}
use lib.ListN.{length}
use mathlib.Core.Path.{◌∙◌, ◌≡◌, ap, subst⁻¹}
use mir.Facts.{to_z-of_z}
use mir.Syntax.{w32}
use mir.Val.{of_z, to_z}
use Rattle.model.specs.Rows.{row_with}
use Rattle.row.specs.Kinds.{propagate_row_of}
use Rattle.row.specs.ValidRow.{ValidRow}
use Rattle.packed_row.specs.Words.{coefs_from, rhs_of, row_of_words}
use Rattle.packed_row.proofs.PackedLaws.{readable_row}
use Rattle.packed_row.proofs.propagate_row_packed.Statement.{statement}
use Rattle.packed_row.proofs.propagate_row_packed.Tie as tie

right-side-requires : tie.Need-right_side-requires
right-side-requires c κs = search rules

rhs-is : (c : tie.After-right_side) → to_z w32 (of_z w32 c.right_side.result) ≡ rhs_of c.args.rhs_word
rhs-is c = to_z-of_z {w = w32} (record { sfits = c.right_side.type_inv }) ∙ c.right_side.ensures

propagate-forms-requires : tie.Need-propagate_forms-requires
propagate-forms-requires c κs =
    let s = c.before.before.before in
    let W = s.args.words.now in
    subst⁻¹ (λ (z : ℤ). ValidRow (length W) (coefs_from W 0) z s.args.bounds.now) (rhs-is c.before) (readable_row W s.args.rhs_word s.requires)

same_length : tie.Need-shape_of-bounds
same_length c = search rules

returns : tie.Need-returns
unfolding row_of_words
returns c =
    let t = c.before in
    let s = t.before.before.before.before in
    let W = s.args.words.now in
    t.propagate_forms.ensures
    ∙ ap (λ (z : ℤ). propagate_row_of (length W) (row_with (coefs_from W 0) z (s.args.rhs_word % 2)) s.args.bounds.now) (rhs-is t.before.before)

pub propagate_row_packed_spec : {M : Type 1} → statement M
propagate_row_packed_spec =
    tie.close (tie.spec right-side-requires propagate-forms-requires same_length returns)
