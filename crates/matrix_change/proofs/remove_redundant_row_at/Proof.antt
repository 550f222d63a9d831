-- `matrix_change::remove_redundant_row_at` changes row r as the rule says: the part that is lent is the row, and it comes back in its place.
-- Assumes nothing.
use borrow.Author.Rules.{rules}
use Rattle.matrix.proofs.PartLaws.{part-is, row-changed}
use Rattle.matrix_change.proofs.remove_redundant_row_at.Statement.{statement}
use Rattle.matrix_change.proofs.remove_redundant_row_at.Tie as tie

mul-start : tie.Need-overflow_mul-start
mul-start c = search rules

add-end : tie.Need-overflow_add-end
add-end c = search rules

mul-remove-redundant-row : tie.Need-offset_bounds-coefs-start
mul-remove-redundant-row c = search rules

sub-remove-redundant-row : tie.Need-slice_bounds-remove_redundant_row-count
sub-remove-redundant-row c = search rules

part-remove-redundant-row-start : tie.Need-slice_bounds-remove_redundant_row-start
part-remove-redundant-row-start c = search rules

part-remove-redundant-row-end : tie.Need-slice_bounds-remove_redundant_row-end
part-remove-redundant-row-end c = search rules

mul-remove-redundant-row-2 : tie.Need-offset_bounds-rhs-r
mul-remove-redundant-row-2 c = search rules

index-1-remove-redundant-row : tie.Need-bounds-rhs-r
index-1-remove-redundant-row c = search rules

index-1-remove-redundant-row-2 : tie.Need-bounds-kinds-r
index-1-remove-redundant-row-2 c = search rules

remove-redundant-row-requires : tie.Need-remove_redundant_row-requires
remove-redundant-row-requires c κs =
    let s = c.before.before.before.before in
    rw (part-is s.args.r s.args.n s.args.coefs.now, s.requires.1.coefs.len) s.requires.1

same_length : tie.Need-shape_of-coefs
same_length c = search rules

same-length-2 : tie.Need-shape_of-rhs
same-length-2 c = search rules

same-length-3 : tie.Need-shape_of-kinds
same-length-3 c = search rules

returns : tie.Need-returns
returns c =
    let d = c.remove_redundant_row in
    let s = c.before.before.before.before.before.before in
    let a = s.args in
    let told = rw (part-is a.r a.n a.coefs.now, s.requires.1.coefs.len) at d.ensures in (
      told.0,
      row-changed a.coefs.now a.rhs.now a.kinds.now a.r a.n
          (rw (part-is a.r a.n a.coefs.now, s.requires.1.coefs.len) at d.auto.coefs) told.1,
    )

pub remove_redundant_row_at_spec : {M : Type 1} → statement M
remove_redundant_row_at_spec =
    tie.close
    (tie.spec
    mul-start
    add-end
    mul-remove-redundant-row
    sub-remove-redundant-row
    part-remove-redundant-row-start
    part-remove-redundant-row-end
    mul-remove-redundant-row-2
    index-1-remove-redundant-row
    index-1-remove-redundant-row-2
    remove-redundant-row-requires
    same_length
    same-length-2
    same-length-3
    returns)
