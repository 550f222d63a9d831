-- `matrix_change::tighten_coefficient_at` changes row r as the rule says: the part that is lent is the row, and it comes back in its place.
-- Assumes nothing.
use borrow.Author.Rules.{rules}
use Rattle.matrix.proofs.PartLaws.{part-is, row-changed-kept}
use Rattle.matrix_change.proofs.tighten_coefficient_at.Statement.{statement}
use Rattle.matrix_change.proofs.tighten_coefficient_at.Tie as tie

mul-start : tie.Need-overflow_mul-start
mul-start c = search rules

add-end : tie.Need-overflow_add-end
add-end c = search rules

mul-tighten-coefficient : tie.Need-offset_bounds-coefs-start
mul-tighten-coefficient c = search rules

sub-tighten-coefficient : tie.Need-slice_bounds-tighten_coefficient-count
sub-tighten-coefficient c = search rules

part-tighten-coefficient-start : tie.Need-slice_bounds-tighten_coefficient-start
part-tighten-coefficient-start c = search rules

part-tighten-coefficient-end : tie.Need-slice_bounds-tighten_coefficient-end
part-tighten-coefficient-end c = search rules

mul-tighten-coefficient-2 : tie.Need-offset_bounds-rhs-r
mul-tighten-coefficient-2 c = search rules

index-1-tighten-coefficient : tie.Need-bounds-rhs-r
index-1-tighten-coefficient c = search rules

shared-slice-read-tighten-coefficient : tie.Need-bounds-kinds-r
shared-slice-read-tighten-coefficient c = search rules

tighten-coefficient-requires : tie.Need-tighten_coefficient-requires
tighten-coefficient-requires c κs =
    let s = c.before.before.before.before in
    let v = s.requires.0.1 in
    rw (part-is s.args.r s.args.n s.args.coefs.now, v.coefs.len) (v, s.requires.1)

same_length : tie.Need-shape_of-coefs
same_length c = search rules

same-length-2 : tie.Need-shape_of-rhs
same-length-2 c = search rules

returns : tie.Need-returns
returns c =
    let d = c.tighten_coefficient in
    let s = c.before.before.before.before.before.before in
    let a = s.args in
    let v = s.requires.0.1 in
    let told = rw (part-is a.r a.n a.coefs.now, v.coefs.len) at d.ensures in (
      told.0,
      row-changed-kept a.coefs.now a.rhs.now a.kinds.now a.r a.n
          (rw (part-is a.r a.n a.coefs.now, v.coefs.len) at d.auto.coefs) told.1,
    )

pub tighten_coefficient_at_spec : {M : Type 1} → statement M
tighten_coefficient_at_spec =
    tie.close
    (tie.spec
    mul-start
    add-end
    mul-tighten-coefficient
    sub-tighten-coefficient
    part-tighten-coefficient-start
    part-tighten-coefficient-end
    mul-tighten-coefficient-2
    index-1-tighten-coefficient
    shared-slice-read-tighten-coefficient
    tighten-coefficient-requires
    same_length
    same-length-2
    returns)
