-- `tied_row::tie_row_at`: the part that is lent is row i, and it comes back in its place. Assumes nothing.
use lib.IntN.{ℤ}
use lib.ListN.{set}
use mathlib.Core.List.{List}
use mathlib.Core.Path.{◌∙◌, ap}
use Prim.Native.Nat.{◌*◌}
use Rattle.model.specs.Rows.{splice}
use Rattle.matrix.proofs.PartLaws.{part-is}
use Rattle.tied_row.proofs.SmallLaws.{length_part, part-back}
use Rattle.tied_row.proofs.tie_row_at.Goals as goal

pub tie_row-requires : goal.tie_row-requires
tie_row-requires c = rw (part-is c.args.i c.args.n c.args.coefs.now) c.requires.small_row

pub returns : goal.returns
returns c =
    let d = c.tie_row in
    let C = c.args.coefs.now in
    let i = c.args.i in
    let n = c.args.n in
    let told = rw (part-is i n C) at d.ensures in
    let len = rw (part-is i n C) at d.auto.coefs in
    record {
      row =
          part-back C d.new.coefs i n (len ∙ length_part C i n c.requires.n_in_bounds.0) ∙ ap (λ (A : List ℤ). splice C A (i * n)) told.row;
      rhs_tied = ap (set c.args.rhs.now i) told.rhs_tied;
    }
