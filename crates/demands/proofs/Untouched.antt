-- What a tightening and a removal leave as it was: every other row, the box and the table; by what setting a row leaves of the rows.
use Prim.Native.Nat.{◌-◌, ◌<◌}
use lib.ListN.{length}
use lib.Seq.{set-get_or}
use mathlib.Core.Path.{◌∙◌, ◌≡◌, refl}
use Rattle.model.specs.Rows.{Row, row_at, set_row}
use Rattle.model.specs.State.{State, with_row}
use Rattle.model.specs.Valid.{ValidModel}
use Rattle.model.proofs.RowsLaws.{length-row_of, set_row-coef, set_row-coefs, set_row-kinds, set_row-rhs}
use Rattle.row.specs.KindChanges.{remove_row_of, tighten_row_of}
use Rattle.row.proofs.KindChangeLaws.{remove-kinded-replaces, tighten-kinded-kind, tighten-kinded-length, tighten-kinded-other}
use Rattle.semantics.specs.Call.{Call, removal, tightening}
use Rattle.semantics.specs.Perform.{act}
use Rattle.demands.specs.Demand2.{Untouched}

module _ (s : State) (c : Call) (v : ValidModel s.model) (rm : c.row < s.model.m) where
  abbrev old : Row
  old = row_at s.model.n s.model.rows c.row

  old-length : length old.coefs ≡ s.model.n
  old-length = length-row_of s.model.n s.model.m s.model.rows.coefs c.row v.coefs_len rm

  pub tightening-untouched : Untouched tightening s c (act tightening s c).state
  unfolding Untouched act with_row set_row
  tightening-untouched =
      let q = (tighten_row_of s.model.n old s.model.box c.variable).row in
      let len : length q.coefs ≡ s.model.n = tighten-kinded-length s.model.n old s.model.box c.variable ∙ old-length in (
        refl,
        refl,
        set_row-coef s.model.n s.model.m s.model.rows c.row q v.coefs_len v.rhs_len v.kinds_len rm len c.variable
            (λ j. tighten-kinded-other s.model.n old s.model.box c.variable j),
        set_row-rhs s.model.n s.model.m s.model.rows c.row q v.coefs_len v.rhs_len v.kinds_len rm len,
        rw (tighten-kinded-kind s.model.n old s.model.box c.variable) (set-get_or s.model.rows.kinds c.row 0),
      )

  pub removal-untouched : Untouched removal s c (act removal s c).state
  unfolding Untouched act with_row
  removal-untouched =
      let q = (remove_row_of s.model.n old s.model.box).row in
      let len = (remove-kinded-replaces s.model.n old s.model.box old-length).len in (
        refl,
        refl,
        set_row-coefs s.model.n s.model.m s.model.rows c.row q v.coefs_len v.rhs_len v.kinds_len rm len,
        set_row-rhs s.model.n s.model.m s.model.rows c.row q v.coefs_len v.rhs_len v.kinds_len rm len,
        set_row-kinds s.model.n s.model.m s.model.rows c.row q v.coefs_len v.rhs_len v.kinds_len rm len,
      )
