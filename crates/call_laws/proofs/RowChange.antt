-- A row of a state that is changed: the points stay where the new row may take the old one's place.
use Prim.Native.Nat.{◌*◌, ◌+◌, ◌-◌, ◌<◌, ℕ}
use lib.IntN.{pos, ℤ}
use lib.ListN.{length-set}
use mathlib.Core.List.{List}
use mathlib.Core.Logic.{◌↔◌}
use mathlib.Core.Path.{◌∙◌, ◌≡◌}
use native.Mathlib.Omega.{arith}
use Rattle.integer.proofs.IndexLaws.{get_d-all, get_d-set-all}
use Rattle.integer.proofs.Parts.{zarith}
use Rattle.model.specs.Limits.{max_coef, max_rhs, min_coef, min_rhs}
use Rattle.model.specs.Model.{Model}
use Rattle.model.specs.Point.{InBox, InBoxOver, Meets, MeetsOver}
use Rattle.model.specs.Rows.{Row, Rows, row_at, row_of, set_row}
use Rattle.model.specs.State.{State, with_row}
use Rattle.model.specs.Valid.{Between, ValidModel}
use Rattle.model.proofs.RowsLaws.{at-row_of, fits, length-row_of, set_row-ind, set_row-length, set_row-same, splice_all}
use Rattle.row.specs.ValidRow.{ValidRow}
use Rattle.row.proofs.KindChangeLaws.{ReplacesRow}
use Rattle.call_laws.specs.Points.{FractionalPointOf, PointOf}

pub row-valid : (M : Model) (i : ℕ) → ValidModel M → i < M.m
    → let r = row_at M.n M.rows i in ValidRow M.n r.coefs r.rhs M.box
row-valid M i v h =
    let C = M.rows.coefs in
    let l = length-row_of M.n M.m C i v.coefs_len h in
    record {
      coefs = record {
        some = v.some;
        few = v.few;
        len = l;
        range = get_d-all (row_of M.n C i) (pos 0) (Between min_coef max_coef) (record { above = omega zarith; below = omega zarith })
            (λ j k. rw (at-row_of M.n C i j (omega arith)) (v.coefs (i * M.n + j)));
        box = v.box;
      };
      rhs = v.rhs i;
    }

pub with_row-same : (s : State) (i : ℕ) (r : Row) → r ≡ row_at s.model.n s.model.rows i → with_row s i r ≡ s
unfolding with_row
with_row-same s i r e = rw (set_row-same s.model.n s.model.rows i r e)

pub with_row-valid : (s : State) (i : ℕ) (r : Row) → ValidModel s.model → i < s.model.m
    → ValidRow s.model.n r.coefs r.rhs s.model.box → r.kind < 2 → ValidModel (with_row s i r).model
unfolding with_row set_row
with_row-valid s i r v im w k =
    let n = s.model.n in
    let A = s.model.rows in
    record {
      some = v.some;
      few = v.few;
      few_rows = v.few_rows;
      box = v.box;
      coefs_len = set_row-length n s.model.m A i r v.coefs_len v.rhs_len v.kinds_len im w.coefs.len;
      coefs = splice_all A.coefs r.coefs (i * n) (fits n s.model.m A i r v.coefs_len v.rhs_len v.kinds_len im w.coefs.len)
          (Between min_coef max_coef) v.coefs w.coefs.range;
      rhs_len = length-set A.rhs i r.rhs ∙ v.rhs_len;
      rhs = get_d-set-all A.rhs i r.rhs (pos 0) (Between min_rhs max_rhs) w.rhs v.rhs;
      kinds_len = length-set A.kinds i r.kind ∙ v.kinds_len;
      kinds = get_d-set-all A.kinds i r.kind 0 (λ z. z < 2) k v.kinds;
    }

-- r may take the old row's place: the integer points stay, and no fractional point is added
module _ (s : State) (i : ℕ) (r : Row) (v : ValidModel s.model) (im : i < s.model.m)
    (w : ReplacesRow s.model.n (row_at s.model.n s.model.rows i) r s.model.box) where
  abbrev n : ℕ
  n = s.model.n

  abbrev A : Rows
  A = s.model.rows

  row-points : (x : List ℤ) → InBox n s.model.box x → (k : ℕ) → k < s.model.m
      → Meets n (row_at n (set_row n A i r) k) x ↔ Meets n (row_at n A k) x
  row-points x q = set_row-ind n s.model.m A i r v.coefs_len v.rhs_len v.kinds_len im w.len
      (λ k t. Meets n t x ↔ Meets n (row_at n A k) x) (w.points q) (λ k h ne. ((λ p. p), (λ p. p)))

  pub with_row-points : (x : List ℤ) → PointOf (with_row s i r) x ↔ PointOf s x
  unfolding with_row
  with_row-points x = (
    (λ p. record { len = p.len; inside = p.inside; rows = λ k h. (row-points x p.inside k h).0 (p.rows k h) }),
    (λ p. record { len = p.len; inside = p.inside; rows = λ k h. (row-points x p.inside k h).1 (p.rows k h) }),
  )

  row-fractional : (x : List ℤ) (d : ℕ) → InBoxOver n s.model.box x d → (k : ℕ) → k < s.model.m
      → MeetsOver n (row_at n (set_row n A i r) k) x d → MeetsOver n (row_at n A k) x d
  row-fractional x d q = set_row-ind n s.model.m A i r v.coefs_len v.rhs_len v.kinds_len im w.len
      (λ k t. MeetsOver n t x d → MeetsOver n (row_at n A k) x d) (w.over q) (λ k h ne p. p)

  pub with_row-fractional : (x : List ℤ) (d : ℕ) → FractionalPointOf (with_row s i r) x d → FractionalPointOf s x d
  unfolding with_row
  with_row-fractional x d p =
      record { len = p.len; positive = p.positive; inside = p.inside; rows = λ k h. row-fractional x d p.inside k h (p.rows k h) }
