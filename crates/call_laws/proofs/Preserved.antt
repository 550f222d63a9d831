-- What every call, accepted or refused, and so every run keeps: the integer points, a valid state, recorded implications that
-- hold; and no fractional point is added.
use Prim.Native.Nat.{◌<◌, ℕ}
use lib.IntN.{pos, ℤ}
use lib.ListN.{length}
use mathlib.Core.List.{List, [], ◌∷◌}
use mathlib.Core.Logic.Iff
use mathlib.Core.Logic.{◌↔◌, ⊎_elim}
use mathlib.Core.Path.{◌∙◌, ◌≡◌, refl, subst, sym}
use Rattle.integer.proofs.Parts.{mul_mono, zarith}
use Rattle.model.specs.Box.{Inside, NonEmpty}
use Rattle.model.specs.Point.{InBoxOver}
use Rattle.model.specs.Rows.{Row, row_at}
use Rattle.model.specs.State.{State, with_box, with_row}
use Rattle.model.specs.Valid.{ValidBox, ValidModel, ValidState}
use Rattle.model.proofs.BoxLaws.{inside-trans, not-in-empty, ≤ℤ-trans}
use Rattle.model.proofs.RowsLaws.{length-row_of}
use Rattle.row.specs.ValidRow.{ValidRow}
use Rattle.row.proofs.ImpliedBoxLaws.{valid-empty, valid-inside}
use Rattle.row.proofs.PointBox.{Inside→in, in→Inside, non_empty-at}
use Rattle.row.proofs.KindChangeLaws.{ReplacesRow, remove-kinded-kind, remove-kinded-replaces, remove-kinded-valid, tighten-kinded-kind, tighten-kinded-replaces, tighten-kinded-valid}
use Rattle.row.proofs.PropagationLaws.{empty-no-point}
use Rattle.semantics.specs.Call.{Call, Kind, has_row, has_variable, is_unknown, kind_of, narrows, probing, propagation, removal, row_propagation, tightening, unknown}
use Rattle.semantics.specs.Perform.{act}
use Rattle.semantics.specs.Run.{run, step}
use Rattle.call_laws.specs.Points.{FractionalPointOf, PointOf, TableHolds}
use Rattle.call_laws.proofs.Accepted.{Accepted, accepted}
use Rattle.call_laws.proofs.CallLaws.{Narrowed, NarrowedTo, act-narrowed, point-probed, step-ind}
use Rattle.call_laws.proofs.RowChange.{row-valid, with_row-fractional, with_row-points, with_row-valid}

pub record Preserves (s r : State) : Type 0 where
  pub sizes : (r.model.n ≡ s.model.n) × (r.model.m ≡ s.model.m)
  pub points : (x : List ℤ) → PointOf r x ↔ PointOf s x
  pub fractional : (x : List ℤ) (d : ℕ) → FractionalPointOf r x d → FractionalPointOf s x d
  pub holds : (x : List ℤ) → PointOf s x → TableHolds s.model.n s.table x → TableHolds r.model.n r.table x
  pub valid : ValidState s → ValidState r

pub preserves-refl : (s : State) → Preserves s s
preserves-refl s =
    record { sizes = (refl, refl); points = λ x. ((λ p. p), (λ p. p)); fractional = λ x d p. p; holds = λ x p i. i; valid = λ v. v }

pub preserves-trans : {s r u : State} → Preserves s r → Preserves r u → Preserves s u
preserves-trans p q = record {
  sizes = (q.sizes.0 ∙ p.sizes.0, q.sizes.1 ∙ p.sizes.1);
  points = λ x. Iff.trans (q.points x) (p.points x);
  fractional = λ x d z. p.fractional x d (q.fractional x d z);
  holds = λ x z i. q.holds x ((p.points x).1 z) (p.holds x z i);
  valid = λ v. q.valid (p.valid v);
}

-- ---- a visit, a settle, a probe

in_box_over-inside : {n : ℕ} {P B x : List ℤ} {d : ℕ} → Inside n P B → InBoxOver n P x d → InBoxOver n B x d
in_box_over-inside {d = d} i o = record {
  low = λ j h. ≤ℤ-trans (mul_mono (pos d) (omega zarith) (i.low j h)) (o.low j h);
  high = λ j h. ≤ℤ-trans (o.high j h) (mul_mono (pos d) (omega zarith) (i.high j h));
}

module _ {s : State} {P : List ℤ} {t : List ℕ} (w : Narrowed s P t) where
  -- what is inside the new box was inside the old one
  pub narrowed-inside : {Q : List ℤ} → 0 < s.model.n → NonEmpty s.model.n Q → Inside s.model.n Q P → Inside s.model.n Q s.model.box
  narrowed-inside {Q} h p i =
      ⊎_elim (λ e. absurd (not-in-empty s.model.n Q h p (subst (Inside s.model.n Q) e i))) (λ q. inside-trans i q.1) w.box

  pub narrowed-points : 0 < s.model.n → (x : List ℤ) → PointOf (with_box s P t) x ↔ PointOf s x
  unfolding with_box
  narrowed-points h x = (
    (λ p. record {
      len = p.len;
      inside = Inside→in s.model.n s.model.box x (narrowed-inside h (non_empty-at s.model.n x) (in→Inside p.inside));
      rows = p.rows;
    }),
    (λ p. record { len = p.len; inside = Inside→in s.model.n P x (w.keeps (point-probed s x h p) (in→Inside p.inside)); rows = p.rows }),
  )

  narrowed-fractional : 0 < s.model.n → (x : List ℤ) (d : ℕ) → FractionalPointOf (with_box s P t) x d → FractionalPointOf s x d
  unfolding with_box
  narrowed-fractional h x d p = record {
    len = p.len;
    positive = p.positive;
    inside = ⊎_elim (λ e. absurd (empty-no-point h p.positive e p.inside)) (λ q. in_box_over-inside q.1 p.inside) w.box;
    rows = p.rows;
  }

  narrowed-valid : ValidState s → ValidState (with_box s P t)
  unfolding with_box
  narrowed-valid v = let o = v.model in record {
    model = record {
      some = o.some;
      few = o.few;
      few_rows = o.few_rows;
      box = ⊎_elim (λ e. subst (ValidBox s.model.n) (sym e) (valid-empty s.model.n)) (λ q. valid-inside o.box q.0 q.1) w.box;
      coefs_len = o.coefs_len;
      coefs = o.coefs;
      rhs_len = o.rhs_len;
      rhs = o.rhs;
      kinds_len = o.kinds_len;
      kinds = o.kinds;
    };
    table = w.table v.table;
  }

narrowed-preserves : {s r : State} → 0 < s.model.n → NarrowedTo s r → Preserves s r
unfolding with_box
narrowed-preserves {s} h w = subst (Preserves s) (sym w.is) (record {
  sizes = (refl, refl);
  points = narrowed-points w.narrowed h;
  fractional = narrowed-fractional w.narrowed h;
  holds = w.narrowed.holds;
  valid = narrowed-valid w.narrowed;
})

-- ---- a sharpen, a drop

row-preserves : (s : State) (i : ℕ) (r : Row) → ValidModel s.model → i < s.model.m
    → ReplacesRow s.model.n (row_at s.model.n s.model.rows i) r s.model.box
    → ValidRow s.model.n r.coefs r.rhs s.model.box → r.kind < 2 → Preserves s (with_row s i r)
unfolding with_row
row-preserves s i r v im w y k = record {
  sizes = (refl, refl);
  points = with_row-points s i r v im w;
  fractional = with_row-fractional s i r v im w;
  holds = λ x p q. q;
  valid = λ u. record { model = with_row-valid s i r v im y k; table = u.table };
}

module _ (s : State) (c : Call) where
  abbrev old : Row
  old = row_at s.model.n s.model.rows c.row

  old-length : ValidModel s.model → c.row < s.model.m → length old.coefs ≡ s.model.n
  old-length v rm = length-row_of s.model.n s.model.m s.model.rows.coefs c.row v.coefs_len rm

  tighten-preserves : Accepted tightening s c → Preserves s (act tightening s c).state
  unfolding act has_row has_variable
  tighten-preserves a =
      let rm = a.row tt in
      let kn = a.variable tt in
      row-preserves s c.row _ a.model rm
      (tighten-kinded-replaces s.model.n old s.model.box c.variable kn (old-length a.model rm) (a.free tt))
      (tighten-kinded-valid s.model.n old s.model.box c.variable (row-valid s.model c.row a.model rm) kn)
      (rw (tighten-kinded-kind s.model.n old s.model.box c.variable) (a.model.kinds c.row))

  remove-preserves : Accepted removal s c → Preserves s (act removal s c).state
  unfolding act has_row
  remove-preserves a =
      let rm = a.row tt in
      row-preserves s c.row _ a.model rm
      (remove-kinded-replaces s.model.n old s.model.box (old-length a.model rm))
      (remove-kinded-valid s.model.n old s.model.box (row-valid s.model c.row a.model rm))
      (remove-kinded-kind s.model.n old s.model.box (a.model.kinds c.row))

-- ---- any call, any run

pub act-preserves : (k : Kind) (s : State) (c : Call) → Accepted k s c → Preserves s (act k s c).state
unfolding narrows is_unknown
act-preserves row_propagation s c a = narrowed-preserves a.model.some (act-narrowed row_propagation s c tt a)
act-preserves propagation s c a = narrowed-preserves a.model.some (act-narrowed propagation s c tt a)
act-preserves probing s c a = narrowed-preserves a.model.some (act-narrowed probing s c tt a)
act-preserves tightening s c a = tighten-preserves s c a
act-preserves removal s c a = remove-preserves s c a
act-preserves unknown s c a = absurd a.kind

pub step-preserves : (s : State) (c : Call) → Preserves s (step s c)
step-preserves s c = step-ind s c (Preserves s) (λ e. act-preserves (kind_of c.kind) s c (accepted s c e)) (preserves-refl s)

pub run-preserves : (s : State) (cs : List Call) → Preserves s (run s cs)
unfolding run
run-preserves s [] = preserves-refl s
run-preserves s (c ∷ cs) = preserves-trans (step-preserves s c) (run-preserves (step s c) cs)
