-- Points: an = row holds where its ≤ form and its negated form hold; an integer point is a fractional point over 1.
use Prim.Native.Nat.{suc, zero, ℕ}
use lib.Dec.{T}
use lib.IntN.{◌*ℤ◌, ◌+ℤ◌, neg_ℤ, pos, ℤ}
use lib.ListN.{length}
use lib.Signed.{◌≤ℤ◌}
use mathlib.Core.Bool.{not}
use mathlib.Core.List.{List, [], ◌∷◌}
use mathlib.Core.Logic.{◌↔◌, ⊎_elim}
use mathlib.Core.Path.{◌≡◌, ap, refl, sym}
use native.Mathlib.Omega.{arith}
use Rattle.integer.specs.Index.{sum}
use Rattle.integer.proofs.Parts.{zarith, zify}
use Rattle.integer.proofs.Tests.{decide}
use Rattle.model.specs.Box.{at}
use Rattle.model.specs.Model.{Model}
use Rattle.model.specs.Point.{FractionalPoint, InBox, InBoxOver, IntegerPoint, Meets, MeetsOver, RowHolds, RowHoldsOver, dot}
use Rattle.model.specs.Rows.{Row, is_equality, negated, negated_coefs, row_at}

-- ---- the negated row

pub length-negated : (A : List ℤ) → length (negated_coefs A) ≡ length A
unfolding negated_coefs
length-negated [] = refl
length-negated (a ∷ A) = ap suc (length-negated A)

pub at-negated : (A : List ℤ) (j : ℕ) → at (negated_coefs A) j ≡ neg_ℤ (at A j)
unfolding negated_coefs
at-negated [] j = refl
at-negated (a ∷ A) zero = refl
at-negated (a ∷ A) (suc j) = at-negated A j

pub neg_sum : (n : ℕ) (f g : ℕ → ℤ) → ((j : ℕ) → g j ≡ neg_ℤ (f j)) → sum n g ≡ neg_ℤ (sum n f)
unfolding sum
neg_sum zero f g e = refl
neg_sum (suc n) f g e = rw (neg_sum n f g e, e n) (sym (neg-add (sum n f) (f n)))
  where
    neg-add : (a b : ℤ) → neg_ℤ (a +ℤ b) ≡ neg_ℤ a +ℤ neg_ℤ b
    neg-add a b = simp zify (omega zarith)

pub neg-mul : (a x : ℤ) → neg_ℤ a *ℤ x ≡ neg_ℤ (a *ℤ x)
neg-mul a x = simp zify (omega zarith)

pub dot-negated : (n : ℕ) (A x : List ℤ) → dot n (negated_coefs A) x ≡ neg_ℤ (dot n A x)
unfolding dot
dot-negated n A x = neg_sum n (λ j. at A j *ℤ at x j) _ (λ j. rw (at-negated A j) (neg-mul (at A j) (at x j)))

le-neg : {a b : ℤ} → neg_ℤ a ≤ℤ neg_ℤ b → b ≤ℤ a
le-neg {a} {b} h = let q = simp zify at h in omega (zarith, q)

pub is_equality-negated : (r : Row) → T (not (is_equality (negated r)))
unfolding is_equality negated
is_equality-negated r = tt

-- ---- a row holds where its forms do: the ≤ form, and for an = row the negated form too

eq→le : {a b : ℤ} → a ≡ b → a ≤ℤ b
eq→le {a} {b} e = omega zarith

both→eq : {a b : ℤ} → a ≤ℤ b → b ≤ℤ a → a ≡ b
both→eq {a} {b} h k = omega zarith

module _ {n : ℕ} {r : Row} {x : List ℤ} where
  pub meets-le : Meets n r x → RowHolds n r.coefs r.rhs x
  meets-le h = record { le = ⊎_elim (λ t. eq→le (h.eq t)) (λ t. h.le t) (decide (is_equality r)) }

  pub meets-negated : T (is_equality r) → Meets n r x → RowHolds n (negated r).coefs (negated r).rhs x
  unfolding negated
  meets-negated t h = record { le = rw (dot-negated n r.coefs x, h.eq t) (eq→le refl) }

  pub meets-i : RowHolds n r.coefs r.rhs x → (T (is_equality r) → RowHolds n (negated r).coefs (negated r).rhs x) → Meets n r x
  unfolding negated
  meets-i h k = record {
    le = λ _. h.le;
    eq = λ t. both→eq h.le (le-neg (rw (dot-negated n r.coefs x) at (k t).le));
  }

pub meets-forms : (n : ℕ) (r : Row) (x : List ℤ)
    → Meets n r x ↔ (RowHolds n r.coefs r.rhs x × (T (is_equality r) → RowHolds n (negated r).coefs (negated r).rhs x))
meets-forms n r x = ((λ h. (meets-le h, λ t. meets-negated t h)), (λ h. meets-i h.0 h.1))

module _ {n : ℕ} {r : Row} {x : List ℤ} {d : ℕ} where
  pub meets-over-le : MeetsOver n r x d → RowHoldsOver n r.coefs r.rhs x d
  meets-over-le h = record { le = ⊎_elim (λ t. eq→le (h.eq t)) (λ t. h.le t) (decide (is_equality r)) }

  pub meets-over-negated : T (is_equality r) → MeetsOver n r x d → RowHoldsOver n (negated r).coefs (negated r).rhs x d
  unfolding negated
  meets-over-negated t h = record { le = rw (dot-negated n r.coefs x, h.eq t, neg-mul r.rhs (pos d)) (eq→le refl) }

  pub meets-over-i : RowHoldsOver n r.coefs r.rhs x d
      → (T (is_equality r) → RowHoldsOver n (negated r).coefs (negated r).rhs x d) → MeetsOver n r x d
  unfolding negated
  meets-over-i h k = record {
    le = λ _. h.le;
    eq = λ t. both→eq h.le (le-neg (rw (dot-negated n r.coefs x, neg-mul r.rhs (pos d)) at (k t).le));
  }

pub meets-over-forms : (n : ℕ) (r : Row) (x : List ℤ) (d : ℕ)
    → MeetsOver n r x d ↔ (RowHoldsOver n r.coefs r.rhs x d × (T (is_equality r) → RowHoldsOver n (negated r).coefs (negated r).rhs x d))
meets-over-forms n r x d = ((λ h. (meets-over-le h, λ t. meets-over-negated t h)), (λ h. meets-over-i h.0 h.1))

-- ---- over 1: a bound or a right side times 1 is itself

pub times-one : (z : ℤ) → z *ℤ pos 1 ≡ z
times-one z = simp zify (omega zarith)

pub in_box-over-one : (n : ℕ) (B x : List ℤ) → InBox n B x ↔ InBoxOver n B x 1
in_box-over-one n B x = (
  (λ p. record { low = λ j h. rw times-one (p.low j h); high = λ j h. rw times-one (p.high j h) }),
  (λ p. record { low = λ j h. rw times-one at (p.low j h); high = λ j h. rw times-one at (p.high j h) }),
)

pub meets-over-one : (n : ℕ) (r : Row) (x : List ℤ) → Meets n r x ↔ MeetsOver n r x 1
meets-over-one n r x = (
  (λ p. record { le = λ t. rw times-one (p.le t); eq = λ t. rw times-one (p.eq t) }),
  (λ p. record { le = λ t. rw times-one at (p.le t); eq = λ t. rw times-one at (p.eq t) }),
)

pub integer-fractional : (M : Model) (x : List ℤ) → IntegerPoint M x ↔ FractionalPoint M x 1
integer-fractional M x = (
  (λ p. record {
    len = p.len;
    positive = omega arith;
    inside = (in_box-over-one M.n M.box x).0 p.inside;
    rows = λ i h. (meets-over-one M.n (row_at M.n M.rows i) x).0 (p.rows i h);
  }),
  (λ p. record {
    len = p.len;
    inside = (in_box-over-one M.n M.box x).1 p.inside;
    rows = λ i h. (meets-over-one M.n (row_at M.n M.rows i) x).1 (p.rows i h);
  }),
)
