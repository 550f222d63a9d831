-- What the sides of a probe of a prepared model need: the rows to look at in a side, what a side's answer says, and that what both come
-- to is in range.
use Prim.Native.Nat.{◌*◌, ◌+◌, ◌<◌, ℕ}
use lib.Dec.{T}
use lib.IntN.{ℤ}
use lib.ListN.{length, replicate}
use mathlib.Core.Bool.{false, true}
use mathlib.Core.List.{List}
use mathlib.Core.Logic.{inl, inr, ⊎_elim}
use mathlib.Core.Path.{◌∙◌, ◌≡◌, ap, refl, subst, sym}
use Rattle.integer.specs.Order.{max_z, min_z}
use Rattle.integer.proofs.Parts.{zarith, zify}
use Rattle.integer.proofs.Tests.{cond_ind, true→T}
use Rattle.model.specs.Box.{NonEmpty, empty_box, hull, is_empty, is_free}
use Rattle.model.specs.Limits.{max_bound, min_bound}
use Rattle.model.specs.Rows.{Rows}
use Rattle.model.specs.Valid.{Between, ValidBox}
use Rattle.model.proofs.BoxLaws.{at-box_of, empty-is, is_empty→eq, non_empty-isn't}
use Rattle.prepared_model.specs.Layout.{decode, rows_in}
use Rattle.prepared_model.specs.Prepared.{Prepared}
use Rattle.prepared_model.specs.Reasons.{no_row, reasons_from, reasons_of}
use Rattle.prepared_model.specs.RowReasons.{Lent}
use Rattle.prepared_propagation.specs.Known.{Known}
use Rattle.two_sides.specs.Results.{probing_of}
use Rattle.two_sides.specs.declared.Probing.{Probing}
use Rattle.two_sides.specs.declared.Probing.TheVariants as probing
use Rattle.two_sides.proofs.JoinLaws.{probing-box}
use Rattle.probe_side.proofs.SideLaws.{box-is, side-none}
use Rattle.propagation.specs.Results.{propagation_of}
use Rattle.propagation.specs.declared.Propagation.{Propagation}
use Rattle.row.proofs.ImpliedBoxLaws.{valid-empty}
use Rattle.row_set.specs.Readers.{Calm}
use Rattle.semantics.specs.Probe.{Probed, fix, join_sides}
use Rattle.semantics.specs.Propagate.{is_none, propagate, propagate_from}
use Rattle.call_laws.proofs.ProbeLaws.{fix-non_empty, fix-valid}
use Rattle.prepared_sides.specs.Sides.{Boxed, InRange, SideLeft}

-- ---- a side

module _ {n m : ℕ} {W : List ℕ} {B : List ℤ} (b : Boxed n m W B) where
  pub boxed-side : (k w : ℕ) {S : List ℤ} → T (is_free B k) → w < 2 → S ≡ fix n B k w → Boxed n m W S
  boxed-side k w f h e = record {
    variables = b.variables;
    rows = b.rows;
    sized = record {
      some = b.sized.some;
      few = b.sized.few;
      few_rows = b.sized.few_rows;
      len = b.sized.len;
      box = rw e (fix-valid k w f h b.sized.box b.non_empty);
    };
    non_empty = rw e (fix-non_empty k w b.non_empty);
  }

  module _ {A : Rows} (P : Prepared W A) where
    rows_are : decode n m W ≡ A
    rows_are = rw (b.variables, b.rows) P.rows

    pub boxed-known : (D : List ℕ) → Calm n (rows_in W) A B D → Known n m W B D
    boxed-known D c = record { hearers = rw (rows_are, b.variables, b.rows) P.hearers; calm = rw (rows_are, b.rows) c }

    -- what the passes over it come to
    pub boxed-propagated : (budget : ℕ) (s : Propagation) (S : List ℤ) → propagation_of s S ≡ propagate_from budget 0 0 n m (decode n m W) B
        → propagation_of s S ≡ propagate budget n m A B
    unfolding propagate
    boxed-propagated budget s S e = e ∙ rw (rows_are, non_empty-isn't b.sized.some b.non_empty) refl

    -- one that is infeasible leaves the empty box
    pub boxed-none : (budget : ℕ) (s : Propagation) (S S' : List ℤ) → propagation_of s S ≡ propagate_from budget 0 0 n m (decode n m W) B
        → is_none (propagation_of s S).ending ≡ true → S' ≡ empty_box n → propagation_of s S' ≡ propagate budget n m A B
    boxed-none budget s S S' e z f =
        let p = boxed-propagated budget s S e in
        let q : is_empty n S ≡ true = sym (side-none budget m A b.sized.some b.sized.box s S p) ∙ z in
        ap (propagation_of s) (f ∙ sym (is_empty→eq n S (true→T (is_empty n S) q))) ∙ p

    -- and what they tell
    pub boxed-reasons : (budget len : ℕ) {S R' : List ℕ} {row : ℕ} → S ≡ replicate len no_row
        → R' ≡ (reasons_from budget n m (decode n m W) B S).movers → row ≡ (reasons_from budget n m (decode n m W) B S).infeasible
        → record { movers = R'; infeasible = row } ≡ reasons_of budget n m A B len
    unfolding reasons_of
    boxed-reasons budget len z e f = rw (e, f, z, rows_are, non_empty-isn't b.sized.some b.non_empty) refl

pub lent_same : {n : ℕ} {R S : List ℕ} → Lent n R → length S ≡ length R → Lent n S
lent_same l e = record { len = ⊎_elim (λ x. inl (e ∙ x)) (λ x. inr (e ∙ x)) l.len }

pub left-some : {n : ℕ} (s : Propagation) (S : List ℤ) → 0 < n → is_none (propagation_of s S).ending ≡ false → ValidBox n S → NonEmpty n S → SideLeft n s S
left-some s S h z v p = record { valid = v; none = z ∙ sym (non_empty-isn't h p) }

pub left-none : {n : ℕ} (s : Propagation) (S : List ℤ) → is_none (propagation_of s S).ending ≡ true → S ≡ empty_box n → SideLeft n s S
left-none {n} s S z e = record { valid = rw e (valid-empty n); none = z ∙ sym (empty-is n S e) }

-- ---- two sides: what they come to is in range

min-in : {x y : ℤ} → Between min_bound max_bound x → Between min_bound max_bound y → Between min_bound max_bound (min_z x y)
min-in p q = record { above = simp zify (omega (zarith, p, q)); below = simp zify (omega (zarith, p, q)) }

max-in : {x y : ℤ} → Between min_bound max_bound x → Between min_bound max_bound y → Between min_bound max_bound (max_z x y)
max-in p q = record { above = simp zify (omega (zarith, p, q)); below = simp zify (omega (zarith, p, q)) }

hull-range : (n : ℕ) (P Q : List ℤ) → InRange P → InRange Q → InRange (hull n P Q)
unfolding hull
hull-range n P Q p q = at-box_of (Between min_bound max_bound) n _ _ (record { above = omega zarith; below = omega zarith })
    (λ j _. min-in (p (2 * j)) (q (2 * j))) (λ j _. max-in (p (2 * j + 1)) (q (2 * j + 1)))

pub joined-range : (n k : ℕ) (B : List ℤ) (t : List ℕ) {s0 s1 : Propagation} {S0 S1 : List ℤ} → SideLeft n s0 S0 → SideLeft n s1 S1
    → InRange (join_sides n k B t (propagation_of s0 S0) (propagation_of s1 S1)).box
unfolding join_sides
joined-range n k B t {s0} {s1} {S0} {S1} l0 l1 =
    cond_ind (is_none (propagation_of s0 S0).ending) _ _ (λ (r : Probed). InRange r.box)
    (λ _. cond_ind (is_none (propagation_of s1 S1).ending) _ _ (λ (r : Probed). InRange r.box)
    (λ _. (valid-empty n).range) (λ _. rw (box-is s1 S1) l1.valid.range))
    (λ _. cond_ind (is_none (propagation_of s1 S1).ending) _ _ (λ (r : Probed). InRange r.box)
    (λ _. rw (box-is s0 S0) l0.valid.range) (λ _. rw (box-is s0 S0, box-is s1 S1) (hull-range n S0 S1 l0.valid.range l1.valid.range)))

pub probing-range : (p : Probing) (Q : List ℤ) (t : List ℕ) {r : Probed} → probing_of p Q t ≡ r → InRange r.box → InRange Q
probing-range p Q t e h = subst InRange (sym (ap (λ (w : Probed). w.box) e) ∙ probing-box p Q t) h
