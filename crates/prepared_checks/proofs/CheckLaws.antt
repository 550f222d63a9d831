-- The checks of the prepared propagate call: what passes them, and that on a prepared workspace they are those of the settle of the model
-- with the lent box: of the others, `prepare` made all.
use Prim.Native.Nat.{◌*◌, ℕ}
use lib.Dec.{T, eqb, eqb→eq, leb}
use lib.IntN.{ℤ}
use lib.ListN.{length}
use mathlib.Core.Bool.{Bool, ◌&&◌, false, true}
use mathlib.Core.List.{List, [], ◌∷◌}
use mathlib.Core.Logic.{⊎_elim, inl, inr}
use mathlib.Core.Path.{◌∙◌, ◌≡◌, ap, refl, sym}
use Rattle.call.specs.FieldChecks.{budget_checks}
use Rattle.call.proofs.FieldLaws.{own-propagation}
use Rattle.integer.proofs.Parts.{zarith}
use Rattle.integer.proofs.Tests.{T→true, and_l, and_r, eqb-test, or_cases, true→T}
use Rattle.model.specs.Checks.{bits, box_checks, first, in_range, length_checks, model_checks, model_fault, must, none, number_checks, size_checks, table_byte_checks, table_length_checks}
use Rattle.model.specs.Limits.{max_bound, max_coef, max_rhs, max_rows, max_variables, min_bound, min_coef, min_rhs}
use Rattle.model.specs.Model.{model_of}
use Rattle.model.specs.Rows.{Rows}
use Rattle.model.specs.State.{state_of}
use Rattle.model.proofs.CheckLaws.{bits-all, first-append, first-none, in_range-all, narrow-all, numbered, shape-test, size-test}
use Rattle.prepared_model.specs.Layout.{is_ours, rows_in, variables_of}
use Rattle.prepared_model.specs.Prepared.{Ours, Prepared}
use Rattle.prepared_model.specs.RowReasons.{Lent}
use Rattle.prepared_model.proofs.OursLaws.{is_ours_lem, ours-is}
use Rattle.semantics.specs.Call.{call_of, has_table, kind_of}
use Rattle.semantics.specs.CallChecks.{call_fault, lent_table}
use Rattle.call_laws.proofs.Accepted.{fault-of-own}
use Rattle.prepared_checks.specs.Checks.{Accepting, propagate_checks, propagate_fault, reasons_fit}

-- ---- what passes

fit-lent : (n : ℕ) (R : List ℕ) → T (reasons_fit n R) → Lent n R
unfolding reasons_fit
fit-lent n R t = record {
  len = ⊎_elim (λ a. inl (eqb→eq (length R) 0 a)) (λ b. inr (eqb→eq (length R) (2 * n) b)) (or_cases (eqb (length R) 0) (eqb (length R) (2 * n)) t);
}

pub accepting : (W : List ℕ) (B : List ℤ) (R : List ℕ) (budget : ℕ) → propagate_fault W B R budget ≡ 0 → Accepting W B R
unfolding propagate_fault propagate_checks box_checks budget_checks
accepting W B R budget e =
    let n = variables_of W in
    let sizes = eqb (length B) (2 * n) in
    let h = (first-none (propagate_checks W B R budget) tt).0 e in
    let rest = and_r (is_ours W) (sizes && reasons_fit n R) h.0 in
    let l = eqb→eq (length B) (2 * n) (and_l sizes (reasons_fit n R) rest) in
    record {
      ours = ours-is (T→true (is_ours W) (and_l (is_ours W) (sizes && reasons_fit n R) h.0));
      box = record {
        len = l;
        range = (in_range-all min_bound max_bound B (omega zarith) (omega zarith)).0 h.1.0;
        shape = (shape-test n B l).0 h.1.1.0;
        narrow = (narrow-all n B l).0 h.1.1.1.0;
      };
      lent = fit-lent n R (and_r sizes (reasons_fit n R) rest);
    }

pub fits-ours : (W : List ℕ) (B : List ℤ) (R : List ℕ)
    → (is_ours W && (eqb (length B) (2 * variables_of W) && reasons_fit (variables_of W) R)) ≡ true → Ours W
fits-ours W B R e =
    let rest = eqb (length B) (2 * variables_of W) && reasons_fit (variables_of W) R in
    ours-is (T→true (is_ours W) (and_l (is_ours W) rest (true→T (is_ours W && rest) e)))

-- ---- the same checks

and-true : (a : Bool) → (a && true) ≡ a
and-true true = refl
and-true false = refl

module _ {W : List ℕ} {A : Rows} (p : Prepared W A) (B : List ℤ) where
  abbrev n : ℕ
  n = variables_of W

  abbrev m : ℕ
  m = rows_in W

  -- of the model, only those of the lent box can fail
  model-fault : model_fault (model_of n m B A) none true ≡ first (must (eqb (length B) (2 * n)) 5 ∷ box_checks n B)
  unfolding model_fault model_checks size_checks length_checks table_length_checks number_checks table_byte_checks box_checks first
  model-fault =
      let v = p.box in
      rw (
        T→true (leb 1 n && leb n max_variables && leb m max_rows) ((size-test n m).1 (v.some, v.few, v.few_rows)),
        T→true (eqb (length A.coefs) (m * n)) ((eqb-test (length A.coefs) (m * n)).1 v.coefs_len),
        T→true (eqb (length A.rhs) m) ((eqb-test (length A.rhs) m).1 v.rhs_len),
        T→true (eqb (length A.kinds) m) ((eqb-test (length A.kinds) m).1 v.kinds_len),
        and-true (eqb (length B) (2 * n)),
        and-true (eqb (length B) (2 * n)),
        and-true (eqb (length B) (2 * n)),
        T→true (in_range min_coef max_coef A.coefs) ((in_range-all min_coef max_coef A.coefs (omega zarith) (omega zarith)).1 v.coefs),
        T→true (in_range min_rhs max_rhs A.rhs) ((in_range-all min_rhs max_rhs A.rhs (omega zarith) (omega zarith)).1 v.rhs),
        T→true (bits A.kinds) ((bits-all A.kinds).1 v.kinds),
      )

  numbered-box : (ok : Bool) → T (numbered (must ok 5 ∷ box_checks n B))
  unfolding box_checks
  numbered-box ok = tt

  pub same-fault : (R : List ℕ) (budget : ℕ) → reasons_fit n R ≡ true
      → let s = state_of n m B A [] in propagate_fault W B R budget ≡ call_fault s (call_of s 2 0 0 budget)
  unfolding propagate_fault propagate_checks state_of call_of lent_table kind_of has_table
  same-fault R budget f =
      let s = state_of n m B A [] in
      let xs = must (eqb (length B) (2 * n)) 5 ∷ box_checks n B in
      ap first (rw (is_ours_lem p.ours, f, and-true (eqb (length B) (2 * n))))
      ∙ first-append xs (budget_checks budget) (numbered-box (eqb (length B) (2 * n)))
      ∙ sym (fault-of-own s (call_of s 2 0 0 budget) refl refl refl ∙ rw (model-fault, sym (own-propagation s budget)))
