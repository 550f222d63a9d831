-- The checks of a prepared probe: what one that is accepted knows, and that on prepared rows they come to the number of a probe's.
use Prim.Native.Nat.{◌*◌, ◌<◌, ℕ}
use lib.Dec.{T, eqb, leb}
use lib.IntN.{ℤ}
use lib.ListN.{length}
use mathlib.Core.Bool.{Bool, ◌&&◌, ◌||◌, false, true}
use mathlib.Core.List.{List, ◌++◌}
use mathlib.Core.Path.{◌∙◌, ◌≡◌, refl}
use native.Mathlib.Decide.{ℕ_discrete}
use Rattle.call.specs.FieldChecks.{budget_checks, probe_checks, variable_checks}
use Rattle.call.proofs.FieldLaws.{own-probe}
use Rattle.integer.proofs.Parts.{zarith}
use Rattle.integer.proofs.Tests.{T→true, eqb-test, ltb-test}
use Rattle.model.specs.Box.{is_empty, is_free}
use Rattle.model.specs.Checks.{bits, box_checks, first, in_range, length_checks, model_checks, model_fault, number_checks, size_checks, table, table_byte_checks, table_length_checks}
use Rattle.model.specs.Limits.{max_bound, max_coef, max_rhs, max_rows, max_variables, min_bound, min_coef, min_rhs}
use Rattle.model.specs.Model.{model_of}
use Rattle.model.specs.Rows.{Rows}
use Rattle.model.specs.State.{State, state_of}
use Rattle.model.specs.Valid.{ValidBox, ValidTable}
use Rattle.model.proofs.CheckLaws.{bits-all, first-go, first-none, first-stop, in_range-all, narrow-all, numbered, shape-test, size-test}
use Rattle.open_checks.proofs.RefusalLaws.{model-refuses, own-fault}
use Rattle.prepared_model.specs.Layout.{is_ours, rows_in, variables_of}
use Rattle.prepared_model.specs.Prepared.{Ours, Prepared}
use Rattle.prepared_model.proofs.OursLaws.{is_ours_lem, ours-is}
use Rattle.semantics.specs.Call.{call_of, has_table, kind_of}
use Rattle.semantics.specs.CallChecks.{call_fault, lent_table}
use Rattle.call_laws.proofs.Accepted.{model_fault_of}
use Rattle.prepared_checks.specs.Checks.{lent_checks, prepared_probe_checks, probe_fault, sides_fit}

pub box-valid : (n : ℕ) (B : List ℤ) → length B ≡ 2 * n → first (box_checks n B) ≡ 0 → ValidBox n B
unfolding box_checks
box-valid n B l e =
    let r = (first-none (box_checks n B) tt).0 e in
    record {
      len = l;
      range = (in_range-all min_bound max_bound B (omega zarith) (omega zarith)).0 r.0;
      shape = (shape-test n B l).0 r.1.0;
      narrow = (narrow-all n B l).0 r.1.1.0;
    }

-- what is lent to an accepted probe
pub record Accepted (W : List ℕ) (B : List ℤ) (t R : List ℕ) (k : ℕ) : Type 0 where
  pub ours : Ours W
  pub box : ValidBox (variables_of W) B
  pub table : ValidTable (variables_of W) t
  pub reasons : T (sides_fit (variables_of W) R)
  pub variable : k < variables_of W
  pub free : T (is_empty (variables_of W) B || is_free B k)

module _ (W : List ℕ) (B : List ℤ) (t R : List ℕ) (k budget : ℕ) where
  abbrev n : ℕ
  n = variables_of W

  abbrev m : ℕ
  m = rows_in W

  pub accepted : probe_fault W B t R k budget ≡ 0 → Accepted W B t R k
  unfolding probe_fault prepared_probe_checks lent_checks box_checks table_byte_checks probe_checks variable_checks budget_checks
  accepted e =
      let h = (first-none (prepared_probe_checks W B t R k budget) tt).0 e in
      let l = (eqb-test (length B) (2 * n)).0 h.1.0 in
      let r = h.1.1.1.1 in
      let f = r.1.1.1.1 in
      record {
        ours = ours-is (T→true (is_ours W) h.0);
        box = box-valid n B l ((first-none (box_checks n B) tt).1 (r.0, (r.1.0, (r.1.1.0, tt))));
        table = record { len = (eqb-test (length t) (4 * (n * n))).0 h.1.1.0; bits = (bits-all t).0 r.1.1.1.0 };
        reasons = h.1.1.1.0;
        variable = (ltb-test k n).0 f.0;
        free = f.1.0;
      }

  pub lent-numbered : T (numbered (lent_checks W B t R))
  unfolding lent_checks box_checks table_byte_checks
  lent-numbered = tt

  -- of prepared rows, and with reasons that fit, the checks of a model look at what is lent alone
  module _ {A : Rows} (P : Prepared W A) (fits : sides_fit n R ≡ true) where
    and-true : (a : Bool) → (a && true && true && true) ≡ a
    and-true true = refl
    and-true false = refl

    lengths : (eqb (length B) (2 * n) && eqb (length A.coefs) (m * n) && eqb (length A.rhs) m && eqb (length A.kinds) m) ≡ eqb (length B) (2 * n)
    lengths =
        let v = P.box in
        rw (
          T→true (eqb (length A.coefs) (m * n)) ((eqb-test (length A.coefs) (m * n)).1 v.coefs_len),
          T→true (eqb (length A.rhs) m) ((eqb-test (length A.rhs) m).1 v.rhs_len),
          T→true (eqb (length A.kinds) m) ((eqb-test (length A.kinds) m).1 v.kinds_len),
        )
        (and-true (eqb (length B) (2 * n)))

    lent-model : first (lent_checks W B t R) ≡ model_fault (model_of n m B A) (table t) true
    unfolding lent_checks first model_fault model_checks size_checks length_checks table_length_checks box_checks number_checks table_byte_checks
    lent-model =
        let v = P.box in
        rw (
          is_ours_lem P.ours,
          fits,
          T→true (leb 1 n && leb n max_variables && leb m max_rows) ((size-test n m).1 (v.some, v.few, v.few_rows)),
          lengths,
          T→true (in_range min_coef max_coef A.coefs) ((in_range-all min_coef max_coef A.coefs (omega zarith) (omega zarith)).1 v.coefs),
          T→true (in_range min_rhs max_rhs A.rhs) ((in_range-all min_rhs max_rhs A.rhs (omega zarith) (omega zarith)).1 v.rhs),
          T→true (bits A.kinds) ((bits-all A.kinds).1 v.kinds),
        )
        refl

    abbrev s : State
    s = state_of n m B A t

    lent-fault : first (lent_checks W B t R) ≡ model_fault_of (kind_of 3) s
    unfolding state_of lent_table kind_of has_table
    lent-fault = lent-model

    -- the number is that of the probe of the model with these rows
    pub fault-is : probe_fault W B t R k budget ≡ call_fault s (call_of s 3 0 k budget)
    unfolding probe_fault prepared_probe_checks state_of
    fault-is = go (ℕ_discrete (first (lent_checks W B t R)) 0)
      where
        go : Dec (first (lent_checks W B t R) ≡ 0) → first (lent_checks W B t R ++ probe_checks n B k budget) ≡ call_fault s (call_of s 3 0 k budget)
        go (yes z) = first-go (lent_checks W B t R) (probe_checks n B k budget) lent-numbered z ∙ own-fault s 3 0 k budget lent-fault z (own-probe s k budget)
        go (no z) = first-stop (lent_checks W B t R) (probe_checks n B k budget) z ∙ model-refuses s 3 0 k budget lent-fault z
