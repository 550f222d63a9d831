-- What an open call promises of the answer that its last line gives, each promise a law of its own, for `using`: a last line of another
-- form, such as a match that hands each answer on, is judged by what it answers. `e` says that the call is accepted, `told` what the
-- crates below answered, `left` what they left of the row.
use Prim.Native.Nat.{ℕ}
use lib.IntN.{ℤ}
use mathlib.Core.List.{List, []}
use mathlib.Core.Path.{◌∙◌, ◌≡◌, refl, sym}
use Rattle.std.proofs.Common.{Ok, true}
use Rattle.model.specs.Checks.{model_fault, none}
use Rattle.model.specs.Model.{model_of}
use Rattle.model.specs.Rows.{Rows, row_at, set_row}
use Rattle.model.specs.State.{State, state_of}
use Rattle.row.specs.Answers.{propagated_row_of, removal_outcome, tightening_outcome}
use Rattle.row.specs.KindChanges.{remove_row_of, tighten_row_of}
use Rattle.row.specs.Kinds.{propagate_row_of}
use Rattle.row.specs.declared.propagation.RowPropagation.{RowPropagation}
use Rattle.row.specs.declared.redundancy.RowRemoval.{RowRemoval}
use Rattle.row.specs.declared.tightening.CoefficientTightening.{CoefficientTightening}
use Rattle.semantics.specs.Call.{Call, call_of, kind_of}
use Rattle.semantics.specs.CallChecks.{call_fault}
use Rattle.semantics.specs.Perform.{act, perform, removed, tightened}
use Rattle.semantics.specs.Probe.{probe}
use Rattle.semantics.specs.Propagate.{propagate}
use Rattle.semantics.specs.RestTest.{at_rest, rest_fault, rest_of}
use Rattle.call_laws.specs.Points.{AtRest}
use Rattle.propagation.specs.Results.{propagation_of}
use Rattle.propagation.specs.declared.Propagation.{Propagation}
use Rattle.two_sides.specs.Results.{probing_of}
use Rattle.two_sides.specs.declared.Probing.{Probing}
use Rattle.rest.specs.Results.{rest_answer_of}
use Rattle.rest.specs.declared.Rest.{Rest}
use Rattle.reducer.specs.OpenCalls.{Ends, Means, NoMeans, performed, probe_answer, propagate_answer, remove_answer, rest, rest_verdict, row_answer, tested, tighten_answer}
use Rattle.reducer.proofs.OpenCallLaws.{probing-answered, promised, promised-ends, removal-answered, rest-answered, rest-promised, rest-tested, row-answered, row-changed, rows-answered, tightening-answered}

module _ (n m : ℕ) (B : List ℤ) (A : Rows) where
  -- the state of a call that is lent no table, and the call
  abbrev no_table : State
  no_table = state_of n m B A []

  abbrev asked : ℕ → ℕ → ℕ → ℕ → Call
  asked kind row variable budget = call_of no_table kind row variable budget

-- ---- a visit

module _ (n m : ℕ) (B : List ℤ) (A : Rows) (row : ℕ) (p : RowPropagation) (Q : List ℤ)
    (e : 0 ≡ call_fault (no_table n m B A) (asked n m B A 1 row 0 0)) (told : propagated_row_of p Q ≡ propagate_row_of n (row_at n A row) B) where
  pub row-defined : performed (row_answer (Ok p)) (no_table n m Q A) ≡ perform (no_table n m B A) (asked n m B A 1 row 0 0)
  row-defined = row-answered n m B A row p Q (sym e) told

  pub row-meaning : Means (no_table n m B A) (no_table n m Q A) (row_answer (Ok p))
  row-meaning = (promised (no_table n m B A) (no_table n m Q A) (asked n m B A 1 row 0 0) _ row-defined).1

pub ruleset row_promises = (row-defined, row-meaning)

-- ---- a settle

module _ (n m : ℕ) (B : List ℤ) (A : Rows) (budget : ℕ) (p : Propagation) (Q : List ℤ)
    (e : 0 ≡ call_fault (no_table n m B A) (asked n m B A 2 0 0 budget)) (told : propagation_of p Q ≡ propagate budget n m A B) where
  pub rows-defined : performed (propagate_answer (Ok p)) (no_table n m Q A) ≡ perform (no_table n m B A) (asked n m B A 2 0 0 budget)
  rows-defined = rows-answered n m B A budget p Q (sym e) told

  pub rows-meaning : Means (no_table n m B A) (no_table n m Q A) (propagate_answer (Ok p))
  rows-meaning = (promised (no_table n m B A) (no_table n m Q A) (asked n m B A 2 0 0 budget) _ rows-defined).1

  pub rows-ending : Ends (asked n m B A 2 0 0 budget) (no_table n m B A) (no_table n m Q A) (propagate_answer (Ok p))
  rows-ending = (promised-ends (no_table n m B A) (no_table n m Q A) (asked n m B A 2 0 0 budget) _ rows-defined).1.1

pub ruleset rows_promises = (rows-defined, rows-meaning, rows-ending)

-- ---- a probe

module _ (n m : ℕ) (B : List ℤ) (A : Rows) (t : List ℕ) (variable budget : ℕ) (p : Probing) (Q : List ℤ) (u : List ℕ)
    (e : 0 ≡ call_fault (state_of n m B A t) (call_of (state_of n m B A t) 3 0 variable budget))
    (told : probing_of p Q u ≡ probe variable budget n m A B t) where
  pub probing-defined : performed (probe_answer (Ok p)) (state_of n m Q A u)
      ≡ perform (state_of n m B A t) (call_of (state_of n m B A t) 3 0 variable budget)
  probing-defined = probing-answered n m B A budget t variable p Q u (sym e) told

  pub probing-meaning : Means (state_of n m B A t) (state_of n m Q A u) (probe_answer (Ok p))
  probing-meaning = (promised (state_of n m B A t) (state_of n m Q A u) (call_of (state_of n m B A t) 3 0 variable budget) _ probing-defined).1

  pub probing-ending : Ends (call_of (state_of n m B A t) 3 0 variable budget) (state_of n m B A t) (state_of n m Q A u) (probe_answer (Ok p))
  probing-ending =
      (promised-ends (state_of n m B A t) (state_of n m Q A u) (call_of (state_of n m B A t) 3 0 variable budget) _ probing-defined).1.1

pub ruleset probing_promises = (probing-defined, probing-meaning, probing-ending)

-- ---- a sharpen

module _ (n m : ℕ) (B : List ℤ) (A : Rows) (row variable : ℕ) (p : CoefficientTightening) (A' : Rows)
    (e : 0 ≡ call_fault (no_table n m B A) (asked n m B A 4 row variable 0))
    (told : tightening_outcome p ≡ (tighten_row_of n (row_at n A row) B variable).outcome)
    (left : A' ≡ set_row n A row (tighten_row_of n (row_at n A row) B variable).row) where
  pub tightening-defined : performed (tighten_answer (Ok p)) (no_table n m B A') ≡ perform (no_table n m B A) (asked n m B A 4 row variable 0)
  unfolding act kind_of call_of state_of
  tightening-defined =
      row-changed n m B A row (tighten_row_of n (row_at n A row) B variable) tightened (asked n m B A 4 row variable 0) refl (sym e)
      (tightening-answered p) (told, left)

  pub tightening-meaning : Means (no_table n m B A) (no_table n m B A') (tighten_answer (Ok p))
  tightening-meaning = (promised (no_table n m B A) (no_table n m B A') (asked n m B A 4 row variable 0) _ tightening-defined).1

pub ruleset tightening_promises = (tightening-defined, tightening-meaning)

-- ---- a drop

module _ (n m : ℕ) (B : List ℤ) (A : Rows) (row : ℕ) (p : RowRemoval) (A' : Rows)
    (e : 0 ≡ call_fault (no_table n m B A) (asked n m B A 5 row 0 0))
    (told : removal_outcome p ≡ (remove_row_of n (row_at n A row) B).outcome)
    (left : A' ≡ set_row n A row (remove_row_of n (row_at n A row) B).row) where
  pub removal-defined : performed (remove_answer (Ok p)) (no_table n m B A') ≡ perform (no_table n m B A) (asked n m B A 5 row 0 0)
  unfolding act kind_of call_of state_of
  removal-defined =
      row-changed n m B A row (remove_row_of n (row_at n A row) B) removed (asked n m B A 5 row 0 0) refl (sym e)
      (removal-answered p) (told, left)

  pub removal-meaning : Means (no_table n m B A) (no_table n m B A') (remove_answer (Ok p))
  removal-meaning = (promised (no_table n m B A) (no_table n m B A') (asked n m B A 5 row 0 0) _ removal-defined).1

pub ruleset removal_promises = (removal-defined, removal-meaning)

-- ---- the rest call

-- accepted, as the rest call says it
pub rest-accepted : (n m : ℕ) (B : List ℤ) (A : Rows) → 0 ≡ model_fault (model_of n m B A) none true → rest_fault (no_table n m B A) ≡ 0
unfolding state_of rest_fault
rest-accepted n m B A e = sym e

-- both ways of what a yes means
module _ (n m : ℕ) (B : List ℤ) (A : Rows) where
  pub rest-quiet : rest (no_table n m B A) ≡ tested at_rest → AtRest (no_table n m B A)
  rest-quiet said = ((rest-promised (no_table n m B A) refl).1.0.0 said).1

  pub rest-yes : rest_fault (no_table n m B A) ≡ 0 → AtRest (no_table n m B A) → rest (no_table n m B A) ≡ tested at_rest
  rest-yes e quiet = (rest-promised (no_table n m B A) refl).1.0.1 (e, quiet)

module _ (n m : ℕ) (B : List ℤ) (A : Rows) (p : Rest) (e : 0 ≡ model_fault (model_of n m B A) none true) (told : rest_answer_of p ≡ rest_of n m A B) where
  pub rest-defined : rest_verdict (Ok p) ≡ rest (no_table n m B A)
  unfolding state_of
  rest-defined = rest-answered p ∙ rest-tested (no_table n m B A) (rest-accepted n m B A e) told

  pub rest-found : NoMeans (no_table n m B A) (rest_verdict (Ok p))
  rest-found = (rest-promised (no_table n m B A) rest-defined).1.1

pub ruleset rest_promises = (rest-accepted, rest-defined, rest-quiet, rest-yes, rest-found)
