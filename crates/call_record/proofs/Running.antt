-- A list of records is run as the flat list of their numbers is: before record i, what is left gives the whole. Assumes nothing.
use Prim.Native.Nat.{◌*◌, ◌+◌, ◌%◌, ◌<◌, ◌≤◌, ◌^◌, suc, zero, ℕ}
use lib.ListN.{get_or, length}
use mathlib.Core.List.{List, [], ◌∷◌}
use mathlib.Core.Path.{◌∙◌, ◌≡◌, refl, sym}
use native.Mathlib.Omega.{arith}
use Rattle.semantics.specs.CallList.{ListAnswer, ListRun, list_checks, list_fault, ran, record_at, records_from, records_of, refused_list, run_list}
use Rattle.semantics.specs.Run.{run_listed, tally}
use Rattle.model.specs.State.{State}
use Rattle.semantics.specs.Call.{call_of}
use Rattle.demands.proofs.CallLists.{Along, along-end, along-more, along-start, list-accepted, list-ind, list-refused}
use Rattle.call_record.specs.Records.{Runs, RunsAt, next_of, no_call, numbers_of, run_next}
use Rattle.call.specs.Calls.{call_on}
use Rattle.call.specs.declared.Call.{Call}

-- ---- the numbers of the records

numbers-length : (ys : List Call) → length (numbers_of ys) ≡ 4 * length ys
unfolding numbers_of
numbers-length [] = refl
numbers-length (c ∷ cs) = omega (arith, numbers-length cs)

-- record i has the numbers from 4 * i on
record Numbers (ys : List Call) (i : ℕ) : Type 0 where
  kind : get_or (numbers_of ys) (4 * i) 0 ≡ (get_or ys i no_call).kind
  row : get_or (numbers_of ys) (4 * i + 1) 0 ≡ (get_or ys i no_call).row
  variable : get_or (numbers_of ys) (4 * i + 2) 0 ≡ (get_or ys i no_call).variable
  budget : get_or (numbers_of ys) (4 * i + 3) 0 ≡ (get_or ys i no_call).budget

numbers-at : (ys : List Call) (i : ℕ) → Numbers ys i
unfolding numbers_of
numbers-at [] i = record { kind = refl; row = refl; variable = refl; budget = refl }
numbers-at (c ∷ cs) zero = record { kind = refl; row = refl; variable = refl; budget = refl }
numbers-at (c ∷ cs) (suc i) =
    let k : 4 * suc i ≡ suc (suc (suc (suc (4 * i)))) = omega arith in
    let r : 4 * suc i + 1 ≡ suc (suc (suc (suc (4 * i + 1)))) = omega arith in
    let v : 4 * suc i + 2 ≡ suc (suc (suc (suc (4 * i + 2)))) = omega arith in
    let b : 4 * suc i + 3 ≡ suc (suc (suc (suc (4 * i + 3)))) = omega arith in
    let n = numbers-at cs i in
    record { kind = rw k n.kind; row = rw r n.row; variable = rw v n.variable; budget = rw b n.budget }

record_is : (s : State) (ys : List Call) (i : ℕ) → record_at s (numbers_of ys) i ≡ call_on s (get_or ys i no_call)
unfolding record_at call_of
record_is s ys i = let n = numbers-at ys i in rw (n.kind, n.row, n.variable, n.budget)

-- ---- the run

-- before record i, of a list that is run or is refused as a whole
unfoldable pub RunningAt : State → List ℕ → ListAnswer → State → ℕ → Type 0
RunningAt s₀ xs (refused_list number) s i = record { answer = refused_list number; state = s } ≡ run_list s₀ xs
RunningAt s₀ xs (ran k) s i = Along s₀ xs s k i

unfoldable pub Running : State → List Call → ListRun → ℕ → Type 0
Running s₀ ys r i = RunningAt s₀ (numbers_of ys) r.answer r.state i

module _ (s₀ : State) (ys : List Call) where
  fours : length (numbers_of ys) % 4 ≡ 0
  fours = omega (arith, numbers-length ys)

  same-fault : list_fault s₀ (numbers_of ys) ≡ list_fault s₀ []
  unfolding list_fault list_checks
  same-fault = rw fours

  -- the empty list is refused where the whole is, and makes no call
  pub running-start : Running s₀ ys (run_list s₀ []) 0
  unfolding Running RunningAt records_of records_from run_listed tally
  running-start = list-ind s₀ [] (λ r. RunningAt s₀ (numbers_of ys) r.answer r.state 0)
      (λ e. along-start s₀ (numbers_of ys) ((list-accepted s₀ []).0 e).0)
      (λ n. sym (list-refused s₀ (numbers_of ys) (λ e. n (sym same-fault ∙ e)) ∙ rw same-fault))

  module _ (i : ℕ) where
    room_at : (a : ListAnswer) (s : State) → RunningAt s₀ (numbers_of ys) a s i → i < 2 ^ 63 → RunsAt a s
    unfolding RunningAt RunsAt
    room_at (refused_list number) s p h = tt
    room_at (ran k) s p h = record { valid = p.valid; small = omega (arith, p.counted, h) }

    -- the counts have room for one more
    pub running-room : (r : ListRun) → Running s₀ ys r i → i < 2 ^ 63 → Runs r
    unfolding Running Runs
    running-room r p h = room_at r.answer r.state p h

    next-at : (a : ListAnswer) (s : State) (c : Call) → RunningAt s₀ (numbers_of ys) a s i → i < length ys → c ≡ get_or ys i no_call → Running s₀ ys (next_of a s c) (i + 1)
    unfolding Running RunningAt next_of
    next-at (refused_list number) s c p h e = p
    next-at (ran k) s c p h e =
        let q = record_is s ys i in along-more s₀ (numbers_of ys) s k i p (omega (arith, numbers-length ys, h)) (rw (e, q), rw (e, q)) refl

    -- c is record i
    pub running-next : (r : ListRun) (c : Call) → Running s₀ ys r i → i < length ys → c ≡ get_or ys i no_call → Running s₀ ys (run_next r c) (i + 1)
    unfolding Running run_next
    running-next r c p h e = next-at r.answer r.state c p h e

    end-at : (a : ListAnswer) (s : State) → RunningAt s₀ (numbers_of ys) a s i → length ys ≤ i → record { answer = a; state = s } ≡ run_list s₀ (numbers_of ys)
    unfolding RunningAt
    end-at (refused_list number) s p h = p
    end-at (ran k) s p h = along-end s₀ (numbers_of ys) s k i p (omega (arith, numbers-length ys, h)) fours

    pub running-end : (r : ListRun) → Running s₀ ys r i → length ys ≤ i → r ≡ run_list s₀ (numbers_of ys)
    unfolding Running
    running-end r p h = end-at r.answer r.state p h
