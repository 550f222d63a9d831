-- What a reply returns and writes, by whether its answer is a refusal; and the checks of a call that is lent an answer. Assumes nothing.
use Prim.Native.Nat.{ℕ}
use borrow.Author.Tests.{eq-eqb, ne_eqb}
use lib.Dec.{T}
use lib.ListN.{length, set}
use mathlib.Core.Bool.{Bool, cond, not}
use mathlib.Core.List.{List, [], ◌∷◌}
use mathlib.Core.Path.{◌∙◌, ◌≡◌, ap, refl, sym}
use native.Mathlib.Omega.{arith}
use Rattle.replies.specs.Replies.{Reply, answer_length, call_reply, places, probe_ended, refused_by, returned, written}
use Rattle.semantics.specs.Perform.{Answer, probed, propagated, propagated_row, refused, removed, tightened}
use Rattle.semantics.specs.Probe as probe
use Rattle.semantics.specs.Run.{is_refused}
use Rattle.prepared_replies.specs.PreparedReplies.{fault_with, prepared_reply, with_rows}

-- ---- a refusal returns its number and writes nothing; else 0 is returned

pub call-refusal : {a : Answer} {number : ℕ} → a ≡ refused number → (A : List ℕ) → (returned (call_reply a) ≡ number) × (written (call_reply a) A ≡ A)
unfolding call_reply returned written
call-refusal e A = (ap (λ x. returned (call_reply x)) e, ap (λ x. written (call_reply x) A) e)

pub prepared-refusal : {a : Answer} {number : ℕ} → a ≡ refused number → (row : ℕ) (A : List ℕ)
    → (returned (prepared_reply a row) ≡ number) × (written (prepared_reply a row) A ≡ A)
unfolding prepared_reply call_reply returned written
prepared-refusal e row A = (ap (λ x. returned (prepared_reply x row)) e, ap (λ x. written (prepared_reply x row) A) e)

pub call-accepted : (a : Answer) → T (not (is_refused a)) → returned (call_reply a) ≡ 0
unfolding call_reply returned is_refused probe_ended
call-accepted (refused number) t = absurd t
call-accepted (propagated_row o moved) t = refl
call-accepted (propagated e passes moved) t = refl
call-accepted (probed probe.infeasible s0 s1) t = refl
call-accepted (probed (probe.fixed v) s0 s1) t = refl
call-accepted (probed (probe.both_feasible added) s0 s1) t = refl
call-accepted (tightened o) t = refl
call-accepted (removed o) t = refl

pub prepared-accepted : (a : Answer) (row : ℕ) → T (not (is_refused a)) → returned (prepared_reply a row) ≡ 0
unfolding prepared_reply returned
prepared-accepted (refused number) row t = call-accepted (refused number) t
prepared-accepted (propagated_row o moved) row t = call-accepted (propagated_row o moved) t
prepared-accepted (propagated e passes moved) row t = refl
prepared-accepted (probed e s0 s1) row t = call-accepted (probed e s0 s1) t
prepared-accepted (tightened o) row t = call-accepted (tightened o) t
prepared-accepted (removed o) row t = call-accepted (removed o) t

-- ---- a probe: the rows stand in places of their own

pub rows-returned : (q : Reply) (row0 row1 : ℕ) → returned (with_rows q row0 row1) ≡ returned q
unfolding with_rows returned
rows-returned (refused_by number) row0 row1 = refl
rows-returned (places xs) row0 row1 = refl

pub rows_written : (a : Answer) → T (not (is_refused a)) → (row0 row1 : ℕ) (A : List ℕ)
    → written (with_rows (call_reply a) row0 row1) A ≡ set (set (written (call_reply a) A) 8 row0) 9 row1
unfolding with_rows written call_reply is_refused probe_ended
rows_written (refused number) t row0 row1 A = absurd t
rows_written (propagated_row o moved) t row0 row1 A = refl
rows_written (propagated e passes moved) t row0 row1 A = refl
rows_written (probed probe.infeasible s0 s1) t row0 row1 A = refl
rows_written (probed (probe.fixed v) s0 s1) t row0 row1 A = refl
rows_written (probed (probe.both_feasible added) s0 s1) t row0 row1 A = refl
rows_written (tightened o) t row0 row1 A = refl
rows_written (removed o) t row0 row1 A = refl

-- and a refusal has none for them
pub rows-refusal : {a : Answer} {number : ℕ} → a ≡ refused number → (row0 row1 : ℕ) → with_rows (call_reply a) row0 row1 ≡ call_reply a
unfolding with_rows call_reply
rows-refusal e row0 row1 = rw e refl

-- ---- the answer's length

pub fault-short : (A : List ℕ) (fault : ℕ) → (length A ≡ answer_length → ⊥) → fault_with A fault ≡ 5
unfolding fault_with
fault-short A fault wrong = ap (λ (t : Bool). cond t fault 5) (ne_eqb (length A) answer_length wrong)

pub fault-whole : (A : List ℕ) (fault : ℕ) → length A ≡ answer_length → fault_with A fault ≡ fault
unfolding fault_with
fault-whole A fault right = ap (λ (t : Bool). cond t fault 5) (eq-eqb (length A) answer_length right)

-- a wrong length is always refused
pub short-refused : (A : List ℕ) (fault : ℕ) → (length A ≡ answer_length → ⊥) → fault_with A fault ≡ 0 → ⊥
short-refused A fault wrong e = let five : ◌≡◌ {A = ℕ} 5 0 = sym (fault-short A fault wrong) ∙ e in omega (arith, five)

-- a refusal has no place for the row
pub row-unsaid : {a : Answer} {number : ℕ} → a ≡ refused number → (row told : ℕ) → prepared_reply a row ≡ prepared_reply a told
unfolding prepared_reply
row-unsaid e row told = ap (λ x. prepared_reply x row) e ∙ sym (ap (λ x. prepared_reply x told) e)
