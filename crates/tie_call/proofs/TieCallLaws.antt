-- What the proof of the open tie call rests on: what an accepted call knows, the place that it sets, the buffers that it leaves, and
-- that its promise follows from what it performs.
use Prim.Native.Nat.{◌*◌, ◌+◌, ◌-◌, ◌<◌, ℕ}
use lib.IntN.{ℤ}
use lib.ListN.{set}
use mathlib.Core.Bool.{Bool, cond, false, true}
use mathlib.Core.List.{List, []}
use mathlib.Core.Path.{◌∙◌, ◌≡◌, ap, refl, subst, sym}
use native.Mathlib.Omega.{arith}
use Rattle.model.specs.Rows.{rows_of}
use Rattle.model.specs.State.{state_of}
use Rattle.semantics.specs.Probe.{literal}
use Rattle.ties.specs.TieCall.{TieCall, TiePerformed, can_tie, perform_tie, place_of, says, tie_call_of, tie_fault, tied, value_said}
use Rattle.ties.specs.TiedRow.{rows_fit, tie_coefs_to, tie_rhs_to}
use Rattle.ties.specs.TiedRun.{TieKeeps}
use Rattle.ties.specs.Ties.{TiedState, ValidTiedState, tied_state_of}
use Rattle.ties.proofs.TieAccepted.{tie-accepted}
use Rattle.ties.proofs.TieSteps.{tie-tied, tied-buffers}
use Rattle.ties.proofs.TiedPreserved.{tie-promised}

-- the promise, from what is performed: p is the answer with the state left
pub promised : (s : TiedState) (c : TieCall) {p : TiePerformed} → p ≡ perform_tie s c → (p ≡ perform_tie s c) × TieKeeps s p.state
promised s c e = (e, subst (TieKeeps s) (sym (ap (λ (q : TiePerformed). q.state) e)) (tie-promised s c))

-- a call that is lent all of s, and accepted
pub accepted-tie : (s : TiedState) (k j : ℕ) → tie_fault s (tie_call_of s k j) ≡ 0
    → ValidTiedState s × (k < s.state.model.n) × (j < s.state.model.n)
unfolding tie_call_of
accepted-tie s k j e = let a = tie-accepted s (tie_call_of s k j) e in (a.valid, a.k, a.j)

-- the value that the table says is 0 or 1 where it is not 2
pub value-below : (n : ℕ) (t : List ℕ) (k j : ℕ) {w : ℕ} → w ≡ value_said n t k j → (w ≡ 2 → ⊥) → w < 2
unfolding value_said
value-below n t k j {w} e ne = go (says n t k j 0) (says n t k j 1) e
  where
    go : (a b : Bool) → w ≡ cond a 0 (cond b 1 2) → w < 2
    go true b e = omega arith
    go false true e = omega arith
    go false false e = absurd (ne e)

place_is : (k w : ℕ) → w < 2 → 2 * k + 2 - w ≡ place_of k w
unfolding place_of literal
place_is k w h = omega arith

module _ (n m : ℕ) (B C R : List ℤ) (K t ties : List ℕ) (k j w : ℕ) where
  abbrev before : TiedState
  before = tied_state_of n m B (rows_of C R K) t ties

  -- whether j can be tied to k is not read off the kinds and the table
  pub can-tie-of : can_tie (tied_state_of n m B (rows_of C R []) [] ties) k j w ≡ can_tie before k j w
  unfolding can_tie tied_state_of state_of rows_fit
  can-tie-of = refl

  -- the buffers after the rows are rewritten and the place is set
  pub tied-left : tie_fault before (tie_call_of before k j) ≡ 0 → w ≡ value_said n t k j → (w ≡ 2 → ⊥) → can_tie before k j w ≡ true
      → {C' R' : List ℤ} → (C' ≡ tie_coefs_to m n k j w C) × (R' ≡ tie_rhs_to m n j w C R)
      → record { answer = tied; state = tied_state_of n m B (rows_of C' R' K) t (set ties j (2 * k + 2 - w)) } ≡ perform_tie before (tie_call_of before k j)
  unfolding tied_state_of state_of
  tied-left ok is ne can rows =
      rw (rows.0, rows.1, place_is k w (value-below n t k j is ne))
      (ap (λ (z : TiedState). record { answer = tied; state = z }) (tied-buffers n m B C R K t ties k j w) ∙ tie-tied before k j ok is ne can)
