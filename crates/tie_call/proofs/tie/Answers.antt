-- `tie_call::tie` is `perform_tie`: refused by the call's number; the same where the table says nothing or something is in the way;
-- else the rows with j put as k or as 1 − k, and its place. Assumes nothing.
use Prim.Native.Nat.{◌<◌}
use lib.ListN.{length}
use mathlib.Core.List.{[]}
use mathlib.Core.Bool.{false}
use mathlib.Core.Path.{◌∙◌, ◌≡◌, refl, sym}
use native.Mathlib.Omega.{arith}
use Rattle.std.proofs.lemmas.Result.{err_from_is_err_and}
use Rattle.model.proofs.RefusalLaws.{number_of-ne0}
use Prim.Native.Nat.{ℕ}
use lib.IntN.{ℤ}
use mathlib.Core.List.{List}
use Rattle.model.specs.Rows.{rows_of}
use Rattle.model.specs.State.{state_of}
use Rattle.ties.specs.TieCall.{TieCall, can_tie, perform_tie, same, tie_call_of, tie_fault, value_said}
use Rattle.ties.specs.Ties.{TiedState, ValidTiedState, tied_state_of}
use Rattle.ties.proofs.TieSteps.{tie-refused, tie-same, tie-unsaid}
use Rattle.tied_row.specs.SmallRow.{SmallRows}
use Rattle.tied_row.proofs.SmallLaws.{valid-small}
use Rattle.tie_call.specs.TieAnswers.{performed_tie, tie_answer}
use Rattle.tie_call.proofs.TieCallLaws.{accepted-tie, can-tie-of, promised, tied-left}
use Rattle.tie_call.proofs.tie.Goals as goal

-- a call that is lent all of these
module _ (n m : ℕ) (B C R : List ℤ) (K t ties : List ℕ) (k j : ℕ) where
  abbrev lent : TiedState
  lent = tied_state_of n m B (rows_of C R K) t ties

  abbrev call : TieCall
  call = tie_call_of lent k j

  -- and is accepted
  module _ (ok : 0 ≡ tie_fault lent call) where
    valid : ValidTiedState lent
    valid = (accepted-tie lent k j (sym ok)).0

    below : (k < n) × (j < n)
    unfolding tied_state_of state_of
    below = let a = accepted-tie lent k j (sym ok) in (a.1, a.2)

    small : SmallRows n m (rows_of C R [])
    unfolding tied_state_of state_of
    small = valid-small valid.state.model

    few : (k < 128) × (j < length ties)
    unfolding tied_state_of state_of
    few = let v = valid in let l = below in (omega (arith, v.state.model.few), omega (arith, v.ties.len))

    -- the table says nothing, or something is in the way
    unsaid : value_said n t k j ≡ 2 → record { answer = same; state = lent } ≡ perform_tie lent call
    unfolding tied_state_of state_of
    unsaid e = tie-unsaid lent k j (sym ok) (sym e) refl

    in_way : {w : ℕ} → w ≡ value_said n t k j → w < 2 → false ≡ can_tie (tied_state_of n m B (rows_of C R []) [] ties) k j w
        → record { answer = same; state = lent } ≡ perform_tie lent call
    unfolding tied_state_of state_of
    in_way {w} e h f = tie-same lent k j (sym ok) e (λ z. omega arith) (sym (can-tie-of n m B C R K t ties k j w) ∙ sym f)

pub returns-in_err-check_tie : goal.returns-in_err-check_tie
unfolding performed_tie tie_answer
returns-in_err-check_tie c =
    let a = c.args in
    let s = lent a.n a.m a.bounds.now a.coefs.now a.rhs.now a.kinds.now a.table.now a.ties.now a.k a.j in
    let q = err_from_is_err_and c.from_residual.result c.from_residual.ensures.1 in
    let p = promised s (tie_call_of s a.k a.j) (tie-refused s a.k a.j c.in_err-check_tie.ensures (number_of-ne0 _)) in
    rw (q.1, q.2) (record { defined = p.0; meaning = p.1 })

pub value_said-requires : goal.value_said-requires
unfolding tied_state_of state_of
value_said-requires c =
    let a = c.args in
    let v = valid a.n a.m a.bounds.now a.coefs.now a.rhs.now a.kinds.now a.table.now a.ties.now a.k a.j c.in_ok-check_tie.ensures in
    record { valid_table = (v.state.table, v.state.model.few); k_lt_n = below a.n a.m a.bounds.now a.coefs.now a.rhs.now a.kinds.now a.table.now a.ties.now a.k a.j c.in_ok-check_tie.ensures }

pub returns-in_default : goal.returns-in_default
unfolding performed_tie tie_answer
returns-in_default c =
    let a = c.args in
    let s = lent a.n a.m a.bounds.now a.coefs.now a.rhs.now a.kinds.now a.table.now a.ties.now a.k a.j in
    let p = promised s (tie_call_of s a.k a.j) (unsaid a.n a.m a.bounds.now a.coefs.now a.rhs.now a.kinds.now a.table.now a.ties.now a.k a.j c.in_ok-check_tie.ensures c.in_default.ensures) in
    record { defined = p.0; meaning = p.1 }

pub can_tie-requires : goal.can_tie-requires
unfolding tied_state_of state_of
can_tie-requires c =
    let a = c.args in
    let ok = c.in_ok-check_tie.ensures in
    let v = valid a.n a.m a.bounds.now a.coefs.now a.rhs.now a.kinds.now a.table.now a.ties.now a.k a.j ok in
    record {
      small_rows = (small a.n a.m a.bounds.now a.coefs.now a.rhs.now a.kinds.now a.table.now a.ties.now a.k a.j ok, below a.n a.m a.bounds.now a.coefs.now a.rhs.now a.kinds.now a.table.now a.ties.now a.k a.j ok);
      bounds_len = (v.state.model.box.len, v.ties.len);
    }

pub returns-then-not-can_tie : goal.returns-then-not-can_tie
unfolding performed_tie tie_answer
returns-then-not-can_tie c =
    let a = c.args in
    let s = lent a.n a.m a.bounds.now a.coefs.now a.rhs.now a.kinds.now a.table.now a.ties.now a.k a.j in
    let said = c.in-Some.ensures in
    let p = promised s (tie_call_of s a.k a.j) (in_way a.n a.m a.bounds.now a.coefs.now a.rhs.now a.kinds.now a.table.now a.ties.now a.k a.j c.in_ok-check_tie.ensures said.0 said.1 c.if-not-can_tie.ensures) in
    record { defined = p.0; meaning = p.1 }

pub tie_rows-requires : goal.tie_rows-requires
tie_rows-requires c =
    let a = c.args in
    let ok = c.in_ok-check_tie.ensures in
    (small a.n a.m a.bounds.now a.coefs.now a.rhs.now a.kinds.now a.table.now a.ties.now a.k a.j ok, below a.n a.m a.bounds.now a.coefs.now a.rhs.now a.kinds.now a.table.now a.ties.now a.k a.j ok)

pub overflow_mul-place : goal.overflow_mul-place
overflow_mul-place c = let a = c.args in omega (arith, (few a.n a.m a.bounds.now a.coefs.now a.rhs.now a.kinds.now a.table.now a.ties.now a.k a.j c.in_ok-check_tie.ensures).0)

pub overflow_add-place : goal.overflow_add-place
overflow_add-place c = let a = c.args in omega (arith, (few a.n a.m a.bounds.now a.coefs.now a.rhs.now a.kinds.now a.table.now a.ties.now a.k a.j c.in_ok-check_tie.ensures).0)

pub overflow_sub-place : goal.overflow_sub-place
overflow_sub-place c = let w = c.in-Some.ensures in omega arith

pub overflow_cast-ties : goal.overflow_cast-ties
overflow_cast-ties c = let a = c.args in omega (arith, (few a.n a.m a.bounds.now a.coefs.now a.rhs.now a.kinds.now a.table.now a.ties.now a.k a.j c.in_ok-check_tie.ensures).0, c.in-Some.ensures)

pub bounds-ties-replaced : goal.bounds-ties-replaced
bounds-ties-replaced c = let a = c.args in (few a.n a.m a.bounds.now a.coefs.now a.rhs.now a.kinds.now a.table.now a.ties.now a.k a.j c.in_ok-check_tie.ensures).1

pub returns : goal.returns
unfolding performed_tie tie_answer
returns c =
    let a = c.args in
    let s = lent a.n a.m a.bounds.now a.coefs.now a.rhs.now a.kinds.now a.table.now a.ties.now a.k a.j in
    let said = c.in-Some.ensures in
    let w = c.in-Some.w in
    let told = c.tie_rows.ensures in
    let can = sym (can-tie-of a.n a.m a.bounds.now a.coefs.now a.rhs.now a.kinds.now a.table.now a.ties.now a.k a.j w) ∙ sym c.if-not-can_tie.ensures in
    let p =
    promised s (tie_call_of s a.k a.j)
    (tied-left a.n a.m a.bounds.now a.coefs.now a.rhs.now a.kinds.now a.table.now a.ties.now a.k a.j w
    (sym c.in_ok-check_tie.ensures) said.0 (λ (z : w ≡ 2). omega arith) can (told.rows, told.rhs_tied)) in
    record { defined = p.0; meaning = p.1 }
