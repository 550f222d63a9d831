-- The call that ties j to k: its checks, its answer, and the rows and the list afterwards.
use Rattle.std.specs.Prelude.{◌*◌, ◌-◌, suc, ℕ, eqb, leb, ltb, get_or, length, set, Bool, ◌&&◌, cond, not, List, [], ◌++◌, ◌∷◌}
use Rattle.integer.specs.Index.{all}
use Rattle.model.specs.Box.{is_free}
use Rattle.model.specs.Checks.{Check, first, model_checks, must, table}
use Rattle.model.specs.Model.{Model}
use Rattle.semantics.specs.Call.{Lengths, lengths_of}
use Rattle.semantics.specs.Probe.{byte_of, literal}
use Rattle.ties.specs.TiedRow.{rows_fit, tie_to}
use Rattle.ties.specs.Ties.{TiedState}

-- ---- what the table says

-- "the table says that k at 0 gives j at w and k at 1 gives j at 1 − w"; the bytes are read as they stand
unfoldable pub says_byte : ℕ → List ℕ → ℕ → ℕ → ℕ → ℕ → Bool
says_byte n t k v j w = eqb (get_or t (byte_of n (literal k v) (literal j w)) 0) 1

unfoldable pub says : ℕ → List ℕ → ℕ → ℕ → ℕ → Bool
says n t k j w = says_byte n t k 0 j w && says_byte n t k 1 j (1 - w)

-- "Where the table says both, w is 0."; 2 where it says neither
unfoldable pub value_said : ℕ → List ℕ → ℕ → ℕ → ℕ
value_said n t k j = cond (says n t k j 0) 0 (cond (says n t k j 1) 1 2)

-- ---- the call

-- refused by a check's number, Tied, Same
pub data TieAnswer : Type 0 where
  refused : ℕ → TieAnswer
  tied same : TieAnswer

pub record TiePerformed : Type 0 where
  pub answer : TieAnswer
  pub state : TiedState

-- none of: "if k is j, if a coefficient or right side would leave its limits, if k or j is not free 0-1, or if either is already
-- the replaced one of a tie"
unfoldable pub can_tie : TiedState → ℕ → ℕ → ℕ → Bool
can_tie s k j w =
    (not (eqb k j) && (is_free s.state.model.box k && is_free s.state.model.box j))
    && ((eqb (get_or s.ties k 0) 0 && eqb (get_or s.ties j 0) 0) && rows_fit k j w s.state.model)

-- j is 1 just when k is 1 − w: the place of j, "1 plus the number of the literal of k that holds just when j is 1"
unfoldable pub place_of : ℕ → ℕ → ℕ
place_of k w = suc (literal k (1 - w))

-- "The call puts that into every row, zeroes j's column and sets place j of a lent tie list."
unfoldable pub tie_state : TiedState → ℕ → ℕ → ℕ → TiedState
tie_state s k j w = record { state = tie_to s.state.model.m k j w s.state; ties = set s.ties j (place_of k w) }

-- "It answers Same, and nothing changes, if ..; otherwise it answers Tied."
unfoldable pub tie_with : TiedState → ℕ → ℕ → ℕ → TiePerformed
tie_with s k j w = cond (can_tie s k j w) (record { answer = tied; state = tie_state s k j w }) (record { answer = same; state = s })

-- "Where the table says both, w is 0."; Same "if the table doesn't say so"
unfoldable pub tie : TiedState → ℕ → ℕ → TiePerformed
tie s k j =
    let n = s.state.model.n in
    cond (says n s.state.table k j 0) (tie_with s k j 0)
    (cond (says n s.state.table k j 1) (tie_with s k j 1) (record { answer = same; state = s }))

-- ---- its checks

-- the call with all that its caller hands over: the model and table as for any call, and the length of the lent tie list
pub record TieCall : Type 0 where
  pub k : ℕ
  pub j : ℕ
  pub n : ℕ
  pub m : ℕ
  pub lengths : Lengths
  pub ties : ℕ

-- a call with the very n, m and buffer lengths of s
unfoldable pub tie_call_of : TiedState → ℕ → ℕ → TieCall
tie_call_of s k j =
    record { k = k; j = j; n = s.state.model.n; m = s.state.model.m; lengths = lengths_of s.state; ties = length s.ties }

-- no place is above 2n
unfoldable pub places_fit : ℕ → List ℕ → Bool
places_fit n ties = all (length ties) (λ i. leb (get_or ties i 0) (2 * n))

-- "21, a place of the tie list above 2n"
abbrev pub places_check : ℕ → List ℕ → Check
places_check n ties = must (places_fit n ties) 21

-- of a list that is handed in: 5, "The list has a place .. for each variable", and 21
unfoldable pub ties_fault : ℕ → List ℕ → ℕ
ties_fault n ties = first (must (eqb (length ties) n) 5 ∷ places_check n ties ∷ [])

-- the buffers that the call is lent are the state's, and the tie list has its length
unfoldable pub is_lent_tie : TiedState → TieCall → Bool
is_lent_tie s c =
    eqb c.n s.state.model.n && eqb c.m s.state.model.m
    && eqb c.lengths.box (lengths_of s.state).box && eqb c.lengths.coefs (lengths_of s.state).coefs
    && eqb c.lengths.rhs (lengths_of s.state).rhs && eqb c.lengths.kinds (lengths_of s.state).kinds
    && eqb c.lengths.table (lengths_of s.state).table && eqb c.ties (length s.ties)
    && eqb (length s.ties) c.n

-- the model that the call is given: the state's box and rows, with the call's own n and m
unfoldable pub given_model_tie : TiedState → TieCall → Model
given_model_tie s c = record { n = c.n; m = c.m; box = s.state.model.box; rows = s.state.model.rows }

-- 21 "straight after check 10", then 13 of k and 13 of j
unfoldable pub tie_own_checks : TiedState → TieCall → List Check
tie_own_checks s c = places_check c.n s.ties ∷ must (ltb c.k c.n) 13 ∷ must (ltb c.j c.n) 13 ∷ []

unfoldable pub tie_checks : TiedState → TieCall → List Check
tie_checks s c = model_checks (given_model_tie s c) (table s.state.table) (is_lent_tie s c) ++ tie_own_checks s c

unfoldable pub tie_fault : TiedState → TieCall → ℕ
tie_fault s c = first (tie_checks s c)

-- a refusal changes nothing
unfoldable pub perform_tie : TiedState → TieCall → TiePerformed
perform_tie s c = cond (eqb (tie_fault s c) 0) (tie s c.k c.j) (record { answer = refused (tie_fault s c); state = s })
