-- Demand 1 for the tie call: it is refused by the number of the first check, in the order of the places, that fails.
use Rattle.std.specs.Prelude.{◌*◌, ◌+◌, ◌<◌, ◌≤◌, ℕ, T, ◌-ℤ◌, get_or, length, ◌≤ℤ◌, Bool, false, true, ◌↔◌, ◌⊎◌, ◌≡◌}
use Rattle.model.specs.Box.{at, empty_box, lower, upper}
use Rattle.model.specs.Limits.{max_bound, max_coef, max_rhs, max_rows, max_variables, max_width, min_bound, min_coef, min_rhs}
use Rattle.model.specs.Places.{place}
use Rattle.model.specs.Valid.{Between}
use Rattle.ties.specs.TieCall.{TieAnswer, TieCall, perform_tie, refused, same, tied, tie_fault}
use Rattle.ties.specs.Ties.{TiedState}

-- the buffers that the call is lent are the state's, and each has exactly the length needed
pub record TieLengthsFit (s : TiedState) (c : TieCall) : Type 0 where
  pub variables : c.n ≡ s.state.model.n
  pub rows : c.m ≡ s.state.model.m
  pub box : (c.lengths.box ≡ length s.state.model.box) × (length s.state.model.box ≡ 2 * c.n)
  pub coefs : (c.lengths.coefs ≡ length s.state.model.rows.coefs) × (length s.state.model.rows.coefs ≡ c.m * c.n)
  pub rhs : (c.lengths.rhs ≡ length s.state.model.rows.rhs) × (length s.state.model.rows.rhs ≡ c.m)
  pub kinds : (c.lengths.kinds ≡ length s.state.model.rows.kinds) × (length s.state.model.rows.kinds ≡ c.m)
  pub table : (c.lengths.table ≡ length s.state.table) × (length s.state.table ≡ 4 * (c.n * c.n))
  -- "The list has a place .. for each variable"
  pub ties : (c.ties ≡ length s.ties) × (length s.ties ≡ c.n)

-- check number N passes, or is no check of this call; they stand in the order in which they are made
pub record TiePasses (N : ℕ) (s : TiedState) (c : TieCall) : Type 0 where
  pub check3 : N ≡ 3 → (1 ≤ c.n) × (c.n ≤ max_variables) × (c.m ≤ max_rows)
  pub check5 : N ≡ 5 → TieLengthsFit s c
  pub check6 : N ≡ 6 → let B = s.state.model.box in (i : ℕ) → i < length B → Between min_bound max_bound (at B i)
  pub check7 : N ≡ 7 → let B = s.state.model.box in (B ≡ empty_box c.n) ⊎ ((j : ℕ) → 2 * j + 1 < length B → lower B j ≤ℤ upper B j)
  pub check23 : N ≡ 23 → let B = s.state.model.box in (j : ℕ) → 2 * j + 1 < length B → (upper B j -ℤ lower B j) ≤ℤ max_width
  pub check8 : N ≡ 8 → let C = s.state.model.rows.coefs in (i : ℕ) → i < length C → Between min_coef max_coef (at C i)
  pub check9 : N ≡ 9 → let R = s.state.model.rows.rhs in (i : ℕ) → i < length R → Between min_rhs max_rhs (at R i)
  pub check16 : N ≡ 16 → let K = s.state.model.rows.kinds in (i : ℕ) → i < length K → get_or K i 0 < 2
  pub check10 : N ≡ 10 → (i : ℕ) → i < length s.state.table → get_or s.state.table i 0 < 2
  -- "21, a place of the tie list above 2n, straight after check 10"
  pub check21 : N ≡ 21 → (i : ℕ) → i < length s.ties → get_or s.ties i 0 ≤ 2 * c.n
  pub check13 : N ≡ 13 → (c.k < c.n) × (c.j < c.n)

unfoldable pub is_refused_tie : TieAnswer → Bool
is_refused_tie (refused N) = true
is_refused_tie tied = false
is_refused_tie same = false

pub record TieRefusals (s : TiedState) (c : TieCall) : Type 0 where
  -- refused by N: check N fails, and every one with an earlier place passes
  pub first : (N : ℕ) → ((perform_tie s c).answer ≡ refused N) ↔ ((TiePasses N s c → ⊥) × ((M : ℕ) → place M < place N → TiePasses M s c))
  -- accepted: every check passes
  pub accepted : (tie_fault s c ≡ 0) ↔ ((N : ℕ) → TiePasses N s c)
  pub answered : (tie_fault s c ≡ 0) ↔ (T (is_refused_tie (perform_tie s c).answer) → ⊥)
  -- a refusal changes no lent number
  pub kept : T (is_refused_tie (perform_tie s c).answer) → (perform_tie s c).state ≡ s

-- (proved as `demand-1-tie`)
unfoldable pub Demand1Tie : Type 0
Demand1Tie = (s : TiedState) (c : TieCall) → TieRefusals s c
