-- What an accepted tie call means (demand 2 for it): when it answers Tied and when Same, what it writes, what it leaves alone, and
-- what becomes of the points.
use Rattle.std.specs.Prelude.{◌*◌, ◌+◌, ◌-◌, ◌<◌, ℕ, T, pos, ℤ, get_or, List, ◌↔◌, ◌≢◌, ◌⊎◌, ◌≡◌}
use Rattle.model.specs.Box.{at, is_free}
use Rattle.model.specs.Limits.{max_coef, max_rhs, min_coef, min_rhs}
use Rattle.model.specs.Model.{Model}
use Rattle.model.specs.Rows.{row_of}
use Rattle.model.specs.Valid.{Between}
use Rattle.call_laws.specs.Points.{Recorded, TableHolds}
use Rattle.ties.specs.TieCall.{TieCall, TiePerformed, perform_tie, place_of, same, tied, tie_fault}
use Rattle.ties.specs.TiedRow.{tied_coef, tied_rhs}
use Rattle.ties.specs.Ties.{TiedFractional, TiedPoint, TiedState, ValidTiedState}

-- "the table says that k at 0 gives j at w and k at 1 gives j at 1 − w"
unfoldable pub Says : TiedState → ℕ → ℕ → ℕ → Type 0
Says s k j w = Recorded s.state.model.n s.state.table k 0 j w × Recorded s.state.model.n s.state.table k 1 j (1 - w)

-- the numbers that row i gets
unfoldable pub new_coef : Model → ℕ → ℕ → ℕ → ℕ → ℤ
new_coef M k j w i = tied_coef w (at M.rows.coefs (i * M.n + k)) (at M.rows.coefs (i * M.n + j))

unfoldable pub new_rhs : Model → ℕ → ℕ → ℕ → ℤ
new_rhs M j w i = tied_rhs j w (row_of M.n M.rows.coefs i) (at M.rows.rhs i)

-- j is tied to k by w: the table says so ("Where the table says both, w is 0"), and nothing is in the way
pub record Ties (s : TiedState) (k j w : ℕ) : Type 0 where
  pub value : (w ≡ 0) ⊎ ((w ≡ 1) × (Says s k j 0 → ⊥))
  pub says : Says s k j w
  pub differ : j ≢ k
  pub free : T (is_free s.state.model.box k) × T (is_free s.state.model.box j)
  pub untied : (get_or s.ties k 0 ≡ 0) × (get_or s.ties j 0 ≡ 0)
  pub fits : (i : ℕ) → i < s.state.model.m
      → Between min_coef max_coef (new_coef s.state.model k j w i) × Between min_rhs max_rhs (new_rhs s.state.model j w i)

-- what is written then, and what stays
pub record Tied (s r : TiedState) (k j w : ℕ) : Type 0 where
  pub coef_k : (i : ℕ) → i < s.state.model.m → at r.state.model.rows.coefs (i * s.state.model.n + k) ≡ new_coef s.state.model k j w i
  -- "zeroes j's column"
  pub coef_j : (i : ℕ) → i < s.state.model.m → at r.state.model.rows.coefs (i * s.state.model.n + j) ≡ pos 0
  pub coefs : (i c : ℕ) → i < s.state.model.m → c < s.state.model.n → c ≢ k → c ≢ j
      → at r.state.model.rows.coefs (i * s.state.model.n + c) ≡ at s.state.model.rows.coefs (i * s.state.model.n + c)
  pub rhs : (i : ℕ) → i < s.state.model.m → at r.state.model.rows.rhs i ≡ new_rhs s.state.model j w i
  -- "sets place j of a lent tie list"
  pub place : get_or r.ties j 0 ≡ place_of k w
  pub places : (c : ℕ) → c ≢ j → get_or r.ties c 0 ≡ get_or s.ties c 0

pub record TieMeans (s : TiedState) (c : TieCall) (p : TiePerformed) : Type 0 where
  -- Tied exactly where some w ties them, and then what w gives is written; otherwise Same, and nothing changes
  pub is_tied : (p.answer ≡ tied) ↔ ((w : ℕ) × Ties s c.k c.j w)
  pub written : (w : ℕ) → Ties s c.k c.j w → Tied s p.state c.k c.j w
  pub answers : (p.answer ≡ tied) ⊎ (p.answer ≡ same)
  pub is_same : p.answer ≡ same → p.state ≡ s
  -- n, m, bounds, kinds and table stay
  pub sizes : (p.state.state.model.n ≡ s.state.model.n) × (p.state.state.model.m ≡ s.state.model.m)
  pub untouched : (p.state.state.model.box ≡ s.state.model.box) × (p.state.state.table ≡ s.state.table)
  pub kinds : p.state.state.model.rows.kinds ≡ s.state.model.rows.kinds
  pub valid : ValidTiedState p.state
  -- "With any other table .. no point is added"
  pub adds : (x : List ℤ) → TiedPoint p.state x → TiedPoint s x
  pub fractional : (x : List ℤ) (d : ℕ) → TiedFractional p.state x d → TiedFractional s x d
  -- none is lost where every recorded implication holds at every point
  pub points : ((x : List ℤ) → TiedPoint s x → TableHolds s.state.model.n s.state.table x) → (x : List ℤ)
      → TiedPoint p.state x ↔ TiedPoint s x

-- (proved as `demand-2-tie`)
unfoldable pub Demand2Tie : Type 0
Demand2Tie = (s : TiedState) (c : TieCall) → tie_fault s c ≡ 0 → TieMeans s c (perform_tie s c)
