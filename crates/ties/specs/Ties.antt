-- The tie list, and points that read it (02, C-19: "Integer and fractional points read the ties too, as these equations").
use Rattle.std.specs.Prelude.{◌%◌, ◌*◌, ◌/◌, ◌<◌, ◌≤◌, suc, zero, ℕ, eqb, ◌-ℤ◌, pos, ℤ, get_or, length, cond, List, ◌≡◌}
use Rattle.model.specs.Box.{at}
use Rattle.model.specs.Rows.{Rows}
use Rattle.model.specs.State.{State, state_of}
use Rattle.model.specs.Valid.{ValidState}
use Rattle.call_laws.specs.Points.{FractionalPointOf, PointOf}

-- what j is where it is 1 just when variable k is v, at the point x / d: "j equals k .. or 1 − k", k itself at v = 1, 1 − k at v = 0
unfoldable pub linked : ℕ → ℕ → List ℤ → ℕ → ℤ
linked k v x d = cond (eqb v 0) (pos d -ℤ at x k) (at x k)

-- a place of the list, that of j: "0 for no tie, or 1 plus the number of the literal of k that holds just when j is 1". Literal q
-- is "variable q / 2 is q % 2".
unfoldable pub TieHoldsOver : ℕ → ℕ → List ℤ → ℕ → Type 0
TieHoldsOver zero j x d = Unit {0}
TieHoldsOver (suc q) j x d = at x j ≡ linked (q / 2) (q % 2) x d

-- every tie of the list holds at x / d, and at the integer point x. A list from elsewhere may tie in a circle: it says what it says.
pub record TiesHoldOver (n : ℕ) (ties : List ℕ) (x : List ℤ) (d : ℕ) : Type 0 where
  pub holds : (j : ℕ) → j < n → TieHoldsOver (get_or ties j 0) j x d

abbrev pub TiesHold : ℕ → List ℕ → List ℤ → Type 0
TiesHold n ties x = TiesHoldOver n ties x 1

-- a list that passes checks 5 and 21
pub record ValidTies (n : ℕ) (ties : List ℕ) : Type 0 where
  pub len : length ties ≡ n
  pub places : (i : ℕ) → get_or ties i 0 ≤ 2 * n

-- "the tie list then belongs to the state"
pub record TiedState : Type 0 where
  pub state : State
  pub ties : List ℕ

-- n, m, the rows and the lists that the buffers hold
unfoldable pub tied_state_of : ℕ → ℕ → List ℤ → Rows → List ℕ → List ℕ → TiedState
tied_state_of n m B A t ties = record { state = state_of n m B A t; ties = ties }

pub record ValidTiedState (s : TiedState) : Type 0 where
  pub state : ValidState s.state
  pub ties : ValidTies s.state.model.n s.ties

-- points of box, rows and ties
pub record TiedPoint (s : TiedState) (x : List ℤ) : Type 0 where
  pub point : PointOf s.state x
  pub ties : TiesHold s.state.model.n s.ties x

pub record TiedFractional (s : TiedState) (x : List ℤ) (d : ℕ) : Type 0 where
  pub point : FractionalPointOf s.state x d
  pub ties : TiesHoldOver s.state.model.n s.ties x d
