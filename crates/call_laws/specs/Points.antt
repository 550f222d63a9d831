-- Points of a state, and what its table says of them.
use Rattle.std.specs.Prelude.{◌<◌, ℕ, pos, ℤ, get_or, List, ◌⊎◌, ◌≡◌}
use Rattle.model.specs.Box.{at}
use Rattle.model.specs.Point.{FractionalPoint, IntegerPoint}
use Rattle.model.specs.State.{State}
use Rattle.semantics.specs.Probe.{byte_of, literal}
use Rattle.call_laws.specs.Fixpoint.{ProbingFixpoint}

-- "its integer points are those of its box and rows"; "Integer and fractional points read the kind." (02, C-14)
abbrev pub PointOf : State → List ℤ → Type 0
PointOf s x = IntegerPoint s.model x

-- the point x / d
abbrev pub FractionalPointOf : State → List ℤ → ℕ → Type 0
FractionalPointOf s x d = FractionalPoint s.model x d

-- "at rest is judged with the rows of that state"
abbrev pub AtRest : State → Type 0
AtRest s = ProbingFixpoint s.model.n s.model.m s.model.rows s.model.box

-- literal 2k + v is true at x: variable k is v
unfoldable pub LiteralTrue : ℕ → ℕ → List ℤ → Type 0
LiteralTrue k v x = at x k ≡ pos v

-- "An implication is recorded when its table byte is 1"
unfoldable pub Recorded : ℕ → List ℕ → ℕ → ℕ → ℕ → ℕ → Type 0
Recorded n t k v j w = get_or t (byte_of n (literal k v) (literal j w)) 0 ≡ 1

-- "it holds at a point when its second literal is true there or its first is not"
unfoldable pub ImplicationHolds : ℕ → ℕ → ℕ → ℕ → List ℤ → Type 0
ImplicationHolds k v j w x = LiteralTrue j w x ⊎ (LiteralTrue k v x → ⊥)

-- every recorded implication holds at x
pub record TableHolds (n : ℕ) (t : List ℕ) (x : List ℤ) : Type 0 where
  pub holds : (k v j w : ℕ) → k < n → v < 2 → j < n → w < 2 → Recorded n t k v j w → ImplicationHolds k v j w x
