-- What the verdicts mean for the points of the model.
use Rattle.std.specs.Prelude.{◌*◌, ◌+◌, ◌<◌, ℕ, ℤ, get_or, ◌≤ℤ◌, List, ◌↔◌, ◌≡◌}
use Rattle.model.specs.Box.{at, lower, upper}
use Rattle.model.specs.Model.{Model}
use Rattle.model.specs.Point.{InBox, IntegerPoint, Meets}
use Rattle.model.specs.Rows.{row_at}
use Rattle.model.specs.State.{State}
use Rattle.semantics.specs.Call.{Call}
use Rattle.semantics.specs.Run.{run}
use Rattle.proposals.specs.Proposals.{proposal}
use Rattle.proposals.specs.Verdict.{inside, verdict}

-- "outside the box at the lowest such variable": that is j
pub record LowestOutside (M : Model) (x : List ℤ) (j : ℕ) : Type 0 where
  pub exists : j < M.n
  pub outside : (lower M.box j ≤ℤ at x j) × (at x j ≤ℤ upper M.box j) → ⊥
  pub below : (k : ℕ) → k < j → (lower M.box k ≤ℤ at x k) × (at x k ≤ℤ upper M.box k)

-- "if inside the box, the lowest row broken": that is i
pub record LowestBroken (M : Model) (x : List ℤ) (i : ℕ) : Type 0 where
  pub box : InBox M.n M.box x
  pub exists : i < M.m
  pub broken : Meets M.n (row_at M.n M.rows i) x → ⊥
  pub below : (k : ℕ) → k < i → Meets M.n (row_at M.n M.rows k) x

-- of the numbers Y that tell the verdicts of count proposals P against M
pub record Judged (M : Model) (P : List ℤ) (count : ℕ) (Y : List ℕ) : Type 0 where
  -- yes exactly at the integer points of the model
  pub points : (c : ℕ) → c < count → (get_or Y (2 * c) 0 ≡ 0) ↔ IntegerPoint M (proposal M.n P c)
  -- "A proposal held against the raw book and against the book reduced from it without ties gets the same yes or no.": M may be what any
  -- list of calls, those of the rounds among them, made of a state s, and s is then the raw one. By demand 2.
  pub reduced : (s : State) (cs : List Call) → (run s cs).model ≡ M → (c : ℕ) → c < count
      → (get_or Y (2 * c) 0 ≡ 0) ↔ (verdict s.model (proposal M.n P c) ≡ inside)
  -- and else the variable or the row that shows it
  pub outside : (c : ℕ) → c < count → get_or Y (2 * c) 0 ≡ 1 → LowestOutside M (proposal M.n P c) (get_or Y (2 * c + 1) 0)
  pub broken : (c : ℕ) → c < count → get_or Y (2 * c) 0 ≡ 2 → LowestBroken M (proposal M.n P c) (get_or Y (2 * c + 1) 0)
