-- Row sums (01, "Row sums"; 000, 1.3): the least and the greatest value of a row's left side over the box, and its widest term.
use Rattle.std.specs.Prelude.{suc, zero, ℕ, ◌*ℤ◌, ◌-ℤ◌, pos, ℤ, cond, List}
use Rattle.std.specs.Int.Signed.{lt_z}
use Rattle.integer.specs.Index.{sum}
use Rattle.integer.specs.Order.{max_z}
use Rattle.model.specs.Box.{at, lower, upper}

-- the least of a × x for x from l to u: "a×l for a > 0 and a×u for a < 0"; 0 for a = 0
unfoldable pub min_term : ℤ → ℤ → ℤ → ℤ
min_term a l u = cond (lt_z (pos 0) a) (a *ℤ l) (a *ℤ u)

-- "the opposite"
unfoldable pub max_term : ℤ → ℤ → ℤ → ℤ
max_term a l u = cond (lt_z (pos 0) a) (a *ℤ u) (a *ℤ l)

-- Lmin: the minimum activity of the row A over the box B
unfoldable pub min_activity : ℕ → List ℤ → List ℤ → ℤ
min_activity n A B = sum n (λ j. min_term (at A j) (lower B j) (upper B j))

-- Lmax: the maximum activity
unfoldable pub max_activity : ℕ → List ℤ → List ℤ → ℤ
max_activity n A B = sum n (λ j. max_term (at A j) (lower B j) (upper B j))

-- how far the greatest of a × x lies above the least: |a| × (u − l)
unfoldable pub term_width : ℤ → ℤ → ℤ → ℤ
term_width a l u = max_term a l u -ℤ min_term a l u

-- the greatest of f 0, f 1, .., f (n − 1) and 0
unfoldable pub greatest : ℕ → (ℕ → ℤ) → ℤ
greatest zero f = pos 0
greatest (suc n) f = max_z (greatest n f) (f n)

-- The width of the row's widest term. A row that is met moves a bound exactly if a term is wider than b − Lmin, the room that
-- the other terms leave at their least (`stays-is`).
unfoldable pub widest_term : ℕ → List ℤ → List ℤ → ℤ
widest_term n A B = greatest n (λ j. term_width (at A j) (lower B j) (upper B j))
