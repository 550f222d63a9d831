-- Points of a model, in whole numbers and in fractions. Both read the kinds (02, C-14).
use Rattle.std.specs.Prelude.{◌<◌, ℕ, T, ◌*ℤ◌, pos, ℤ, length, ◌≤ℤ◌, not, List, ◌≡◌}
use Rattle.integer.specs.Index.{sum}
use Rattle.model.specs.Box.{at, lower, upper}
use Rattle.model.specs.Model.{Model}
use Rattle.model.specs.Rows.{Row, is_equality, row_at}

-- the sum of coefficient × variable
unfoldable pub dot : ℕ → List ℤ → List ℤ → ℤ
dot n A x = sum n (λ j. at A j *ℤ at x j)

pub record InBox (n : ℕ) (B x : List ℤ) : Type 0 where
  pub low : (j : ℕ) → j < n → lower B j ≤ℤ at x j
  pub high : (j : ℕ) → j < n → at x j ≤ℤ upper B j

-- the ≤ row with the coefficients A and the right side b holds at x (01: "sum of coefficient × variable ≤ right side b")
pub record RowHolds (n : ℕ) (A : List ℤ) (b : ℤ) (x : List ℤ) : Type 0 where
  pub le : dot n A x ≤ℤ b

-- the row holds at x, by its kind (02, C-14: "Integer and fractional points read the kind.")
pub record Meets (n : ℕ) (r : Row) (x : List ℤ) : Type 0 where
  pub le : T (not (is_equality r)) → dot n r.coefs x ≤ℤ r.rhs
  pub eq : T (is_equality r) → dot n r.coefs x ≡ r.rhs

-- 01: "An integer point is a list of whole numbers inside the box that meets every row."
pub record IntegerPoint (M : Model) (x : List ℤ) : Type 0 where
  pub len : length x ≡ M.n
  pub inside : InBox M.n M.box x
  pub rows : (i : ℕ) → i < M.m → Meets M.n (row_at M.n M.rows i) x

-- The same of the point x / d, with whole numerators x over the denominator d.
pub record InBoxOver (n : ℕ) (B x : List ℤ) (d : ℕ) : Type 0 where
  pub low : (j : ℕ) → j < n → (lower B j *ℤ pos d) ≤ℤ at x j
  pub high : (j : ℕ) → j < n → at x j ≤ℤ (upper B j *ℤ pos d)

pub record RowHoldsOver (n : ℕ) (A : List ℤ) (b : ℤ) (x : List ℤ) (d : ℕ) : Type 0 where
  pub le : dot n A x ≤ℤ (b *ℤ pos d)

pub record MeetsOver (n : ℕ) (r : Row) (x : List ℤ) (d : ℕ) : Type 0 where
  pub le : T (not (is_equality r)) → dot n r.coefs x ≤ℤ (r.rhs *ℤ pos d)
  pub eq : T (is_equality r) → dot n r.coefs x ≡ (r.rhs *ℤ pos d)

-- 01: "A fractional point is the same with whole numerators over one positive denominator."
-- An integer point is a fractional point over 1 (`integer-fractional`).
pub record FractionalPoint (M : Model) (x : List ℤ) (d : ℕ) : Type 0 where
  pub len : length x ≡ M.n
  pub positive : 0 < d
  pub inside : InBoxOver M.n M.box x d
  pub rows : (i : ℕ) → i < M.m → MeetsOver M.n (row_at M.n M.rows i) x d
