-- What is known of the rows before a probe: their index, and which of them are clean.
use Rattle.std.specs.Prelude.{◌<◌, ◌≤◌, ℕ, ℤ, length, List, ◌≡◌}
use Rattle.model.specs.Box.{Inside, NonEmpty, lower, upper, with_bounds}
use Rattle.model.specs.Valid.{ValidModel}
use Rattle.model.specs.Model.{model_of}
use Rattle.model.specs.Rows.{Rows}
use Rattle.row_index.specs.Index.{Index}
use Rattle.row_marks.specs.Marks.{Clean}
use Rattle.model.specs.Limits.{max_rows}

pub record Marked (n m : ℕ) (B : List ℤ) (A : Rows) (across signs marks : List ℕ) : Type 0 where
  pub index : Index n m A.coefs across signs
  pub clean : Clean n m A B marks
  pub len : length marks ≡ max_rows

-- a side of k of the box B, fixed, and the marks of B
pub record SideReady (n m : ℕ) (B : List ℤ) (A : Rows) (k : ℕ) (across signs : List ℕ) (seen : List ℤ) (marks : List ℕ) (side : List ℤ) : Type 0 where
  pub valid : ValidModel (model_of n m side A)
  pub non_empty : NonEmpty n B
  pub variable : k < n
  pub inside : Inside n side B
  pub elsewhere : side ≡ with_bounds B k (lower side k) (upper side k)
  pub seen_len : length B ≡ length seen
  pub index : Index n m A.coefs across signs
  pub clean : Clean n m A B marks
  pub room : m ≤ length marks
