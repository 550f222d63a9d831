-- What the text that a program prints, in either form, means for the points of the book: demands 2 and 3 of the whole program.
use Rattle.std.specs.Prelude.{◌*◌, ◌<◌, ℕ, ℤ, List, [], ◌↔◌, ◌⊎◌, ◌≡◌}
use Rattle.book.specs.BookChecks.{book_fault}
use Rattle.report.specs.Report.{implication_at, implication_line, none_line, refused_line}
use Rattle.call_laws.specs.Points.{FractionalPointOf, ImplicationHolds, PointOf}
use Rattle.model.specs.State.{State}
use Rattle.demands.specs.TwoRuns.{HandedIn}
use Rattle.reduction.specs.Output.{left_text, output_as, state_read}
use Rattle.reduction.specs.declared.Form.{Form}

-- line i of the table that is left says `i k v j w`, and this implication holds at every integer point of s
pub record Implied (s left : State) (i : ℕ) : Type 0 where
  pub k : ℕ
  pub v : ℕ
  pub j : ℕ
  pub w : ℕ
  pub line : implication_at left.model.n left.table i ≡ implication_line k v j w
  pub holds : (x : List ℤ) → PointOf s x → ImplicationHolds k v j w x

-- the text is a report on a state, or its pages, that has the integer points of s, no fractional point more, and no `i` line that fails
-- at one
pub record Reported (form : Form) (s : State) (text : List ℕ) : Type 0 where
  pub left : State
  pub rounds : ℕ
  pub printed : text ≡ left_text form rounds left
  pub points : (x : List ℤ) → PointOf left x ↔ PointOf s x
  pub fractional : (x : List ℤ) (d : ℕ) → FractionalPointOf left x d → FractionalPointOf s x d
  pub implications : (i : ℕ) → i < 4 * (left.model.n * left.model.n) → (implication_at left.model.n left.table i ≡ []) ⊎ Implied s left i

-- `none` is printed only where no integer point exists
pub record NonePrinted (s : State) (text : List ℕ) : Type 0 where
  pub printed : text ≡ none_line
  pub no_point : (x : List ℤ) → PointOf s x → ⊥

-- of any input and any limit (proved as `output-means`)
pub record OutputMeans (form : Form) (limit : ℕ) (bs : List ℕ) : Type 0 where
  pub refused : (book_fault bs ≡ 0 → ⊥) → output_as form limit bs ≡ refused_line (book_fault bs)
  -- the model of an accepted book is one that demand 3 speaks of
  pub handed_in : book_fault bs ≡ 0 → HandedIn (state_read bs)
  pub answered : book_fault bs ≡ 0 → NonePrinted (state_read bs) (output_as form limit bs) ⊎ Reported form (state_read bs) (output_as form limit bs)
