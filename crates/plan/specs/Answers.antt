-- What the three calls answer.
use Rattle.std.specs.Prelude.{ℕ, eqb, ℤ, length, cond, true, List, Result, Ok, Err}
use Rattle.book.specs.Book.{rows, variables}
use Rattle.book.specs.BookChecks.{trailer_checks}
use Rattle.model.specs.Checks.{first}
use Rattle.demands.specs.Passes.{enough_budget, pass_limit, total_width}
use Rattle.plan.specs.Lengths.{Lengths, lengths_for, lengths_of}
use Rattle.plan.specs.PlanChecks.{bounds_checks, list_fits}
use Rattle.model.specs.declared.refusal.Refusal.{Refusal}
use Rattle.model.specs.Refusals.{number_of}
use Rattle.plan.specs.declared.BufferLengths.{BufferLengths}
use Rattle.plan.specs.declared.BoxBudget.{BoxBudget}
use Rattle.plan.specs.declared.PassLimit.{PassLimit}

-- refused by a check's number; the lengths; the total width and the budget; those and an upper limit on the passes
pub data Answer : Type 0 where
  refused : ℕ → Answer
  lengths_are : Lengths → Answer
  width_is : (width budget : ℕ) → Answer
  passes_are : (width budget passes : ℕ) → Answer

-- what the results of the code stand for; each is injective (`lengths-injective`, `width-injective`, `passes-injective`)
unfoldable pub lengths_answer : Result BufferLengths Refusal → Answer
lengths_answer (Ok l) = lengths_are (lengths_of l)
lengths_answer (Err r) = refused (number_of r)

unfoldable pub width_answer : Result BoxBudget Refusal → Answer
width_answer (Ok b) = width_is b.width b.budget
width_answer (Err r) = refused (number_of r)

unfoldable pub passes_answer : Result PassLimit Refusal → Answer
passes_answer (Ok l) = passes_are l.width l.budget l.passes
passes_answer (Err r) = refused (number_of r)

-- refused where a check fails, else a
unfoldable pub unless : ℕ → Answer → Answer
unless fault a = cond (eqb fault 0) a (refused fault)

-- "From a trailer: the length of each buffer that n and m fix.": with the checks of the trailer call, 1, 5, 3 and 4
unfoldable pub lengths_call : List ℕ → Answer
lengths_call t = unless (first (trailer_checks t)) (lengths_are (lengths_for (variables t) (rows t)))

-- "From the bounds as well: the total width, .., and a settle budget that is never spent, the width plus 1."
unfoldable pub width_call : ℕ → List ℤ → Answer
width_call n B = unless (first (bounds_checks n B true)) (width_is (total_width n B) (enough_budget n B))

-- "From a sheet as well: an upper limit on the passes it makes"
unfoldable pub passes_call : ℕ → List ℤ → List ℕ → Answer
passes_call n B xs =
    unless (first (bounds_checks n B (list_fits (length xs)))) (passes_are (total_width n B) (enough_budget n B) (pass_limit (total_width n B) xs))
