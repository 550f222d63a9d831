-- What the two calls answer, and the lent buffer afterwards (02, C-23: "One call tells the number of pages; another writes them, ..,
-- into a lent buffer of 4,860 bytes for each page").
use Rattle.std.specs.Prelude.{ℕ, eqb, ℤ, length, cond, List, Result, Ok, Err}
use Rattle.model.specs.Checks.{first}
use Rattle.pages.specs.Page.{page_count, pages}
use Rattle.pages.specs.PageChecks.{count_checks, page_checks}
use Rattle.model.specs.declared.refusal.Refusal.{Refusal}
use Rattle.model.specs.Refusals.{number_of}

-- refused by a check's number; the number of pages; the pages are written
pub data Answer : Type 0 where
  refused : ℕ → Answer
  pages_are : ℕ → Answer
  written : Answer

-- what the results of the code stand for; each is injective (`count-injective`, `pages-injective`)
unfoldable pub count_answer : Result ℕ Refusal → Answer
count_answer (Ok number) = pages_are number
count_answer (Err r) = refused (number_of r)

unfoldable pub pages_answer : Result (Unit {0}) Refusal → Answer
pages_answer (Ok x) = written
pages_answer (Err r) = refused (number_of r)

-- refused where a check fails, else a
unfoldable pub unless : ℕ → Answer → Answer
unless fault a = cond (eqb fault 0) a (refused fault)

-- "One call tells the number of pages"
unfoldable pub count_call : ℕ → List ℕ → Answer
count_call n t = unless (first (count_checks n t)) (pages_are (page_count n t))

-- "another writes them": the answer, and the buffer P afterwards; "on a refusal no lent number changes"
unfoldable pub pages_call : ℕ → List ℤ → List ℕ → ℕ → Answer
pages_call n B t room = unless (first (page_checks n B t room)) written

unfoldable pub pages_after : ℕ → List ℤ → List ℕ → List ℕ → List ℕ
pages_after n B t P = cond (eqb (first (page_checks n B t (length P))) 0) (pages n B t) P
