-- What the calls answer and leave, by 01's numbers and values.
use Rattle.std.specs.Prelude.{ℕ, eqb, ℤ, length, cond, List, Result, Ok, Err}
use Rattle.model.specs.Checks.{first}
use Rattle.model.specs.Model.{Model}
use Rattle.model.specs.Rows.{Rows}
use Rattle.book.specs.Book.{decode, encode, rows, variables}
use Rattle.book.specs.BookChecks.{read_checks, trailer_checks, write_checks}
use Rattle.model.specs.declared.refusal.Refusal.{Refusal}
use Rattle.model.specs.Refusals.{number_of}
use Rattle.book.specs.declared.layout.Sizes.{Sizes}

-- refused by a check's number; accepted with n and m; written
pub data Answer : Type 0 where
  refused : ℕ → Answer
  sizes_are : ℕ → ℕ → Answer
  written : Answer

-- what the results of the code stand for; each is injective (`sizes-injective`, `write-injective`)
unfoldable pub sizes_answer : Result Sizes Refusal → Answer
sizes_answer (Err r) = refused (number_of r)
sizes_answer (Ok s) = sizes_are s.n s.m

unfoldable pub write_answer : Result (Unit {0}) Refusal → Answer
write_answer (Err r) = refused (number_of r)
write_answer (Ok x) = written

-- refused where a check fails, else a
unfoldable pub unless : ℕ → Answer → Answer
unless fault a = cond (eqb fault 0) a (refused fault)

-- what is lent stays where a check fails, else it is `after`
unfoldable pub lent {ℓ} : {A : Type ℓ} → ℕ → A → A → A
lent fault before after = cond (eqb fault 0) after before

-- ---- the trailer call

unfoldable pub trailer_call : List ℕ → Answer
trailer_call t = unless (first (trailer_checks t)) (sizes_are (variables t) (rows t))

-- ---- reading bs into the buffers B and those of the rows A

unfoldable pub read_fault : List ℕ → List ℤ → Rows → ℕ
read_fault bs B A = first (read_checks bs B A)

unfoldable pub read_call : List ℕ → List ℤ → Rows → Answer
read_call bs B A = unless (read_fault bs B A) (sizes_are (decode bs).n (decode bs).m)

-- what is in the buffers then
unfoldable pub bounds_read : List ℕ → List ℤ → Rows → List ℤ
bounds_read bs B A = lent (read_fault bs B A) B (decode bs).box

unfoldable pub coefs_read : List ℕ → List ℤ → Rows → List ℤ
coefs_read bs B A = lent (read_fault bs B A) A.coefs (decode bs).rows.coefs

unfoldable pub rhs_read : List ℕ → List ℤ → Rows → List ℤ
rhs_read bs B A = lent (read_fault bs B A) A.rhs (decode bs).rows.rhs

-- "First-edition books have kind 0 throughout": whatever the buffer held, it is all 0 (`kinds_of`)
unfoldable pub kinds_read : List ℕ → List ℤ → Rows → List ℕ
kinds_read bs B A = lent (read_fault bs B A) A.kinds (decode bs).rows.kinds

-- ---- writing the model M into the buffer bs

unfoldable pub write_fault : Model → List ℕ → ℕ
write_fault M bs = first (write_checks M (length bs))

unfoldable pub write_call : Model → List ℕ → Answer
write_call M bs = unless (write_fault M bs) written

-- what is in the buffer then
unfoldable pub book_written : Model → List ℕ → List ℕ
book_written M bs = lent (write_fault M bs) bs (encode M)
