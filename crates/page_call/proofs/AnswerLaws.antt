-- What a call answers: refused where a check fails, else what it says. The answers of the code are told apart.
use Prim.Native.Nat.{ℕ}
use borrow.Author.Tests.{ne_eqb}
use lib.IntN.{ℤ}
use lib.ListN.{length}
use mathlib.Core.List.{List}
use mathlib.Core.Path.{◌≡◌, ap, refl}
use native.Mathlib.Omega.{arith}
use Rattle.model.specs.Checks.{first}
use Rattle.pages.specs.Page.{pages}
use Rattle.pages.specs.PageChecks.{page_checks}
use Rattle.page_call.specs.Answers.{Answer, count_answer, pages_after, pages_answer, refused, unless}
use Rattle.std.specs.Prelude.{Result, Ok, Err}
use Rattle.model.specs.declared.refusal.Refusal.{Refusal}
use Rattle.model.specs.Refusals.{number_of}
use Rattle.model.proofs.RefusalLaws.{number_of-injective, number_of-ne0}

pub refused-by : {r fault : ℕ} → r ≡ fault → (r ≡ 0 → ⊥) → (a : Answer) → refused r ≡ unless fault a
unfolding unless
refused-by {r} e n a = rw (← e, ne_eqb r 0 n)

pub accepted-by : {fault : ℕ} → fault ≡ 0 → (a : Answer) → a ≡ unless fault a
unfolding unless
accepted-by e a = rw e

-- the buffer where a check fails, and where none does
pub left_alone : {r : ℕ} (n : ℕ) (B : List ℤ) (t P : List ℕ) → r ≡ first (page_checks n B t (length P)) → (r ≡ 0 → ⊥) → P ≡ pages_after n B t P
unfolding pages_after
left_alone {r} n B t P e h = rw (← e, ne_eqb r 0 h)

pub all-printed : (n : ℕ) (B : List ℤ) (t P : List ℕ) → first (page_checks n B t (length P)) ≡ 0 → pages n B t ≡ pages_after n B t P
unfolding pages_after
all-printed n B t P e = rw e

-- a check that refuses by name
pub refused-by_name : {fault : ℕ} (z : Refusal) → number_of z ≡ fault → (a : Answer) → refused (number_of z) ≡ unless fault a
refused-by_name z e a = refused-by e (number_of-ne0 z) a

pub left_alone-by_name : (z : Refusal) (n : ℕ) (B : List ℤ) (t P : List ℕ) → number_of z ≡ first (page_checks n B t (length P)) → P ≡ pages_after n B t P
left_alone-by_name z n B t P e = left_alone n B t P e (number_of-ne0 z)

-- ---- different answers are different results of the code

no_number : {A : Type 0} → ◌≡◌ {A = ℕ} 0 1 → A
no_number z = absurd (let k : ⊥ = omega arith in k)

pub count-injective : (a b : Result ℕ Refusal) → count_answer a ≡ count_answer b → a ≡ b
unfolding count_answer
count-injective (Err r) (Err s) e = let n : number_of r ≡ number_of s = cc in ap Err (number_of-injective r s n)
count-injective (Err r) (Ok k) e = no_number cc
count-injective (Ok k) (Err s) e = no_number cc
count-injective (Ok k) (Ok l) e = cc

pub pages-injective : (a b : Result (Unit {0}) Refusal) → pages_answer a ≡ pages_answer b → a ≡ b
unfolding pages_answer
pages-injective (Err r) (Err s) e = let n : number_of r ≡ number_of s = cc in ap Err (number_of-injective r s n)
pages-injective (Err r) (Ok y) e = no_number cc
pages-injective (Ok x) (Err s) e = no_number cc
pages-injective (Ok x) (Ok y) e = refl
