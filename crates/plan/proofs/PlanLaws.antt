-- Laws of the plan: what the checks of the bounds come to, refused and accepted answers, and what the answers mean for every model
-- with these bounds, by the laws of passes.
use Prim.Native.Nat.{◌*◌, ◌%◌, ◌<◌, ◌≤◌, ℕ}
use borrow.Author.Tests.{ne_eqb}
use lib.Dec.{T, eqb, eqb→eq, leb}
use lib.IntN.{ℤ}
use lib.ListN.{length}
use mathlib.Core.Bool.{Bool, cond, false, not, true}
use mathlib.Core.List.{List}
use mathlib.Core.Logic.{◌↔◌}
use mathlib.Core.Path.{◌∙◌, ◌≡◌, ap, ap₂, refl, subst, sym}
use native.Mathlib.Omega.{arith}
use Rattle.integer.proofs.Parts.{zarith}
use Rattle.integer.specs.Range.{Within}
use Rattle.integer.proofs.RangeLaws.{within! }
use Rattle.integer.proofs.Tests.{and_r, cond_ind, eqb-test, leb-test, test-false}
use Rattle.model.specs.Box.{at}
use Rattle.model.specs.Checks.{box_checks, first, length_checks, size_checks, table, table_length_checks}
use Rattle.model.specs.Limits.{max_bound, max_rows, max_variables, min_bound}
use Rattle.model.specs.Model.{Model}
use Rattle.model.specs.Places.{place}
use Rattle.model.specs.Valid.{ValidBox}
use Rattle.model.proofs.CheckLaws.{first-none, in_range-all, length-test, narrow-all, shape-test, size-test}
use Rattle.model.proofs.PlaceLaws.{placed_from}
use Rattle.book.specs.Answers as books
use Rattle.book.specs.Book.{rows, variables}
use Rattle.book.specs.BookChecks.{layout_checks, offset_checks, trailer_checks}
use Rattle.semantics.specs.Call.{kind_of, removal, row_propagation, tightening, unknown}
use Rattle.semantics.specs.CallList.{calls_made}
use Rattle.semantics.specs.Propagate.{is_spent, propagate}
use Rattle.demands.specs.Passes.{ListPassesWithin, NeverSpent, call_limit, enough_budget, pass_limit, passes_made, total_width}
use Rattle.demands.proofs.Passes.{enough-budget, list-passes-within, total-width-limit}
use Rattle.plan.specs.Answers.{Answer, lengths_answer, lengths_are, lengths_call, passes_answer, passes_are, passes_call, refused, unless, width_answer, width_call, width_is}
use Rattle.plan.specs.Lengths.{Lengths, lengths_for, lengths_of}
use Rattle.plan.specs.Meaning.{EnoughFor, PassesAtMost}
use Rattle.plan.specs.PlanChecks.{bounds_checks, list_fits}
use Rattle.std.specs.Prelude.{Result, Ok, Err}
use Rattle.model.specs.declared.refusal.Refusal.{Refusal}
use Rattle.model.specs.Refusals.{number_of}
use Rattle.model.proofs.RefusalLaws.{number_of-injective, number_of-ne0}
use Rattle.plan.specs.declared.BufferLengths as code
use Rattle.plan.specs.declared.BoxBudget.{BoxBudget}
use Rattle.plan.specs.declared.PassLimit.{PassLimit}

-- two different constructors: `cc` makes of them that 0 is 1
no_number : {A : Type 0} → ◌≡◌ {A = ℕ} 0 1 → A
no_number z = absurd (let k : ⊥ = omega arith in k)

-- ---- refused and accepted

module _ {r fault : ℕ} (e : r ≡ fault) (n : r ≡ 0 → ⊥) where
  pub refused-by : (a : Answer) → refused r ≡ unless fault a
  unfolding unless
  refused-by a = rw (← e, ne_eqb r 0 n)

-- a check that refuses by name
pub refused-by_name : {fault : ℕ} (z : Refusal) → number_of z ≡ fault → (a : Answer) → refused (number_of z) ≡ unless fault a
refused-by_name z e a = refused-by e (number_of-ne0 z) a

pub accepted-by : {fault : ℕ} → fault ≡ 0 → (a : Answer) → a ≡ unless fault a
unfolding unless
accepted-by e a = rw e

-- ---- what the checks come to

module _ (n : ℕ) (B : List ℤ) (fits : Bool) (e : first (bounds_checks n B fits) ≡ 0) where
  pub bounds-passed : (0 < n) × (n ≤ max_variables) × ValidBox n B × T fits
  unfolding bounds_checks size_checks box_checks
  bounds-passed =
      let h = (first-none (bounds_checks n B fits) tt).0 e in
      let s = (size-test n 0).0 h.0 in
      let l = (eqb-test (length B) (2 * n)).0 h.1.0 in
      let k = h.1.1.1 in (
        s.0,
        s.1,
        record {
          len = l;
          range = (in_range-all min_bound max_bound B (omega zarith) (omega zarith)).0 k.0;
          shape = (shape-test n B l).0 k.1.0;
          narrow = (narrow-all n B l).0 k.1.1.0;
        },
        h.1.1.0,
      )

-- they stand in the order of the places, as those of a model do
pub bounds-placed : (n : ℕ) (B : List ℤ) (fits : Bool) → T (placed_from 0 (bounds_checks n B fits))
unfolding bounds_checks size_checks box_checks place
bounds-placed n B fits = tt

-- a bound in range, as a size
pub bound-small : {n : ℕ} {B : List ℤ} → ValidBox n B → (i : ℕ) → Within 32_768 (at B i)
bound-small {n} {B} v i = let b = v.range i in within! 32_768 (at B i) (omega zarith)

-- a record of any other kind counts nothing
pub other-limit : (w kind budget : ℕ) → (kind ≡ 2 → ⊥) → (kind ≡ 3 → ⊥) → call_limit w (kind_of kind) budget ≡ 0
unfolding kind_of call_limit
other-limit w kind budget two three = rw (test-false (eqb kind 2) (eqb-test kind 2) two, test-false (eqb kind 3) (eqb-test kind 3) three)
    (cond_ind (eqb kind 1) row_propagation _ (λ k. call_limit w k budget ≡ 0) (λ _. refl)
    (λ _. cond_ind (eqb kind 4) tightening _ (λ k. call_limit w k budget ≡ 0) (λ _. refl)
    (λ _. cond_ind (eqb kind 5) removal unknown (λ k. call_limit w k budget ≡ 0) (λ _. refl) (λ _. refl))))

pub list-few : (len : ℕ) → T (list_fits len) → len ≤ 4_000_000
unfolding list_fits
list-few len t = (leb-test len 4_000_000).0 (and_r (eqb (len % 4) 0) (leb len 4_000_000) t)

-- ---- what the answers mean

module _ (n : ℕ) (B : List ℤ) (h : 0 < n) (few : n ≤ max_variables) (v : ValidBox n B) where
  enough-for : EnoughFor n B (enough_budget n B)
  unfolding NeverSpent enough_budget
  enough-for = record {
    not_spent = λ M w en eb. subst (λ (b : ℕ). T (not (is_spent (propagate b M.n M.m M.rows M.box).ending)))
        (ap₂ enough_budget en eb) (enough-budget M w).0;
    accepted = (omega arith, omega (arith, total-width-limit h few v));
  }

passes-at-most : (n : ℕ) (B : List ℤ) (xs : List ℕ) → PassesAtMost n B xs (pass_limit (total_width n B) xs)
unfolding ListPassesWithin
passes-at-most n B xs = record {
  within = λ s en eb. subst (λ (w : ℕ). passes_made s (calls_made s xs) ≤ pass_limit w xs) (ap₂ total_width en eb) (list-passes-within s xs);
}

width-means : (n : ℕ) (B : List ℤ) (w b : ℕ) → width_is w b ≡ width_call n B → EnoughFor n B b
unfolding width_call unless
width-means n B w b = cond_ind (eqb fault 0) told (refused fault) (λ a. width_is w b ≡ a → EnoughFor n B b)
    (λ t e. let c = bounds-passed n B true (eqb→eq fault 0 t) in
    subst (EnoughFor n B) (let q : enough_budget n B ≡ b = cc in q) (enough-for n B c.0 c.1 c.2))
    (λ _ e. no_number cc)
  where
    fault : ℕ
    fault = first (bounds_checks n B true)

    told : Answer
    told = width_is (total_width n B) (enough_budget n B)

passes-means : (n : ℕ) (B : List ℤ) (xs : List ℕ) (w b p : ℕ) → passes_are w b p ≡ passes_call n B xs → EnoughFor n B b × PassesAtMost n B xs p
unfolding passes_call unless
passes-means n B xs w b p = cond_ind (eqb fault 0) told (refused fault) (λ a. passes_are w b p ≡ a → EnoughFor n B b × PassesAtMost n B xs p)
    (λ t e. let c = bounds-passed n B (list_fits (length xs)) (eqb→eq fault 0 t) in (
      subst (EnoughFor n B) (let q : enough_budget n B ≡ b = cc in q) (enough-for n B c.0 c.1 c.2),
      subst (PassesAtMost n B xs) (let q : pass_limit (total_width n B) xs ≡ p = cc in q) (passes-at-most n B xs),
    ))
    (λ _ e. no_number cc)
  where
    fault : ℕ
    fault = first (bounds_checks n B (list_fits (length xs)))

    told : Answer
    told = passes_are (total_width n B) (enough_budget n B) (pass_limit (total_width n B) xs)

-- what an answer that is the call's promises
pub width-promised : (n : ℕ) (B : List ℤ) (a : Answer) → a ≡ width_call n B
    → (a ≡ width_call n B) × ((w b : ℕ) → a ≡ width_is w b → EnoughFor n B b)
width-promised n B a e = (e, λ w b q. width-means n B w b (sym q ∙ e))

pub passes-promised : (n : ℕ) (B : List ℤ) (xs : List ℕ) (a : Answer) → a ≡ passes_call n B xs
    → (a ≡ passes_call n B xs) × ((w b p : ℕ) → a ≡ passes_are w b p → EnoughFor n B b × PassesAtMost n B xs p)
passes-promised n B xs a e = (e, λ w b p q. passes-means n B xs w b p (sym q ∙ e))

-- ---- the lengths

-- a trailer that says n and m is accepted
sizes-of : (t : List ℕ) (n m : ℕ) → books.sizes_are n m ≡ books.trailer_call t
    → (first (trailer_checks t) ≡ 0) × (n ≡ variables t) × (m ≡ rows t)
unfolding books.trailer_call books.unless
sizes-of t n m = cond_ind (eqb fault 0) (books.sizes_are (variables t) (rows t)) (books.refused fault)
    (λ a. books.sizes_are n m ≡ a → (fault ≡ 0) × (n ≡ variables t) × (m ≡ rows t))
    (λ u e. (eqb→eq fault 0 u, (let q : n ≡ variables t = cc in q), (let q : m ≡ rows t = cc in q)))
    (λ _ e. no_number cc)
  where
    fault : ℕ
    fault = first (trailer_checks t)

-- and they are within their limits
pub sizes-few : (t : List ℕ) (n m : ℕ) → books.sizes_are n m ≡ books.trailer_call t → (n ≤ max_variables) × (m ≤ max_rows)
unfolding trailer_checks layout_checks size_checks offset_checks
sizes-few t n m e =
    let s = sizes-of t n m e in
    let z = (size-test (variables t) (rows t)).0 ((first-none (trailer_checks t) tt).0 s.0).1.1.0 in
    rw (s.1, s.2) (z.1, z.2)

pub lengths-needed : (t : List ℕ) (n m : ℕ) → books.sizes_are n m ≡ books.trailer_call t → lengths_are (lengths_for n m) ≡ lengths_call t
unfolding lengths_call
lengths-needed t n m e = let s = sizes-of t n m e in rw (s.1, s.2) (accepted-by s.0 (lengths_are (lengths_for (variables t) (rows t))))

pub lengths-refused : (t : List ℕ) (number : ℕ) → books.refused number ≡ books.trailer_call t → refused number ≡ lengths_call t
unfolding lengths_call unless books.trailer_call books.unless
lengths-refused t number = same (eqb (first (trailer_checks t)) 0)
  where
    same : (ok : Bool) → books.refused number ≡ cond ok (books.sizes_are (variables t) (rows t)) (books.refused (first (trailer_checks t)))
        → refused number ≡ cond ok (lengths_are (lengths_for (variables t) (rows t))) (refused (first (trailer_checks t)))
    same true e = no_number cc
    same false e = let q : number ≡ first (trailer_checks t) = cc in ap refused q

-- buffers of these lengths, and no others, pass check 5
pub lengths-fit : (M : Model) → let l = lengths_for M.n M.m in
    (first (length_checks M) ≡ 0)
    ↔ ((length M.box ≡ l.bounds) × (length M.rows.coefs ≡ l.coefs) × (length M.rows.rhs ≡ l.rhs) × (length M.rows.kinds ≡ l.kinds))
unfolding lengths_for length_checks
lengths-fit M =
    let d = first-none (length_checks M) tt in
    let l = length-test M in
    ((λ e. l.0 (d.0 e).0), (λ h. d.1 (l.1 h, tt)))

pub table_fits : (n m : ℕ) (t : List ℕ) → (first (table_length_checks n (table t)) ≡ 0) ↔ (length t ≡ (lengths_for n m).table)
unfolding lengths_for table_length_checks
table_fits n m t =
    let d = first-none (table_length_checks n (table t)) tt in
    let l = eqb-test (length t) (4 * (n * n)) in
    ((λ e. l.0 (d.0 e).0), (λ h. d.1 (l.1 h, tt)))

-- ---- each result of the code stands for answers one to one

-- the struct of the lengths that it stands for
abbrev back : Lengths → code.BufferLengths
back l =
    record {
      n = l.n;
      m = l.m;
      bounds = l.bounds;
      coefs = l.coefs;
      rhs = l.rhs;
      kinds = l.kinds;
      table = l.table;
      ties = l.ties;
      clique_coefs = l.clique_coefs;
      clique_rhs = l.clique_rhs;
      book = l.book;
    }

pub lengths-injective : (a b : Result code.BufferLengths Refusal) → lengths_answer a ≡ lengths_answer b → a ≡ b
unfolding lengths_answer lengths_of
lengths-injective (Err r) (Err s) e = let n : number_of r ≡ number_of s = cc in ap Err (number_of-injective r s n)
lengths-injective (Err r) (Ok l) e = no_number cc
lengths-injective (Ok l) (Err s) e = no_number cc
lengths-injective (Ok l) (Ok k) e =
    let q : lengths_of l ≡ lengths_of k = cc in ap (λ (x : Lengths). Ok (back x)) q

pub width-injective : (a b : Result BoxBudget Refusal) → width_answer a ≡ width_answer b → a ≡ b
unfolding width_answer
width-injective (Err r) (Err s) e = let n : number_of r ≡ number_of s = cc in ap Err (number_of-injective r s n)
width-injective (Err r) (Ok b) e = no_number cc
width-injective (Ok a) (Err s) e = no_number cc
width-injective (Ok a) (Ok b) e =
    let w : a.width ≡ b.width = cc in
    let s : a.budget ≡ b.budget = cc in
    let of : ℕ → ℕ → BoxBudget = λ x y. record { width = x; budget = y } in
    ap Ok (ap₂ of w s)

pub passes-injective : (a b : Result PassLimit Refusal) → passes_answer a ≡ passes_answer b → a ≡ b
unfolding passes_answer
passes-injective (Err r) (Err s) e = let n : number_of r ≡ number_of s = cc in ap Err (number_of-injective r s n)
passes-injective (Err r) (Ok l) e = no_number cc
passes-injective (Ok l) (Err s) e = no_number cc
passes-injective (Ok l) (Ok k) e =
    let w : l.width ≡ k.width = cc in
    let s : l.budget ≡ k.budget = cc in
    let p : l.passes ≡ k.passes = cc in
    let of : ℕ → ℕ → ℕ → PassLimit = λ x y z. record { width = x; budget = y; passes = z } in
    ap Ok (ap (λ (x : ℕ). of x l.budget l.passes) w ∙ ap₂ (of k.width) s p)
