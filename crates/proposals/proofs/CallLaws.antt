-- Laws of the call: its checks and those of a model, what an accepted call is lent, and what its verdicts mean.
use Prim.Native.Nat.{◌*◌, ◌+◌, ◌<◌, ◌≤◌, suc, zero, ℕ}
use borrow.Author.Tests.{ne_eqb}
use lib.Dec.{T, eqb, leb}
use lib.IntN.{ℤ}
use lib.ListN.{get_or, length}
use mathlib.Core.Bool.{Bool, ◌&&◌, false, true}
use mathlib.Core.List.{List, ◌++◌, ◌∷◌}
use mathlib.Core.Logic.{◌↔◌, ◌⊎◌, inl, inr}
use mathlib.Core.Path.{◌∙◌, ◌≡◌, ap, refl, subst, sym}
use native.Mathlib.Omega.{arith}
use Rattle.integer.proofs.Tests.{both, eqb-test, leb-test, test-false, test-true}
use Rattle.model.specs.Checks.{box_checks, first, length_checks, model_checks, model_fault, must, none, number_checks, size_checks, table_byte_checks, table_length_checks}
use Rattle.model.specs.Model.{Model}
use Rattle.model.specs.Point.{IntegerPoint}
use Rattle.model.specs.State.{State}
use Rattle.model.specs.Valid.{ValidModel}
use Rattle.model.proofs.CheckLaws.{first-go, first-none, fits-fault-none}
use Rattle.model.proofs.RowsLaws.{length-row_of}
use Rattle.semantics.specs.Call.{Call}
use Rattle.semantics.specs.Run.{run}
use Rattle.demands.specs.Demand2.{Demand2Runs}
use Rattle.demands.proofs.Demand2.{demand-2-runs}
use Rattle.proposals.specs.Call.{allocation_checks, allocation_fault, verdicts_left}
use Rattle.proposals.specs.Meaning.{Judged, LowestBroken, LowestOutside}
use Rattle.proposals.specs.Proposals.{case_of, max_proposals, number_of, numbers, proposal}
use Rattle.proposals.specs.Verdict.{Verdict, inside, verdict}
use Rattle.proposals.proofs.VerdictLaws.{broken-lowest, inside-case, inside-point, outside-lowest, same-verdict}

-- ---- the checks

count-test : (count : ℕ) → T (leb 1 count && leb count max_proposals) ↔ ((1 ≤ count) × (count ≤ max_proposals))
count-test count = both (leb 1 count) (leb count max_proposals) (leb-test 1 count) (leb-test count max_proposals)

pub count-in : (count : ℕ) → 1 ≤ count → count ≤ max_proposals → (leb 1 count && leb count max_proposals) ≡ true
count-in count h k = test-true _ (count-test count) (h, k)

pub count-out : (count : ℕ) → (count < 1) ⊎ (max_proposals < count) → (leb 1 count && leb count max_proposals) ≡ false
count-out count (inl h) = test-false _ (count-test count) (λ p. let z : ⊥ = omega arith in z)
count-out count (inr h) = test-false _ (count-test count) (λ p. let z : ⊥ = omega arith in z)

-- past check 3 a model's chain goes on as this one does past 22
pub model-rest : (M : Model) (fits : Bool) → first (size_checks M.n M.m) ≡ 0
    → model_fault M none fits ≡ first (length_checks M ++ (must fits 5 ∷ number_checks M.n M.box M.rows))
unfolding model_fault model_checks size_checks length_checks table_length_checks number_checks box_checks table_byte_checks
model-rest M fits e = first-go (size_checks M.n M.m) _ tt e

-- an accepted call
pub accepted : (M : Model) (P : List ℤ) (count : ℕ) (Y : List ℕ) → allocation_fault M P count Y ≡ 0
    → ValidModel M × (count ≤ max_proposals) × (length P ≡ count * M.n) × (length Y ≡ 2 * count)
unfolding allocation_fault allocation_checks size_checks length_checks number_checks box_checks
accepted M P count Y e =
    let h = (first-none (allocation_checks M P count Y) tt).0 e in
    let c = (count-test count).0 h.1.0 in
    let k = h.1.1.1 in
    let l = (both (eqb (length P) (count * M.n)) (eqb (length Y) (2 * count)) (eqb-test (length P) (count * M.n)) (eqb-test (length Y) (2 * count))).0 k.0 in
    let d = fits-fault-none M (eqb (length P) (count * M.n) && eqb (length Y) (2 * count)) in
    let v = (d.0 (model-rest M _ ((first-none (size_checks M.n M.m) tt).1 (h.0, tt)) ∙ (first-none _ tt).1 h.1.1)).0 in
    (v, c.1, l.0, l.1)

-- what is left then, and where a check fails
module _ (M : Model) (P : List ℤ) (count : ℕ) (Y : List ℕ) where
  pub left-refused : (allocation_fault M P count Y ≡ 0 → ⊥) → Y ≡ verdicts_left M P count Y
  unfolding verdicts_left
  left-refused h = rw (ne_eqb (allocation_fault M P count Y) 0 h)

  pub left-accepted : allocation_fault M P count Y ≡ 0 → numbers count (λ c. verdict M (proposal M.n P c)) ≡ verdicts_left M P count Y
  unfolding verdicts_left
  left-accepted e = rw e

-- ---- what the verdicts mean

two-suc : (c : ℕ) → 2 * suc c ≡ suc (suc (2 * c))
two-suc c = omega arith

two-suc1 : (c : ℕ) → 2 * suc c + 1 ≡ suc (suc (2 * c + 1))
two-suc1 c = omega arith

pub numbers-case : (k : ℕ) (f : ℕ → Verdict) (c : ℕ) → c < k → get_or (numbers k f) (2 * c) 0 ≡ case_of (f c)
unfolding numbers
numbers-case zero f c h = absurd (let z : ⊥ = omega arith in z)
numbers-case (suc k) f zero h = refl
numbers-case (suc k) f (suc c) h = rw (two-suc c) (numbers-case k (λ d. f (suc d)) c (omega arith))

pub numbers-number : (k : ℕ) (f : ℕ → Verdict) (c : ℕ) → c < k → get_or (numbers k f) (2 * c + 1) 0 ≡ number_of (f c)
unfolding numbers
numbers-number zero f c h = absurd (let z : ⊥ = omega arith in z)
numbers-number (suc k) f zero h = refl
numbers-number (suc k) f (suc c) h = rw (two-suc1 c) (numbers-number k (λ d. f (suc d)) c (omega arith))

-- the theorem of the contract
pub judged : (M : Model) (P : List ℤ) (count : ℕ) (Y : List ℕ) → allocation_fault M P count Y ≡ 0 → Judged M P count (verdicts_left M P count Y)
unfolding Demand2Runs
judged M P count Y e = subst (Judged M P count) (left-accepted M P count Y e) (record { points = points; reduced = reduced; outside = outside; broken = broken })
  where
    x : ℕ → List ℤ
    x c = proposal M.n P c

    told : List ℕ
    told = numbers count (λ c. verdict M (proposal M.n P c))

    case : (c : ℕ) → c < count → get_or told (2 * c) 0 ≡ case_of (verdict M (x c))
    case c h = numbers-case count (λ c. verdict M (proposal M.n P c)) c h

    number : (c : ℕ) → c < count → get_or told (2 * c + 1) 0 ≡ number_of (verdict M (x c))
    number c h = numbers-number count (λ c. verdict M (proposal M.n P c)) c h

    yes : (c : ℕ) → c < count → (get_or told (2 * c) 0 ≡ 0) ↔ (verdict M (x c) ≡ inside)
    yes c h =
        let i = inside-case (verdict M (x c)) in
        let s = case c h in ((λ q. i.0 (sym s ∙ q)), (λ q. s ∙ i.1 q))

    len : (c : ℕ) → c < count → length (x c) ≡ M.n
    len c h = length-row_of M.n count P c (accepted M P count Y e).2 h

    points : (c : ℕ) → c < count → (get_or told (2 * c) 0 ≡ 0) ↔ IntegerPoint M (x c)
    points c h =
        let a = yes c h in
        let b = inside-point M (x c) (len c h) in ((λ q. b.0 (a.0 q)), (λ p. a.1 (b.1 p)))

    reduced : (s : State) (cs : List Call) → (run s cs).model ≡ M → (c : ℕ) → c < count
        → (get_or told (2 * c) 0 ≡ 0) ↔ (verdict s.model (x c) ≡ inside)
    reduced s cs r c h =
        let a = yes c h in
        let n : length (x c) ≡ s.model.n = len c h ∙ sym (ap (λ (N : Model). N.n) r) ∙ (demand-2-runs s cs).sizes.0 in
        let b = same-verdict s cs (x c) n in (
          (λ q. b.0 (subst (λ (N : Model). verdict N (x c) ≡ inside) (sym r) (a.0 q))),
          (λ q. a.1 (subst (λ (N : Model). verdict N (x c) ≡ inside) r (b.1 q))),
        )

    outside : (c : ℕ) → c < count → get_or told (2 * c) 0 ≡ 1 → LowestOutside M (x c) (get_or told (2 * c + 1) 0)
    outside c h q = subst (LowestOutside M (x c)) (sym (number c h)) (outside-lowest M (x c) (sym (case c h) ∙ q))

    broken : (c : ℕ) → c < count → get_or told (2 * c) 0 ≡ 2 → LowestBroken M (x c) (get_or told (2 * c + 1) 0)
    broken c h q = subst (LowestBroken M (x c)) (sym (number c h)) (broken-lowest M (x c) (sym (case c h) ∙ q))
