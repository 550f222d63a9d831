-- Laws of the numbers that tell verdicts: where they stand, what one verdict more changes, and that nothing else is in the list.
use Prim.Native.Nat.{◌*◌, ◌+◌, ◌<◌, ◌≤◌, suc, zero, ℕ}
use lib.ListN.{get_or, length, length-set, set}
use lib.Seq.{get_or-set_other, get_or-set_same, set-get_or}
use mathlib.Core.List.{List, [], ◌∷◌}
use mathlib.Core.Logic.{◌≢◌}
use mathlib.Core.Path.{◌∙◌, ◌≡◌, ap, refl, subst, sym}
use native.Mathlib.Decide.{ℕ_discrete}
use native.Mathlib.Omega.{arith}
use Rattle.proposals.specs.Proposals.{case_of, number_of, numbers}
use Rattle.proposals.specs.Telling.{Says, Tells, with_numbers, with_verdict}
use Rattle.proposals.specs.Verdict.{Verdict, breaks, inside, outside_at}

-- ---- a list that tells them has those numbers and no others

two-suc : (c : ℕ) → 2 * suc c ≡ suc (suc (2 * c))
two-suc c = omega arith

two-suc1 : (c : ℕ) → 2 * suc c + 1 ≡ suc (suc (2 * c + 1))
two-suc1 c = omega arith

says-next : {a b : ℕ} {Y : List ℕ} {v : Verdict} (c : ℕ) → Says (a ∷ b ∷ Y) (suc c) v → Says Y c v
says-next {a} {b} {Y} {v} c s = record {
  case = subst (λ (q : ℕ). get_or (a ∷ b ∷ Y) q 0 ≡ case_of v) (two-suc c) s.case;
  number = subst (λ (q : ℕ). get_or (a ∷ b ∷ Y) q 0 ≡ number_of v) (two-suc1 c) s.number;
}

pub tells-numbers : (count : ℕ) (f : ℕ → Verdict) (Y : List ℕ) → Tells count f Y → Y ≡ numbers count f
unfolding numbers
tells-numbers zero f [] t = refl
tells-numbers zero f (a ∷ Y) t = absurd (let l = t.len in let z : ⊥ = omega arith in z)
tells-numbers (suc k) f [] t = absurd (let l = t.len in let z : ⊥ = omega arith in z)
tells-numbers (suc k) f (a ∷ []) t = absurd (let l = t.len in let z : ⊥ = omega arith in z)
tells-numbers (suc k) f (a ∷ b ∷ Y) t =
    let s = t.says 0 (omega arith) in
    let l = t.len in
    cc (s.case, s.number, tells-numbers k (λ c. f (suc c)) Y (record { len = omega arith; says = λ c h. says-next c (t.says (suc c) (omega arith)) }))

-- ---- one verdict is told

module _ (Y : List ℕ) (c : ℕ) {v : Verdict} where
  pub told-inside : v ≡ inside → with_numbers Y c 0 0 ≡ with_verdict Y c v
  unfolding with_verdict case_of number_of
  told-inside e = rw e refl

  pub told-outside : {j : ℕ} → v ≡ outside_at j → with_numbers Y c 1 j ≡ with_verdict Y c v
  unfolding with_verdict case_of number_of
  told-outside e = rw e refl

  pub told-breaks : {i : ℕ} → v ≡ breaks i → with_numbers Y c 2 i ≡ with_verdict Y c v
  unfolding with_verdict case_of number_of
  told-breaks e = rw e refl

module _ (Y : List ℕ) (c : ℕ) (v : Verdict) where
  pub length-told : length (with_verdict Y c v) ≡ length Y
  unfolding with_verdict with_numbers
  length-told = length-set (set Y (2 * c) (case_of v)) (2 * c + 1) (number_of v) ∙ length-set Y (2 * c) (case_of v)

  pub told-other : (q : ℕ) → q ≢ 2 * c → q ≢ 2 * c + 1 → get_or (with_verdict Y c v) q 0 ≡ get_or Y q 0
  unfolding with_verdict with_numbers
  told-other q h k = get_or-set_other (set Y (2 * c) (case_of v)) (2 * c + 1) q (number_of v) 0 k ∙ get_or-set_other Y (2 * c) q (case_of v) 0 h

  pub told-there : 2 * c + 1 < length Y → Says (with_verdict Y c v) c v
  unfolding with_verdict with_numbers
  told-there h = record {
    case = get_or-set_other (set Y (2 * c) (case_of v)) (2 * c + 1) (2 * c) (number_of v) 0 (omega arith) ∙ get_or-set_same Y (2 * c) (case_of v) 0 (omega arith);
    number = get_or-set_same (set Y (2 * c) (case_of v)) (2 * c + 1) (number_of v) 0 (omega (arith, length-set Y (2 * c) (case_of v)));
  }

  pub told-others : (d : ℕ) (w : Verdict) → d ≢ c → Says Y d w → Says (with_verdict Y c v) d w
  told-others d w ne s = record {
    case = told-other (2 * d) (omega arith) (omega arith) ∙ s.case;
    number = told-other (2 * d + 1) (omega arith) (omega arith) ∙ s.number;
  }

  -- what is told already
  pub told-again : Says Y c v → with_verdict Y c v ≡ Y
  unfolding with_verdict with_numbers
  told-again s =
      rw (← s.case, ← s.number)
      (ap (λ (X : List ℕ). set X (2 * c + 1) (get_or Y (2 * c + 1) 0)) (set-get_or Y (2 * c) 0) ∙ set-get_or Y (2 * c + 1) 0)

-- ---- a loop over the proposals

-- what is told of those before c, and then of c
pub says-more : (Y : List ℕ) (c : ℕ) (v : Verdict) (f : ℕ → Verdict) → 2 * c + 1 < length Y → v ≡ f c
    → ((d : ℕ) → d < c → Says Y d (f d)) → (d : ℕ) → d < c + 1 → Says (with_verdict Y c v) d (f d)
says-more Y c v f h e s d k = go (ℕ_discrete d c)
  where
    go : Dec (d ≡ c) → Says (with_verdict Y c v) d (f d)
    go (yes q) = rw (q, ← e) (told-there Y c v h)
    go (no ne) = told-others Y c v d (f d) ne (s d (omega arith))

-- of the verdicts that Y₀ tells, those before c became g of them in Y, and the other numbers are as they were
pub record Halfway (Y₀ Y : List ℕ) (c : ℕ) (g : ℕ → Verdict → Verdict) : Type 0 where
  pub len : length Y ≡ length Y₀
  pub done : (d : ℕ) → d < c → (v : Verdict) → Says Y₀ d v → Says Y d (g d v)
  pub rest : (q : ℕ) → 2 * c ≤ q → get_or Y q 0 ≡ get_or Y₀ q 0

pub halfway-start : (Y : List ℕ) (g : ℕ → Verdict → Verdict) → Halfway Y Y 0 g
halfway-start Y g = record { len = refl; done = λ d h. absurd (let z : ⊥ = omega arith in z); rest = λ q h. refl }

pub says-still : {Y₀ Y : List ℕ} {c : ℕ} {g : ℕ → Verdict → Verdict} → Halfway Y₀ Y c g → (v : Verdict) → Says Y₀ c v → Says Y c v
says-still {Y₀} {Y} {c} w v s = record { case = w.rest (2 * c) (omega arith) ∙ s.case; number = w.rest (2 * c + 1) (omega arith) ∙ s.number }

-- proposal c is held too, and Z is what that leaves
pub halfway-more : {Y₀ Y Z : List ℕ} {c : ℕ} (g : ℕ → Verdict → Verdict) → Halfway Y₀ Y c g → (v : Verdict) × Says Y₀ c v → 2 * c + 1 < length Y₀
    → ((v : Verdict) → Says Y c v → Z ≡ with_verdict Y c (g c v)) → Halfway Y₀ Z (c + 1) g
halfway-more {Y₀} {Y} {Z} {c} g w told h e = record {
  len = subst (λ (X : List ℕ). length X ≡ length Y₀) (sym z) (length-told Y c (g c told.0) ∙ w.len);
  done = λ d k. go d k (ℕ_discrete d c);
  rest = λ q k. subst (λ (X : List ℕ). get_or X q 0 ≡ get_or Y₀ q 0) (sym z)
      (told-other Y c (g c told.0) q (omega arith) (omega arith) ∙ w.rest q (omega arith));
}
  where
    z : Z ≡ with_verdict Y c (g c told.0)
    z = e told.0 (says-still w told.0 told.1)

    go : (d : ℕ) → d < c + 1 → Dec (d ≡ c) → (v : Verdict) → Says Y₀ d v → Says Z d (g d v)
    go d k (yes q) v s =
        let t = says-still w v (subst (λ (i : ℕ). Says Y₀ i v) q s) in
        subst (λ (i : ℕ). Says Z i (g i v)) (sym q)
        (subst (λ (X : List ℕ). Says X c (g c v)) (sym (e v t)) (told-there Y c (g c v) (let l = w.len in omega arith)))
    go d k (no ne) v s = subst (λ (X : List ℕ). Says X d (g d v)) (sym z) (told-others Y c (g c told.0) d (g d v) ne (w.done d (omega arith) v s))

pub tells_as : {count : ℕ} {f g : ℕ → Verdict} {Y : List ℕ} → ((c : ℕ) → f c ≡ g c) → Tells count f Y → Tells count g Y
tells_as {Y = Y} e t = record { len = t.len; says = λ c h. subst (Says Y c) (e c) (t.says c h) }
