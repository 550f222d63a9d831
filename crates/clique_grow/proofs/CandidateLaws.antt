-- Laws of the candidates: where the table's bytes lie, what a literal that is taken leaves of the flags, and a clique's next literal.
use Prim.Native.Nat.{◌*◌, ◌+◌, ◌-◌, ◌<◌, ◌≤◌, suc, zero, ℕ}
use lib.Dec.{eqb}
use lib.IntN.{ℤ}
use lib.ListN.{get_or, length, length-replicate, length-set, replicate, set}
use lib.Seq.{get_or-set_other, get_or-set_same}
use mathlib.Core.Bool.{Bool, ◌&&◌, cond, false, true}
use mathlib.Core.List.{List, [], ◌∷◌}
use mathlib.Core.Logic.{◌≢◌}
use mathlib.Core.Path.{◌∙◌, ◌≡◌, ap, refl, subst, sym}
use native.Mathlib.Decide.{ℕ_discrete}
use native.Mathlib.Numerals.{add-one}
use native.Mathlib.Omega.{arith}
use Rattle.integer.proofs.Tests.{cond_ind, eqb-test, neqb→ne, test-false, test-true}
use Rattle.model.proofs.RowsLaws.{index-lt}
use Rattle.row.specs.Redundancy.{zero_row}
use Rattle.semantics.specs.Probe.{literal}
use Rattle.cliques.specs.Cliques.{clique_row, coef_of, grow_to, joined, joined_to_all, meant_at_zero, opposite, says, value_of, variable_of}
use Rattle.cliques.proofs.CliqueLaws.{length-clique_row}
use Rattle.clique_grow.specs.Candidates.{Candidates, LentTable, all_ones, kept_to, still}

-- ---- the table

pub opposite-lt : (n q : ℕ) → q < 2 * n → opposite q < 2 * n
unfolding opposite variable_of value_of literal
opposite-lt n q h = omega arith

pub byte-lies : {n : ℕ} {t : List ℕ} → LentTable n t → (p q : ℕ) → p < 2 * n → q < 2 * n → p * (2 * n) + q < length t
byte-lies {n} v p q h k = let l = index-lt (2 * n) p q (2 * n) 0 k h in rw v.len (omega arith)

pub joined-none : (n : ℕ) (t : List ℕ) (p q : ℕ) → variable_of p ≡ variable_of q → joined n t p q ≡ false
unfolding joined
joined-none n t p q e = rw (test-true (eqb (variable_of p) (variable_of q)) (eqb-test (variable_of p) (variable_of q)) e)

pub joined_bytes : (n : ℕ) (t : List ℕ) (p q : ℕ) → variable_of p ≢ variable_of q → joined n t p q ≡ (says n t p (opposite q) && says n t q (opposite p))
unfolding joined
joined_bytes n t p q e = rw (test-false (eqb (variable_of p) (variable_of q)) (eqb-test (variable_of p) (variable_of q)) e)

-- ---- the flags

pub length-kept : (i n : ℕ) (t : List ℕ) (q : ℕ) (F : List ℕ) → length (kept_to i n t q F) ≡ length F
unfolding kept_to
length-kept zero n t q F = refl
length-kept (suc i) n t q F = length-set (kept_to i n t q F) i _ ∙ length-kept i n t q F

module _ (n : ℕ) (t : List ℕ) (q : ℕ) (F : List ℕ) where
  kept-after : (i r : ℕ) → i ≤ r → get_or (kept_to i n t q F) r 0 ≡ get_or F r 0
  unfolding kept_to
  kept-after zero r h = refl
  kept-after (suc i) r h = get_or-set_other (kept_to i n t q F) i r _ 0 (omega arith) ∙ kept-after i r (omega arith)

  kept_at : (i r : ℕ) → r < i → i ≤ length F → get_or (kept_to i n t q F) r 0 ≡ still (get_or F r 0) (joined n t r q)
  unfolding kept_to
  kept_at zero r h l = absurd (let z : ⊥ = omega arith in z)
  kept_at (suc i) r h l = cases (ℕ_discrete r i) (λ (k : r < i). kept_at i r k (omega arith))
    where
      G : List ℕ
      G = kept_to i n t q F

      cases : Dec (r ≡ i) → (r < i → get_or G r 0 ≡ still (get_or F r 0) (joined n t r q))
          → get_or (set G i (still (get_or G i 0) (joined n t i q))) r 0 ≡ still (get_or F r 0) (joined n t r q)
      cases (yes e) f =
          rw e (get_or-set_same G i (still (get_or G i 0) (joined n t i q)) 0 (let k = length-kept i n t q F in omega arith)
          ∙ ap (λ (x : ℕ). still x (joined n t i q)) (kept-after i i (omega arith)))
      cases (no e) f = get_or-set_other G i r (still (get_or G i 0) (joined n t i q)) 0 e ∙ f (omega arith)

still-flag : (a b : Bool) → still (cond a 1 0) b ≡ cond (b && a) 1 0
unfolding still
still-flag true true = refl
still-flag true false = refl
still-flag false true = refl
still-flag false false = refl

-- after q is taken, the candidates are those of the clique with q
candidates-kept : {n : ℕ} {t c F : List ℕ} (q : ℕ) → n ≤ 128 → Candidates n t c F → Candidates n t (q ∷ c) (kept_to (2 * n) n t q F)
unfolding joined_to_all
candidates-kept {n} {t} {c} {F} q h v = record {
  len = length-kept (2 * n) n t q F ∙ v.len;
  flags = λ r l.
      kept_at n t q F (2 * n) r l (let k = v.len in omega arith)
      ∙ ap (λ (x : ℕ). still x (joined n t r q)) (v.flags r l) ∙ still-flag (joined_to_all n t r c) (joined n t r q);
}

get_d-ones : (m i : ℕ) → i < m → ◌≡◌ {A = ℕ} (get_or (replicate m 1) i 0) 1
get_d-ones zero i h = absurd (let z : ⊥ = omega arith in z)
get_d-ones (suc m) zero h = refl
get_d-ones (suc m) (suc i) h = get_d-ones m i (omega arith)

pub length-ones : length all_ones ≡ 256
unfolding all_ones
length-ones = length-replicate {A = ℕ} 256 1

-- before the first is taken, all are
all-candidates : {n : ℕ} (t : List ℕ) → n ≤ 128 → Candidates n t [] all_ones
unfolding joined_to_all all_ones
all-candidates t h = record { len = length-ones; flags = λ q l. get_d-ones 256 q (omega arith) }

-- ---- the next literal

flag_one : (b : Bool) → ◌≡◌ {A = ℕ} (cond b 1 0) 1 → b ≡ true
flag_one true e = refl
flag_one false e = absurd (let z : ⊥ = omega arith in z)

flag-other : (b : Bool) → (◌≡◌ {A = ℕ} (cond b 1 0) 1 → ⊥) → b ≡ false
flag-other true e = absurd (e refl)
flag-other false e = refl

length-grow : (n : ℕ) (t : List ℕ) (p i : ℕ) → length (grow_to i n t p) ≤ i + 1
unfolding grow_to
length-grow n t p zero = omega arith
length-grow n t p (suc i) =
    let l = length-grow n t p i in
    cond_ind (joined_to_all n t i (grow_to i n t p)) (i ∷ grow_to i n t p) (grow_to i n t p) (λ c. length c ≤ suc i + 1) (λ _. omega arith) (λ _. omega arith)

meant-next : (q : ℕ) (c : List ℕ) → meant_at_zero (q ∷ c) ≡ meant_at_zero c + (1 - value_of q)
unfolding meant_at_zero value_of
meant-next q c = ap (λ (x : ℕ). meant_at_zero c + x) (cond_ind (eqb (value_of q) 0) 1 0 (λ (x : ℕ). x ≡ 1 - value_of q)
    (λ u. let e = (eqb-test (value_of q) 0).0 u in omega arith) (λ u. odd (neqb→ne (value_of q) 0 u)))
  where
    odd : (value_of q ≡ 0 → ⊥) → ◌≡◌ {A = ℕ} 0 (1 - value_of q)
    odd f = omega arith

meant-most : (c : List ℕ) → meant_at_zero c ≤ length c
unfolding meant_at_zero
meant-most [] = omega arith
meant-most (q ∷ c) = let l = meant-most c in
    cond_ind (eqb (value_of q) 0) 1 0 (λ (x : ℕ). meant_at_zero c + x ≤ suc (length c)) (λ _. omega arith) (λ _. omega arith)

-- ---- a clique so far, c: its candidates, its row, how many literals it has and how many of them are meant at 0

pub record GrownTo (n : ℕ) (t c F : List ℕ) (A : List ℤ) (size zeros : ℕ) : Type 0 where
  pub flags : Candidates n t c F
  pub row : A ≡ clique_row n c
  pub size_is : size ≡ length c
  pub zeros_is : zeros ≡ meant_at_zero c

pub grown-start : {n : ℕ} (t : List ℕ) (p : ℕ) {F F' : List ℕ} {A A' : List ℤ} → n ≤ 128 → F ≡ all_ones → A ≡ zero_row n
    → F' ≡ kept_to (2 * n) n t p F → A' ≡ set A (variable_of p) (coef_of p) → GrownTo n t (grow_to 0 n t p) F' A' 1 (1 - value_of p)
unfolding grow_to clique_row
grown-start t p h e z f a = record {
  flags = rw (f, e) (candidates-kept p h (all-candidates t h));
  row = rw (a, z) refl;
  size_is = refl;
  zeros_is = omega (arith, meant-next p [], meant-most []);
}

module _ {n : ℕ} {t : List ℕ} (p i : ℕ) {F : List ℕ} {A : List ℤ} {size zeros : ℕ} (v : GrownTo n t (grow_to i n t p) F A size zeros) where
  pub grown-length : length A ≡ n
  grown-length = ap length v.row ∙ length-clique_row n (grow_to i n t p)

  pub grown-most : (size ≤ i + 1) × (zeros ≤ i + 1)
  grown-most =
      let l = length-grow n t p i in let m = meant-most (grow_to i n t p) in
      (omega (arith, v.size_is), omega (arith, v.zeros_is))

  module _ {F' : List ℕ} {A' : List ℤ} {size' zeros' : ℕ} (h : i < 2 * n) where
    -- literal i is a candidate
    pub grown-takes : n ≤ 128 → get_or F i 0 ≡ 1 → F' ≡ kept_to (2 * n) n t i F → A' ≡ set A (variable_of i) (coef_of i)
        → size' ≡ size + 1 → zeros' ≡ zeros + (1 - value_of i) → GrownTo n t (grow_to (i + 1) n t p) F' A' size' zeros'
    unfolding clique_row grow_to
    grown-takes l e f a s z = subst (λ (c : List ℕ). GrownTo n t c F' A' size' zeros') (sym taken) (record {
      flags = rw f (candidates-kept i l v.flags);
      row = rw (a, v.row) refl;
      size_is = omega (arith, s, v.size_is);
      zeros_is = z ∙ ap (λ (x : ℕ). x + (1 - value_of i)) v.zeros_is ∙ sym (meant-next i (grow_to i n t p));
    })
      where
        taken : grow_to (i + 1) n t p ≡ i ∷ grow_to i n t p
        taken = rw (add-one i, flag_one (joined_to_all n t i (grow_to i n t p)) (sym (v.flags.flags i h) ∙ e)) refl

    -- it is none
    pub grown-passes : (get_or F i 0 ≡ 1 → ⊥) → F' ≡ F → A' ≡ A → size' ≡ size → zeros' ≡ zeros → GrownTo n t (grow_to (i + 1) n t p) F' A' size' zeros'
    unfolding grow_to
    grown-passes e f a s z = subst (λ (c : List ℕ). GrownTo n t c F' A' size' zeros') (sym passed) (record {
      flags = rw f v.flags;
      row = a ∙ v.row;
      size_is = s ∙ v.size_is;
      zeros_is = z ∙ v.zeros_is;
    })
      where
        passed : grow_to (i + 1) n t p ≡ grow_to i n t p
        passed = rw (add-one i, flag-other (joined_to_all n t i (grow_to i n t p)) (λ g. e (v.flags.flags i h ∙ g))) refl
