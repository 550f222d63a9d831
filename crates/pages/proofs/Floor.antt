-- C-23: what the pages are, and what is read from them.
use Prim.Native.Nat.{◌*◌, ◌+◌, ◌<◌, ◌≤◌, suc, zero, ℕ}
use borrow.Author.Tests.{eq-eqb, ne_eqb}
use lib.Dec.{eqb}
use lib.IntN.{pos, ℤ}
use lib.ListN.{drop, length, length-append, take}
use lib.Seq.{take_all, take-suc}
use mathlib.Core.Bool.{Bool, cond, false, true}
use mathlib.Core.List.{List, [], ◌++◌, ◌∷◌, append_assoc, append-nil}
use mathlib.Core.Path.{◌∙◌, ◌≡◌, ap, refl, sym}
use native.Mathlib.Decide.{ℕ_discrete}
use native.Mathlib.Omega.{arith}
use Rattle.model.specs.Box.{lower, upper}
use Rattle.text.specs.Decimal.{decimal}
use Rattle.text.specs.Text.{texts}
use Rattle.text.proofs.DecimalLaws.{decimal-length}
use Rattle.pages.specs.Claims.{Floor, Rising, end, next}
use Rattle.pages.specs.Page.{contents, implied, implies_one, joined, number_line, page, page_count, page_line, pages, passing, right}
use Rattle.pages.specs.Reading.{Entry, box_in, columns, entry_of, has, implied_in, natural_in, read_pages}
use Rattle.pages.proofs.FieldLaws.{natural-right, right-length}
use Rattle.pages.proofs.PageLaws.{Lines, contents-lines, pages-length, pages-most}
use Rattle.pages.proofs.ReadingLaws.{line-cut, line-is, pages-read}

-- ---- the numbers that pass a test, all of them and no others

has-append : (q : ℕ) (s t : List ℕ) → has q (s ++ t) ≡ cond (has q s) true (has q t)
unfolding has
has-append q [] t = refl
has-append q (x ∷ s) t = go (eqb q x) (has-append q s t)
  where
    go : (b : Bool) → has q (s ++ t) ≡ cond (has q s) true (has q t) → cond b true (has q (s ++ t)) ≡ cond (cond b true (has q s)) true (has q t)
    go true e = refl
    go false e = e

has_one : (x : Bool) (q n : ℕ) → q ≡ n → has q (cond x (n ∷ []) []) ≡ x
unfolding has
has_one true q n e = rw (eq-eqb q n e)
has_one false q n e = refl

has_other : (x : Bool) (q n : ℕ) → (q ≡ n → ⊥) → has q (cond x (n ∷ []) []) ≡ false
unfolding has
has_other true q n e = rw (ne_eqb q n e)
has_other false q n e = refl

keep-cond : (x : Bool) → cond x true false ≡ x
keep-cond true = refl
keep-cond false = refl

pub passing-none : (f : ℕ → Bool) (n q : ℕ) → n ≤ q → has q (passing f n) ≡ false
unfolding passing joined has
passing-none f zero q h = refl
passing-none f (suc n) q h =
    has-append q (passing f n) (cond (f n) (n ∷ []) []) ∙ rw (passing-none f n q (omega arith), has_other (f n) q n (λ e. omega arith))

pub passing-has : (f : ℕ → Bool) (n q : ℕ) → q < n → has q (passing f n) ≡ f q
unfolding passing joined
passing-has f zero q h = absurd (let z : ⊥ = omega arith in z)
passing-has f (suc n) q h = has-append q (passing f n) (cond (f n) (n ∷ []) []) ∙ go (ℕ_discrete q n) (passing-has f n q)
  where
    go : Dec (q ≡ n) → (q < n → has q (passing f n) ≡ f q) → cond (has q (passing f n)) true (has q (cond (f n) (n ∷ []) [])) ≡ f q
    go (yes e) r = rw (passing-none f n q (omega arith), has_one (f n) q n e, e)
    go (no e) r = rw (r (omega arith), has_other (f n) q n e) (keep-cond (f q))

rising-wider : {from n : ℕ} {qs : List ℕ} → Rising from n qs → Rising from (suc n) qs
rising-wider (end {from} {below} h) = end {from = from} {below = suc below} (omega arith)
rising-wider (next h r) = next h (rising-wider r)

rising-last : {from n : ℕ} {qs : List ℕ} → Rising from n qs → Rising from (suc n) (qs ++ (n ∷ []))
rising-last (end {from} {below} h) = next h (end {from = suc below} {below = suc below} (omega arith))
rising-last (next h r) = next h (rising-last r)

pub passing-rising : (f : ℕ → Bool) (n : ℕ) → Rising 0 n (passing f n)
unfolding passing joined
passing-rising f zero = end {from = 0} {below = 0} (omega arith)
passing-rising f (suc n) = go (f n) (passing-rising f n)
  where
    go : (x : Bool) → Rising 0 n (passing f n) → Rising 0 (suc n) (passing f n ++ cond x (n ∷ []) [])
    go true r = rising-last r
    go false r = rw append-nil (rising-wider r)

-- ---- the entry of a variable

ones-length : (n : ℕ) (v : ℕ → Entry) → length (joined n (λ k. v k ∷ [])) ≡ n
unfolding joined
ones-length zero v = refl
ones-length (suc n) v = length-append (joined n (λ k. v k ∷ [])) (v n ∷ []) ∙ rw (ones-length n v) (omega arith)

implied-front : (s t : List Entry) (k : ℕ) → k < length s → implied_in (s ++ t) k ≡ implied_in s k
unfolding implied_in
implied-front [] t k h = absurd (let z : ⊥ = omega arith in z)
implied-front (e ∷ s) t zero h = refl
implied-front (e ∷ s) t (suc k) h = implied-front s t k (omega arith)

implied-last : (s : List Entry) (e : Entry) → implied_in (s ++ (e ∷ [])) (length s) ≡ e.implies
unfolding implied_in
implied-last [] e = refl
implied-last (a ∷ s) e = implied-last s e

implied-at : (n : ℕ) (v : ℕ → Entry) (k : ℕ) → k < n → implied_in (joined n (λ i. v i ∷ [])) k ≡ (v k).implies
unfolding joined
implied-at zero v k h = absurd (let z : ⊥ = omega arith in z)
implied-at (suc n) v k h = go (ℕ_discrete k n) (implied-at n v k)
  where
    go : Dec (k ≡ n) → (k < n → implied_in (joined n (λ i. v i ∷ [])) k ≡ (v k).implies) → implied_in (joined n (λ i. v i ∷ []) ++ (v n ∷ [])) k ≡ (v k).implies
    go (yes e) r =
        let l : k ≡ length (joined n (λ i. v i ∷ [])) = e ∙ sym (ones-length n v) in
        ap (implied_in (joined n (λ i. v i ∷ []) ++ (v n ∷ []))) l ∙ implied-last (joined n (λ i. v i ∷ [])) (v n) ∙ ap (λ (i : ℕ). (v i).implies) (sym e)
    go (no e) r = implied-front (joined n (λ i. v i ∷ [])) (v n ∷ []) k (rw (ones-length n v) (omega arith)) ∙ r (omega arith)

-- ---- the box

box-append : (s t : List Entry) → box_in (s ++ t) ≡ box_in s ++ box_in t
unfolding box_in
box-append [] t = refl
box-append (e ∷ s) t = ap (λ (r : List ℤ). e.low ∷ e.high ∷ r) (box-append s t)

box-take : (n : ℕ) (B : List ℤ) (v : ℕ → Entry) → ((k : ℕ) → (v k).low ≡ lower B k) → ((k : ℕ) → (v k).high ≡ upper B k) → 2 * n ≤ length B → box_in (joined n (λ k. v k ∷ [])) ≡ take (2 * n) B
unfolding joined box_in
box-take zero B v l u h = refl
box-take (suc n) B v l u h =
    let e : 2 * suc n ≡ suc (2 * n + 1) = omega arith in
    let f : 2 * n + 1 ≡ suc (2 * n) = omega arith in
    let a : take (2 * n + 1) B ≡ take (2 * n) B ++ (lower B n ∷ []) = ap (λ (m : ℕ). take m B) f ∙ take-suc B (2 * n) (pos 0) (omega arith) in
    let b : take (suc (2 * n + 1)) B ≡ take (2 * n + 1) B ++ (upper B n ∷ []) = take-suc B (2 * n + 1) (pos 0) (omega arith) in
    box-append (joined n (λ k. v k ∷ [])) (v n ∷ []) ∙ rw (box-take n B v l u (omega arith), l n, u n, e, b, a, append_assoc (take (2 * n) B) (lower B n ∷ []) (upper B n ∷ []))

-- ---- the page numbers

number_in : (p : ℕ) → suc p < 1_000_000 → natural_in (columns 75 80 (number_line p)) ≡ p + 1
unfolding columns number_line
number_in p h =
    let l : length (right 6 (decimal (suc p))) ≡ 6 = right-length 6 (decimal (suc p)) (decimal-length 5 (suc p) h) in
    let e : suc p ≡ p + 1 = omega arith in
    rw (take_all 6 (right 6 (decimal (suc p))) (omega (arith, l))) (natural-right 6 (suc p) ∙ e)

first-line : (ls : List (List ℕ)) → Lines ls → (c : ℕ) → c ≤ 70 → (p : ℕ) → p < c → natural_in (columns 75 80 (take 80 (drop (4_860 * p) (texts c (page ls))))) ≡ p + 1
unfolding page_line
first-line ls h c few p l =
    let e : 4_860 * p ≡ 4_860 * p + 81 * 0 = omega arith in
    rw e (ap (λ (x : List ℕ). natural_in (columns 75 80 x)) (line-cut ls h c (omega arith) p 0 l (omega arith)) ∙ number_in p (omega arith))

-- ---- what C-23 asks

pub floor-pages : Floor
unfolding Floor pages entry_of implied implies_one
floor-pages n B t p =
    let ls = contents n B t in
    let h : Lines ls = contents-lines n B t p in
    let most = pages-most n t p.few in
    let read = pages-read n B t p in
    let here : (k : ℕ) → k < n → implied_in (read_pages (pages n B t)) k ≡ implied n t k = λ k l. ap (λ (es : List Entry). implied_in es k) read ∙ implied-at n (entry_of n B t) k l in
    record {
      most = most;
      whole = pages-length n B t p;
      lines = λ q i l m. line-is ls h (page_count n t) (omega arith) q i l m;
      numbers = λ q l. first-line ls h (page_count n t) most q l;
      entries = read;
      bounds = ap box_in read ∙ box-take n B (entry_of n B t) (λ k. refl) (λ k. refl) (omega (arith, p.len)) ∙ take_all (2 * n) B (omega (arith, p.len));
      implications = λ k q l m. ap (has q) (here k l) ∙ passing-has (implies_one n t k) (2 * n) q m;
      others = λ k q l m. ap (has q) (here k l) ∙ passing-none (implies_one n t k) (2 * n) q m;
      rising = λ k l. rw (here k l) (passing-rising (implies_one n t k) (2 * n));
    }
