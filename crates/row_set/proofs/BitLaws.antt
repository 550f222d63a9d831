-- Sets of rows as bits: what is in a union, and what trailing zeros pass over.
use Prim.Native.Nat.{◌+◌, ◌-◌, ◌*◌, ◌/◌, ◌%◌, ◌^◌, ◌<◌, ◌≤◌, max, suc, zero, ℕ}
use lib.Arith.{digits_mod}
use lib.Bits.{bit_or, bit_xor, differ, or_shr, or_step, xor_shr, xor_step}
use lib.Count.{count_trailing_zeros, under}
use lib.ListN.{get_or, length, set}
use lib.Pow.{pow-add, pow-lt, shl_exact, shl-shr, shr_lt, shr-shr}
use lib.Seq.{get_or-set_other, get_or-set_same}
use mathlib.Core.List.{List}
use mathlib.Core.Path.{◌∙◌, ◌≡◌, ap, refl, subst, sym}
use native.Mathlib.Decide.{dec_lt, ℕ_discrete}
use native.Mathlib.Nat.{div-eq_of_lt, div-one, mod-lt, mul-mod_left, one-mul, pow-suc, zero-div, zero-lt-suc}
use native.Mathlib.Numerals.{add-one, one-add}
use native.Mathlib.Omega.{arith}
use Rattle.row_set.specs.Bits.{bit_at}

-- ---- one word: bit k of x is x / 2 ^ k % 2

pub bit-small : (x : ℕ) → x % 2 < 2
bit-small x = mod-lt x (zero-lt-suc 1)

pub bit-or : (x y k : ℕ) → bit_or x y / 2 ^ k % 2 ≡ max (x / 2 ^ k % 2) (y / 2 ^ k % 2)
bit-or x y k =
    ap (λ (z : ℕ). z % 2) (or_shr x y k ∙ or_step (x / 2 ^ k) (y / 2 ^ k))
    ∙ digits_mod (bit_or (x / 2 ^ k / 2) (y / 2 ^ k / 2)) (omega (arith, bit-small (x / 2 ^ k), bit-small (y / 2 ^ k)))

-- below the lowest set bit there is none
pub trailing-none : (w x k : ℕ) → k < count_trailing_zeros w x → x / 2 ^ k % 2 ≡ 0
unfolding count_trailing_zeros
trailing-none zero x k h = absurd (let z : ⊥ = omega arith in z)
trailing-none (suc w) x zero h = go (x % 2) refl h
  where
    go : (d : ℕ) → x % 2 ≡ d → 0 < under d (count_trailing_zeros w (x / 2)) → x / 1 % 2 ≡ 0
    go zero e q = ap (λ (z : ℕ). z % 2) (div-one x) ∙ e
    go (suc d) e q = absurd (let z : ⊥ = omega arith in z)
trailing-none (suc w) x (suc k) h = go (x % 2) refl h (λ q. trailing-none w (x / 2) k q)
  where
    go : (d : ℕ) → x % 2 ≡ d → suc k < under d (count_trailing_zeros w (x / 2)) → (k < count_trailing_zeros w (x / 2) → x / 2 / 2 ^ k % 2 ≡ 0) → x / 2 ^ suc k % 2 ≡ 0
    go zero e q f =
        ap (λ (z : ℕ). z % 2) (ap (λ (i : ℕ). x / 2 ^ i) (sym (one-add k)) ∙ sym (shr-shr x 1 k)) ∙ f (omega arith)
    go (suc d) e q f = absurd (let z : ⊥ = omega arith in z)

-- and a number of k digits that is not 0 has a set bit below k
trailing_lt : (w k x : ℕ) → x < 2 ^ k → 0 < x → k ≤ w → count_trailing_zeros w x < k
unfolding count_trailing_zeros
trailing_lt w zero x h p l = absurd (let z : ⊥ = omega arith in z)
trailing_lt zero (suc k) x h p l = absurd (let z : ⊥ = omega arith in z)
trailing_lt (suc w) (suc k) x h p l = go (x % 2) refl (λ q. trailing_lt w k (x / 2) (shr_lt k 1 (subst (λ (i : ℕ). x < 2 ^ i) (sym (add-one k)) h)) q (omega arith))
  where
    go : (d : ℕ) → x % 2 ≡ d → (0 < x / 2 → count_trailing_zeros w (x / 2) < k) → under d (count_trailing_zeros w (x / 2)) < suc k
    go zero e f = let q = f (omega arith) in omega arith
    go (suc d) e f = omega arith

-- ---- a set

-- from row s on, in its word
module _ (D : List ℕ) (s : ℕ) where
  abbrev pub rest : ℕ
  rest = get_or D (s / 32) 0 / 2 ^ (s % 32)

  bit-rest : (i : ℕ) → s ≤ i → i < (s / 32 + 1) * 32 → bit_at D i ≡ rest / 2 ^ (i - s) % 2
  unfolding bit_at
  bit-rest i a b =
      let word : i / 32 ≡ s / 32 = omega arith in
      let digit : i % 32 ≡ s % 32 + (i - s) = omega arith in
      rw (word, digit) (ap (λ (z : ℕ). z % 2) (sym (shr-shr (get_or D (s / 32) 0) (s % 32) (i - s))))

  -- no row is left in it
  pub none_rest : rest ≡ 0 → (i : ℕ) → s ≤ i → i < (s / 32 + 1) * 32 → bit_at D i ≡ 0
  none_rest e i a b = bit-rest i a b ∙ rw e (ap (λ (z : ℕ). z % 2) (zero-div (2 ^ (i - s))))

  -- or the next is as many rows on as there are trailing zeros
  pub next-rest : get_or D (s / 32) 0 < 2 ^ 32 → (rest ≡ 0 → ⊥) → (i : ℕ) → s ≤ i → i < s + count_trailing_zeros 32 rest → bit_at D i ≡ 0
  next-rest h f i a b =
      let k : 32 - s % 32 + s % 32 ≡ 32 = omega arith in
      let lt : rest < 2 ^ (32 - s % 32) = shr_lt (32 - s % 32) (s % 32) (rw k h) in
      let t = trailing_lt 32 (32 - s % 32) rest lt (omega arith) (omega arith) in
      bit-rest i a (omega arith) ∙ trailing-none 32 rest (i - s) (omega arith)

-- a union
pub bit-union : (D E F : List ℕ) (r : ℕ) → get_or F (r / 32) 0 ≡ bit_or (get_or D (r / 32) 0) (get_or E (r / 32) 0) → bit_at F r ≡ max (bit_at D r) (bit_at E r)
unfolding bit_at
bit-union D E F r e = rw e (bit-or (get_or D (r / 32) 0) (get_or E (r / 32) 0) (r % 32))

-- ---- a row taken out

differ-none : (a : ℕ) → differ a 0 ≡ a
differ-none zero = refl
differ-none (suc a) = refl

bit-xor : (x y k : ℕ) → y / 2 ^ k % 2 ≡ 0 → bit_xor x y / 2 ^ k % 2 ≡ x / 2 ^ k % 2
bit-xor x y k e =
    ap (λ (z : ℕ). z % 2) (xor_shr x y k ∙ xor_step (x / 2 ^ k) (y / 2 ^ k))
    ∙ rw (e, differ-none (x / 2 ^ k % 2)) (digits_mod (bit_xor (x / 2 ^ k / 2) (y / 2 ^ k / 2)) (bit-small (x / 2 ^ k)))

-- of a power of 2 only one bit is set
power-bit : (k i : ℕ) → (i ≡ k → ⊥) → 2 ^ k / 2 ^ i % 2 ≡ 0
power-bit k i f = go (dec_lt i k)
  where
    go : Dec (i < k) → 2 ^ k / 2 ^ i % 2 ≡ 0
    go (yes h) =
        let e : k ≡ suc (k - suc i) + i = omega arith in
        let p : 2 ^ k ≡ 2 ^ suc (k - suc i) * 2 ^ i = ap (λ (z : ℕ). 2 ^ z) e ∙ pow-add 2 (suc (k - suc i)) i in
        ap (λ (z : ℕ). z / 2 ^ i % 2) p ∙ ap (λ (z : ℕ). z % 2) (shl-shr (2 ^ suc (k - suc i)) i) ∙ ap (λ (z : ℕ). z % 2) (pow-suc 2 (k - suc i)) ∙ mul-mod_left (2 ^ (k - suc i)) 2
    go (no h) = ap (λ (z : ℕ). z % 2) (div-eq_of_lt (pow-lt (omega arith)))

-- the word of row r becomes x, which differs in bit r % 32 only
bit-others : (D : List ℕ) (r x : ℕ) → r / 32 < length D → ((k : ℕ) → (k ≡ r % 32 → ⊥) → x / 2 ^ k % 2 ≡ get_or D (r / 32) 0 / 2 ^ k % 2)
    → (i : ℕ) → (i ≡ r → ⊥) → bit_at (set D (r / 32) x) i ≡ bit_at D i
unfolding bit_at
bit-others D r x h g i f = go (ℕ_discrete (i / 32) (r / 32))
  where
    go : Dec (i / 32 ≡ r / 32) → get_or (set D (r / 32) x) (i / 32) 0 / 2 ^ (i % 32) % 2 ≡ get_or D (i / 32) 0 / 2 ^ (i % 32) % 2
    go (yes e) = rw (e, get_or-set_same D (r / 32) x 0 h) (g (i % 32) (omega arith))
    go (no e) = rw (get_or-set_other D (r / 32) (i / 32) x 0 e)

-- the machine's 1 << k
one_bit : (k : ℕ) → k < 32 → 1 * 2 ^ k % 2 ^ 32 ≡ 2 ^ k
one_bit k h = shl_exact {a = 1} 1 k 32 (omega arith) (omega arith) ∙ one-mul (2 ^ k)

pub bit-removed : (D : List ℕ) (r : ℕ) → r / 32 < length D → (i : ℕ) → (i ≡ r → ⊥)
    → bit_at (set D (r / 32) (bit_xor (get_or D (r / 32) 0) (1 * 2 ^ (r % 32) % 2 ^ 32))) i ≡ bit_at D i
bit-removed D r h =
    rw (one_bit (r % 32) (omega arith))
    (bit-others D r _ h (λ k f. bit-xor (get_or D (r / 32) 0) (2 ^ (r % 32)) k (power-bit (r % 32) k f)))

-- ---- a row put in

pub bit-inserted : (D : List ℕ) (r : ℕ) → r / 32 < length D → (i : ℕ) → (i ≡ r → ⊥)
    → bit_at (set D (r / 32) (bit_or (get_or D (r / 32) 0) (1 * 2 ^ (r % 32) % 2 ^ 32))) i ≡ bit_at D i
bit-inserted D r h =
    rw (one_bit (r % 32) (omega arith))
    (bit-others D r _ h (λ k f. bit-or (get_or D (r / 32) 0) (2 ^ (r % 32)) k ∙ rw (power-bit (r % 32) k f) (omega arith)))

pub bit-insert : (D : List ℕ) (r : ℕ) → r / 32 < length D
    → bit_at (set D (r / 32) (bit_or (get_or D (r / 32) 0) (1 * 2 ^ (r % 32) % 2 ^ 32))) r ≡ 1
unfolding bit_at
bit-insert D r h =
    let x = get_or D (r / 32) 0 in
    let own : 2 ^ (r % 32) / 2 ^ (r % 32) % 2 ≡ 1 = ap (λ (z : ℕ). z / 2 ^ (r % 32) % 2) (sym (one-mul (2 ^ (r % 32)))) ∙ ap (λ (z : ℕ). z % 2) (shl-shr 1 (r % 32)) in
    rw (one_bit (r % 32) (omega arith), get_or-set_same D (r / 32) (bit_or x (2 ^ (r % 32))) 0 h)
    (bit-or x (2 ^ (r % 32)) (r % 32) ∙ rw own (omega (arith, bit-small (x / 2 ^ (r % 32)))))
