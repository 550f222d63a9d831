-- Laws of a book's model: its lists are as long as n and m say, and each number is the one at its place.
use Prim.Native.Nat.{◌*◌, ◌+◌, ◌<◌, suc, zero, ℕ}
use lib.IntN.{pos, ℤ}
use lib.ListN.{get_or-append, get_or, get_or-replicate, length, length-append, length-replicate}
use lib.Seq.{get_or-append-add}
use lib.Signed.{le_z}
use mathlib.Core.Bool.{Bool, ◌&&◌, false, true}
use mathlib.Core.List.{List, ◌++◌}
use mathlib.Core.Path.{◌∙◌, ◌≡◌, ap, ap₂, refl, sym}
use native.Mathlib.Omega.{arith}
use Rattle.integer.specs.Index.{all}
use Rattle.integer.proofs.Tests.{test-true}
use Rattle.model.specs.Box.{at}
use Rattle.model.specs.Checks.{bits, in_range}
use Rattle.model.proofs.CheckLaws.{bits-test}
use Rattle.book.specs.Book.{bounds_of, coefs_of, kinds_of, rhs_of, row_place}
use Rattle.little_endian.specs.Bytes.{integer_at, integers_at}
use Rattle.little_endian.specs.Pieces.{joined}
use Rattle.little_endian.proofs.ByteLaws.{at-integers_at, length-integers_at}
use Rattle.little_endian.proofs.PieceLaws.{get_d-grid, get_d-list_of, length-grid, length-list_of}

module _ (n m : ℕ) (bs : List ℕ) where
  pub length-bounds_of : length (bounds_of n bs) ≡ 2 * n
  unfolding bounds_of
  length-bounds_of = length-integers_at 0 4 (2 * n) bs

  pub at-bounds_of : (i : ℕ) → i < 2 * n → at (bounds_of n bs) i ≡ integer_at (0 + i * 4) bs
  unfolding bounds_of
  at-bounds_of i h = at-integers_at 0 4 (2 * n) bs i h

  pub length-rhs_of : length (rhs_of n m bs) ≡ m
  unfolding rhs_of
  length-rhs_of = length-list_of m _

  pub at-rhs_of : (i : ℕ) → i < m → at (rhs_of n m bs) i ≡ integer_at (row_place n i) bs
  unfolding rhs_of
  at-rhs_of i h = get_d-list_of m _ i (pos 0) h

  pub length-coefs_of : length (coefs_of n m bs) ≡ m * n
  unfolding coefs_of integers_at
  length-coefs_of = length-grid m n (λ i j. integer_at (row_place n i + 4 + j * 4) bs)

  pub at-coefs_of : (i j : ℕ) → i < m → j < n → at (coefs_of n m bs) (i * n + j) ≡ integer_at (row_place n i + 4 + j * 4) bs
  unfolding coefs_of integers_at
  at-coefs_of i j h k = get_d-grid m n (λ r s. integer_at (row_place n r + 4 + s * 4) bs) i j (pos 0) h k

-- ---- the kinds

pub length-kinds_of : (m : ℕ) → length (kinds_of m) ≡ m
unfolding kinds_of
length-kinds_of m = length-replicate m 0

pub kind-none : (m i : ℕ) → i < m → get_or (kinds_of m) i 0 ≡ 0
unfolding kinds_of
kind-none m i h = get_or-replicate m i 0 0 h

-- check 16 passes
pub bits-kinds_of : (m : ℕ) → bits (kinds_of m) ≡ true
bits-kinds_of m = test-true _ (bits-test (kinds_of m)) (λ i h. omega (arith, kind-none m i (omega (arith, length-kinds_of m))))

-- ---- joined lists are in range exactly if each is

and-true : (a : Bool) → (a && true) ≡ a
and-true true = refl
and-true false = refl

and_assoc : (a b c : Bool) → (a && b && c) ≡ (a && (b && c))
and_assoc true b c = refl
and_assoc false b c = refl

pub all-cong : (n : ℕ) (f g : ℕ → Bool) → ((i : ℕ) → i < n → f i ≡ g i) → all n f ≡ all n g
unfolding all
all-cong zero f g h = refl
all-cong (suc n) f g h = cc (all-cong n f g (λ i k. h i (omega arith)), h n (omega arith))

all-add : (a b : ℕ) (f : ℕ → Bool) → all (a + b) f ≡ (all a f && all b (λ i. f (a + i)))
unfolding all
all-add a zero f = let e : a + 0 ≡ a = omega arith in rw e (sym (and-true (all a f)))
all-add a (suc b) f =
    let e : a + suc b ≡ suc (a + b) = omega arith in
    rw e (rw (all-add a b f) (and_assoc (all a f) (all b (λ i. f (a + i))) (f (a + b))))

in_range-append : (low high : ℤ) (xs ys : List ℤ) → in_range low high (xs ++ ys) ≡ (in_range low high xs && in_range low high ys)
unfolding in_range
in_range-append low high xs ys =
    rw (length-append xs ys) (all-add (length xs) (length ys) _)
    ∙ ap₂ ◌&&◌
    (all-cong (length xs) _ _ (λ i h. ap (λ (z : ℤ). le_z low z && le_z z high) (get_or-append xs ys (pos 0) i h)))
    (all-cong (length ys) _ _ (λ i h. ap (λ (z : ℤ). le_z low z && le_z z high) (get_or-append-add xs ys i (pos 0))))

pub in_range-joined : (low high : ℤ) (m : ℕ) (f : ℕ → List ℤ) → in_range low high (joined m f) ≡ all m (λ i. in_range low high (f i))
unfolding joined all in_range
in_range-joined low high zero f = refl
in_range-joined low high (suc m) f = in_range-append low high (joined m f) (f m) ∙ rw (in_range-joined low high m f)
