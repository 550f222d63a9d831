-- Laws of pieces of different lengths, joined.
use Prim.Native.Nat.{◌+◌, ◌-◌, ◌<◌, ◌≤◌, suc, zero, ℕ}
use lib.ListN.{drop, length, length-append, take}
use lib.Seq.{drop-append_seam, take_at, take-take}
use mathlib.Core.List.{List, [], ◌++◌, append-nil}
use mathlib.Core.Path.{◌∙◌, ◌≡◌, ap, refl, sym}
use native.Mathlib.Decide.{ℕ_discrete}
use native.Mathlib.Omega.{arith}
use Rattle.little_endian.specs.Pieces.{joined, part}
use Rattle.little_endian.proofs.PieceLaws.{part-add, part_left, part_right, part-whole}

module _ {ℓ} {A : Type ℓ} where
  pub joined-zero : (f : ℕ → List A) → joined 0 f ≡ []
  unfolding joined
  joined-zero f = refl

  pub joined-suc : (n : ℕ) (f : ℕ → List A) → joined (suc n) f ≡ joined n f ++ f n
  unfolding joined
  joined-suc n f = refl

  -- a part that is two lists in turn
  pub part-split : (p a b : ℕ) (bs xs ys : List A) → part p (a + b) bs ≡ xs ++ ys → length xs ≡ a → (part p a bs ≡ xs) × (part (p + a) b bs ≡ ys)
  part-split p a b bs xs ys e l =
      let f : part p a bs ≡ xs = sym (take-take a (a + b) (drop p bs) (omega arith)) ∙ ap (take a) e ∙ take_at xs ys a l in
      let g : xs ++ part (p + a) b bs ≡ xs ++ ys = ap (λ (zs : List A). zs ++ part (p + a) b bs) (sym f) ∙ sym (part-add p a b bs) ∙ e in
      (f, sym (drop-append_seam xs (part (p + a) b bs)) ∙ ap (drop (length xs)) g ∙ drop-append_seam xs ys)

  -- pieces from k on that are empty
  pub joined-stop : (n k : ℕ) (f : ℕ → List A) → k ≤ n → ((i : ℕ) → k ≤ i → f i ≡ []) → joined n f ≡ joined k f
  unfolding joined
  joined-stop zero k f h e = let z : k ≡ 0 = omega arith in rw z
  joined-stop (suc n) k f h e = go (ℕ_discrete k (suc n)) (λ (q : k ≤ n). joined-stop n k f q e)
    where
      go : Dec (k ≡ suc n) → (k ≤ n → joined n f ≡ joined k f) → joined n f ++ f n ≡ joined k f
      go (yes z) r = rw z
      go (no z) r = rw (e n (omega arith)) (append-nil (joined n f) ∙ r (omega arith))

  -- piece i
  pub part-span : (n : ℕ) (f : ℕ → List A) (i : ℕ) → i < n → (length (joined i f) + length (f i) ≤ length (joined n f)) × (part (length (joined i f)) (length (f i)) (joined n f) ≡ f i)
  unfolding joined
  part-span zero f i h = absurd (let z : ⊥ = omega arith in z)
  part-span (suc n) f i h = go (ℕ_discrete i n) (λ (q : i < n). part-span n f i q)
    where
      l : length (joined n f ++ f n) ≡ length (joined n f) + length (f n)
      l = length-append (joined n f) (f n)

      go : Dec (i ≡ n) → (i < n → (length (joined i f) + length (f i) ≤ length (joined n f)) × (part (length (joined i f)) (length (f i)) (joined n f) ≡ f i))
          → (length (joined i f) + length (f i) ≤ length (joined n f ++ f n)) × (part (length (joined i f)) (length (f i)) (joined n f ++ f n) ≡ f i)
      go (yes e) r = rw e (omega (arith, l), part_right 0 (length (f n)) (length (joined n f)) (joined n f) (f n) (omega arith) ∙ part-whole (f n) (length (f n)) refl)
      go (no e) r =
          let q = r (omega arith) in
          (omega (arith, l, q.0), part_left (length (joined i f)) (length (f i)) (joined n f) (f n) q.0 ∙ q.1)

  -- parts that follow one another are one part
  pub joined-spans : (m : ℕ) (s w : ℕ → ℕ) (bs : List A) → ((i : ℕ) → s (suc i) ≡ s i + w i)
      → (s 0 ≤ s m) × (joined m (λ i. part (s i) (w i) bs) ≡ part (s 0) (s m - s 0) bs)
  unfolding joined
  joined-spans zero s w bs h = let z : s 0 - s 0 ≡ 0 = omega arith in (omega arith, rw z)
  joined-spans (suc m) s w bs h =
      let r = joined-spans m s w bs h in
      let e : s (suc m) ≡ s m + w m = h m in
      let a : s 0 + (s m - s 0) ≡ s m = omega (arith, r.0) in
      let b : s (suc m) - s 0 ≡ (s m - s 0) + w m = omega (arith, r.0) in (
        omega (arith, r.0),
        ap (λ (ys : List A). ys ++ part (s m) (w m) bs) r.1
            ∙ ap (λ (q : ℕ). part (s 0) (s m - s 0) bs ++ part q (w m) bs) (sym a)
            ∙ sym (part-add (s 0) (s m - s 0) (w m) bs)
            ∙ ap (λ (q : ℕ). part (s 0) q bs) (sym b),
      )
