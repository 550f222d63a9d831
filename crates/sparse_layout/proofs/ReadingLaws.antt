-- Laws by which code makes checks 8, 9 and 16 of a sparse book row by row: a row's coefficients are in range exactly if those of its
-- entries are.
use Prim.Native.Nat.{◌*◌, ◌+◌, ◌<◌, suc, zero, ℕ}
use lib.Dec.{eqb, ltb}
use lib.IntN.{pos, ℤ}
use lib.ListN.{get_or, length}
use lib.Signed.{◌≤ℤ◌}
use mathlib.Core.List.{List, [], ◌∷◌}
use mathlib.Core.Path.{◌∙◌, ◌≡◌, ap, refl, subst, sym}
use native.Mathlib.Decide.{ℕ_discrete}
use native.Mathlib.Omega.{arith}
use Rattle.integer.specs.Index.{all}
use Rattle.integer.proofs.Tests.{bool-ext, cond_ind}
use Rattle.model.specs.Checks.{bits, in_range}
use Rattle.model.specs.Valid.{Between}
use Rattle.model.proofs.CheckLaws.{in_range-test}
use Rattle.little_endian.specs.Bytes.{integer_at, integers_at}
use Rattle.little_endian.specs.Pieces.{joined, list_of}
use Rattle.little_endian.proofs.ByteLaws.{at-integers_at, length-integers_at}
use Rattle.little_endian.proofs.PieceLaws.{get_d-list_of, length-list_of}
use Rattle.book.proofs.DecodeLaws.{all-cong}
use Rattle.sparse_layout.specs.SparseBook.{column_at, dense_at, value_at}
use Rattle.sparse_layout.proofs.RowLaws.{Entries, dense-hit, dense-miss}

-- what holds of 0 and of every entry's coefficient holds of every coefficient
dense-all : (p : ℕ) (bs : List ℕ) (c : ℕ) (P : ℤ → Type 0) → P (pos 0) → ((e : ℕ) → e < c → P (value_at p bs e)) → (x : ℕ) → P (dense_at p bs c x)
unfolding dense_at
dense-all p bs zero P z h x = z
dense-all p bs (suc c) P z h x =
    let r = dense-all p bs c P z (λ e k. h e (omega arith)) x in
    cond_ind (eqb (column_at p bs c) x) (value_at p bs c) (dense_at p bs c x) P (λ t. h c (omega arith)) (λ t. r)

-- each entry's coefficient stands in its column
dense-column : (n p : ℕ) (bs : List ℕ) (c : ℕ) → Entries n p bs c → (e : ℕ) → e < c → dense_at p bs c (column_at p bs e) ≡ value_at p bs e
dense-column n p bs zero h e k = absurd (let z : ⊥ = omega arith in z)
dense-column n p bs (suc c) h e k = go (ℕ_discrete e c) (λ (l : e < c). dense-column n p bs c fewer e l)
  where
    fewer : Entries n p bs c
    fewer = record {
      below = λ d l. h.below d (omega arith);
      rises = λ d f q l. h.rises d f q (omega arith);
      some = λ d l. h.some d (omega arith);
    }

    go : Dec (e ≡ c) → (e < c → dense_at p bs c (column_at p bs e) ≡ value_at p bs e) → dense_at p bs (suc c) (column_at p bs e) ≡ value_at p bs e
    go (yes z) r = rw z (dense-hit p bs c (column_at p bs c) refl)
    go (no z) r = dense-miss p bs c (column_at p bs e) (λ y. let q = h.rises e c (omega arith) (omega arith) in omega arith) ∙ r (omega arith)

pub dense-range : (low high : ℤ) (n p : ℕ) (bs : List ℕ) (c : ℕ) → low ≤ℤ pos 0 → pos 0 ≤ℤ high → Entries n p bs c
    → in_range low high (integers_at (p + 9) 6 c bs) ≡ in_range low high (list_of n (dense_at p bs c))
unfolding value_at
dense-range low high n p bs c l u h =
    let xs = integers_at (p + 9) 6 c bs in
    let ys = list_of n (dense_at p bs c) in
    let lx : length xs ≡ c = length-integers_at (p + 9) 6 c bs in
    let ly : length ys ≡ n = length-list_of n (dense_at p bs c) in
    let dx = in_range-test low high xs in
    let dy = in_range-test low high ys in
    bool-ext (in_range low high xs) (in_range low high ys)
    (λ t. dy.1 (λ j k. subst (Between low high) (sym (get_d-list_of n (dense_at p bs c) j (pos 0) (omega arith)))
    (dense-all p bs c (Between low high) (record { above = l; below = u }) (λ e q. subst (Between low high) (at-integers_at (p + 9) 6 c bs e q) (dx.0 t e (omega arith))) j)))
    (λ t. dx.1 (λ e k. let q : e < c = omega arith in
    subst (Between low high)
    (get_d-list_of n (dense_at p bs c) (column_at p bs e) (pos 0) (h.below e q) ∙ dense-column n p bs c h e q ∙ sym (at-integers_at (p + 9) 6 c bs e q))
    (dy.0 t (column_at p bs e) (omega (arith, h.below e q)))))

-- one number
pub one-integer : (p step : ℕ) (bs : List ℕ) → integers_at p step 1 bs ≡ integer_at p bs ∷ []
unfolding integers_at joined
one-integer p step bs = let e : p + 0 * step ≡ p = omega arith in rw e

-- every byte of a list over an index
pub bits-list_of : (m : ℕ) (f : ℕ → ℕ) → bits (list_of m f) ≡ all m (λ i. ltb (f i) 2)
unfolding bits
bits-list_of m f =
    ap (λ (k : ℕ). all k (λ i. ltb (get_or (list_of m f) i 0) 2)) (length-list_of m f) ∙ all-cong m _ _ (λ i h. ap (λ (x : ℕ). ltb x 2) (get_d-list_of m f i 0 h))
