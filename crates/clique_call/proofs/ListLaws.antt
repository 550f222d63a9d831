-- Laws of the lent list: one row of it replaced, a clique more in it, and a row against those before it.
use Prim.Native.Nat.{◌*◌, ◌+◌, ◌-◌, ◌<◌, ◌≤◌, suc, zero, ℕ}
use lib.Dec.{T, leb}
use lib.IntN.{◌-ℤ◌, pos, ℤ}
use lib.ListN.{get_or-eq_default, drop, get_or, length, length-append, length-drop, length-replicate, replicate, set, take, take-append-drop}
use lib.Seq.{drop-drop, ext_get_or, get_or-set_other, get_or-set_same, length-take-le}
use mathlib.Core.Bool.{Bool, ◌&&◌, false, not, true}
use mathlib.Core.List.{List, [], ◌++◌, ◌∷◌}
use mathlib.Core.Logic.{◌≢◌}
use mathlib.Core.Path.{◌∙◌, ◌≡◌, ap, ap₂, refl, subst, sym}
use mir.Facts.{to_z_pos}
use mir.Syntax.{w32}
use mir.Val.{SFits, of_z, to_z}
use native.Mathlib.Decide.{ℕ_discrete}
use native.Mathlib.Nat.{mul-le-mul_right}
use native.Mathlib.Numerals.{add-one}
use native.Mathlib.Omega.{arith}
use Rattle.integer.specs.Index.{all}
use Rattle.integer.proofs.IndexLaws.{all-at, all-i}
use Rattle.integer.proofs.Parts.{zarith}
use Rattle.integer.proofs.RangeLaws.{within!, within-fits, within-lit, within-sub}
use Rattle.integer.proofs.Reading.{read}
use Rattle.integer.proofs.Tests.{bool-ext}
use Rattle.model.specs.Box.{at, same_list}
use Rattle.model.specs.Rows.{Row, Rows, row_of, row_with, rows_of, set_row, splice}
use Rattle.model.proofs.BoxLaws.{same_list-refl, same_list→eq}
use Rattle.model.proofs.RowsLaws.{set_row-length, set_row-other, set_row-row}
use Rattle.row.specs.Redundancy.{zero_row}
use Rattle.row.proofs.RedundancyLaws.{at-zero_row, length-zero_row}
use Rattle.matrix.proofs.PartLaws.{row-changed-kept}
use Rattle.cliques.specs.CliqueClaims.{SameRows}
use Rattle.cliques.specs.Cliques.{CliqueRows, clique_rhs, clique_row, cliques_to, coefs_of, grow, is_new, meant_at_zero, rows_for, same_set, seen, sides_of}
use Rattle.cliques.proofs.CliqueLaws.{length-clique_row}
use Rattle.cliques.proofs.CliqueRows.{coefs-row, get_d-last, length-coefs_of, length-sides_of, listing-to, not-seen-at, not-seen-i, same_rows}
use Rattle.clique_call.specs.CliqueAnswers.{list_of}
use Rattle.clique_call.specs.Compared.{differs}

-- ---- a row that is lent as a part

pub row_lies : (n m : ℕ) (C : List ℤ) (k : ℕ) → length C ≡ m * n → k < m → k * n + n ≤ length C
row_lies n m C k l h = let a : suc k * n ≤ m * n = mul-le-mul_right n h in omega arith

pub length_part : (C : List ℤ) (k n : ℕ) → k * n + n ≤ length C → length (row_of n C k) ≡ n
unfolding row_of
length_part C k n h = length-take-le n (drop (k * n) C) (omega (arith, length-drop (k * n) C))

-- it comes back with the numbers A
pub part-back : (C A : List ℤ) (k n : ℕ) → length A ≡ n → take (k * n) C ++ (A ++ drop (k * n + n - k * n) (drop (k * n) C)) ≡ splice C A (k * n)
unfolding set_row
part-back C A k n l = ap (λ (Z : Rows). Z.coefs) (row-changed-kept C [] [] k n {b = pos 0} l refl)

-- ---- numbers set to 0, one after the other

pub zeros-more : (xs : List ℤ) (i : ℕ) → i < length xs → ((j : ℕ) → j < i → at xs j ≡ pos 0) → (j : ℕ) → j < i + 1 → at (set xs i (pos 0)) j ≡ pos 0
zeros-more xs i h f j l = cases (ℕ_discrete j i)
  where
    cases : Dec (j ≡ i) → at (set xs i (pos 0)) j ≡ pos 0
    cases (yes e) = rw e (get_or-set_same xs i (pos 0) (pos 0) h)
    cases (no e) = get_or-set_other xs i j (pos 0) (pos 0) e ∙ f j (omega arith)

pub all-zeros : (xs : List ℤ) (n : ℕ) → length xs ≡ n → ((j : ℕ) → j < n → at xs j ≡ pos 0) → xs ≡ zero_row n
all-zeros xs n l f = ext_get_or (pos 0) xs (zero_row n) (l ∙ sym (length-zero_row n)) (λ j h. f j (omega arith) ∙ sym (at-zero_row n j))

-- ---- a row replaced

module _ (n m : ℕ) (C A : List ℤ) (k : ℕ) (len : length C ≡ m * n) (h : k < m) (l : length A ≡ n) where
  -- beside right sides and kinds, which do not matter
  abbrev rows : Rows
  rows = rows_of C (replicate m (pos 0)) (replicate m 0)

  pub spliced-length : length (splice C A (k * n)) ≡ m * n
  unfolding set_row
  spliced-length = set_row-length n m rows k (row_with A (pos 0) 0) len (length-replicate m (pos 0)) (length-replicate {A = ℕ} m 0) h l

  pub spliced-row : row_of n (splice C A (k * n)) k ≡ A
  unfolding set_row
  spliced-row = ap (λ (r : Row). r.coefs) (set_row-row n m rows k (row_with A (pos 0) 0) len (length-replicate m (pos 0)) (length-replicate {A = ℕ} m 0) h l)

  pub spliced-other : (i : ℕ) → i < m → i ≢ k → row_of n (splice C A (k * n)) i ≡ row_of n C i
  unfolding set_row
  spliced-other i g ne =
      ap (λ (r : Row). r.coefs) (set_row-other n m rows k (row_with A (pos 0) 0) len (length-replicate m (pos 0)) (length-replicate {A = ℕ} m 0) h l i g ne)

-- matrices of the same rows
matrix-ext : (n m : ℕ) (C D : List ℤ) → length C ≡ m * n → length D ≡ m * n → ((i : ℕ) → i < m → row_of n C i ≡ row_of n D i) → C ≡ D
unfolding row_of
matrix-ext n zero [] [] c d f = refl
matrix-ext n zero (x ∷ C) D c d f = absurd (let z : ⊥ = omega arith in z)
matrix-ext n zero [] (x ∷ D) c d f = absurd (let z : ⊥ = omega arith in z)
matrix-ext n (suc m) C D c d f =
    let first : take n C ≡ take n D = (let e : 0 * n ≡ 0 = omega arith in rw e at (f 0 (omega arith))) in
    let rest : drop n C ≡ drop n D = matrix-ext n m (drop n C) (drop n D) (omega (arith, length-drop n C)) (omega (arith, length-drop n D))
    (λ i h. let e : suc i * n ≡ n + i * n = omega arith in
    rw (drop-drop (i * n) n C, drop-drop (i * n) n D) (rw e at (f (suc i) (omega arith)))) in
    sym (take-append-drop n C) ∙ ap₂ (λ (a b : List ℤ). a ++ b) first rest ∙ take-append-drop n D

-- ---- a clique more

get_d-more : (ds : List (List ℕ)) (c : List ℕ) (i : ℕ) → i ≢ length ds → get_or (ds ++ (c ∷ [])) i [] ≡ get_or ds i []
get_d-more [] c zero ne = absurd (ne refl)
get_d-more [] c (suc i) ne = refl
get_d-more (d ∷ ds) c zero ne = refl
get_d-more (d ∷ ds) c (suc i) ne = get_d-more ds c i (λ e. ne (ap suc e))

sides-more : (left : ℕ) (ds : List (List ℕ)) (c : List ℕ) → length ds < left → set (sides_of left ds) (length ds) (clique_rhs c) ≡ sides_of left (ds ++ (c ∷ []))
unfolding sides_of
sides-more zero ds c h = absurd (let z : ⊥ = omega arith in z)
sides-more (suc left) [] c h = refl
sides-more (suc left) (d ∷ ds) c h = ap (λ (R : List ℤ). clique_rhs d ∷ R) (sides-more left ds c (omega arith))

module _ (n : ℕ) (ds : List (List ℕ)) (c : List ℕ) (few : length ds < 2 * n) where
  abbrev C : List ℤ
  C = coefs_of (2 * n) n ds

  -- the list with the clique's row after the last that was written
  abbrev C' : List ℤ
  C' = splice C (clique_row n c) (length ds * n)

  C-length : length C ≡ 2 * n * n
  C-length = length-coefs_of (2 * n) n ds

  pub more-length : length C' ≡ 2 * n * n
  more-length = spliced-length n (2 * n) C (clique_row n c) (length ds) C-length few (length-clique_row n c)

  -- what is not written yet is 0
  pub next-zero : row_of n C (length ds) ≡ zero_row n
  unfolding clique_row
  next-zero = coefs-row (2 * n) n ds (length ds) few ∙ ap (clique_row n) (get_or-eq_default ds [] (omega arith))

  row_more : row_of n C' (length ds) ≡ clique_row n c
  row_more = spliced-row n (2 * n) C (clique_row n c) (length ds) C-length few (length-clique_row n c)

  row_before : (i : ℕ) → i < 2 * n → i ≢ length ds → row_of n C' i ≡ clique_row n (get_or ds i [])
  row_before i h ne =
      spliced-other n (2 * n) C (clique_row n c) (length ds) C-length few (length-clique_row n c) i h ne ∙ coefs-row (2 * n) n ds i h

  -- it is kept
  pub coefs-more : C' ≡ coefs_of (2 * n) n (ds ++ (c ∷ []))
  coefs-more =
      matrix-ext n (2 * n) C' (coefs_of (2 * n) n (ds ++ (c ∷ []))) more-length (length-coefs_of (2 * n) n (ds ++ (c ∷ []))) (λ i h.
      row i h (ℕ_discrete i (length ds)) ∙ sym (coefs-row (2 * n) n (ds ++ (c ∷ [])) i h))
    where
      row : (i : ℕ) → i < 2 * n → Dec (i ≡ length ds) → row_of n C' i ≡ clique_row n (get_or (ds ++ (c ∷ [])) i [])
      row i h (yes e) = rw (e, get_d-last ds c) row_more
      row i h (no e) = row_before i h e ∙ ap (clique_row n) (sym (get_d-more ds c i e))

  -- it is cleared
  pub coefs-cleared : splice C' (zero_row n) (length ds * n) ≡ C
  coefs-cleared =
      matrix-ext n (2 * n) (splice C' (zero_row n) (length ds * n)) C
      (spliced-length n (2 * n) C' (zero_row n) (length ds) more-length few (length-zero_row n)) C-length (λ i h. row i h (ℕ_discrete i (length ds)))
    where
      row : (i : ℕ) → i < 2 * n → Dec (i ≡ length ds) → row_of n (splice C' (zero_row n) (length ds * n)) i ≡ row_of n C i
      row i h (yes e) = rw e (spliced-row n (2 * n) C' (zero_row n) (length ds) more-length few (length-zero_row n) ∙ sym next-zero)
      row i h (no e) =
          spliced-other n (2 * n) C' (zero_row n) (length ds) more-length few (length-zero_row n) i h e ∙ row_before i h e ∙ sym (coefs-row (2 * n) n ds i h)

pub listed-lengths : (n : ℕ) (ds : List (List ℕ)) {number : ℕ} {C R : List ℤ} → list_of number C R ≡ rows_for n ds → (length C ≡ 2 * n * n) × (length R ≡ 2 * n)
unfolding rows_for
listed-lengths n ds e = (
  ap (λ (r : CliqueRows). length r.coefs) e ∙ length-coefs_of (2 * n) n ds,
  ap (λ (r : CliqueRows). length r.rhs) e ∙ length-sides_of (2 * n) ds,
)

-- the right side, as the machine has it
side-small : {z : ℕ} → z ≤ 257 → to_z w32 z ≡ pos z
side-small h = to_z_pos w32 (omega arith)

pub side-fits : {z : ℕ} → z ≤ 257 → SFits w32 (pos 1 -ℤ to_z w32 z)
side-fits {z} h = rw (side-small h) (within-fits w32 {m = 1 + 257} tt (within-sub {a = pos 1} (within-lit {m = 1} tt) (within! 257 (pos z) (omega zarith))))

pub side-is : (c : List ℕ) {z : ℕ} → z ≤ 257 → z ≡ meant_at_zero c → to_z w32 (of_z w32 (pos 1 -ℤ to_z w32 z)) ≡ clique_rhs c
unfolding clique_rhs
side-is c h e = read w32 (side-fits h) (rw (side-small h, e) refl)

-- ---- the cliques of the literals below p, and then that of p

module _ (n : ℕ) (t : List ℕ) (p : ℕ) (h : p < 2 * n) where
  abbrev ds : List (List ℕ)
  ds = cliques_to p n t

  abbrev c : List ℕ
  c = grow n t p

  pub few : length ds < 2 * n
  few = let w = (listing-to n t p).few in omega arith

  -- the rows of two of them are the same just where they are one set
  same_row : (i : ℕ) → i < length ds → same_list (clique_row n (get_or ds i [])) (clique_row n c) ≡ same_set c (get_or ds i [])
  unfolding SameRows
  same_row i l =
      let g = (listing-to n t p).grown i l in
      let k = g.1 in
      let s = same_rows n t p g.0 h (omega arith) in
      let A = clique_row n (grow n t g.0) in
      subst (λ (d : List ℕ). same_list (clique_row n d) (clique_row n c) ≡ same_set c d) (sym g.2)
      (bool-ext (same_list A (clique_row n c)) (same_set c (grow n t g.0))
      (λ u. s.1 (sym (same_list→eq A (clique_row n c) u)))
      (λ u. subst (λ (B : List ℤ). T (same_list A B)) (sym (s.0 u)) (same_list-refl A)))

  pub differs-new : differs n (splice (coefs_of (2 * n) n ds) (clique_row n c) (length ds * n)) (length ds) ≡ not (seen c ds)
  unfolding differs
  differs-new = bool-ext (all (length ds) test) (not (seen c ds))
      (λ u. not-seen-i c ds (λ i l. subst (λ (b : Bool). T (not b)) (told i l) (all-at (length ds) test u i l)))
      (λ u. all-i (length ds) test (λ i l. subst (λ (b : Bool). T (not b)) (sym (told i l)) (not-seen-at c ds u i l)))
    where
      D : List ℤ
      D = splice (coefs_of (2 * n) n ds) (clique_row n c) (length ds * n)

      test : ℕ → Bool
      test i = not (same_list (row_of n D i) (row_of n D (length ds)))

      told : (i : ℕ) → i < length ds → same_list (row_of n D i) (row_of n D (length ds)) ≡ same_set c (get_or ds i [])
      told i l = rw (row_before n ds c few i (omega (arith, few)) (omega arith), row_more n ds c few) (same_row i l)

  -- the list afterwards, by the test of the code
  module _ {number : ℕ} {C R : List ℤ} (e : list_of number C R ≡ rows_for n ds) where
    pub number_is : number ≡ length ds
    unfolding rows_for
    number_is = ap (λ (r : CliqueRows). r.number) e

    pub coefs-are : C ≡ coefs_of (2 * n) n ds
    unfolding rows_for
    coefs-are = ap (λ (r : CliqueRows). r.coefs) e

    pub rhs-are : R ≡ sides_of (2 * n) ds
    unfolding rows_for
    rhs-are = ap (λ (r : CliqueRows). r.rhs) e

    pub list-lengths : (length C ≡ 2 * n * n) × (length R ≡ 2 * n) × (number < 2 * n)
    list-lengths = let l = listed-lengths n ds e in (l.0, l.1, omega (arith, number_is, few))

    pub next-row-zero : row_of n C number ≡ zero_row n
    next-row-zero = rw (coefs-are, number_is) (next-zero n ds c few)

    abbrev grown_list : List ℤ
    grown_list = splice C (clique_row n c) (number * n)

    pub grown-list-length : length grown_list ≡ 2 * n * n
    grown-list-length = rw (coefs-are, number_is) (more-length n ds c few)

    pub test-is : (leb 3 (length c) && differs n grown_list number) ≡ is_new c ds
    unfolding is_new
    test-is = rw (coefs-are, number_is, differs-new) refl

    pub clique-kept : {b : ℤ} → is_new c ds ≡ true → b ≡ clique_rhs c → list_of (number + 1) grown_list (set R number b) ≡ rows_for n (cliques_to (p + 1) n t)
    unfolding rows_for cliques_to
    clique-kept u f =
        rw (add-one p, u, f, coefs-are, rhs-are, number_is, coefs-more n ds c few, sides-more (2 * n) ds c few, length-append ds (c ∷ [])) refl

    pub clique-cleared : is_new c ds ≡ false → list_of number (splice grown_list (zero_row n) (number * n)) R ≡ rows_for n (cliques_to (p + 1) n t)
    unfolding rows_for cliques_to
    clique-cleared u = rw (add-one p, u, coefs-are, rhs-are, number_is, coefs-cleared n ds c few) refl

-- ---- before the first

zeros-append : (a b : ℕ) → replicate a (pos 0) ++ replicate b (pos 0) ≡ replicate (a + b) (pos 0)
zeros-append zero b = let e : 0 + b ≡ b = omega arith in rw e refl
zeros-append (suc a) b = let e : suc a + b ≡ suc (a + b) = omega arith in rw e (ap (λ (l : List ℤ). pos 0 ∷ l) (zeros-append a b))

coefs-none : (left n : ℕ) → coefs_of left n [] ≡ zero_row (left * n)
unfolding coefs_of zero_row
coefs-none zero n = let e : 0 * n ≡ 0 = omega arith in rw e refl
coefs-none (suc left) n =
    let e : suc left * n ≡ n + left * n = omega arith in rw (e, coefs-none left n) (zeros-append n (left * n))

sides-none : (left : ℕ) → sides_of left [] ≡ zero_row left
unfolding sides_of zero_row
sides-none zero = refl
sides-none (suc left) = ap (λ (R : List ℤ). pos 0 ∷ R) (sides-none left)

pub list-none : (n : ℕ) (t : List ℕ) {C R : List ℤ} → C ≡ zero_row (2 * n * n) → R ≡ zero_row (2 * n) → list_of 0 C R ≡ rows_for n (cliques_to 0 n t)
unfolding rows_for cliques_to
list-none n t c r = rw (c, r, coefs-none (2 * n) n, sides-none (2 * n)) refl
