-- The rows that a workspace holds are those of a valid model, whatever its numbers are; and its row r is what the words of row r say.
use Prim.Native.Nat.{◌*◌, ◌+◌, ◌/◌, ◌%◌, ◌<◌, ◌≤◌, suc, zero, ℕ}
use lib.Arith.{digits_div, digits_mod}
use lib.IntN.{◌+ℤ◌, pos, ℤ}
use lib.ListN.{drop, get_or, length, length-drop, take}
use lib.Seq.{ext_get_or, get_or-drop, get_or-take, length-take-le}
use mathlib.Core.List.{List}
use mathlib.Core.Path.{◌∙◌, ◌≡◌, ap, ap₂, refl, sym}
use native.Mathlib.Nat.{mul-le-mul_right, suc-mul}
use native.Mathlib.Omega.{arith}
use Rattle.integer.proofs.Parts.{add_parts, sub_parts, zarith, zify}
use Rattle.model.specs.Box.{at}
use Rattle.model.specs.Limits.{max_bound, max_coef, max_rhs, min_bound, min_coef, min_rhs}
use Rattle.model.specs.Model.{model_of}
use Rattle.model.specs.Rows.{row_at, row_of}
use Rattle.model.specs.Valid.{Between, ValidBox, ValidModel}
use Rattle.packed_row.specs.Words.{Readable, coefs_from, rhs_of, row_of_words}
use Rattle.packed_row.proofs.PackedLaws.{coefs-in, length-coefs, rhs-in}
use Rattle.prepared_model.specs.Layout.{bound_of, box_in, decode, list_to, row_in, row_words, rhs_word_of}

-- ---- lists by their places

pub length-list_to : {A : Type 0} (k : ℕ) (f : ℕ → A) → length (list_to k f) ≡ k
unfolding list_to
length-list_to zero f = refl
length-list_to (suc k) f = ap suc (length-list_to k (λ i. f (suc i)))

pub list_to-at : {A : Type 0} (k : ℕ) (f : ℕ → A) (d : A) (i : ℕ) → i < k → get_or (list_to k f) i d ≡ f i
unfolding list_to
list_to-at zero f d i h = absurd (let z : ⊥ = omega arith in z)
list_to-at (suc k) f d zero h = refl
list_to-at (suc k) f d (suc i) h = list_to-at k (λ j. f (suc j)) d i (omega arith)

-- what holds of each and of the default holds of any
pub list_to-all : {A : Type 0} (P : A → Type 0) (k : ℕ) (f : ℕ → A) (d : A) → ((i : ℕ) → P (f i)) → P d → (i : ℕ) → P (get_or (list_to k f) i d)
unfolding list_to
list_to-all P zero f d g e i = e
list_to-all P (suc k) f d g e zero = g 0
list_to-all P (suc k) f d g e (suc i) = list_to-all P k (λ j. f (suc j)) d (λ j. g (suc j)) e i

-- ---- the rows

module _ (n m : ℕ) (W : List ℕ) where
  pub decode-valid : {B : List ℤ} → 0 < n → n ≤ 128 → m ≤ 120 → ValidBox n B → ValidModel (model_of n m B (decode n m W))
  unfolding decode
  decode-valid some few few_rows v = record {
    some = some;
    few = few;
    few_rows = few_rows;
    box = v;
    coefs_len = length-list_to (m * n) _;
    coefs = list_to-all (Between min_coef max_coef) (m * n) _ (pos 0) (λ q. coefs-in (row_words n W (q / n)) 0 (q % n)) (record { above = omega zarith; below = omega zarith });
    rhs_len = length-list_to m _;
    rhs = list_to-all (Between min_rhs max_rhs) m _ (pos 0) (λ r. rhs-in (rhs_word_of W r)) (record { above = omega zarith; below = omega zarith });
    kinds_len = length-list_to m _;
    kinds = list_to-all (λ (k : ℕ). k < 2) m _ 0 (λ r. omega arith) (omega arith);
  }

  module _ (len : 1_408 + m * n ≤ length W) (r : ℕ) (h : r < m) where
    row-end : r * n + n ≤ m * n
    row-end = omega (arith, mul-le-mul_right n h, suc-mul r n)

    pub length-words : length (row_words n W r) ≡ n
    unfolding row_words
    length-words = length-take-le n (drop (1_408 + r * n) W) (omega (arith, row-end, length-drop (1_408 + r * n) W))

    place_in : (j : ℕ) → j < n → r * n + j < m * n
    place_in j k = omega (arith, row-end)

    -- its coefficients
    decode-coefs : row_of n (decode n m W).coefs r ≡ coefs_from (row_words n W r) 0
    unfolding decode row_of
    decode-coefs = ext_get_or (pos 0) _ _ lens (λ j k. each j (rw wide at k))
      where
        L : List ℤ
        L = list_to (m * n) (λ q. at (coefs_from (row_words n W (q / n)) 0) (q % n))

        wide : length (take n (drop (r * n) L)) ≡ n
        wide = length-take-le n (drop (r * n) L) (omega (arith, row-end, length-drop (r * n) L, length-list_to (m * n) (λ q. at (coefs_from (row_words n W (q / n)) 0) (q % n))))

        lens : length (take n (drop (r * n) L)) ≡ length (coefs_from (row_words n W r) 0)
        lens = wide ∙ sym (length-coefs (row_words n W r) 0 ∙ length-words)

        each : (j : ℕ) → j < n → at (take n (drop (r * n) L)) j ≡ at (coefs_from (row_words n W r) 0) j
        each j k =
            get_or-take n (drop (r * n) L) j (pos 0) k ∙ get_or-drop (r * n) L j (pos 0)
            ∙ list_to-at (m * n) _ (pos 0) (r * n + j) (place_in j k)
            ∙ ap₂ (λ (x y : ℕ). at (coefs_from (row_words n W x) 0) y) (digits_div r k) (digits_mod r k)

    decode-rhs : at (decode n m W).rhs r ≡ rhs_of (rhs_word_of W r)
    unfolding decode
    decode-rhs = list_to-at m _ (pos 0) r h

    decode-kind : get_or (decode n m W).kinds r 0 ≡ rhs_word_of W r % 2
    unfolding decode
    decode-kind = list_to-at m _ 0 r h

    pub decode-row : row_at n (decode n m W) r ≡ row_in n W r
    unfolding row_in row_of_words
    decode-row = rw (decode-coefs, decode-rhs, decode-kind)

    pub row-readable : {B : List ℤ} → 0 < n → n ≤ 128 → ValidBox n B → Readable (row_words n W r) B
    row-readable some few v = record { some = rw length-words some; few = rw length-words few; box = rw length-words v }

-- ---- the box

pub bound-in : (w : ℕ) → Between min_bound max_bound (bound_of w)
unfolding bound_of
bound-in w = let h : w % 65_536 < 65_536 = omega arith in record { above = simp zify (omega zarith); below = simp zify (omega zarith) }

-- a bound is raised by 32,768, and read back
pub bound-raised : {w : ℕ} {z : ℤ} → Between min_bound max_bound z → pos w ≡ z +ℤ pos 32_768 → bound_of w ≡ z
unfolding bound_of
bound-raised {w} {z} b e =
    let small : w < 65_536 = omega (zarith, b, e, add_parts z (pos 32_768)) in
    let same : w % 65_536 ≡ w = omega arith in
    rw same (omega (zarith, e, add_parts z (pos 32_768), sub_parts (pos w) (pos 32_768)))

pub box-at : (n : ℕ) (W : List ℕ) (i : ℕ) → i < 2 * n → at (box_in n W) i ≡ bound_of (get_or W (8 + i) 0)
unfolding box_in
box-at n W i h = list_to-at (2 * n) _ (pos 0) i h

pub length-box : (n : ℕ) (W : List ℕ) → length (box_in n W) ≡ 2 * n
unfolding box_in
length-box n W = length-list_to (2 * n) _
