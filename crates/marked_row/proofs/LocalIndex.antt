-- The index and the marks in local arrays of 15,360 and 120 bytes: there is room for them, and of zeros nothing is known.
use Prim.Native.Nat.{◌*◌, ◌<◌, ◌≤◌, ℕ}
use lib.IntN.{ℤ}
use lib.ListN.{get_or-eq_default, get_or, get_or-replicate, length, length-replicate, replicate}
use mathlib.Core.List.{List}
use mathlib.Core.Path.{◌∙◌, ◌≡◌, sym}
use native.Mathlib.Decide.{dec_lt}
use native.Mathlib.Nat.{mul-le-mul_right}
use native.Mathlib.Omega.{arith}
use Rattle.model.specs.Valid.{ValidModel}
use Rattle.model.specs.Model.{model_of}
use Rattle.model.specs.Rows.{Rows}
use Rattle.row_index.specs.Index.{Index}
use Rattle.row_marks.specs.Marks.{Clean, Watched}

pub all-zero : (k i : ℕ) → get_or {A = ℕ} (replicate k 0) i 0 ≡ 0
all-zero k i = go (dec_lt i k)
  where
    go : Dec (i < k) → get_or {A = ℕ} (replicate k 0) i 0 ≡ 0
    go (yes h) = get_or-replicate k i 0 0 h
    go (no h) = let o : length {A = ℕ} (replicate k 0) ≤ i = omega (arith, length-replicate {A = ℕ} k 0) in rw get_or-eq_default

pub clean-none : {n m : ℕ} {A : Rows} {B : List ℤ} (k : ℕ) → Clean n m A B (replicate k 0)
clean-none k = record { same = λ _ r _ e. absurd (let z : ◌≡◌ {A = ℕ} 0 1 = sym (all-zero k r) ∙ e in let w : ⊥ = omega arith in w) }

module _ {n m : ℕ} {B : List ℤ} {A : Rows} (v : ValidModel (model_of n m B A)) where
  cells : m * n ≤ 15360
  cells = omega (arith, mul-le-mul_right n v.few_rows, v.few)

  cells-across : n * m ≤ 15360
  cells-across = omega (arith, mul-le-mul_right m v.few, v.few_rows)

  pub index-none : Index n m A.coefs (replicate 15360 0) (replicate 15360 0)
  index-none = record {
    rows = record {
      some = v.some;
      few = v.few;
      matrix = omega (arith, v.coefs_len);
      room = rw (length-replicate {A = ℕ} 15360 0) cells;
      right = λ r _ e. absurd (e (all-zero 15360 (r * n)));
    };
    columns = record {
      some = rw (length-replicate {A = ℕ} 15360 0) (let w : 0 < 15360 = omega arith in w);
      matrix = omega (arith, v.coefs_len);
      room = rw (length-replicate {A = ℕ} 15360 0) cells-across;
      right = λ j _ e. absurd (e (all-zero 15360 (j * m)));
    };
  }

  pub watched-none : {seen : List ℤ} → seen ≡ B → Watched n m A B (replicate 15360 0) (replicate 15360 0) seen (replicate 120 0)
  watched-none e = record { index = index-none; copied = λ _. e; clean = clean-none 120 }
