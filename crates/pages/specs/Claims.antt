-- What C-23 asks of the pages. Proved as `floor-pages`.
use Rattle.std.specs.Prelude.{◌*◌, ◌+◌, ◌<◌, ◌≤◌, suc, ℕ, eqb, ℤ, drop, get_or, length, take, false, List, [], ◌∷◌, ◌≡◌}
use Rattle.semantics.specs.Probe.{byte_of, literal}
use Rattle.pages.specs.Page.{Paper, joined, page_count, page_size, pages}
use Rattle.pages.specs.Reading.{box_in, columns, entry_of, has, implied_in, natural_in, read_pages}

-- 80 columns of spaces, signs and digits, and a line feed
pub record IsLine (bytes : List ℕ) (at : ℕ) : Type 0 where
  pub printed : (j : ℕ) → j < 80 → (32 ≤ get_or bytes (at + j) 0) × (get_or bytes (at + j) 0 < 58)
  pub ended : get_or bytes (at + 80) 0 ≡ 10

-- rising numbers, from the one and below the other
pub data Rising : ℕ → ℕ → List ℕ → Type 0 where
  end : {from below : ℕ} → from ≤ below → Rising from below []
  next : {from below q : ℕ} {qs : List ℕ} → from ≤ q → Rising (suc q) below qs → Rising from below (q ∷ qs)

pub record FloorPages (n : ℕ) (B : List ℤ) (t : List ℕ) : Type 0 where
  pub most : page_count n t ≤ 70
  pub whole : length (pages n B t) ≡ page_count n t * page_size
  -- "Every line is exactly 80 columns"
  pub lines : (p i : ℕ) → p < page_count n t → i < 60 → IsLine (pages n B t) (page_size * p + 81 * i)
  -- "Line 1 of each page is the page number, from 1, .. in columns 75 to 80."
  pub numbers : (p : ℕ) → p < page_count n t → natural_in (columns 75 80 (take 80 (drop (page_size * p) (pages n B t)))) ≡ p + 1
  -- "the numbers on the pages give back the bounds and those implications": an entry for each variable, upwards
  pub entries : read_pages (pages n B t) ≡ joined n (λ k. entry_of n B t k ∷ [])
  pub bounds : box_in (read_pages (pages n B t)) ≡ B
  -- "all of them and no others"
  pub implications : (k q : ℕ) → k < n → q < 2 * n → has q (implied_in (read_pages (pages n B t)) k) ≡ eqb (get_or t (byte_of n (literal k 1) q) 0) 1
  pub others : (k q : ℕ) → k < n → 2 * n ≤ q → has q (implied_in (read_pages (pages n B t)) k) ≡ false
  pub rising : (k : ℕ) → k < n → Rising 0 (2 * n) (implied_in (read_pages (pages n B t)) k)

unfoldable pub Floor : Type 0
Floor = (n : ℕ) (B : List ℤ) (t : List ℕ) → Paper n B → FloorPages n B t
