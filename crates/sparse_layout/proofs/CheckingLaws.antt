-- Laws by which code finds the checks of a sparse book: entry by entry, row by row, and on the walk.
use Prim.Native.Nat.{◌*◌, ◌+◌, ◌-◌, ◌<◌, ◌≤◌, suc, zero, ℕ}
use lib.Dec.{T, eqb, ltb}
use lib.IntN.{pos}
use lib.ListN.{length, length-drop}
use lib.Seq.{get_or-drop}
use mathlib.Core.Bool.{◌&&◌, false, not, true}
use mathlib.Core.List.{List, [], ◌++◌}
use mathlib.Core.Logic.{◌↔◌}
use mathlib.Core.Path.{◌∙◌, ◌≡◌, ap, refl, subst}
use native.Mathlib.Decide.{ℕ_discrete}
use native.Mathlib.Omega.{arith}
use Rattle.integer.proofs.Tests.{both, eqb-test, ltb-test, test-false, test-true}
use Rattle.model.specs.Checks.{Check, first, size_checks}
use Rattle.model.proofs.CheckLaws.{ends, fails, first-none, first-zero-append, goes, numbered, past, stops}
use Rattle.little_endian.specs.Bytes.{Bytes, integer_at, number_at}
use Rattle.little_endian.specs.Pieces.{joined}
use Rattle.little_endian.proofs.ByteLaws.{number_at-below}
use Rattle.book.specs.Book.{bounds_offset, length_given, rows, rows_offset, trailer_of, variables}
use Rattle.book.specs.BookChecks.{given_length_checks}
use Rattle.book.proofs.AcceptLaws.{size-passed}
use Rattle.sparse_layout.specs.SparseBook.{HoldsRows, column_at, count_at, is_zero, row_start, value_at}
use Rattle.sparse_layout.specs.SparseChecks.{all_entry_checks, entry_checks, rises_at, row_entry_checks, sparse_frame_checks, sparse_offset_checks}
use Rattle.sparse_layout.proofs.RowLaws.{zero_test}
use Rattle.sparse_layout.proofs.SparseAcceptLaws.{SparseHead, first-joined, numbered-joined, row-numbered}
use Rattle.sparse_layout.proofs.SparseTripLaws.{row_inside, start-next, start-rises}

-- ---- checks of a list of pieces, piece by piece

module _ (f : ℕ → List Check) (numbers : (i : ℕ) → T (numbered (f i))) where
  -- where the pieces before i pass, what piece i is refused by is the answer
  pub first-at : (r n i : ℕ) → i < n → first (joined i f) ≡ 0 → r ≡ first (f i) → (r ≡ 0 → ⊥) → r ≡ first (joined n f)
  unfolding joined
  first-at r zero i h z e ne = absurd (let k : ⊥ = omega arith in k)
  first-at r (suc n) i h z e ne = go (ℕ_discrete i n) (λ (k : i < n). first-at r n i k z e ne)
    where
      go : Dec (i ≡ n) → (i < n → r ≡ first (joined n f)) → r ≡ first (joined n f ++ f n)
      go (yes q) on =
          goes (joined n f) (f n) (numbered-joined n f numbers) refl (subst (λ (k : ℕ). first (joined k f) ≡ 0) q z) (subst (λ (k : ℕ). r ≡ first (f k)) q e)
      go (no q) on = stops (joined n f) (f n) (on (omega arith)) ne

  -- and where piece i passes too, the pieces before i + 1 do
  pub first_on : (i : ℕ) → first (joined i f) ≡ 0 → first (f i) ≡ 0 → first (joined (i + 1) f) ≡ 0
  unfolding joined
  first_on i z e =
      let s : i + 1 ≡ suc i = omega arith in
      rw s ((first-zero-append (joined i f) (f i) (numbered-joined i f numbers)).1 (z, e))

-- ---- one entry

-- entry e's column is above the one before, if there is one
abbrev pub Rises : ℕ → List ℕ → ℕ → Type 0
Rises p bs e = (e ≡ 0 → ⊥) → column_at p bs (e - 1) < column_at p bs e

rises-test : (p : ℕ) (bs : List ℕ) (e : ℕ) → T (rises_at p bs e) ↔ Rises p bs e
unfolding rises_at
rises-test p bs zero = ((λ t z. absurd (z refl)), (λ h. tt))
rises-test p bs (suc e) =
    let q : suc e - 1 ≡ e = omega arith in
    let d = ltb-test (column_at p bs e) (column_at p bs (suc e)) in
    ((λ t z. rw q (d.0 t)), (λ h. d.1 (rw q at (h (λ z. omega arith)))))

module _ (n p : ℕ) (bs : List ℕ) (e : ℕ) where
  column-test : T (ltb (column_at p bs e) n && rises_at p bs e) ↔ ((column_at p bs e < n) × Rises p bs e)
  column-test = both (ltb (column_at p bs e) n) (rises_at p bs e) (ltb-test (column_at p bs e) n) (rises-test p bs e)

  pub column-refused : ((column_at p bs e < n) × Rises p bs e → ⊥) → 19 ≡ first (entry_checks n p bs e)
  unfolding entry_checks
  column-refused h = fails _ 19 _ (test-false _ column-test h)

  pub value-refused : column_at p bs e < n → Rises p bs e → value_at p bs e ≡ pos 0 → 20 ≡ first (entry_checks n p bs e)
  unfolding entry_checks
  value-refused h k z =
      let t : is_zero (value_at p bs e) ≡ true = test-true _ (zero_test (value_at p bs e)) z in
      past _ 19 _ (test-true _ column-test (h, k)) (fails _ 20 _ (ap not t))

  pub entry-accepted : column_at p bs e < n → Rises p bs e → (value_at p bs e ≡ pos 0 → ⊥) → 0 ≡ first (entry_checks n p bs e)
  unfolding entry_checks
  entry-accepted h k z =
      let t : is_zero (value_at p bs e) ≡ false = test-false _ (zero_test (value_at p bs e)) z in
      past _ 19 _ (test-true _ column-test (h, k)) (past _ 20 _ (ap not t) ends)

-- entry e as code reads it: its coefficient is past its column, and the entry before is 6 bytes back
pub entry_value : (p e : ℕ) (bs : List ℕ) → integer_at (p + 7 + e * 6 + 2) bs ≡ value_at p bs e
unfolding value_at
entry_value p e bs = let q : p + 7 + e * 6 + 2 ≡ p + 9 + e * 6 = omega arith in ap (λ (k : ℕ). integer_at k bs) q

pub entry-before : (p e : ℕ) (bs : List ℕ) → (e ≡ 0 → ⊥) → number_at 2 (p + 7 + e * 6 - 6) bs ≡ column_at p bs (e - 1)
unfolding column_at
entry-before p e bs h = let q : p + 7 + e * 6 - 6 ≡ p + 7 + (e - 1) * 6 = omega (arith, h) in ap (λ (k : ℕ). number_at 2 k bs) q

-- ---- one row

-- the entries of the row at p, where the count is known
pub row-checked : (n : ℕ) (bs : List ℕ) (p i c r : ℕ) → p ≡ row_start n bs i → c ≡ count_at p bs → r ≡ first (joined c (entry_checks n p bs))
    → r ≡ first (row_entry_checks n bs (row_start n bs i))
unfolding row_entry_checks
row-checked n bs p i c r e k h =
    h ∙ ap (λ (x : ℕ). first (joined x (entry_checks n p bs))) k ∙ ap (λ (q : ℕ). first (joined (count_at q bs) (entry_checks n q bs))) e

-- row i of rows whose entries all pass
pub row-passed : (n m : ℕ) (bs : List ℕ) → first (all_entry_checks n m bs) ≡ 0 → (i : ℕ) → i < m → first (row_entry_checks n bs (row_start n bs i)) ≡ 0
unfolding all_entry_checks
row-passed n m bs e = (first-joined m (λ i. row_entry_checks n bs (row_start n bs i)) (λ i. row-numbered n bs (row_start n bs i))).0 e

-- ---- the trailer

offsets-test : (t : List ℕ) → T (eqb (bounds_offset t) 0 && eqb (rows_offset t) (8 * variables t)) ↔ ((bounds_offset t ≡ 0) × (rows_offset t ≡ 8 * variables t))
offsets-test t = both (eqb (bounds_offset t) 0) (eqb (rows_offset t) (8 * variables t)) (eqb-test (bounds_offset t) 0) (eqb-test (rows_offset t) (8 * variables t))

-- past check 3, the answer of check 4
pub frame_refused : (t : List ℕ) → first (size_checks (variables t) (rows t)) ≡ 0 → ((bounds_offset t ≡ 0) × (rows_offset t ≡ 8 * variables t) → ⊥) → 4 ≡ first (sparse_frame_checks t)
unfolding sparse_frame_checks size_checks sparse_offset_checks
frame_refused t s h = goes (size_checks (variables t) (rows t)) (sparse_offset_checks t) tt refl s (fails _ 4 [] (test-false _ (offsets-test t) h))

pub frame-accepted : (t : List ℕ) → first (size_checks (variables t) (rows t)) ≡ 0 → (bounds_offset t ≡ 0) × (rows_offset t ≡ 8 * variables t) → 0 ≡ first (sparse_frame_checks t)
unfolding sparse_frame_checks size_checks sparse_offset_checks
frame-accepted t s h = goes (size_checks (variables t) (rows t)) (sparse_offset_checks t) tt refl s (past _ 4 [] (test-true _ (offsets-test t) h) ends)

-- what check 3 says of n, and what check 2 says of a book's length
pub frame-passed : (t : List ℕ) → first (sparse_frame_checks t) ≡ 0 → variables t ≤ 128
unfolding sparse_frame_checks size_checks
frame-passed t e = (size-passed (variables t) (rows t) ((first-zero-append (size_checks (variables t) (rows t)) (sparse_offset_checks t) tt).0 e).0).1

pub given-passed : (bs : List ℕ) → Bytes bs → 16 ≤ length bs → first (given_length_checks (trailer_of bs) (length bs)) ≡ 0 → length bs < 4_294_967_296
unfolding given_length_checks trailer_of
given-passed bs b l e =
    let t = trailer_of bs in
    let g : length_given t ≡ length bs = (eqb-test (length_given t) (length bs)).0 ((first-none (given_length_checks t (length bs)) tt).0 e).0 in
    let tb : Bytes t = record { below = λ i. rw (get_or-drop (length bs - 16) bs i 0) (b.below (length bs - 16 + i)) } in
    omega (arith, number_at-below 4 12 t tb (omega (arith, length-drop (length bs - 16) bs)))

-- ---- the walk

-- a walk that has no room for a row's first 7 bytes before `end` does not end there
pub walk-short : (n : ℕ) (bs : List ℕ) (m i end : ℕ) → i < m → end < row_start n bs i + 7 → eqb (row_start n bs m) end ≡ false
walk-short n bs m i end h k =
    test-false _ (eqb-test (row_start n bs m) end) (λ e. omega (arith, start-rises n bs m (suc i) h, start-next n bs i))

pub start-more : (n : ℕ) (bs : List ℕ) (i : ℕ) → row_start n bs (i + 1) ≡ row_start n bs i + (7 + 6 * count_at (row_start n bs i) bs)
start-more n bs i = let s : i + 1 ≡ suc i = omega arith in rw s (start-next n bs i)

-- a place that is where row i starts: the row lies within the book, and the next row starts where it ends
pub walk_inside : {n m : ℕ} {bs : List ℕ} → HoldsRows n m bs → (p i : ℕ) → p ≡ row_start n bs i → i < m → p + (7 + 6 * count_at p bs) ≤ length bs
walk_inside {n} {m} {bs} w p i e h =
    let k : count_at p bs ≡ count_at (row_start n bs i) bs = ap (λ (q : ℕ). count_at q bs) e in
    omega (arith, row_inside n m bs i h, w.body, k)

pub walk-next : (n : ℕ) (bs : List ℕ) (p i c : ℕ) → p ≡ row_start n bs i → c ≡ count_at p bs → p + (7 + 6 * c) ≡ row_start n bs (i + 1)
walk-next n bs p i c e d =
    let k : count_at p bs ≡ count_at (row_start n bs i) bs = ap (λ (q : ℕ). count_at q bs) e in
    omega (arith, start-more n bs i, k)

-- a book with a head holds its rows
pub head_rows : (bs : List ℕ) → Bytes bs → SparseHead bs → HoldsRows (variables (trailer_of bs)) (rows (trailer_of bs)) bs
unfolding given_length_checks
head_rows bs b h =
    let t = trailer_of bs in
    let g = (first-none (given_length_checks t (length bs)) tt).1 ((eqb-test (length_given t) (length bs)).1 h.whole, tt) in
    record { few = h.few; few_rows = h.few_rows; body = omega (arith, h.walk); short = given-passed bs b h.long g }
