-- What the checks of a sparse book come to: it is accepted exactly if its trailer says its length and its offsets, the walk ends
-- at the trailer, every row's entries rise and are not 0, and its model is valid.
use Prim.Native.Nat.{◌*◌, ◌-◌, ◌<◌, ◌≤◌, suc, zero, ℕ}
use lib.Dec.{T, T_not, eqb, ltb, not_T}
use lib.IntN.{pos, ℤ}
use lib.ListN.{length}
use mathlib.Core.List.{List, [], ◌++◌, ◌∷◌}
use mathlib.Core.Logic.{◌↔◌}
use mathlib.Core.Path.{◌≡◌, refl}
use native.Mathlib.Decide.{ℕ_discrete}
use native.Mathlib.Omega.{arith}
use Rattle.integer.proofs.Tests.{and_i, and_l, and_r, both, eqb-test, leb-test, ltb-test}
use Rattle.model.specs.Checks.{Check, first, length_checks, must, size_checks}
use Rattle.model.specs.Limits.{max_rows, max_variables}
use Rattle.model.specs.Rows.{row_at, row_of}
use Rattle.model.specs.Valid.{ValidModel}
use Rattle.model.proofs.CheckLaws.{first-none, first-zero-append, length-test, numbered, size-test}
use Rattle.little_endian.specs.Pieces.{joined}
use Rattle.little_endian.proofs.PieceLaws.{get_d-list_of, length-grid, length-list_of, part-joined}
use Rattle.book.specs.Book.{bounds_offset, length_given, rows, rows_offset, trailer_of, variables}
use Rattle.book.specs.BookChecks.{given_length_checks, model_number_checks}
use Rattle.book.proofs.AcceptLaws.{valid-checks}
use Rattle.book.proofs.DecodeLaws.{length-bounds_of}
use Rattle.sparse_layout.specs.SparseBook.{column_at, count_at, decode_sparse, dense_at, is_zero, row_in, row_start, sparse_coefs_of, sparse_kinds_of, sparse_model_in, sparse_rhs_of, sparse_rows_of, value_at}
use Rattle.sparse_layout.specs.SparseChecks.{all_entry_checks, entry_checks, rises_at, row_entry_checks, sparse_checks, sparse_fault, sparse_frame_checks, sparse_head_checks, sparse_layout_checks, sparse_offset_checks, walk_checks}
use Rattle.sparse_layout.proofs.RowLaws.{Entries, zero_test}

-- ---- checks, joined

pub numbered-append : (xs ys : List Check) → T (numbered xs) → T (numbered ys) → T (numbered (xs ++ ys))
numbered-append [] ys h k = k
numbered-append (must ok number ∷ xs) ys h k =
    and_i (ltb 0 number) (numbered (xs ++ ys)) (and_l (ltb 0 number) (numbered xs) h) (numbered-append xs ys (and_r (ltb 0 number) (numbered xs) h) k)

pub numbered-joined : (n : ℕ) (f : ℕ → List Check) → ((i : ℕ) → T (numbered (f i))) → T (numbered (joined n f))
unfolding joined
numbered-joined zero f h = tt
numbered-joined (suc n) f h = numbered-append (joined n f) (f n) (numbered-joined n f h) (h n)

pub first-joined : (n : ℕ) (f : ℕ → List Check) → ((i : ℕ) → T (numbered (f i))) → (first (joined n f) ≡ 0) ↔ ((i : ℕ) → i < n → first (f i) ≡ 0)
unfolding joined first
first-joined zero f h = ((λ e i k. absurd (let z : ⊥ = omega arith in z)), (λ k. refl))
first-joined (suc n) f h =
    let d = first-zero-append (joined n f) (f n) (numbered-joined n f h) in
    let r = first-joined n f h in
    ((λ e i k. go i k (d.0 e) r.0 (ℕ_discrete i n)), (λ k. d.1 (r.1 (λ i l. k i (omega arith)), k n (omega arith))))
  where
    go : (i : ℕ) → i < suc n → (first (joined n f) ≡ 0) × (first (f n) ≡ 0) → (first (joined n f) ≡ 0 → (i : ℕ) → i < n → first (f i) ≡ 0) → Dec (i ≡ n) → first (f i) ≡ 0
    go i k e r (yes z) = rw z e.1
    go i k e r (no z) = r e.0 i (omega arith)

-- ---- the head

pub record SparseHead (bs : List ℕ) : Type 0 where
  pub long : 16 ≤ length bs
  pub whole : length_given (trailer_of bs) ≡ length bs
  pub some : 0 < variables (trailer_of bs)
  pub few : variables (trailer_of bs) ≤ max_variables
  pub few_rows : rows (trailer_of bs) ≤ max_rows
  pub bounds_start : bounds_offset (trailer_of bs) ≡ 0
  pub rows_start : rows_offset (trailer_of bs) ≡ 8 * variables (trailer_of bs)
  pub walk : row_start (variables (trailer_of bs)) bs (rows (trailer_of bs)) ≡ length bs - 16

pub sparse-head-numbered : (bs : List ℕ) → T (numbered (sparse_head_checks bs))
unfolding sparse_head_checks given_length_checks sparse_frame_checks size_checks sparse_offset_checks walk_checks
sparse-head-numbered bs = tt

pub sparse-head-test : (bs : List ℕ) → (first (sparse_head_checks bs) ≡ 0) ↔ SparseHead bs
unfolding sparse_head_checks given_length_checks sparse_frame_checks size_checks sparse_offset_checks walk_checks
sparse-head-test bs =
    let t = trailer_of bs in
    let d = first-none (sparse_head_checks bs) tt in
    let s = size-test (variables t) (rows t) in
    let o = both (eqb (bounds_offset t) 0) (eqb (rows_offset t) (8 * variables t)) (eqb-test (bounds_offset t) 0) (eqb-test (rows_offset t) (8 * variables t)) in
    let g = eqb-test (length_given t) (length bs) in
    let w = eqb-test (row_start (variables t) bs (rows t)) (length bs - 16) in (
      (λ e. let h = d.0 e in
          let a = s.0 h.1.1.0 in
          let b = o.0 h.1.1.1.0 in
          record { long = (leb-test 16 (length bs)).0 h.0; whole = g.0 h.1.0; some = a.0; few = a.1; few_rows = a.2; bounds_start = b.0; rows_start = b.1; walk = w.0 h.1.1.1.1.0 }),
      (λ h. d.1 ((leb-test 16 (length bs)).1 h.long, (g.1 h.whole, (s.1 (h.some, h.few, h.few_rows), (o.1 (h.bounds_start, h.rows_start), (w.1 h.walk, tt)))))),
    )

-- ---- the entries

module _ (n p : ℕ) (bs : List ℕ) where
  pub entry-numbered : (e : ℕ) → T (numbered (entry_checks n p bs e))
  unfolding entry_checks
  entry-numbered e = tt

  -- what 19 and 20 ask of entry e
  abbrev EntryOk : ℕ → Type 0
  EntryOk e = (column_at p bs e < n) × T (rises_at p bs e) × (value_at p bs e ≡ pos 0 → ⊥)

  entry-test : (e : ℕ) → (first (entry_checks n p bs e) ≡ 0) ↔ EntryOk e
  unfolding entry_checks
  entry-test e =
      let d = first-none (entry_checks n p bs e) tt in
      let c = ltb-test (column_at p bs e) n in
      let a = ltb (column_at p bs e) n in
      let r = rises_at p bs e in
      let v = is_zero (value_at p bs e) in
      let z = zero_test (value_at p bs e) in (
        (λ q. let h = d.0 q in (c.0 (and_l a r h.0), and_r a r h.0, (λ y. T_not v h.1.0 (z.1 y)))),
        (λ h. d.1 (and_i a r (c.1 h.0) h.1, (not_T v (λ y. h.2 (z.0 y)), tt))),
      )

  rises_next : (e : ℕ) → T (rises_at p bs (suc e)) ↔ (column_at p bs e < column_at p bs (suc e))
  unfolding rises_at
  rises_next e = ltb-test (column_at p bs e) (column_at p bs (suc e))

  rises-first : T (rises_at p bs 0)
  unfolding rises_at
  rises-first = tt

  -- each above the one before is each above all before
  chain : (c : ℕ) → ((e : ℕ) → suc e < c → column_at p bs e < column_at p bs (suc e)) → (d e : ℕ) → d < e → e < c → column_at p bs d < column_at p bs e
  chain c h d zero k l = absurd (let z : ⊥ = omega arith in z)
  chain c h d (suc e) k l = go (ℕ_discrete d e) (λ (q : d < e). chain c h d e q (omega arith))
    where
      go : Dec (d ≡ e) → (d < e → column_at p bs d < column_at p bs e) → column_at p bs d < column_at p bs (suc e)
      go (yes z) r = rw z (h e l)
      go (no z) r = omega (arith, r (omega arith), h e l)

  pub entries-test : (c : ℕ) → (first (joined c (entry_checks n p bs)) ≡ 0) ↔ Entries n p bs c
  entries-test c =
      let d = first-joined c (entry_checks n p bs) entry-numbered in (
        (λ q. let h : (e : ℕ) → e < c → EntryOk e = λ e k. (entry-test e).0 (d.0 q e k) in
            record { below = λ e k. (h e k).0; rises = chain c (λ e k. (rises_next e).0 (h (suc e) k).1); some = λ e k. (h e k).2 }),
        (λ h. d.1 (λ e k. (entry-test e).1 (h.below e k, rises h e k, h.some e k))),
      )
    where
      rises : Entries n p bs c → (e : ℕ) → e < c → T (rises_at p bs e)
      rises h zero k = rises-first
      rises h (suc e) k = (rises_next e).1 (h.rises e (suc e) (omega arith) k)

-- every row's entries
abbrev pub AllEntries : ℕ → ℕ → List ℕ → Type 0
AllEntries n m bs = (i : ℕ) → i < m → Entries n (row_start n bs i) bs (count_at (row_start n bs i) bs)

pub row-numbered : (n : ℕ) (bs : List ℕ) (p : ℕ) → T (numbered (row_entry_checks n bs p))
unfolding row_entry_checks
row-numbered n bs p = numbered-joined (count_at p bs) (entry_checks n p bs) (entry-numbered n p bs)

pub row-test : (n : ℕ) (bs : List ℕ) (p : ℕ) → (first (row_entry_checks n bs p) ≡ 0) ↔ Entries n p bs (count_at p bs)
unfolding row_entry_checks
row-test n bs p = entries-test n p bs (count_at p bs)

pub all-entries-numbered : (n m : ℕ) (bs : List ℕ) → T (numbered (all_entry_checks n m bs))
unfolding all_entry_checks
all-entries-numbered n m bs = numbered-joined m (λ i. row_entry_checks n bs (row_start n bs i)) (λ i. row-numbered n bs (row_start n bs i))

pub all-entries-test : (n m : ℕ) (bs : List ℕ) → (first (all_entry_checks n m bs) ≡ 0) ↔ AllEntries n m bs
unfolding all_entry_checks
all-entries-test n m bs =
    let d = first-joined m (λ i. row_entry_checks n bs (row_start n bs i)) (λ i. row-numbered n bs (row_start n bs i)) in
    ((λ e i k. (row-test n bs (row_start n bs i)).0 (d.0 e i k)), (λ h. d.1 (λ i k. (row-test n bs (row_start n bs i)).1 (h i k))))

-- ---- the model

module _ (n m : ℕ) (bs : List ℕ) where
  pub length-sparse_coefs : length (sparse_coefs_of n m bs) ≡ m * n
  unfolding sparse_coefs_of
  length-sparse_coefs = length-grid m n (λ i. dense_at (row_start n bs i) bs (count_at (row_start n bs i) bs))

  pub length-sparse_rhs : length (sparse_rhs_of n m bs) ≡ m
  unfolding sparse_rhs_of
  length-sparse_rhs = length-list_of m _

  pub length-sparse_kinds : length (sparse_kinds_of n m bs) ≡ m
  unfolding sparse_kinds_of
  length-sparse_kinds = length-list_of m _

  -- row i of the model is the one that starts where the walk says
  pub row_at-decoded : (i : ℕ) → i < m → row_at n (sparse_rows_of n m bs) i ≡ row_in n bs (row_start n bs i)
  unfolding sparse_coefs_of sparse_rhs_of sparse_kinds_of row_of
  row_at-decoded i h =
      let coefs : ℕ → List ℤ = λ r. (row_in n bs (row_start n bs r)).coefs in
      let a = part-joined m n coefs (λ r q. length-list_of n _) i h in
      let b = get_d-list_of m (λ r. (row_in n bs (row_start n bs r)).rhs) i (pos 0) h in
      let k = get_d-list_of m (λ r. (row_in n bs (row_start n bs r)).kind) i 0 h in
      rw (a, b, k)

pub sparse-lengths : (bs : List ℕ) → first (length_checks (decode_sparse bs)) ≡ 0
unfolding length_checks decode_sparse sparse_model_in
sparse-lengths bs =
    let t = trailer_of bs in
    let n = variables t in
    let m = rows t in
    (first-none (length_checks (decode_sparse bs)) tt).1
    ((length-test (decode_sparse bs)).1 (length-bounds_of n m bs, length-sparse_coefs n m bs, length-sparse_rhs n m bs, length-sparse_kinds n m bs), tt)

pub sparse-sizes : (bs : List ℕ) → SparseHead bs → first (size_checks (decode_sparse bs).n (decode_sparse bs).m) ≡ 0
unfolding size_checks decode_sparse sparse_model_in
sparse-sizes bs l =
    let t = trailer_of bs in
    (first-none (size_checks (variables t) (rows t)) tt).1 ((size-test (variables t) (rows t)).1 (l.some, l.few, l.few_rows), tt)

-- ---- the whole book

pub sparse-layout-numbered : (bs : List ℕ) → T (numbered (sparse_layout_checks bs))
unfolding sparse_layout_checks
sparse-layout-numbered bs =
    let t = trailer_of bs in
    numbered-append (sparse_head_checks bs) (all_entry_checks (variables t) (rows t) bs) (sparse-head-numbered bs) (all-entries-numbered (variables t) (rows t) bs)

-- a book whose bytes are those of rows: it passes 1 to 4, 19 and 20
pub record SparseLayout (bs : List ℕ) : Type 0 where
  pub head : SparseHead bs
  pub entries : AllEntries (variables (trailer_of bs)) (rows (trailer_of bs)) bs

pub sparse-layout-test : (bs : List ℕ) → (first (sparse_layout_checks bs) ≡ 0) ↔ SparseLayout bs
unfolding sparse_layout_checks
sparse-layout-test bs =
    let t = trailer_of bs in
    let d = first-zero-append (sparse_head_checks bs) (all_entry_checks (variables t) (rows t) bs) (sparse-head-numbered bs) in
    let h = sparse-head-test bs in
    let e = all-entries-test (variables t) (rows t) bs in
    ((λ q. let x = d.0 q in record { head = h.0 x.0; entries = e.0 x.1 }), (λ l. d.1 (h.1 l.head, e.1 l.entries)))

-- it is accepted exactly if its model is valid too
pub sparse-test : (bs : List ℕ) → (sparse_fault bs ≡ 0) ↔ (SparseLayout bs × ValidModel (decode_sparse bs))
unfolding sparse_fault sparse_checks
sparse-test bs =
    let M = decode_sparse bs in
    let d = first-zero-append (sparse_layout_checks bs) (model_number_checks M) (sparse-layout-numbered bs) in
    let l = sparse-layout-test bs in
    let v = valid-checks M in (
      (λ e. let x = d.0 e in
          let k = l.0 x.0 in
          (k, v.1 (sparse-sizes bs k.head, sparse-lengths bs, x.1))),
      (λ h. d.1 (l.1 h.0, (v.0 h.1).2)),
    )
