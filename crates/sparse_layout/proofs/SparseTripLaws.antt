-- The round trips of the sparse book and between the two editions: each row that is read is the one written at its place, and each
-- row that is written is the bytes read there.
use Prim.Native.Nat.{◌*◌, ◌+◌, ◌-◌, ◌<◌, ◌≤◌, suc, zero, ℕ}
use lib.IntN.{pos, ℤ}
use lib.ListN.{drop, length, length-drop, length-take, take-append-drop}
use lib.Seq.{get_or-drop}
use mathlib.Core.List.{List, [], ◌++◌, ◌∷◌}
use mathlib.Core.Path.{◌∙◌, ◌≡◌, ap, ap₂, refl, sym}
use mir.Syntax.{w32}
use mir.Val.{SFits}
use native.Mathlib.Decide.{ℕ_discrete}
use native.Mathlib.Omega.{arith}
use Rattle.integer.proofs.IndexLaws.{get_d-all}
use Rattle.integer.proofs.Parts.{fits}
use Rattle.model.specs.Box.{at}
use Rattle.model.specs.Model.{Model}
use Rattle.model.specs.Rows.{row_at, row_of}
use Rattle.model.specs.Valid.{ValidModel}
use Rattle.model.proofs.RowsLaws.{at-row_of}
use Rattle.little_endian.specs.Bytes.{Bytes, integer_bytes, integers_at}
use Rattle.little_endian.specs.Pieces.{joined, part}
use Rattle.little_endian.proofs.ByteLaws.{integer-read, integer-written}
use Rattle.little_endian.proofs.PieceLaws.{grid-all, joined-cong, joined-parts, length_part, list_of-all, part-add}
use Rattle.book.specs.Book.{book_length, bound_bytes, bounds_of, decode, encode, length_given, rows, trailer_bytes, trailer_of, variables}
use Rattle.book.proofs.DecodeLaws.{at-bounds_of}
use Rattle.book.proofs.EncodeLaws.{trailer-bounds, trailer-length, trailer-m, trailer-n, trailer-rows}
use Rattle.book.proofs.RoundTripLaws.{between-fits, reads-written, trailer-back, writes-read}
use Rattle.sparse_layout.specs.SparseBook.{count_at, decode_sparse, encode_sparse, row_start, rows_length, sparse_coefs_of, sparse_kinds_of, sparse_length, sparse_model_in, sparse_rhs_of, sparse_row_bytes, sparse_row_bytes_at, sparse_rows_of}
use Rattle.sparse_layout.specs.SparseTrips.{FirstSparseFirst, SparseAccepted, SparseFirstSparse, SparseReadsWritten, SparseWritesRead, to_first, to_sparse}
use Rattle.sparse_layout.proofs.RowLaws.{RowRead, row-rewritten, row_written}
use Rattle.sparse_layout.proofs.SpanLaws.{joined-spans}
use Rattle.sparse_layout.proofs.SparseAcceptLaws.{AllEntries, SparseHead, SparseLayout, row_at-decoded, sparse-test}
use Rattle.sparse_layout.proofs.SparseEncodeLaws.{bound-encode_sparse, bytes-encode_sparse, length-encode_sparse, length-rows, row-encode_sparse, sparse_length-below, trailer-encode_sparse}

-- ---- reading a written book

-- the coefficients of a row fit 32 bits
row_fits : (M : Model) (v : ValidModel M) (i x : ℕ) → SFits w32 (at (row_at M.n M.rows i).coefs x)
unfolding row_of
row_fits M v i =
    let n = M.n in
    let C = M.rows.coefs in
    get_d-all (row_of n C i) (pos 0) (SFits w32) (fits w32 _ (omega arith))
    (λ x h. rw (at-row_of n C i x (omega (arith, length-take n (drop (i * n) C))))
    (between-fits _ _ _ (fits w32 _ (omega arith)) (fits w32 _ (omega arith)) (v.coefs (i * n + x))))

module _ (M : Model) (v : ValidModel M) where
  row-there : (i p : ℕ) → i < M.m → p ≡ 8 * M.n + rows_length M.n M.rows i → RowRead M.n p (encode_sparse M) (row_at M.n M.rows i)
  row-there i p h e =
      row_written M.n p (encode_sparse M) (row_at M.n M.rows i) v.few
      (row_fits M v i)
      (between-fits _ _ _ (fits w32 _ (omega arith)) (fits w32 _ (omega arith)) (v.rhs i))
      (omega (arith, v.kinds i))
      (rw e (row-encode_sparse M i h))

  -- the walk goes from row to row
  start-there : (i : ℕ) → i ≤ M.m → row_start M.n (encode_sparse M) i ≡ 8 * M.n + rows_length M.n M.rows i
  unfolding row_start rows_length
  start-there zero h = omega arith
  start-there (suc i) h =
      let r = start-there i (omega arith) in
      let c = (row-there i (row_start M.n (encode_sparse M) i) (omega arith) r).count in
      omega (arith, r, c)

  row_at_lem : (i : ℕ) → i < M.m → RowRead M.n (row_start M.n (encode_sparse M) i) (encode_sparse M) (row_at M.n M.rows i)
  row_at_lem i h = row-there i _ h (start-there i (omega arith))

  bounds-back : bounds_of M.n (encode_sparse M) ≡ M.box
  unfolding bounds_of integers_at
  bounds-back =
      joined-cong (2 * M.n) _ _ (λ i h. ap (λ (z : ℤ). z ∷ []) (integer-written (0 + i * 4) (encode_sparse M) (at M.box i) (between-fits _ _ _ (fits w32 _ (omega arith)) (fits w32 _ (omega arith)) (v.box.range i)) (bound-encode_sparse M i h)))
      ∙ list_of-all M.box (2 * M.n) (pos 0) v.box.len

  rhs-back : sparse_rhs_of M.n M.m (encode_sparse M) ≡ M.rows.rhs
  unfolding sparse_rhs_of
  rhs-back = joined-cong M.m _ _ (λ i h. ap (λ (z : ℤ). z ∷ []) (row_at_lem i h).rhs) ∙ list_of-all M.rows.rhs M.m (pos 0) v.rhs_len

  kinds-back : sparse_kinds_of M.n M.m (encode_sparse M) ≡ M.rows.kinds
  unfolding sparse_kinds_of
  kinds-back = joined-cong M.m _ _ (λ i h. ap (λ (z : ℕ). z ∷ []) (row_at_lem i h).kind) ∙ list_of-all M.rows.kinds M.m 0 v.kinds_len

  coefs-back : sparse_coefs_of M.n M.m (encode_sparse M) ≡ M.rows.coefs
  unfolding sparse_coefs_of
  coefs-back =
      joined-cong M.m _ _ (λ i h. joined-cong M.n _ _ (λ j k. ap (λ (z : ℤ). z ∷ []) ((row_at_lem i h).coefs j k ∙ at-row_of M.n M.rows.coefs i j k)))
      ∙ grid-all M.rows.coefs M.m M.n (pos 0) v.coefs_len

  n-back : variables (trailer_of (encode_sparse M)) ≡ M.n
  n-back = ap variables (trailer-encode_sparse M) ∙ trailer-n M.n M.m (sparse_length M) v.few

  m-back : rows (trailer_of (encode_sparse M)) ≡ M.m
  m-back = ap rows (trailer-encode_sparse M) ∙ trailer-m M.n M.m (sparse_length M) v.few_rows

  pub decode-encode_sparse : decode_sparse (encode_sparse M) ≡ M
  unfolding decode_sparse sparse_model_in
  decode-encode_sparse = rw (n-back, m-back, bounds-back, rhs-back, coefs-back, kinds-back)

  head-there : SparseHead (encode_sparse M)
  unfolding sparse_length
  head-there =
      let e = trailer-encode_sparse M in
      let l = length-encode_sparse M in
      let n = M.n in
      let m = M.m in
      record {
        long = omega (arith, l);
        whole = ap length_given e ∙ trailer-length n m (sparse_length M) (omega (arith, sparse_length-below M v.few v.few_rows)) ∙ sym l;
        some = rw n-back v.some;
        few = rw n-back v.few;
        few_rows = rw m-back v.few_rows;
        bounds_start = rw e (trailer-bounds n m (sparse_length M));
        rows_start = rw (n-back, e) (trailer-rows n m (sparse_length M) v.few);
        walk = rw (n-back, m-back) (omega (arith, start-there M.m (omega arith), l));
      }

  entries-there : AllEntries (variables (trailer_of (encode_sparse M))) (rows (trailer_of (encode_sparse M))) (encode_sparse M)
  entries-there = rw (n-back, m-back) (λ i h. (row_at_lem i h).entries)

  layout-there : SparseLayout (encode_sparse M)
  layout-there = record { head = head-there; entries = entries-there }

pub sparse-reads-written : SparseReadsWritten
sparse-reads-written M v = (
  record { bytes = bytes-encode_sparse M; faultless = (sparse-test (encode_sparse M)).1 (layout-there M v, rw (decode-encode_sparse M v) v) },
  decode-encode_sparse M v,
)

-- ---- writing a read book

-- the walk rises
pub start-rises : (n : ℕ) (bs : List ℕ) (j i : ℕ) → i ≤ j → row_start n bs i ≤ row_start n bs j
unfolding row_start
start-rises n bs zero i h = let z : i ≡ 0 = omega arith in rw z (omega arith)
start-rises n bs (suc j) i h = go (ℕ_discrete i (suc j)) (λ (k : i ≤ j). start-rises n bs j i k)
  where
    go : Dec (i ≡ suc j) → (i ≤ j → row_start n bs i ≤ row_start n bs j) → row_start n bs i ≤ row_start n bs (suc j)
    go (yes e) r = rw e (omega arith)
    go (no e) r = omega (arith, r (omega arith))

pub start-next : (n : ℕ) (bs : List ℕ) (i : ℕ) → row_start n bs (suc i) ≡ row_start n bs i + (7 + 6 * count_at (row_start n bs i) bs)
unfolding row_start
start-next n bs i = refl

pub start_first : (n : ℕ) (bs : List ℕ) → row_start n bs 0 ≡ 8 * n
unfolding row_start
start_first n bs = refl

-- row i ends where row i + 1 starts, and so no later than the last
pub row_inside : (n m : ℕ) (bs : List ℕ) (i : ℕ) → i < m → row_start n bs i + (7 + 6 * count_at (row_start n bs i) bs) ≤ row_start n bs m
row_inside n m bs i h = omega (arith, start-rises n bs m (suc i) h, start-next n bs i)

-- and the rows start at 8n
pub start-within : (n m : ℕ) (bs : List ℕ) → 8 * n ≤ row_start n bs m
start-within n m bs = omega (arith, start-rises n bs m 0 (omega arith), start_first n bs)

module _ (n m : ℕ) (bs : List ℕ) (b : Bytes bs) (long : 16 ≤ length bs) (walk : row_start n bs m ≡ length bs - 16) (entries : AllEntries n m bs) where
  row_back : (i : ℕ) → i < m → sparse_row_bytes_at n (sparse_rows_of n m bs) i ≡ part (row_start n bs i) (7 + 6 * count_at (row_start n bs i) bs) bs
  row_back i h =
      ap (sparse_row_bytes n) (row_at-decoded n m bs i h)
      ∙ (row-rewritten n (row_start n bs i) bs b (entries i h) (omega (arith, row_inside n m bs i h))).1

  rows_back : joined m (sparse_row_bytes_at n (sparse_rows_of n m bs)) ≡ part (8 * n) (length bs - 16 - 8 * n) bs
  rows_back =
      let s = joined-spans m (row_start n bs) (λ i. 7 + 6 * count_at (row_start n bs i) bs) bs (start-next n bs) in
      joined-cong m _ _ row_back ∙ s.1
      ∙ ap₂ (λ (p q : ℕ). part p (q - p) bs) (start_first n bs) walk

  bounds-again : bound_bytes (sparse_model_in n m bs) ≡ part 0 (2 * n * 4) bs
  unfolding bound_bytes sparse_model_in
  bounds-again =
      joined-cong (2 * n) _ _ (λ i h. ap integer_bytes (at-bounds_of n m bs i h) ∙ integer-read (0 + i * 4) bs b (omega (arith, start-within n m bs)))
      ∙ joined-parts (2 * n) 4 0 bs

  length-again : sparse_length (sparse_model_in n m bs) ≡ length bs
  unfolding sparse_length sparse_model_in
  length-again =
      let A = sparse_rows_of n m bs in
      let e : rows_length n A m ≡ length bs - 16 - 8 * n = sym (length-rows n A m) ∙ ap length rows_back ∙ length_part (8 * n) (length bs - 16 - 8 * n) bs (omega (arith, start-within n m bs)) in
      omega (arith, start-within n m bs, e)

  -- the bounds, the rows and the trailer are the book
  book-again : trailer_bytes n m (length bs) ≡ trailer_of bs → encode_sparse (sparse_model_in n m bs) ≡ bs
  unfolding encode_sparse sparse_model_in trailer_of
  book-again e =
      let k = length bs - 16 - 8 * n in
      let w : 2 * n * 4 ≡ 8 * n = omega arith in
      let z : 8 * n ≡ 0 + 8 * n = omega arith in
      let q : length bs - 16 ≡ 8 * n + (length bs - 16 - 8 * n) = omega (arith, start-within n m bs) in
      rw (length-again, bounds-again, rows_back, e, w)
      (ap₂ (λ (p r : ℕ). part 0 (8 * n) bs ++ part p k bs ++ drop r bs) z q
      ∙ ap (λ (xs : List ℕ). xs ++ drop (8 * n + k) bs) (sym (part-add 0 (8 * n) k bs))
      ∙ take-append-drop (8 * n + k) bs)

pub sparse-writes-read : SparseWritesRead
unfolding decode_sparse trailer_of
sparse-writes-read bs a =
    let f = (sparse-test bs).0 a.faultless in
    let t = trailer_of bs in
    let h = f.0.head in
    let k : length t ≡ 16 = omega (arith, length-drop (length bs - 16) bs, h.long) in
    let tb : Bytes t = record { below = λ i. rw (get_or-drop (length bs - 16) bs i 0) (a.bytes.below (length bs - 16 + i)) } in (
      f.1,
      book-again (variables t) (rows t) bs a.bytes h.long h.walk f.0.entries
          (ap (trailer_bytes (variables t) (rows t)) (sym h.whole) ∙ trailer-back t tb k h.bounds_start h.rows_start),
    )

-- ---- the two editions

pub first-sparse-first : FirstSparseFirst
unfolding to_sparse to_first
first-sparse-first bs a =
    let w = writes-read bs a in
    let r = sparse-reads-written (decode bs) w.0.valid in
    (r.0, ap encode r.1 ∙ w.1)

pub sparse-first-sparse : SparseFirstSparse
unfolding to_sparse to_first
sparse-first-sparse bs a f =
    let r = reads-written (decode_sparse bs) f in
    (r.0, ap encode_sparse r.1 ∙ (sparse-writes-read bs a).1)

-- ---- "With m = 0 both editions are the same bytes"

pub no-rows-same : (M : Model) → M.m ≡ 0 → encode_sparse M ≡ encode M
unfolding encode_sparse encode sparse_length book_length rows_length joined
no-rows-same M e = rw e (let z : 8 * M.n + 0 + 16 ≡ 8 * M.n + 0 * (4 + 4 * M.n) + 16 = omega arith in rw z)

-- ---- no two models have one book, no two books one model

pub one-sparse-model : (M N : Model) → ValidModel M → ValidModel N → encode_sparse M ≡ encode_sparse N → M ≡ N
one-sparse-model M N v w e = sym (sparse-reads-written M v).1 ∙ ap decode_sparse e ∙ (sparse-reads-written N w).1

pub one-sparse-book : (bs cs : List ℕ) → SparseAccepted bs → SparseAccepted cs → decode_sparse bs ≡ decode_sparse cs → bs ≡ cs
one-sparse-book bs cs a c e = sym (sparse-writes-read bs a).1 ∙ ap encode_sparse e ∙ (sparse-writes-read cs c).1
