-- Laws of a sparse book's bytes: how long each piece is, what stands at each place, and that they are bytes.
use Prim.Native.Nat.{◌*◌, ◌+◌, ◌-◌, ◌<◌, ◌≤◌, suc, zero, ℕ}
use lib.IntN.{ℤ}
use lib.ListN.{drop, length, length-append}
use lib.Seq.{drop-append_seam}
use mathlib.Core.List.{List, [], ◌++◌}
use mathlib.Core.Path.{◌∙◌, ◌≡◌, ap, refl, sym}
use native.Mathlib.Omega.{arith}
use Rattle.integer.proofs.Tests.{cond_ind}
use Rattle.model.specs.Box.{at}
use Rattle.model.specs.Model.{Model}
use Rattle.model.specs.Rows.{Row, Rows, row_at}
use Rattle.little_endian.specs.Bytes.{Bytes, bits_of, bytes_of, integer_bytes}
use Rattle.little_endian.specs.Pieces.{joined, overwrite, part}
use Rattle.little_endian.proofs.ByteLaws.{length-integer_bytes}
use Rattle.little_endian.proofs.PieceLaws.{overwrite-all, overwrite-next, part-joined, part_left, part_right}
use Rattle.book.specs.Book.{bound_bytes, trailer_bytes, trailer_of}
use Rattle.book.proofs.EncodeLaws.{length-bound_bytes, length-trailer_bytes}
use Rattle.book.proofs.RoundTripLaws.{bytes-append, bytes-bytes_of, bytes-joined}
use Rattle.sparse_layout.specs.SparseBook.{encode_sparse, entry_bytes, entry_of, is_zero, nonzeros, rows_length, sparse_length, sparse_row_bytes, sparse_row_bytes_at}
use Rattle.sparse_layout.proofs.RowLaws.{length-row, nonzeros-le}
use Rattle.sparse_layout.proofs.SpanLaws.{part-span}

-- the limits keep every place within 32 bits
pub rows_length-below : (n : ℕ) (A : Rows) (i : ℕ) → n ≤ 128 → rows_length n A i ≤ i * 775
unfolding rows_length
rows_length-below n A zero h = omega arith
rows_length-below n A (suc i) h = omega (arith, rows_length-below n A i h, nonzeros-le n (at (row_at n A i).coefs))

pub sparse_length-below : (M : Model) → M.n ≤ 128 → M.m ≤ 120 → sparse_length M ≤ 94_040
unfolding sparse_length
sparse_length-below M h k = omega (arith, rows_length-below M.n M.rows M.m h)

pub length-rows : (n : ℕ) (A : Rows) (i : ℕ) → length (joined i (sparse_row_bytes_at n A)) ≡ rows_length n A i
unfolding rows_length joined
length-rows n A zero = refl
length-rows n A (suc i) =
    length-append (joined i (sparse_row_bytes_at n A)) (sparse_row_bytes_at n A i) ∙ rw (length-rows n A i, length-row n (row_at n A i))

module _ (M : Model) where
  length-body : length (bound_bytes M ++ joined M.m (sparse_row_bytes_at M.n M.rows)) ≡ 8 * M.n + rows_length M.n M.rows M.m
  length-body =
      let R = joined M.m (sparse_row_bytes_at M.n M.rows) in
      omega (arith, length-append (bound_bytes M) R, length-bound_bytes M, length-rows M.n M.rows M.m)

  pub length-encode_sparse : length (encode_sparse M) ≡ sparse_length M
  unfolding encode_sparse sparse_length
  length-encode_sparse =
      let b = bound_bytes M ++ joined M.m (sparse_row_bytes_at M.n M.rows) in
      let len = sparse_length M in
      omega (arith, length-append b (trailer_bytes M.n M.m len), length-body, length-trailer_bytes M.n M.m len)

  pub trailer-encode_sparse : trailer_of (encode_sparse M) ≡ trailer_bytes M.n M.m (sparse_length M)
  unfolding trailer_of encode_sparse
  trailer-encode_sparse =
      let b = bound_bytes M ++ joined M.m (sparse_row_bytes_at M.n M.rows) in
      let t = trailer_bytes M.n M.m (sparse_length M) in
      let e : length (b ++ t) - 16 ≡ length b = omega (arith, length-append b t, length-trailer_bytes M.n M.m (sparse_length M)) in
      ap (λ (k : ℕ). drop k (b ++ t)) e ∙ drop-append_seam b t

  pub bound-encode_sparse : (i : ℕ) → i < 2 * M.n → part (0 + i * 4) 4 (encode_sparse M) ≡ integer_bytes (at M.box i)
  unfolding encode_sparse bound_bytes
  bound-encode_sparse i h =
      let z : 0 + i * 4 ≡ i * 4 = omega arith in
      rw z (part_left (i * 4) 4 (bound_bytes M ++ joined M.m (sparse_row_bytes_at M.n M.rows)) _ (omega (arith, length-body))
      ∙ part_left (i * 4) 4 (bound_bytes M) _ (omega (arith, length-bound_bytes M))
      ∙ part-joined (2 * M.n) 4 _ (λ r k. length-integer_bytes (at M.box r)) i h)

  pub row-encode_sparse : (i : ℕ) → i < M.m
      → part (8 * M.n + rows_length M.n M.rows i) (7 + 6 * nonzeros M.n (at (row_at M.n M.rows i).coefs)) (encode_sparse M) ≡ sparse_row_bytes_at M.n M.rows i
  unfolding encode_sparse
  row-encode_sparse i h =
      let f = sparse_row_bytes_at M.n M.rows in
      let w = 7 + 6 * nonzeros M.n (at (row_at M.n M.rows i).coefs) in
      let s = part-span M.m f i h in
      let a = length-rows M.n M.rows i in
      let l = length-row M.n (row_at M.n M.rows i) in
      let t = length-rows M.n M.rows M.m in
      part_left (8 * M.n + rows_length M.n M.rows i) w (bound_bytes M ++ joined M.m f) _ (omega (arith, length-body, s.0))
      ∙ part_right (rows_length M.n M.rows i) w (8 * M.n + rows_length M.n M.rows i) (bound_bytes M) (joined M.m f) (omega (arith, length-bound_bytes M))
      ∙ rw (← a, ← l) s.1

  -- the bounds, the rows and the trailer written one after the other
  pub sparse-assembled : (bs : List ℕ) (q : ℕ) → length bs ≡ sparse_length M → q ≡ length bs - 16
      → overwrite q (trailer_bytes M.n M.m (sparse_length M)) (overwrite (8 * M.n) (joined M.m (sparse_row_bytes_at M.n M.rows)) (overwrite 0 (bound_bytes M) bs)) ≡ encode_sparse M
  unfolding encode_sparse sparse_length
  sparse-assembled bs q l e =
      let t = trailer_bytes M.n M.m (sparse_length M) in
      let R = joined M.m (sparse_row_bytes_at M.n M.rows) in
      let k = length-trailer_bytes M.n M.m (sparse_length M) in
      let r = length-rows M.n M.rows M.m in
      ap (overwrite q t) (overwrite-next 0 (8 * M.n) (bound_bytes M) R bs (omega (arith, length-bound_bytes M)) (omega (arith, r)))
      ∙ overwrite-next 0 q (bound_bytes M ++ R) t bs (omega (arith, length-body)) (omega (arith, k))
      ∙ overwrite-all (bound_bytes M ++ R ++ t) bs (length-encode_sparse ∙ sym l)

-- ---- they are bytes

bytes-entry : (f : ℕ → ℤ) (j : ℕ) → Bytes (entry_bytes f j)
unfolding entry_of integer_bytes
bytes-entry f j =
    cond_ind (is_zero (f j)) [] (bytes_of 2 j ++ bytes_of 4 (bits_of (f j))) Bytes
    (λ t. record { below = λ i. omega arith }) (λ t. bytes-append _ _ (bytes-bytes_of 2 j) (bytes-bytes_of 4 (bits_of (f j))))

bytes-row : (n : ℕ) (r : Row) → Bytes (sparse_row_bytes n r)
unfolding sparse_row_bytes integer_bytes
bytes-row n r =
    bytes-append _ _
    (bytes-append _ _ (bytes-append _ _ (bytes-bytes_of 4 (bits_of r.rhs)) (bytes-bytes_of 1 r.kind)) (bytes-bytes_of 2 (nonzeros n (at r.coefs))))
    (bytes-joined n (entry_bytes (at r.coefs)) (bytes-entry (at r.coefs)))

pub bytes-encode_sparse : (M : Model) → Bytes (encode_sparse M)
unfolding encode_sparse bound_bytes trailer_bytes integer_bytes
bytes-encode_sparse M =
    bytes-append _ _
    (bytes-append _ _
    (bytes-joined (2 * M.n) _ (λ i. bytes-bytes_of 4 (bits_of (at M.box i))))
    (bytes-joined M.m (sparse_row_bytes_at M.n M.rows) (λ i. bytes-row M.n (row_at M.n M.rows i))))
    (bytes-append _ _
    (bytes-append _ _ (bytes-append _ _ (bytes-append _ _ (bytes-bytes_of 4 0) (bytes-bytes_of 4 (8 * M.n))) (bytes-bytes_of 2 M.n)) (bytes-bytes_of 2 M.m))
    (bytes-bytes_of 4 (sparse_length M)))
