-- Laws of a book's bytes: how long each piece is, and which number stands at each place.
use Prim.Native.Nat.{◌*◌, ◌+◌, ◌-◌, ◌<◌, ◌≤◌, ℕ}
use lib.ListN.{drop, length, length-append, length-drop}
use lib.Seq.{drop-append_seam, take_all}
use mathlib.Core.List.{List, ◌++◌}
use mathlib.Core.Path.{◌∙◌, ◌≡◌, ap, refl, sym}
use native.Mathlib.Nat.{mul-le-mul}
use native.Mathlib.Omega.{arith}
use Rattle.model.specs.Box.{at}
use Rattle.model.specs.Model.{Model}
use Rattle.model.specs.Rows.{Row, row_at}
use Rattle.model.proofs.RowsLaws.{at-row_of}
use Rattle.book.specs.Book.{book_length, bound_bytes, bounds_offset, encode, length_given, row_bytes, row_bytes_at, row_place, rows, rows_offset, trailer_bytes, trailer_of, variables}
use Rattle.little_endian.specs.Bytes.{bytes_of, integer_bytes, number_at}
use Rattle.little_endian.specs.Pieces.{joined, overwrite, part}
use Rattle.little_endian.proofs.ByteLaws.{length-integer_bytes, number-bytes}
use Rattle.little_endian.proofs.PieceLaws.{length-joined, overwrite-all, overwrite-next, part-joined, part_left, part-part, part_right, part-whole, piece-within}

-- the limits of n and m keep every place within 32 bits
pub place-below : (n i : ℕ) → n ≤ 128 → i ≤ 120 → row_place n i ≤ 62_944
unfolding row_place
place-below n i h k =
    let l : i * n ≤ 120 * 128 = mul-le-mul k h in
    let e : i * (4 + 4 * n) ≡ 4 * i + 4 * (i * n) = omega arith in
    omega arith

pub length-below : (n m : ℕ) → n ≤ 128 → m ≤ 120 → book_length n m ≤ 62_960
unfolding row_place book_length
length-below n m h k = omega (arith, place-below n m h k)

-- row i lies within the rows
pub row_within : (n m i : ℕ) → i < m → row_place n i + 4 + n * 4 ≤ 8 * n + m * (4 + 4 * n)
unfolding row_place
row_within n m i h = omega (arith, piece-within m (4 + 4 * n) i h)

-- ---- the trailer

module _ (n m len : ℕ) where
  pub length-trailer_bytes : length (trailer_bytes n m len) ≡ 16
  unfolding trailer_bytes bytes_of
  length-trailer_bytes = refl

  pub trailer-bounds : bounds_offset (trailer_bytes n m len) ≡ 0
  unfolding number_at trailer_bytes bytes_of
  trailer-bounds = number-bytes 4 0 (omega arith)

  pub trailer-rows : n ≤ 128 → rows_offset (trailer_bytes n m len) ≡ 8 * n
  unfolding number_at trailer_bytes bytes_of
  trailer-rows h = number-bytes 4 (8 * n) (omega arith)

  pub trailer-n : n ≤ 128 → variables (trailer_bytes n m len) ≡ n
  unfolding number_at trailer_bytes bytes_of
  trailer-n h = number-bytes 2 n (omega arith)

  pub trailer-m : m ≤ 120 → rows (trailer_bytes n m len) ≡ m
  unfolding number_at trailer_bytes bytes_of
  trailer-m h = number-bytes 2 m (omega arith)

  pub trailer-length : len < 4_294_967_296 → length_given (trailer_bytes n m len) ≡ len
  unfolding number_at trailer_bytes bytes_of
  trailer-length h = number-bytes 4 len (omega arith)

-- the five numbers written one after the other
pub trailer-written : (n m len : ℕ) (t : List ℕ) → length t ≡ 16
    → overwrite 12 (bytes_of 4 len) (overwrite 10 (bytes_of 2 m) (overwrite 8 (bytes_of 2 n) (overwrite 4 (bytes_of 4 (8 * n)) (overwrite 0 (bytes_of 4 0) t)))) ≡ trailer_bytes n m len
unfolding trailer_bytes bytes_of
trailer-written n m len t l =
    let b = bytes_of 4 (8 * n) in
    let c = bytes_of 2 n in
    let d = bytes_of 2 m in
    let e = bytes_of 4 len in
    let z = bytes_of 4 0 in
    ap (λ (r : List ℕ). overwrite 12 e (overwrite 10 d (overwrite 8 c r))) (overwrite-next 0 4 z b t refl (omega arith))
    ∙ ap (λ (r : List ℕ). overwrite 12 e (overwrite 10 d r)) (overwrite-next 0 8 (z ++ b) c t refl (omega arith))
    ∙ ap (overwrite 12 e) (overwrite-next 0 10 (z ++ b ++ c) d t refl (omega arith))
    ∙ overwrite-next 0 12 (z ++ b ++ c ++ d) e t refl (omega arith)
    ∙ overwrite-all (z ++ b ++ c ++ d ++ e) t (omega arith)

-- the part of a book from its last 16 bytes on
pub trailer-part : (bs : List ℕ) → part (length bs - 16) (length bs - (length bs - 16)) bs ≡ trailer_of bs
unfolding trailer_of
trailer-part bs = take_all (length bs - (length bs - 16)) (drop (length bs - 16) bs) (omega (arith, length-drop (length bs - 16) bs))

-- ---- the whole

-- a row: its right side and n coefficients
pub length-row_bytes : (n : ℕ) (r : Row) → length (row_bytes n r) ≡ 4 + 4 * n
unfolding row_bytes
length-row_bytes n r =
    let coefs = length-joined n 4 (λ j. integer_bytes (at r.coefs j)) (λ j k. length-integer_bytes (at r.coefs j)) in
    omega (arith, length-append (integer_bytes r.rhs) (joined n (λ j. integer_bytes (at r.coefs j))), length-integer_bytes r.rhs, coefs)

module _ (M : Model) where
  pub length-bound_bytes : length (bound_bytes M) ≡ 8 * M.n
  unfolding bound_bytes
  length-bound_bytes =
      length-joined (2 * M.n) 4 _ (λ i k. length-integer_bytes (at M.box i)) ∙ (let z : 2 * M.n * 4 ≡ 8 * M.n = omega arith in z)

  length-all_rows : length (joined M.m (row_bytes_at M.n M.rows)) ≡ M.m * (4 + 4 * M.n)
  length-all_rows = length-joined M.m (4 + 4 * M.n) (row_bytes_at M.n M.rows) (λ i k. length-row_bytes M.n (row_at M.n M.rows i))

  length-body : length (bound_bytes M ++ joined M.m (row_bytes_at M.n M.rows)) ≡ 8 * M.n + M.m * (4 + 4 * M.n)
  length-body = omega (arith, length-append (bound_bytes M) (joined M.m (row_bytes_at M.n M.rows)), length-bound_bytes, length-all_rows)

  pub length-encode : length (encode M) ≡ book_length M.n M.m
  unfolding encode book_length
  length-encode =
      let len = book_length M.n M.m in
      omega (arith, length-append (bound_bytes M ++ joined M.m (row_bytes_at M.n M.rows)) (trailer_bytes M.n M.m len), length-body, length-trailer_bytes M.n M.m len)

  -- the bounds, the rows and the trailer written one after the other
  pub book-assembled : (bs : List ℕ) (q : ℕ) → length bs ≡ book_length M.n M.m → q ≡ length bs - 16
      → overwrite q (trailer_bytes M.n M.m (book_length M.n M.m)) (overwrite (8 * M.n) (joined M.m (row_bytes_at M.n M.rows)) (overwrite 0 (bound_bytes M) bs)) ≡ encode M
  unfolding encode book_length
  book-assembled bs q l e =
      let t = trailer_bytes M.n M.m (book_length M.n M.m) in
      let R = joined M.m (row_bytes_at M.n M.rows) in
      let k = length-trailer_bytes M.n M.m (book_length M.n M.m) in
      ap (overwrite q t) (overwrite-next 0 (8 * M.n) (bound_bytes M) R bs (omega (arith, length-bound_bytes)) (omega (arith, length-all_rows)))
      ∙ overwrite-next 0 q (bound_bytes M ++ R) t bs (omega (arith, length-body)) (omega (arith, k))
      ∙ overwrite-all (bound_bytes M ++ R ++ t) bs (length-encode ∙ sym l)

  pub trailer-encode : trailer_of (encode M) ≡ trailer_bytes M.n M.m (book_length M.n M.m)
  unfolding trailer_of encode
  trailer-encode =
      let body = bound_bytes M ++ joined M.m (row_bytes_at M.n M.rows) in
      let len = book_length M.n M.m in
      let t = trailer_bytes M.n M.m len in
      let e : length (encode M) - 16 ≡ length body = omega (arith, length-append body t, length-trailer_bytes M.n M.m len) in
      ap (λ (k : ℕ). drop k (encode M)) e ∙ drop-append_seam body t

  pub bound-encode : (i : ℕ) → i < 2 * M.n → part (0 + i * 4) 4 (encode M) ≡ integer_bytes (at M.box i)
  unfolding encode bound_bytes
  bound-encode i h =
      let z : 0 + i * 4 ≡ i * 4 = omega arith in
      rw z (part_left (i * 4) 4 (bound_bytes M ++ joined M.m (row_bytes_at M.n M.rows)) _ (omega (arith, length-body))
      ∙ part_left (i * 4) 4 (bound_bytes M) _ (omega (arith, length-bound_bytes))
      ∙ part-joined (2 * M.n) 4 _ (λ r k. length-integer_bytes (at M.box r)) i h)

  pub row-encode : (i : ℕ) → i < M.m → part (row_place M.n i) (4 + 4 * M.n) (encode M) ≡ row_bytes_at M.n M.rows i
  unfolding encode row_place
  row-encode i h =
      let w = 4 + 4 * M.n in
      let k = piece-within M.m w i h in
      part_left (row_place M.n i) w (bound_bytes M ++ joined M.m (row_bytes_at M.n M.rows)) _ (omega (arith, length-body))
      ∙ part_right (i * w) w (row_place M.n i) (bound_bytes M) _ (omega (arith, length-bound_bytes))
      ∙ part-joined M.m w (row_bytes_at M.n M.rows) (λ r q. length-row_bytes M.n (row_at M.n M.rows r)) i h

  row_inside : (i : ℕ) → i < M.m → row_place M.n i + (4 + 4 * M.n) ≤ length (encode M)
  unfolding row_place book_length
  row_inside i h = omega (arith, length-encode, row_within M.n M.m i h)

  pub rhs-encode : (i : ℕ) → i < M.m → part (row_place M.n i) 4 (encode M) ≡ integer_bytes (at M.rows.rhs i)
  unfolding row_bytes
  rhs-encode i h =
      sym (part-part (row_place M.n i) (4 + 4 * M.n) 0 4 (row_place M.n i) (encode M) (row_inside i h) (omega arith) (omega arith))
      ∙ ap (part 0 4) (row-encode i h)
      ∙ part_left 0 4 (integer_bytes (at M.rows.rhs i)) _ (omega (arith, length-integer_bytes (at M.rows.rhs i)))
      ∙ part-whole _ 4 (length-integer_bytes (at M.rows.rhs i))

  pub coef-encode : (i j : ℕ) → i < M.m → j < M.n → part (row_place M.n i + 4 + j * 4) 4 (encode M) ≡ integer_bytes (at M.rows.coefs (i * M.n + j))
  unfolding row_bytes
  coef-encode i j h k =
      let r = row_at M.n M.rows i in
      let f : ℕ → List ℕ = λ q. integer_bytes (at r.coefs q) in
      sym (part-part (row_place M.n i) (4 + 4 * M.n) (4 + j * 4) 4 (row_place M.n i + 4 + j * 4) (encode M) (row_inside i h) (omega arith) (omega arith))
      ∙ ap (part (4 + j * 4) 4) (row-encode i h)
      ∙ part_right (j * 4) 4 (4 + j * 4) (integer_bytes r.rhs) (joined M.n f) (omega (arith, length-integer_bytes r.rhs))
      ∙ part-joined M.n 4 f (λ q _. length-integer_bytes (at r.coefs q)) j k
      ∙ ap integer_bytes (at-row_of M.n M.rows.coefs i j k)
