-- The round trips: each number that is read is the one written at its place, and each four bytes that are written are those
-- read there.
use Prim.Native.Nat.{◌%◌, ◌*◌, ◌+◌, ◌-◌, ◌/◌, ◌<◌, suc, zero, ℕ}
use lib.Dec.{eqb, eqb→eq}
use lib.IntN.{pos, ℤ}
use lib.ListN.{drop, get_or, length, length-drop, take-append-drop}
use lib.Seq.{ext_get_or, get_or-drop}
use mathlib.Core.List.{List, [], ◌++◌, ◌∷◌}
use mathlib.Core.Path.{◌∙◌, ◌≡◌, ap, ap₂, sym}
use mir.Syntax.{w32}
use mir.Val.{SFits}
use native.Mathlib.Omega.{arith}
use Rattle.integer.proofs.Parts.{fit-in⁺, fit-in⁻, fits, zarith}
use Rattle.integer.proofs.Tests.{cond_ind, neqb→ne}
use Rattle.model.specs.Box.{at}
use Rattle.model.specs.Model.{Model, model_of}
use Rattle.model.specs.Rows.{Rows, is_equality, row_at, rows_of}
use Rattle.model.specs.Valid.{Between, ValidModel}
use Rattle.model.proofs.RowsLaws.{at-row_of}
use Rattle.book.specs.Answers.{Answer, book_written, bounds_read, coefs_read, kinds_read, read_call, read_fault, refused, rhs_read, sizes_are, unless, write_call, write_fault, written}
use Rattle.book.specs.Book.{book_length, bound_bytes, bounds_of, bounds_offset, coefs_of, decode, encode, kinds_of, length_given, model_in, rhs_of, row_bytes, row_bytes_at, row_place, rows, rows_offset, trailer_bytes, trailer_of, variables}
use Rattle.book.specs.BookChecks.{book_fault}
use Rattle.little_endian.specs.Bytes.{Bytes, bits_of, bytes_of, integer_bytes, integers_at}
use Rattle.little_endian.specs.Pieces.{joined, part}
use Rattle.book.specs.RoundTrips.{FirstEdition, OneBook, OneModel, ReadsWritten, WritesRead}
use Rattle.book.proofs.AcceptLaws.{Head, book-test, read-passed, write-passed}
use Rattle.book.proofs.AnswerLaws.{becomes}
use Rattle.little_endian.proofs.ByteLaws.{bytes-number_at, integer-read, integer-written}
use Rattle.book.proofs.DecodeLaws.{at-bounds_of, at-coefs_of, at-rhs_of, kind-none, length-kinds_of}
use Rattle.book.proofs.EncodeLaws.{bound-encode, coef-encode, length-below, length-encode, rhs-encode, trailer-bounds, trailer-encode, trailer-length, trailer-m, trailer-n, trailer-rows}
use Rattle.little_endian.proofs.PieceLaws.{grid-all, joined-cong, joined-parts, list_of-all, part-add, part-whole, piece-within}

-- ---- the bytes of a book are bytes

pub bytes-cons : (x : ℕ) (xs : List ℕ) → x < 256 → Bytes xs → Bytes (x ∷ xs)
bytes-cons x xs h k = record { below = go }
  where
    go : (i : ℕ) → get_or (x ∷ xs) i 0 < 256
    go zero = h
    go (suc i) = k.below i

pub bytes-append : (xs ys : List ℕ) → Bytes xs → Bytes ys → Bytes (xs ++ ys)
bytes-append [] ys h k = k
bytes-append (x ∷ xs) ys h k = bytes-cons x (xs ++ ys) (h.below 0) (bytes-append xs ys (record { below = λ j. h.below (suc j) }) k)

pub bytes-joined : (n : ℕ) (f : ℕ → List ℕ) → ((i : ℕ) → Bytes (f i)) → Bytes (joined n f)
unfolding joined
bytes-joined zero f h = record { below = λ i. omega arith }
bytes-joined (suc n) f h = bytes-append (joined n f) (f n) (bytes-joined n f h) (h n)

pub bytes-bytes_of : (w x : ℕ) → Bytes (bytes_of w x)
unfolding bytes_of
bytes-bytes_of zero x = record { below = λ i. omega arith }
bytes-bytes_of (suc w) x = bytes-cons (x % 256) (bytes_of w (x / 256)) (omega arith) (bytes-bytes_of w (x / 256))

pub bytes-encode : (M : Model) → Bytes (encode M)
unfolding encode bound_bytes row_bytes trailer_bytes integer_bytes
bytes-encode M =
    let integers : (z : ℤ) → Bytes (bytes_of 4 (bits_of z)) = λ z. bytes-bytes_of 4 (bits_of z) in
    bytes-append _ _
    (bytes-append _ _
    (bytes-joined (2 * M.n) _ (λ i. integers (at M.box i)))
    (bytes-joined M.m _ (λ i. bytes-append _ _ (integers (at M.rows.rhs i)) (bytes-joined M.n _ (λ j. integers (at (row_at M.n M.rows i).coefs j))))))
    (bytes-append _ _
    (bytes-append _ _ (bytes-append _ _ (bytes-append _ _ (bytes-bytes_of 4 0) (bytes-bytes_of 4 (8 * M.n))) (bytes-bytes_of 2 M.n)) (bytes-bytes_of 2 M.m))
    (bytes-bytes_of 4 (book_length M.n M.m)))

-- ---- reading a written book

-- the limits lie within 32 bits
pub between-fits : (low high z : ℤ) → SFits w32 low → SFits w32 high → Between low high z → SFits w32 z
between-fits low high z l h b = fits w32 z (omega (zarith, b.above, b.below, fit-in⁻ l, fit-in⁺ h))

module _ (M : Model) (w : FirstEdition M) where
  v : ValidModel M
  v = w.valid

  bounds-back : bounds_of M.n (encode M) ≡ M.box
  unfolding bounds_of integers_at
  bounds-back =
      joined-cong (2 * M.n) _ _ (λ i h. ap (λ (z : ℤ). z ∷ []) (integer-written (0 + i * 4) (encode M) (at M.box i) (between-fits _ _ _ (fits w32 _ (omega arith)) (fits w32 _ (omega arith)) (v.box.range i)) (bound-encode M i h)))
      ∙ list_of-all M.box (2 * M.n) (pos 0) v.box.len

  rhs-back : rhs_of M.n M.m (encode M) ≡ M.rows.rhs
  unfolding rhs_of
  rhs-back =
      joined-cong M.m _ _ (λ i h. ap (λ (z : ℤ). z ∷ []) (integer-written (row_place M.n i) (encode M) (at M.rows.rhs i) (between-fits _ _ _ (fits w32 _ (omega arith)) (fits w32 _ (omega arith)) (v.rhs i)) (rhs-encode M i h)))
      ∙ list_of-all M.rows.rhs M.m (pos 0) v.rhs_len

  coefs-back : coefs_of M.n M.m (encode M) ≡ M.rows.coefs
  unfolding coefs_of integers_at
  coefs-back =
      joined-cong M.m _ _ (λ i h. joined-cong M.n _ _ (λ j k. ap (λ (z : ℤ). z ∷ [])
      (integer-written (row_place M.n i + 4 + j * 4) (encode M) (at M.rows.coefs (i * M.n + j)) (between-fits _ _ _ (fits w32 _ (omega arith)) (fits w32 _ (omega arith)) (v.coefs (i * M.n + j))) (coef-encode M i j h k))))
      ∙ grid-all M.rows.coefs M.m M.n (pos 0) v.coefs_len

  kinds-back : kinds_of M.m ≡ M.rows.kinds
  unfolding is_equality
  kinds-back =
      ext_get_or 0 _ _ (length-kinds_of M.m ∙ sym v.kinds_len)
      (λ i h. let l : i < M.m = omega (arith, length-kinds_of M.m) in
      omega (arith, kind-none M.m i l, v.kinds i, neqb→ne (get_or M.rows.kinds i 0) 1 (w.inequality i l)))

  n-back : variables (trailer_of (encode M)) ≡ M.n
  n-back = ap variables (trailer-encode M) ∙ trailer-n M.n M.m (book_length M.n M.m) v.few

  m-back : rows (trailer_of (encode M)) ≡ M.m
  m-back = ap rows (trailer-encode M) ∙ trailer-m M.n M.m (book_length M.n M.m) v.few_rows

  pub decode-encode : decode (encode M) ≡ M
  unfolding decode model_in
  decode-encode = rw (n-back, m-back, bounds-back, rhs-back, coefs-back, kinds-back)

  head-encode : Head (encode M)
  unfolding book_length
  head-encode =
      let e = trailer-encode M in
      let n = M.n in
      let m = M.m in
      let len = book_length n m in
      let tn = trailer-n n m len v.few in
      let tm = trailer-m n m len v.few_rows in
      let tl = trailer-length n m len (omega (arith, length-below n m v.few v.few_rows)) in
      record {
        long = omega (arith, length-encode M);
        whole = rw e (tl ∙ sym (length-encode M));
        layout = rw e (record {
          some = rw tn v.some;
          few = rw tn v.few;
          few_rows = rw tm v.few_rows;
          bounds_start = trailer-bounds n m len;
          rows_start = rw tn (trailer-rows n m len v.few);
          ends = rw (tn, tm) tl;
        });
      }

pub reads-written : ReadsWritten
reads-written M w = (
  record { bytes = bytes-encode M; faultless = (book-test (encode M)).1 (head-encode M w, rw (decode-encode M w) w.valid) },
  decode-encode M w,
)

-- ---- writing a read book

-- a trailer whose offsets are 0 and 8n, written again
pub trailer-back : (t : List ℕ) → Bytes t → length t ≡ 16 → bounds_offset t ≡ 0 → rows_offset t ≡ 8 * variables t
    → trailer_bytes (variables t) (rows t) (length_given t) ≡ t
unfolding trailer_bytes
trailer-back t b l eb er =
    rw (← eb, ← er)
    (rw (bytes-number_at 4 0 t b (omega arith), bytes-number_at 4 4 t b (omega arith), bytes-number_at 2 8 t b (omega arith))
    (rw (bytes-number_at 2 10 t b (omega arith), bytes-number_at 4 12 t b (omega arith))
    (rw (← part-add 0 4 4 t, ← part-add 0 8 2 t, ← part-add 0 10 2 t, ← part-add 0 12 4 t) (part-whole t 16 l))))

module _ (n m : ℕ) (bs : List ℕ) (b : Bytes bs) (l : length bs ≡ book_length n m) where
  bounds-again : bound_bytes (model_in n m bs) ≡ part 0 (2 * n * 4) bs
  unfolding bound_bytes model_in book_length
  bounds-again =
      joined-cong (2 * n) _ _ (λ i h. ap integer_bytes (at-bounds_of n m bs i h) ∙ integer-read (0 + i * 4) bs b (omega arith))
      ∙ joined-parts (2 * n) 4 0 bs

  row-again : (i : ℕ) → i < m → row_bytes_at n (rows_of (coefs_of n m bs) (rhs_of n m bs) (kinds_of m)) i ≡ part (8 * n + i * (4 + 4 * n)) (4 + 4 * n) bs
  unfolding row_bytes model_in book_length row_place
  row-again i h =
      let p = 8 * n + i * (4 + 4 * n) in
      let within = piece-within m (4 + 4 * n) i h in
      let w : 4 + 4 * n ≡ 4 + n * 4 = omega arith in
      ap₂ (λ (xs ys : List ℕ). xs ++ ys)
      (ap integer_bytes (at-rhs_of n m bs i h) ∙ integer-read p bs b (omega arith))
      (joined-cong n _ _ (λ j k. ap integer_bytes (at-row_of n (coefs_of n m bs) i j k ∙ at-coefs_of n m bs i j h k) ∙ integer-read (p + 4 + j * 4) bs b (omega arith))
      ∙ joined-parts n 4 (p + 4) bs)
      ∙ sym (part-add p 4 (n * 4) bs)
      ∙ ap (λ (k : ℕ). part p k bs) (sym w)

  rows-again : joined m (row_bytes_at n (rows_of (coefs_of n m bs) (rhs_of n m bs) (kinds_of m))) ≡ part (8 * n) (m * (4 + 4 * n)) bs
  rows-again = joined-cong m _ _ row-again ∙ joined-parts m (4 + 4 * n) (8 * n) bs

  -- the bounds, the rows and the trailer are the book
  book-again : trailer_bytes n m (book_length n m) ≡ trailer_of bs → encode (model_in n m bs) ≡ bs
  unfolding encode model_in trailer_of book_length
  book-again e =
      let k = m * (4 + 4 * n) in
      let w : 2 * n * 4 ≡ 8 * n = omega arith in
      let z : 8 * n ≡ 0 + 8 * n = omega arith in
      let q : length bs - 16 ≡ 8 * n + m * (4 + 4 * n) = omega arith in
      rw (bounds-again, rows-again, e, w, q)
      (ap (λ (p : ℕ). part 0 (8 * n) bs ++ part p k bs ++ drop (8 * n + k) bs) z
      ∙ ap (λ (xs : List ℕ). xs ++ drop (8 * n + k) bs) (sym (part-add 0 (8 * n) k bs))
      ∙ take-append-drop (8 * n + k) bs)

-- no row of a book is an = row
pub book-inequalities : (bs : List ℕ) → ValidModel (decode bs) → FirstEdition (decode bs)
unfolding decode model_in is_equality
book-inequalities bs v = record { valid = v; inequality = λ i h. rw (kind-none (rows (trailer_of bs)) i h) tt }

pub writes-read : WritesRead
unfolding decode trailer_of
writes-read bs a =
    let h = (book-test bs).0 a.faultless in
    let t = trailer_of bs in
    let l = h.0.layout in
    let k : length t ≡ 16 = omega (arith, length-drop (length bs - 16) bs, h.0.long) in
    let tb : Bytes t = record { below = λ i. rw (get_or-drop (length bs - 16) bs i 0) (a.bytes.below (length bs - 16 + i)) } in (
      book-inequalities bs h.1,
      book-again (variables t) (rows t) bs a.bytes (sym h.0.whole ∙ l.ends)
          (ap (trailer_bytes (variables t) (rows t)) (sym l.ends) ∙ trailer-back t tb k l.bounds_start l.rows_start),
    )

-- ---- and so

pub one-model : OneModel
one-model M N v w e = sym (reads-written M v).1 ∙ ap decode e ∙ (reads-written N w).1

pub one-book : OneBook
one-book bs cs a c e = sym (writes-read bs a).1 ∙ ap encode e ∙ (writes-read cs c).1

-- ---- the round trips of the calls

-- an answer that is no refusal comes of no fault
pub unless-accepted : (fault : ℕ) (a b : Answer) → ((k : ℕ) → refused k ≡ b → ⊥) → unless fault a ≡ b → (fault ≡ 0) × (a ≡ b)
unfolding unless
unless-accepted fault a b n =
    cond_ind (eqb fault 0) a (refused fault) (λ (r : Answer). r ≡ b → (fault ≡ 0) × (a ≡ b))
    (λ t e. (eqb→eq fault 0 t, e)) (λ t e. absurd (n fault e))

pub reads-back : (bs : List ℕ) (B B' : List ℤ) (A A' : Rows) → Bytes bs
    → B' ≡ bounds_read bs B A → A'.coefs ≡ coefs_read bs B A → A'.rhs ≡ rhs_read bs B A → A'.kinds ≡ kinds_read bs B A
    → (n m : ℕ) → read_call bs B A ≡ sizes_are n m → encode (model_of n m B' (rows_of A'.coefs A'.rhs A'.kinds)) ≡ bs
unfolding read_call bounds_read coefs_read rhs_read kinds_read
reads-back bs B B' A A' b e₁ e₂ e₃ e₄ n m a =
    let M = decode bs in
    let f = read_fault bs B A in
    let h = unless-accepted f (sizes_are M.n M.m) (sizes_are n m) (λ k e. never k n m e) a in
    let z = h.0 in
    let i : M.n ≡ n = cc h.1 in
    let j : M.m ≡ m = cc h.1 in
    rw (e₁, e₂, e₃, e₄, ← i, ← j, ← becomes z B M.box, ← becomes z A.coefs M.rows.coefs, ← becomes z A.rhs M.rows.rhs, ← becomes z A.kinds M.rows.kinds)
    (writes-read bs (record { bytes = b; faultless = (read-passed bs B A z).2 })).1
  where
    never : (k n m : ℕ) → refused k ≡ sizes_are n m → ⊥
    never k n m e = let z : ◌≡◌ {A = ℕ} 0 1 = cc in omega arith

pub writes-back : (M : Model) (bs cs : List ℕ) → cs ≡ book_written M bs → write_call M bs ≡ written → (book_fault cs ≡ 0) × (decode cs ≡ M)
unfolding write_call book_written
writes-back M bs cs e a =
    let h = unless-accepted (write_fault M bs) written written (λ k e. never k e) a in
    let r = reads-written M (write-passed M bs h.0).0 in
    rw (e, ← becomes h.0 bs (encode M)) (r.0.faultless, r.1)
  where
    never : (k : ℕ) → refused k ≡ written → ⊥
    never k e = let z : ◌≡◌ {A = ℕ} 0 1 = cc in omega arith
