-- Laws of a sparse row: its entries are read as they were written, and written as they were read.
use Prim.Native.Nat.{◌*◌, ◌+◌, ◌<◌, ◌≤◌, suc, zero, ℕ}
use lib.Dec.{T, T_not, eqb}
use lib.IntN.{pos, ℤ}
use lib.ListN.{length, length-append}
use mathlib.Core.Bool.{false, not, true}
use mathlib.Core.List.{List, [], ◌++◌, append-nil}
use mathlib.Core.Logic.{◌↔◌, ◌⊎◌, inl, inr}
use mathlib.Core.Path.{◌∙◌, ◌≡◌, ap, ap₂, refl, subst, sym}
use mir.Syntax.{w32}
use mir.Val.{SFits}
use native.Mathlib.Decide.{ℕ_discrete}
use native.Mathlib.Omega.{arith}
use Rattle.integer.proofs.Tests.{T→false, T→true, decide, eq→eq_z, eq_z→eq, eqb-test, test-false, test-true}
use Rattle.little_endian.specs.Bytes.{Bytes, bytes_of, integer_at, integer_bytes, number_at}
use Rattle.little_endian.specs.Pieces.{joined, part}
use Rattle.little_endian.proofs.ByteLaws.{bytes-number_at, integer-read, integer-written, length-bytes_of, length-integer_bytes, number-bytes}
use Rattle.little_endian.proofs.PieceLaws.{get_d-list_of, joined-cong, length_part, part-add}
use Rattle.model.specs.Box.{at}
use Rattle.model.specs.Rows.{Row}
use Rattle.sparse_layout.specs.SparseBook.{column_at, count_at, dense_at, entry_bytes, entry_of, is_zero, kind_at, nonzeros, row_in, sparse_row_bytes, value_at}
use Rattle.sparse_layout.proofs.SpanLaws.{joined-stop, joined-suc, joined-zero, part-split}

pub zero_test : (z : ℤ) → T (is_zero z) ↔ (z ≡ pos 0)
unfolding is_zero
zero_test z = (eq_z→eq z (pos 0), eq→eq_z z (pos 0))

-- ---- the entries that are written

nonzeros-none : (n : ℕ) (f : ℕ → ℤ) → is_zero (f n) ≡ true → nonzeros (suc n) f ≡ nonzeros n f
unfolding nonzeros
nonzeros-none n f e = rw e (omega arith)

nonzeros-some : (n : ℕ) (f : ℕ → ℤ) → is_zero (f n) ≡ false → nonzeros (suc n) f ≡ suc (nonzeros n f)
unfolding nonzeros
nonzeros-some n f e = rw e (omega arith)

pub entry-none : (f : ℕ → ℤ) (j : ℕ) → is_zero (f j) ≡ true → entry_bytes f j ≡ []
unfolding entry_of
entry-none f j e = rw e

pub entry-some : (f : ℕ → ℤ) (j : ℕ) → is_zero (f j) ≡ false → entry_bytes f j ≡ bytes_of 2 j ++ integer_bytes (f j)
unfolding entry_of
entry-some f j e = rw e

pub entry-cong : (f g : ℕ → ℤ) (j : ℕ) → f j ≡ g j → entry_bytes f j ≡ entry_bytes g j
unfolding entry_of
entry-cong f g j e = rw e

pub nonzeros-cong : (n : ℕ) (f g : ℕ → ℤ) → ((j : ℕ) → j < n → f j ≡ g j) → nonzeros n f ≡ nonzeros n g
unfolding nonzeros
nonzeros-cong zero f g h = refl
nonzeros-cong (suc n) f g h = rw (nonzeros-cong n f g (λ j k. h j (omega arith)), h n (omega arith))

pub nonzeros-le : (n : ℕ) (f : ℕ → ℤ) → nonzeros n f ≤ n
unfolding nonzeros
nonzeros-le zero f = omega arith
nonzeros-le (suc n) f = go (decide (is_zero (f n))) (nonzeros-le n f)
  where
    go : T (is_zero (f n)) ⊎ T (not (is_zero (f n))) → nonzeros n f ≤ n → nonzeros (suc n) f ≤ suc n
    go (inl t) r = rw (nonzeros-none n f (T→true _ t)) (omega arith)
    go (inr t) r = rw (nonzeros-some n f (T→false _ t)) (omega arith)

pub length-entries : (n : ℕ) (f : ℕ → ℤ) → length (joined n (entry_bytes f)) ≡ nonzeros n f * 6
unfolding nonzeros joined
length-entries zero f = refl
length-entries (suc n) f = go (decide (is_zero (f n))) (length-entries n f)
  where
    go : T (is_zero (f n)) ⊎ T (not (is_zero (f n))) → length (joined n (entry_bytes f)) ≡ nonzeros n f * 6
        → length (joined n (entry_bytes f) ++ entry_bytes f n) ≡ nonzeros (suc n) f * 6
    go (inl t) r =
        let e = T→true (is_zero (f n)) t in
        rw (nonzeros-none n f e, entry-none f n e, append-nil (joined n (entry_bytes f))) r
    go (inr t) r =
        let e = T→false (is_zero (f n)) t in
        rw (nonzeros-some n f e, entry-some f n e)
        (omega (arith, length-append (joined n (entry_bytes f)) (bytes_of 2 n ++ integer_bytes (f n)), length-append (bytes_of 2 n) (integer_bytes (f n)), length-bytes_of 2 n, length-integer_bytes (f n)))

-- ---- the entries that are read

-- the first c entries of the row at p: columns below n and rising, coefficients not 0
pub record Entries (n p : ℕ) (bs : List ℕ) (c : ℕ) : Type 0 where
  pub below : (e : ℕ) → e < c → column_at p bs e < n
  pub rises : (d e : ℕ) → d < e → e < c → column_at p bs d < column_at p bs e
  pub some : (e : ℕ) → e < c → value_at p bs e ≡ pos 0 → ⊥

module _ (p : ℕ) (bs : List ℕ) where
  pub dense-hit : (c x : ℕ) → column_at p bs c ≡ x → dense_at p bs (suc c) x ≡ value_at p bs c
  unfolding dense_at
  dense-hit c x e = rw (test-true (eqb (column_at p bs c) x) (eqb-test (column_at p bs c) x) e)

  pub dense-miss : (c x : ℕ) → (column_at p bs c ≡ x → ⊥) → dense_at p bs (suc c) x ≡ dense_at p bs c x
  unfolding dense_at
  dense-miss c x n = rw (test-false (eqb (column_at p bs c) x) (eqb-test (column_at p bs c) x) n)

  pub dense-none : (x : ℕ) → dense_at p bs 0 x ≡ pos 0
  unfolding dense_at
  dense-none x = refl

  -- past every column stands 0
  dense-past : (n c x : ℕ) → ((e : ℕ) → e < c → column_at p bs e < n) → n ≤ x → dense_at p bs c x ≡ pos 0
  dense-past n zero x h k = dense-none x
  dense-past n (suc c) x h k =
      dense-miss c x (λ e. let z = h c (omega arith) in omega arith) ∙ dense-past n c x (λ e l. h e (omega arith)) k

  entries-zero : (n : ℕ) → Entries n p bs 0
  entries-zero n = record {
    below = λ e h. absurd (let z : ⊥ = omega arith in z);
    rises = λ d e k h. absurd (let z : ⊥ = omega arith in z);
    some = λ e h. absurd (let z : ⊥ = omega arith in z);
  }

  entries-wider : (n c : ℕ) → Entries n p bs c → Entries (suc n) p bs c
  entries-wider n c h = record { below = λ e k. omega (arith, h.below e k); rises = h.rises; some = h.some }

  entries-more : (j c : ℕ) → Entries j p bs c → column_at p bs c ≡ j → (value_at p bs c ≡ pos 0 → ⊥) → Entries (suc j) p bs (suc c)
  entries-more j c h k v = record { below = below; rises = rises; some = some }
    where
      below : (e : ℕ) → e < suc c → column_at p bs e < suc j
      below e l = go (ℕ_discrete e c)
        where
          go : Dec (e ≡ c) → column_at p bs e < suc j
          go (yes z) = rw z (omega arith)
          go (no z) = omega (arith, h.below e (omega arith))

      rises : (d e : ℕ) → d < e → e < suc c → column_at p bs d < column_at p bs e
      rises d e q l = go (ℕ_discrete e c)
        where
          go : Dec (e ≡ c) → column_at p bs d < column_at p bs e
          go (yes z) = rw (z, k) (h.below d (omega arith))
          go (no z) = h.rises d e q (omega arith)

      some : (e : ℕ) → e < suc c → value_at p bs e ≡ pos 0 → ⊥
      some e l = go (ℕ_discrete e c)
        where
          go : Dec (e ≡ c) → value_at p bs e ≡ pos 0 → ⊥
          go (yes z) = rw z v
          go (no z) = h.some e (omega arith)

  -- all but the last
  entries-fewer : (n c : ℕ) → Entries n p bs (suc c) → Entries (column_at p bs c) p bs c
  entries-fewer n c h = record {
    below = λ e k. h.rises e c k (omega arith);
    rises = λ d e q k. h.rises d e q (omega arith);
    some = λ e k. h.some e (omega arith);
  }

  -- ---- read as written

  entry_read : (c j : ℕ) (z : ℤ) → j < 65_536 → SFits w32 z → part (p + 7 + c * 6) 6 bs ≡ bytes_of 2 j ++ integer_bytes z
      → (column_at p bs c ≡ j) × (value_at p bs c ≡ z)
  unfolding column_at value_at number_at
  entry_read c j z h k e =
      let s = part-split (p + 7 + c * 6) 2 4 bs (bytes_of 2 j) (integer_bytes z) e (length-bytes_of 2 j) in
      let q : p + 9 + c * 6 ≡ p + 7 + c * 6 + 2 = omega arith in
      (rw s.0 (number-bytes 2 j (omega arith)), rw q (integer-written (p + 7 + c * 6 + 2) bs z k s.1))

  -- the first c entries are the nonzeros of f 0, f 1, .., f (n − 1)
  abbrev pub Reads : (ℕ → ℤ) → ℕ → ℕ → Type 0
  Reads f n c = Entries n p bs c × ((x : ℕ) → x < n → dense_at p bs c x ≡ f x)

  reads-zero : (f : ℕ → ℤ) → Reads f 0 (nonzeros 0 f)
  unfolding nonzeros
  reads-zero f = (entries-zero 0, λ x h. absurd (let z : ⊥ = omega arith in z))

  reads_none : (f : ℕ → ℤ) (n c : ℕ) → f n ≡ pos 0 → Reads f n c → Reads f (suc n) c
  reads_none f n c z r = (entries-wider n c r.0, same)
    where
      same : (x : ℕ) → x < suc n → dense_at p bs c x ≡ f x
      same x h = go (ℕ_discrete x n)
        where
          go : Dec (x ≡ n) → dense_at p bs c x ≡ f x
          go (yes e) = rw e (dense-past n c n r.0.below (omega arith) ∙ sym z)
          go (no e) = r.1 x (omega arith)

  reads-some : (f : ℕ → ℤ) (n c : ℕ) → (f n ≡ pos 0 → ⊥) → column_at p bs c ≡ n → value_at p bs c ≡ f n → Reads f n c → Reads f (suc n) (suc c)
  reads-some f n c z k v r = (entries-more n c r.0 k (λ e. z (sym v ∙ e)), same)
    where
      same : (x : ℕ) → x < suc n → dense_at p bs (suc c) x ≡ f x
      same x h = go (ℕ_discrete x n)
        where
          go : Dec (x ≡ n) → dense_at p bs (suc c) x ≡ f x
          go (yes e) = rw e (dense-hit c n k ∙ v)
          go (no e) = dense-miss c x (λ q. e (sym q ∙ k)) ∙ r.1 x (omega arith)

  pub row_read : (f : ℕ → ℤ) → ((x : ℕ) → SFits w32 (f x)) → (n : ℕ) → n ≤ 65_536 → part (p + 7) (nonzeros n f * 6) bs ≡ joined n (entry_bytes f)
      → Reads f n (nonzeros n f)
  row_read f fit zero l e = reads-zero f
  row_read f fit (suc n) l e = go (decide (is_zero (f n))) (row_read f fit n (omega arith))
    where
      go : T (is_zero (f n)) ⊎ T (not (is_zero (f n)))
          → (part (p + 7) (nonzeros n f * 6) bs ≡ joined n (entry_bytes f) → Reads f n (nonzeros n f))
          → Reads f (suc n) (nonzeros (suc n) f)
      go (inl t) r =
          let z = T→true (is_zero (f n)) t in
          let k = nonzeros-none n f z in
          let b : joined (suc n) (entry_bytes f) ≡ joined n (entry_bytes f) = joined-suc n (entry_bytes f) ∙ ap (λ (ys : List ℕ). joined n (entry_bytes f) ++ ys) (entry-none f n z) ∙ append-nil (joined n (entry_bytes f)) in
          subst (Reads f (suc n)) (sym k)
          (reads_none f n (nonzeros n f) ((zero_test (f n)).0 t) (r (ap (λ (c : ℕ). part (p + 7) (c * 6) bs) (sym k) ∙ e ∙ b)))
      go (inr t) r =
          let z = T→false (is_zero (f n)) t in
          let k = nonzeros-some n f z in
          let c = nonzeros n f in
          let six : c * 6 + 6 ≡ nonzeros (suc n) f * 6 = omega (arith, k) in
          let b : joined (suc n) (entry_bytes f) ≡ joined n (entry_bytes f) ++ (bytes_of 2 n ++ integer_bytes (f n)) = joined-suc n (entry_bytes f) ∙ ap (λ (ys : List ℕ). joined n (entry_bytes f) ++ ys) (entry-some f n z) in
          let s = part-split (p + 7) (c * 6) 6 bs (joined n (entry_bytes f)) (bytes_of 2 n ++ integer_bytes (f n))
          (ap (λ (w : ℕ). part (p + 7) w bs) six ∙ e ∙ b) (length-entries n f) in
          let q = entry_read c n (f n) (omega arith) (fit n) s.1 in
          subst (Reads f (suc n)) (sym k)
          (reads-some f n c (λ y. T_not (is_zero (f n)) t ((zero_test (f n)).1 y)) q.0 q.1 (r s.0))

  -- ---- written as read

  entry-again : (c : ℕ) → Bytes bs → p + 7 + c * 6 + 6 ≤ length bs → bytes_of 2 (column_at p bs c) ++ integer_bytes (value_at p bs c) ≡ part (p + 7 + c * 6) 6 bs
  unfolding column_at value_at
  entry-again c b l =
      let q : p + 9 + c * 6 ≡ p + 7 + c * 6 + 2 = omega arith in
      rw q (ap₂ (λ (xs ys : List ℕ). xs ++ ys) (bytes-number_at 2 (p + 7 + c * 6) bs b (omega arith)) (integer-read (p + 7 + c * 6 + 2) bs b (omega arith))
      ∙ sym (part-add (p + 7 + c * 6) 2 4 bs))

  pub row-again : (c n : ℕ) → Entries n p bs c → Bytes bs → p + 7 + c * 6 ≤ length bs → joined n (entry_bytes (dense_at p bs c)) ≡ part (p + 7) (c * 6) bs
  row-again zero n h b l =
      joined-stop n 0 (entry_bytes (dense_at p bs 0)) (omega arith) (λ i k. entry-none (dense_at p bs 0) i (test-true (is_zero (dense_at p bs 0 i)) (zero_test (dense_at p bs 0 i)) (dense-none i)))
      ∙ joined-zero (entry_bytes (dense_at p bs 0))
  row-again (suc c) n h b l =
      let k = column_at p bs c in
      let f = dense_at p bs (suc c) in
      let g = dense_at p bs c in
      let less = entries-fewer n c h in
      let hit : f k ≡ value_at p bs c = dense-hit c k refl in
      let six : c * 6 + 6 ≡ suc c * 6 = omega arith in
      joined-stop n (suc k) (entry_bytes f) (h.below c (omega arith))
      (λ i q. entry-none f i (test-true (is_zero (f i)) (zero_test (f i)) (dense-miss c i (λ e. omega arith) ∙ dense-past k c i less.below (omega arith))))
      ∙ joined-suc k (entry_bytes f)
      ∙ ap₂ (λ (xs ys : List ℕ). xs ++ ys)
      (joined-cong k (entry_bytes f) (entry_bytes g) (λ i q. entry-cong f g i (dense-miss c i (λ e. omega arith))) ∙ row-again c k less b (omega arith))
      (entry-some f k (test-false (is_zero (f k)) (zero_test (f k)) (λ e. h.some c (omega arith) (sym hit ∙ e)))
      ∙ ap (λ (z : ℤ). bytes_of 2 k ++ integer_bytes z) hit
      ∙ entry-again c b (omega arith))
      ∙ sym (part-add (p + 7) (c * 6) 6 bs)
      ∙ ap (λ (w : ℕ). part (p + 7) w bs) six

  -- and the count with them
  pub count-again : (c n : ℕ) → Entries n p bs c → Bytes bs → p + 7 + c * 6 ≤ length bs → nonzeros n (dense_at p bs c) ≡ c
  count-again c n h b l =
      let e : nonzeros n (dense_at p bs c) * 6 ≡ c * 6 = sym (length-entries n (dense_at p bs c)) ∙ ap length (row-again c n h b l) ∙ length_part (p + 7) (c * 6) bs l in
      omega arith

-- ---- the whole row

pub length-row : (n : ℕ) (r : Row) → length (sparse_row_bytes n r) ≡ 7 + 6 * nonzeros n (at r.coefs)
unfolding sparse_row_bytes
length-row n r =
    let f = at r.coefs in
    let b = integer_bytes r.rhs in
    let k = bytes_of 1 r.kind in
    let c = bytes_of 2 (nonzeros n f) in
    omega (
      arith,
      length-append (b ++ k ++ c) (joined n (entry_bytes f)),
      length-append (b ++ k) c,
      length-append b k,
      length-integer_bytes r.rhs,
      length-bytes_of 1 r.kind,
      length-bytes_of 2 (nonzeros n f),
      length-entries n f,
    )

-- the row r is read at p
pub record RowRead (n p : ℕ) (bs : List ℕ) (r : Row) : Type 0 where
  pub count : count_at p bs ≡ nonzeros n (at r.coefs)
  pub rhs : integer_at p bs ≡ r.rhs
  pub kind : kind_at p bs ≡ r.kind
  pub entries : Entries n p bs (count_at p bs)
  pub coefs : (x : ℕ) → x < n → dense_at p bs (count_at p bs) x ≡ at r.coefs x

-- a row that is written at p is read there
pub row_written : (n p : ℕ) (bs : List ℕ) (r : Row) → n ≤ 128 → ((x : ℕ) → SFits w32 (at r.coefs x)) → SFits w32 r.rhs → r.kind < 256
    → part p (7 + 6 * nonzeros n (at r.coefs)) bs ≡ sparse_row_bytes n r → RowRead n p bs r
unfolding sparse_row_bytes count_at kind_at number_at
row_written n p bs r l fit fb fk e =
    let f = at r.coefs in
    let b = r.rhs in
    let k = r.kind in
    let c = nonzeros n f in
    let six : 7 + c * 6 ≡ 7 + 6 * c = omega arith in
    let s = part-split p 7 (c * 6) bs (integer_bytes b ++ bytes_of 1 k ++ bytes_of 2 c) (joined n (entry_bytes f)) (ap (λ (w : ℕ). part p w bs) six ∙ e)
    (omega (arith, length-append (integer_bytes b ++ bytes_of 1 k) (bytes_of 2 c), length-append (integer_bytes b) (bytes_of 1 k), length-integer_bytes b, length-bytes_of 1 k, length-bytes_of 2 c)) in
    let t = part-split p 5 2 bs (integer_bytes b ++ bytes_of 1 k) (bytes_of 2 c) s.0
    (omega (arith, length-append (integer_bytes b) (bytes_of 1 k), length-integer_bytes b, length-bytes_of 1 k)) in
    let u = part-split p 4 1 bs (integer_bytes b) (bytes_of 1 k) t.0 (length-integer_bytes b) in
    let q = row_read p bs f fit n (omega arith) s.1 in
    let d : count_at p bs ≡ c = rw t.1 (number-bytes 2 c (omega (arith, nonzeros-le n f))) in
    record {
      count = d;
      rhs = integer-written p bs b fb u.0;
      kind = rw u.1 (number-bytes 1 k (omega arith));
      entries = subst (Entries n p bs) (sym d) q.0;
      coefs = λ x h. ap (λ (y : ℕ). dense_at p bs y x) d ∙ q.1 x h;
    }

kind-again : (p : ℕ) (bs : List ℕ) → Bytes bs → p + 4 + 1 ≤ length bs → bytes_of 1 (kind_at p bs) ≡ part (p + 4) 1 bs
unfolding kind_at
kind-again p bs b l = bytes-number_at 1 (p + 4) bs b l

head-again : (p : ℕ) (bs : List ℕ) → Bytes bs → p + 5 + 2 ≤ length bs → bytes_of 2 (count_at p bs) ≡ part (p + 5) 2 bs
unfolding count_at
head-again p bs b l = bytes-number_at 2 (p + 5) bs b l

-- a row that is read at p is written there
pub row-rewritten : (n p : ℕ) (bs : List ℕ) → Bytes bs → Entries n p bs (count_at p bs) → p + (7 + 6 * count_at p bs) ≤ length bs
    → (nonzeros n (at (row_in n bs p).coefs) ≡ count_at p bs) × (sparse_row_bytes n (row_in n bs p) ≡ part p (7 + 6 * count_at p bs) bs)
unfolding sparse_row_bytes
row-rewritten n p bs b h l =
    let c = count_at p bs in
    let f = dense_at p bs c in
    let g = at (row_in n bs p).coefs in
    let same : (j : ℕ) → j < n → g j ≡ f j = λ j k. get_d-list_of n f j (pos 0) k in
    let q : nonzeros n g ≡ c = nonzeros-cong n g f same ∙ count-again p bs c n h b (omega arith) in
    let six : 7 + c * 6 ≡ 7 + 6 * c = omega arith in (
      q,
      ap₂ (λ (xs ys : List ℕ). xs ++ ys)
          (ap₂ (λ (xs ys : List ℕ). xs ++ ys)
          (ap₂ (λ (xs ys : List ℕ). xs ++ ys) (integer-read p bs b (omega arith)) (kind-again p bs b (omega arith)) ∙ sym (part-add p 4 1 bs))
          (ap (bytes_of 2) q ∙ head-again p bs b (omega arith))
          ∙ sym (part-add p 5 2 bs))
          (joined-cong n (entry_bytes g) (entry_bytes f) (λ j k. entry-cong g f j (same j k)) ∙ row-again p bs c n h b (omega arith))
          ∙ sym (part-add p 7 (c * 6) bs)
          ∙ ap (λ (w : ℕ). part p w bs) six,
    )
