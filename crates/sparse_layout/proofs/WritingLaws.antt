-- Laws by which code counts and writes the entries of sparse rows, and stores those that it reads.
use Prim.Native.Nat.{◌%◌, ◌*◌, ◌+◌, ◌-◌, ◌<◌, ◌≤◌, suc, zero, ℕ}
use lib.Dec.{eqb}
use lib.IntN.{pos, ℤ}
use lib.ListN.{get_or, get_or-replicate, length, length-append, length-replicate, length-set, replicate, set}
use lib.Seq.{ext_get_or, get_or-set_other, get_or-set_same}
use mathlib.Core.Bool.{Bool, cond, false, not, true}
use mathlib.Core.List.{List, [], ◌++◌, ◌∷◌}
use mathlib.Core.Path.{◌∙◌, ◌≡◌, ap, ap₂, refl, sym}
use mir.Syntax.{w32}
use mir.Val.{SFits, bool_byte, of_z}
use native.Mathlib.Decide.{ℕ_discrete}
use native.Mathlib.Omega.{arith}
use Rattle.integer.proofs.Parts.{fits}
use Rattle.integer.proofs.Tests.{test-false, test-true}
use Rattle.model.specs.Box.{at}
use Rattle.model.specs.Model.{Model, model_of}
use Rattle.model.specs.Rows.{Row, Rows, row_at, rows_of}
use Rattle.model.proofs.BitTests.{eq-bits}
use Rattle.model.proofs.RowsLaws.{at-row_of}
use Rattle.little_endian.specs.Bytes.{bytes_of, integer_bytes}
use Rattle.little_endian.specs.Pieces.{joined, list_of, overwrite}
use Rattle.little_endian.proofs.ByteLaws.{length-bytes_of, length-integer_bytes}
use Rattle.little_endian.proofs.PieceLaws.{get_d-list_of, length-list_of, length-overwrite, overwrite-next, overwrite-one}
use Rattle.sparse_layout.specs.SparseBook.{column_at, dense_at, entry_bytes, entry_of, is_zero, nonzeros, rows_length, sparse_length, sparse_row_bytes, sparse_row_bytes_at, value_at}
use Rattle.sparse_layout.proofs.RowLaws.{dense-hit, dense-miss, dense-none, entry-none, entry-some, length-entries, length-row, nonzeros-cong, zero_test}
use Rattle.sparse_layout.proofs.SpanLaws.{part-span}
use Rattle.sparse_layout.proofs.SparseEncodeLaws.{length-rows}

-- ---- counting

pub nonzeros-more : (f : ℕ → ℤ) (i : ℕ) → nonzeros (i + 1) f ≡ nonzeros i f + cond (is_zero (f i)) 0 1
unfolding nonzeros
nonzeros-more f i = let s : i + 1 ≡ suc i = omega arith in rw s

-- the machine's test as a number
byte-not : (b : Bool) → bool_byte (not b) ≡ cond b 0 1
byte-not true = refl
byte-not false = refl

pub counted : (z : ℤ) → SFits w32 z → bool_byte (not (eqb (of_z w32 z) 0)) ≡ cond (is_zero z) 0 1
unfolding is_zero
counted z f =
    let zf : SFits w32 (pos 0) = fits w32 _ (omega arith) in
    ap (λ (b : Bool). bool_byte (not b)) (eq-bits w32 f zf) ∙ byte-not (is_zero z)

pub at_most_one : (b : Bool) → cond b 0 1 ≤ 1
at_most_one true = omega arith
at_most_one false = omega arith

-- ---- the length of a book

nonzeros-add : (a b : ℕ) (f : ℕ → ℤ) → nonzeros (a + b) f ≡ nonzeros a f + nonzeros b (λ j. f (a + j))
unfolding nonzeros
nonzeros-add a zero f = let e : a + 0 ≡ a = omega arith in rw e (omega arith)
nonzeros-add a (suc b) f =
    let e : a + suc b ≡ suc (a + b) = omega arith in
    rw e (omega (arith, nonzeros-add a b f))

-- the rows' entries are those of the whole matrix
pub rows-flat : (n : ℕ) (A : Rows) (i : ℕ) → rows_length n A i ≡ 7 * i + 6 * nonzeros (i * n) (at A.coefs)
unfolding rows_length nonzeros
rows-flat n A zero = let z : 0 * n ≡ 0 = omega arith in rw z
rows-flat n A (suc i) =
    let f = at A.coefs in
    let e : suc i * n ≡ i * n + n = omega arith in
    let k : nonzeros n (at (row_at n A i).coefs) ≡ nonzeros n (λ j. f (i * n + j)) = nonzeros-cong n _ _ (λ j h. at-row_of n A.coefs i j h) in
    rw e (omega (arith, rows-flat n A i, k, nonzeros-add (i * n) n f))

pub length-flat : (M : Model) → sparse_length M ≡ 8 * M.n + (7 * M.m + 6 * nonzeros (M.m * M.n) (at M.rows.coefs)) + 16
unfolding sparse_length
length-flat M = rw (rows-flat M.n M.rows M.m)

-- so the other numbers have no part in it
pub length-coefs : (M : Model) → sparse_length (model_of M.n M.m [] (rows_of M.rows.coefs [] [])) ≡ sparse_length M
length-coefs M = length-flat (model_of M.n M.m [] (rows_of M.rows.coefs [] [])) ∙ sym (length-flat M)

-- ---- the entry of a column

pub no-entry : (z : ℤ) (j : ℕ) → z ≡ pos 0 → entry_of j z ≡ []
no-entry z j e = entry-none (λ k. z) j (test-true _ (zero_test z) e)

pub one_byte : (x : ℕ) → x < 256 → bytes_of 1 x ≡ x ∷ []
unfolding bytes_of
one_byte x h = let e : x % 256 ≡ x = omega arith in rw e

pub an-entry : (z : ℤ) (j : ℕ) → (z ≡ pos 0 → ⊥) → entry_of j z ≡ bytes_of 2 j ++ integer_bytes z
an-entry z j n = entry-some (λ k. z) j (test-false _ (zero_test z) n)

pub entry_length : (j : ℕ) (z : ℤ) → length (bytes_of 2 j ++ integer_bytes z) ≡ 6
entry_length j z = omega (arith, length-append (bytes_of 2 j) (integer_bytes z), length-bytes_of 2 j, length-integer_bytes z)

-- ---- a row of zeros, and an entry stored in it

pub dense-zeros : (n p : ℕ) (bs : List ℕ) → replicate n (pos 0) ≡ list_of n (dense_at p bs 0)
dense-zeros n p bs =
    let l = length-list_of n (dense_at p bs 0) in
    ext_get_or (pos 0) _ _ (length-replicate n (pos 0) ∙ sym l)
    (λ i h. let k : i < n = omega (arith, length-replicate n (pos 0)) in
    get_or-replicate n i (pos 0) (pos 0) k ∙ sym (get_d-list_of n (dense_at p bs 0) i (pos 0) k ∙ dense-none p bs i))

pub dense-stored : (n p : ℕ) (bs : List ℕ) (e : ℕ) → column_at p bs e < n
    → set (list_of n (dense_at p bs e)) (column_at p bs e) (value_at p bs e) ≡ list_of n (dense_at p bs (e + 1))
dense-stored n p bs e h =
    let s : e + 1 ≡ suc e = omega arith in
    rw s (ext_get_or (pos 0) _ _ (length-set xs c v ∙ l ∙ sym (length-list_of n (dense_at p bs (suc e))))
    (λ i k. let q : i < n = omega (arith, length-set xs c v, l) in go i q (ℕ_discrete i c) ∙ sym (get_d-list_of n (dense_at p bs (suc e)) i (pos 0) q)))
  where
    xs : List ℤ
    xs = list_of n (dense_at p bs e)

    c : ℕ
    c = column_at p bs e

    v : ℤ
    v = value_at p bs e

    l : length xs ≡ n
    l = length-list_of n (dense_at p bs e)

    go : (i : ℕ) → i < n → Dec (i ≡ c) → get_or (set xs c v) i (pos 0) ≡ dense_at p bs (suc e) i
    go i q (yes z) = ap (λ (k : ℕ). get_or (set xs c v) k (pos 0)) z ∙ get_or-set_same xs c v (pos 0) (omega (arith, l)) ∙ sym (dense-hit p bs e i (sym z))
    go i q (no z) = get_or-set_other xs c i v (pos 0) z ∙ get_d-list_of n (dense_at p bs e) i (pos 0) q ∙ sym (dense-miss p bs e i (λ y. z (sym y)))

-- ---- a row, and the rows

-- right side, kind, count and entries written one after the other
pub row-assembled : (n place : ℕ) (r : Row) (b₀ b₁ b₃ b₄ : List ℕ) → place + (7 + 6 * nonzeros n (at r.coefs)) ≤ length b₀ → r.kind < 256
    → b₁ ≡ overwrite place (integer_bytes r.rhs) b₀
    → b₃ ≡ overwrite (place + 5) (bytes_of 2 (nonzeros n (at r.coefs))) (set b₁ (place + 4) r.kind)
    → b₄ ≡ overwrite (place + 7) (joined n (entry_bytes (at r.coefs))) b₃
    → b₄ ≡ overwrite place (sparse_row_bytes n r) b₀
unfolding sparse_row_bytes
row-assembled n place r b₀ b₁ b₃ b₄ room small e₁ e₃ e₄ =
    let X = integer_bytes r.rhs in
    let K = bytes_of 1 r.kind in
    let c = nonzeros n (at r.coefs) in
    let N = bytes_of 2 c in
    let E = joined n (entry_bytes (at r.coefs)) in
    let x = length-integer_bytes r.rhs in
    let k = length-bytes_of 1 r.kind in
    let l = length-bytes_of 2 c in
    let m = length-entries n (at r.coefs) in
    let xk = length-append X K in
    let xkn = length-append (X ++ K) N in
    let l₁ : length b₁ ≡ length b₀ = ap length e₁ ∙ length-overwrite place X b₀ (omega (arith, x)) in
    let kind : set b₁ (place + 4) r.kind ≡ overwrite place (X ++ K) b₀ =
    overwrite-one (place + 4) r.kind b₁ (omega (arith, l₁))
    ∙ ap₂ (overwrite (place + 4)) (sym (one_byte r.kind small)) e₁
    ∙ overwrite-next place (place + 4) X K b₀ (omega (arith, x)) (omega (arith, k)) in
    let count : b₃ ≡ overwrite place (X ++ K ++ N) b₀ =
    e₃ ∙ ap (overwrite (place + 5) N) kind
    ∙ overwrite-next place (place + 5) (X ++ K) N b₀ (omega (arith, x, k, xk)) (omega (arith, l)) in
    e₄ ∙ ap (overwrite (place + 7) E) count
    ∙ overwrite-next place (place + 7) (X ++ K ++ N) E b₀ (omega (arith, x, k, l, xk, xkn)) (omega (arith, m))

-- row i ends no later than the last
pub rows-rise : (n : ℕ) (A : Rows) (m i : ℕ) → i < m → rows_length n A i + (7 + 6 * nonzeros n (at (row_at n A i).coefs)) ≤ rows_length n A m
rows-rise n A m i h =
    let f = sparse_row_bytes_at n A in
    omega (arith, (part-span m f i h).0, length-rows n A i, length-rows n A m, length-row n (row_at n A i))

pub rows_more : (n : ℕ) (A : Rows) (i : ℕ) → rows_length n A (i + 1) ≡ rows_length n A i + (7 + 6 * nonzeros n (at (row_at n A i).coefs))
unfolding rows_length
rows_more n A i = let s : i + 1 ≡ suc i = omega arith in rw s
