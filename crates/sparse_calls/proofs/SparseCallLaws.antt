-- What the checks of the calls on sparse books come to, and the round trips of the calls.
use Prim.Native.Nat.{◌*◌, ℕ}
use borrow.Author.Tests.{ne_eqb}
use lib.Dec.{eqb}
use lib.IntN.{ℤ}
use lib.ListN.{length}
use mathlib.Core.Bool.{Bool}
use mathlib.Core.List.{List, [], ◌++◌}
use mathlib.Core.Path.{◌∙◌, ◌≡◌, ap, sym}
use native.Mathlib.Decide.{ℕ_discrete}
use native.Mathlib.Omega.{arith}
use Rattle.std.specs.Prelude.{Result, Ok, Err}
use Rattle.model.specs.declared.refusal.Refusal.{Refusal}
use Rattle.model.specs.Refusals.{number_of}
use Rattle.integer.proofs.Tests.{eqb-test}
use Rattle.model.specs.Checks.{Check, first, length_checks, model_checks, model_fault, none, size_checks}
use Rattle.model.specs.Model.{Model, model_of}
use Rattle.model.specs.Rows.{Rows, rows_of}
use Rattle.model.specs.Valid.{ValidModel}
use Rattle.model.proofs.CheckLaws.{LengthsFit, first-go, first-none, first-stop, first-zero-append, fits-fault-none, length-test}
use Rattle.little_endian.specs.Bytes.{Bytes}
use Rattle.book.specs.Answers.{refused, sizes_are, written}
use Rattle.book.specs.Book.{rows, trailer_of, variables}
use Rattle.book.specs.BookChecks.{model_number_checks}
use Rattle.book.proofs.AnswerLaws.{becomes, number_of-injective}
use Rattle.book.proofs.RoundTripLaws.{unless-accepted}
use Rattle.sparse_layout.specs.SparseBook.{HoldsRows, decode_sparse, encode_sparse, sparse_length}
use Rattle.sparse_layout.specs.SparseChecks.{all_entry_checks, sparse_checks, sparse_fault, sparse_layout_checks}
use Rattle.sparse_layout.proofs.CheckingLaws.{head_rows}
use Rattle.sparse_layout.proofs.SparseAcceptLaws.{SparseLayout, all-entries-test, sparse-layout-numbered, sparse-layout-test}
use Rattle.sparse_layout.proofs.SparseTripLaws.{sparse-reads-written, sparse-writes-read}
use Rattle.sparse_layout.proofs.WritingLaws.{length-coefs}
use Rattle.sparse_calls.specs.SparseCalls.{bytes_are, bytes_unless, length_answer, refused_length, sparse_bounds_read, sparse_coefs_read, sparse_kinds_read, sparse_read_call, sparse_read_checks, sparse_read_fault, sparse_rhs_read, sparse_write_call, sparse_write_fault, sparse_written}

-- ---- reading

-- a book of a right layout holds its rows, and their entries pass
pub layout-holds : (bs : List ℕ) → Bytes bs → SparseLayout bs
    → let t = trailer_of bs in HoldsRows (variables t) (rows t) bs × (first (all_entry_checks (variables t) (rows t) bs) ≡ 0)
layout-holds bs b l = let t = trailer_of bs in (head_rows bs b l.head, (all-entries-test (variables t) (rows t) bs).1 l.entries)

-- a book that is read is accepted, and the buffers have its model's lengths
pub sparse-read-passed : (bs : List ℕ) (B : List ℤ) (A : Rows) → sparse_read_fault bs B A ≡ 0
    → SparseLayout bs × LengthsFit (model_of (decode_sparse bs).n (decode_sparse bs).m B A) × (sparse_fault bs ≡ 0)
unfolding sparse_read_fault sparse_read_checks sparse_fault sparse_checks length_checks
sparse-read-passed bs B A e =
    let M = decode_sparse bs in
    let lent = model_of M.n M.m B A in
    let L = length_checks lent in
    let h = (first-zero-append (sparse_layout_checks bs) (L ++ model_number_checks M) (sparse-layout-numbered bs)).0 e in
    let k = (first-zero-append L (model_number_checks M) tt).0 h.1 in (
      (sparse-layout-test bs).0 h.0,
      (length-test lent).0 ((first-none L tt).0 k.0).0,
      (first-zero-append (sparse_layout_checks bs) (model_number_checks M) (sparse-layout-numbered bs)).1 (h.0, k.1),
    )

-- what was read, written again
pub sparse-reads-back : (bs : List ℕ) (B B' : List ℤ) (A A' : Rows) → Bytes bs
    → B' ≡ sparse_bounds_read bs B A → A'.coefs ≡ sparse_coefs_read bs B A → A'.rhs ≡ sparse_rhs_read bs B A → A'.kinds ≡ sparse_kinds_read bs B A
    → (n m : ℕ) → sparse_read_call bs B A ≡ sizes_are n m → encode_sparse (model_of n m B' (rows_of A'.coefs A'.rhs A'.kinds)) ≡ bs
unfolding sparse_read_call sparse_bounds_read sparse_coefs_read sparse_rhs_read sparse_kinds_read
sparse-reads-back bs B B' A A' b e₁ e₂ e₃ e₄ n m a =
    let M = decode_sparse bs in
    let f = sparse_read_fault bs B A in
    let h = unless-accepted f (sizes_are M.n M.m) (sizes_are n m) (λ k e. never k n m e) a in
    let z = h.0 in
    let i : M.n ≡ n = cc h.1 in
    let j : M.m ≡ m = cc h.1 in
    rw (e₁, e₂, e₃, e₄, ← i, ← j, ← becomes z B M.box, ← becomes z A.coefs M.rows.coefs, ← becomes z A.rhs M.rows.rhs, ← becomes z A.kinds M.rows.kinds)
    (sparse-writes-read bs (record { bytes = b; faultless = (sparse-read-passed bs B A z).2 })).1
  where
    never : (k n m : ℕ) → refused k ≡ sizes_are n m → ⊥
    never k n m e = let z : ◌≡◌ {A = ℕ} 0 1 = cc in omega arith

-- ---- writing

-- a model that is written is valid, and the buffer has its book's length
pub sparse-write-passed : (M : Model) (bs : List ℕ) → sparse_write_fault M bs ≡ 0 → ValidModel M × (length bs ≡ sparse_length M)
unfolding sparse_write_fault
sparse-write-passed M bs e =
    let h = (fits-fault-none M (eqb (length bs) (sparse_length M))).0 e in
    (h.0, (eqb-test (length bs) (sparse_length M)).0 h.1)

-- what was written, read again
pub sparse-writes-back : (M : Model) (bs cs : List ℕ) → cs ≡ sparse_written M bs → sparse_write_call M bs ≡ written → (sparse_fault cs ≡ 0) × (decode_sparse cs ≡ M)
unfolding sparse_write_call sparse_written
sparse-writes-back M bs cs e a =
    let h = unless-accepted (sparse_write_fault M bs) written written (λ k e. never k e) a in
    let r = sparse-reads-written M (sparse-write-passed M bs h.0).0 in
    rw (e, ← becomes h.0 bs (encode_sparse M)) (r.0.faultless, r.1)
  where
    never : (k : ℕ) → refused k ≡ written → ⊥
    never k e = let z : ◌≡◌ {A = ℕ} 0 1 = cc in omega arith

-- the model's chain answers for the call: where a size or a length is wrong, whatever is said of the book's length
pub sparse-write-answers : (M : Model) (bs : List ℕ) (fits : Bool)
    → (first (size_checks M.n M.m) ≡ 0 → length M.rows.coefs ≡ M.m * M.n
    → fits ≡ eqb (length bs) (sparse_length (model_of M.n M.m [] (rows_of M.rows.coefs [] []))))
    → model_fault M none fits ≡ sparse_write_fault M bs
unfolding model_fault model_checks sparse_write_fault size_checks length_checks
sparse-write-answers M bs fits h = sized (ℕ_discrete (first sizes) 0)
  where
    right : Bool
    right = eqb (length bs) (sparse_length M)

    sizes : List Check
    sizes = size_checks M.n M.m

    lens : List Check
    lens = length_checks M

    fitting : first sizes ≡ 0 → Dec (first lens ≡ 0) → model_fault M none fits ≡ model_fault M none right
    fitting z (yes e) =
        ap (λ f. model_fault M none f) (h z ((length-test M).0 ((first-none lens tt).0 e).0).1 ∙ ap (eqb (length bs)) (length-coefs M))
    fitting z (no n) = first-go sizes _ tt z ∙ first-stop lens _ n ∙ sym (first-go sizes _ tt z ∙ first-stop lens _ n)

    sized : Dec (first sizes ≡ 0) → model_fault M none fits ≡ model_fault M none right
    sized (yes e) = fitting e (ℕ_discrete (first lens) 0)
    sized (no n) = first-stop sizes _ n ∙ sym (first-stop sizes _ n)

-- ---- the length

pub length-refused : {r fault : ℕ} → r ≡ fault → (r ≡ 0 → ⊥) → (count : ℕ) → refused_length r ≡ bytes_unless fault count
unfolding bytes_unless
length-refused {r} e n count = rw (← e, ne_eqb r 0 n)

pub length-accepted : {fault : ℕ} → fault ≡ 0 → (count : ℕ) → bytes_are count ≡ bytes_unless fault count
unfolding bytes_unless
length-accepted e count = rw e

-- the result of the code stands for answers one to one
pub length_injective : (a b : Result ℕ Refusal) → length_answer a ≡ length_answer b → a ≡ b
unfolding length_answer
length_injective (Err r) (Err s) e =
    let n : number_of r ≡ number_of s = cc in
    ap Err (number_of-injective r s n)
length_injective (Err r) (Ok k) e = let z : ◌≡◌ {A = ℕ} 0 1 = cc in absurd (let k : ⊥ = omega arith in k)
length_injective (Ok k) (Err r) e = let z : ◌≡◌ {A = ℕ} 0 1 = cc in absurd (let k : ⊥ = omega arith in k)
length_injective (Ok k) (Ok l) e = cc
