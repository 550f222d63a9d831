-- Laws of `convert`: which edition an input is, and what its bytes come to, by what the calls answer. Assumes nothing.
use Prim.Native.Nat.{◌*◌, ◌<◌, ◌≤◌, ℕ}
use borrow.Author.Tests.{eq-eqb, le-leb, lt-leb, ne_eqb}
use lib.Dec.{T, eqb, leb}
use lib.ListN.{length, length-append, take}
use lib.Seq.{take_at}
use mathlib.Core.Bool.{Bool, ◌&&◌, ◌||◌, false, true}
use mathlib.Core.List.{List, [], ◌++◌, ◌∷◌}
use mathlib.Core.Logic.{◌⊎◌, inl, inr, ⊎_elim}
use mathlib.Core.Path.{◌∙◌, ◌≡◌, ap, refl, sym}
use native.Mathlib.Decide.{dec_lt, ℕ_discrete}
use native.Mathlib.Omega.{arith}
use Rattle.integer.proofs.Tests.{T→false, T→true, decide}
use Rattle.model.specs.Checks.{first, must, size_checks}
use Rattle.model.specs.Limits.{max_rows, max_variables}
use Rattle.model.proofs.CheckLaws.{fails, first-stop, first-zero-append, past, size-test}
use Rattle.book.specs.Answers.{Answer, refused, sizes_are, unless, written}
use Rattle.book.specs.Book.{book_length, bounds_offset, decode, length_given, model_in, rows, rows_offset, trailer_of, variables}
use Rattle.book.specs.BookChecks.{book_checks, book_fault, given_length_checks, head_checks, layout_checks, model_number_checks, offset_checks}
use Rattle.book.proofs.AcceptLaws.{head-numbered, head-test}
use Rattle.book.proofs.AnswerLaws.{accepted-by, becomes, refused-by}
use Rattle.intake.specs.Checks.{head_call}
use Rattle.intake.specs.Intake.{Held}
use Rattle.intake.proofs.CheckLaws.{accepted}
use Rattle.report.specs.Report.{refused_line}
use Rattle.sparse_layout.specs.SparseBook.{decode_sparse, sparse_length, sparse_model_in}
use Rattle.sparse_layout.specs.SparseChecks.{sparse_fault}
use Rattle.sparse_layout.specs.SparseTrips.{to_first, to_sparse}
use Rattle.sparse_layout.proofs.SparseAcceptLaws.{SparseHead, sparse-test}
use Rattle.sparse_layout.proofs.SparseEncodeLaws.{sparse_length-below}
use Rattle.sparse_calls.specs.SparseCalls.{bytes_are, bytes_unless, refused_length, to_first_call, to_first_checks, to_first_fault, to_first_written, to_sparse_checks, to_sparse_fault, to_sparse_length_call, to_sparse_written}
use Rattle.convert.specs.Answers.{Framed}
use Rattle.convert.specs.Output.{book_unless, first_edition, is_sparse, max_sparse, output, sparse_edition, to_first_number}

pub book-when : {fault : ℕ} → fault ≡ 0 → (book : List ℕ) → book ≡ book_unless fault book
unfolding book_unless
book-when e book = rw e

refused-when : {fault number : ℕ} → number ≡ fault → (fault ≡ 0 → ⊥) → (book : List ℕ) → refused_line number ≡ book_unless fault book
unfolding book_unless
refused-when {fault} e n book = rw (ne_eqb fault 0 n) (ap refused_line e)

-- the number that is refused is that of the fault
refused-fault : (fault number : ℕ) (a : Answer) → (refused number ≡ a → ⊥) → refused number ≡ unless fault a → (number ≡ fault) × (fault ≡ 0 → ⊥)
refused-fault fault number a k e = go (ℕ_discrete fault 0)
  where
    go : Dec (fault ≡ 0) → (number ≡ fault) × (fault ≡ 0 → ⊥)
    go (yes z) = absurd (k (e ∙ sym (accepted-by z a)))
    go (no n) = let h : refused number ≡ refused fault = e ∙ sym (refused-by refl n a) in ((cc), n)

-- ---- to the sparse edition

module _ (bs : List ℕ) where
  -- the length is told, or the number of the fault
  pub length-refused : (number : ℕ) → refused_length number ≡ to_sparse_length_call bs → refused_line number ≡ sparse_edition bs
  unfolding to_sparse_length_call bytes_unless sparse_edition
  length-refused number e = go (ℕ_discrete (book_fault bs) 0)
    where
      go : Dec (book_fault bs ≡ 0) → refused_line number ≡ sparse_edition bs
      go (yes z) =
          let h : refused_length number ≡ bytes_are (sparse_length (decode bs)) = rw (eq-eqb (book_fault bs) 0 z) at e in
          let y : ◌≡◌ {A = ℕ} 0 1 = cc in
          absurd (let w : ⊥ = omega arith in w)
      go (no n) =
          let h : refused_length number ≡ refused_length (book_fault bs) = rw (ne_eqb (book_fault bs) 0 n) at e in
          refused-when (cc) n (to_sparse bs)

  pub length-told : (len : ℕ) → bytes_are len ≡ to_sparse_length_call bs → (book_fault bs ≡ 0) × (len ≡ sparse_length (decode bs))
  unfolding to_sparse_length_call bytes_unless
  length-told len e = go (ℕ_discrete (book_fault bs) 0)
    where
      go : Dec (book_fault bs ≡ 0) → (book_fault bs ≡ 0) × (len ≡ sparse_length (decode bs))
      go (yes z) = let h : bytes_are len ≡ bytes_are (sparse_length (decode bs)) = rw (eq-eqb (book_fault bs) 0 z) at e in (z, (cc))
      go (no n) =
          let h : bytes_are len ≡ refused_length (book_fault bs) = rw (ne_eqb (book_fault bs) 0 n) at e in
          let y : ◌≡◌ {A = ℕ} 0 1 = cc in
          absurd (let w : ⊥ = omega arith in w)

  -- an accepted book's sparse edition has room
  pub sparse-room : book_fault bs ≡ 0 → sparse_length (decode bs) ≤ max_sparse
  unfolding book_fault book_checks decode model_in
  sparse-room z =
      let h = (head-test bs).0 ((first-zero-append (head_checks bs) (model_number_checks (decode bs)) (head-numbered bs)).0 z).0 in
      sparse_length-below (decode bs) h.layout.few h.layout.few_rows

  -- and is written into a buffer of its length
  sparse-written : (cs : List ℕ) → book_fault bs ≡ 0 → length cs ≡ sparse_length (decode bs) → to_sparse_fault bs cs ≡ 0
  unfolding book_fault book_checks to_sparse_fault to_sparse_checks
  sparse-written cs z l =
      let d = head-numbered bs in
      let N = model_number_checks (decode bs) in
      let h = (first-zero-append (head_checks bs) N d).0 z in
      (first-zero-append (head_checks bs) (must (eqb (length cs) (sparse_length (decode bs))) 5 ∷ N) d).1
      (h.0, sym (past _ 5 N (eq-eqb (length cs) (sparse_length (decode bs)) l) (sym h.1)))

  pub sparse-book : (cs ds rest : List ℕ) (len : ℕ) → bytes_are len ≡ to_sparse_length_call bs → length cs ≡ len → length ds ≡ len → ds ≡ to_sparse_written bs cs
      → take len (ds ++ rest) ≡ sparse_edition bs
  unfolding to_sparse_written sparse_edition
  sparse-book cs ds rest len e k l w =
      let h = length-told len e in
      take_at ds rest len l ∙ w ∙ sym (becomes (sparse-written cs h.0 (k ∙ h.1)) cs (to_sparse bs)) ∙ book-when h.0 (to_sparse bs)

-- ---- to the first edition

never-written : (k : ℕ) → refused k ≡ written → ⊥
never-written k e = let z : ◌≡◌ {A = ℕ} 0 1 = cc in omega arith

module _ (bs cs : List ℕ) (l : length cs ≡ book_length (variables (trailer_of bs)) (rows (trailer_of bs))) where
  same-fault : to_first_fault bs cs ≡ to_first_number bs
  unfolding to_first_fault to_first_number decode_sparse sparse_model_in
  same-fault = ap (λ (k : ℕ). first (to_first_checks bs k)) l

  pub first-refused : (number : ℕ) → refused number ≡ to_first_call bs cs → refused_line number ≡ first_edition bs
  unfolding to_first_call first_edition
  first-refused number e =
      let r = refused-fault (to_first_fault bs cs) number written (never-written number) e in
      refused-when (r.0 ∙ same-fault) (λ z. r.1 (same-fault ∙ z)) (to_first bs)

  pub first-book : (ds rest : List ℕ) (len : ℕ) → written ≡ to_first_call bs cs → length ds ≡ len → ds ≡ to_first_written bs cs
      → take len (ds ++ rest) ≡ first_edition bs
  unfolding to_first_call to_first_written first_edition
  first-book ds rest len e k w =
      let z : to_first_fault bs cs ≡ 0 = go (ℕ_discrete (to_first_fault bs cs) 0) in
      take_at ds rest len k ∙ w ∙ sym (becomes z cs (to_first bs)) ∙ book-when (sym same-fault ∙ z) (to_first bs)
    where
      go : Dec (to_first_fault bs cs ≡ 0) → to_first_fault bs cs ≡ 0
      go (yes z) = z
      go (no n) = absurd (never-written (to_first_fault bs cs) (refused-by refl n written ∙ sym e))

-- bytes that the first edition refuses by 4 have a trailer, and n and m within their limits
pub other-edition : (bs : List ℕ) → first (head_checks bs) ≡ 4 → Framed bs
unfolding head_checks given_length_checks layout_checks size_checks
other-edition bs e = go (dec_lt (length bs) 16)
  where
    t : List ℕ
    t = trailer_of bs

    fit : Bool
    fit = leb 1 (variables t) && leb (variables t) max_variables && leb (rows t) max_rows

    sized : first (layout_checks t) ≡ 4 → T fit
    sized f =
        ⊎_elim (λ h. h)
        (λ h. absurd (let z : 3 ≡ first (layout_checks t) = fails fit 3 _ (T→false fit h) in let w : ⊥ = omega arith in w))
        (decide fit)

    whole : first (given_length_checks t (length bs) ++ layout_checks t) ≡ 4 → first (layout_checks t) ≡ 4
    whole f =
        let g = eqb (length_given t) (length bs) in
        ⊎_elim (λ h. past g 2 (layout_checks t) (T→true g h) refl ∙ f)
        (λ h. absurd (let z : 2 ≡ first (given_length_checks t (length bs) ++ layout_checks t) = fails g 2 _ (T→false g h) in let w : ⊥ = omega arith in w))
        (decide g)

    go : Dec (length bs < 16) → Framed bs
    go (yes k) =
        let z : 1 ≡ first (head_checks bs) = fails _ 1 _ (lt-leb 16 (length bs) k) in
        absurd (let w : ⊥ = omega arith in w)
    go (no k) =
        let f = past _ 1 _ (le-leb 16 (length bs) (omega arith)) refl ∙ e in
        let h = (size-test (variables t) (rows t)).0 (sized (whole f)) in
        record { long = omega arith; few = h.1; few_rows = h.2 }

-- so have those that it does not refuse so far
pub first-framed : (bs : List ℕ) → first (head_checks bs) ≡ 0 → Framed bs
first-framed bs e = let h = (head-test bs).0 e in record { long = h.long; few = h.layout.few; few_rows = h.layout.few_rows }

-- a sparse book's head passes 1 to 3 of the first edition, which has the offsets and the length left to check
past_three : (bs : List ℕ) → SparseHead bs → {r : ℕ} → r ≡ first (offset_checks (trailer_of bs)) → r ≡ first (head_checks bs)
unfolding head_checks given_length_checks layout_checks size_checks
past_three bs h e =
    let t = trailer_of bs in
    let s = T→true _ ((size-test (variables t) (rows t)).1 (h.some, h.few, h.few_rows)) in
    past _ 1 _ (le-leb 16 (length bs) h.long) (past _ 2 _ (eq-eqb _ _ h.whole) (past _ 3 _ s e))

-- so an accepted one is not refused by the first edition's head, or by 4
sparse-head : (bs : List ℕ) → sparse_fault bs ≡ 0 → (first (head_checks bs) ≡ 0) ⊎ (first (head_checks bs) ≡ 4)
unfolding offset_checks first
sparse-head bs z =
    let t = trailer_of bs in
    let h = ((sparse-test bs).0 z).0.head in
    let o = eqb (bounds_offset t) 0 && eqb (rows_offset t) (8 * variables t) && eqb (length_given t) (book_length (variables t) (rows t)) in
    ⊎_elim (λ k. inl (sym (past_three bs h (past o 4 [] (T→true o k) refl)))) (λ k. inr (sym (past_three bs h (fails o 4 [] (T→false o k))))) (decide o)

-- ---- which edition it is

module _ (bs : List ℕ) where
  -- neither accepted as sparse nor refused by 4
  pub first-input : (sparse_fault bs ≡ 0 → ⊥) → (first (head_checks bs) ≡ 4 → ⊥) → output bs ≡ sparse_edition bs
  unfolding output is_sparse
  first-input k n = rw (ne_eqb (sparse_fault bs) 0 k, ne_eqb (first (head_checks bs)) 4 n)

  -- refused by another number than 4
  pub not-sparse : (first (head_checks bs) ≡ 0 → ⊥) → (first (head_checks bs) ≡ 4 → ⊥) → output bs ≡ sparse_edition bs
  not-sparse k n = first-input (λ z. ⊎_elim k n (sparse-head bs z)) n

  pub long-input : max_sparse < length bs → output bs ≡ sparse_edition bs
  unfolding output is_sparse
  long-input h = rw (lt-leb (length bs) max_sparse h, neither (eqb (sparse_fault bs) 0 || eqb (first (head_checks bs)) 4))
    where
      neither : (b : Bool) → (b && false) ≡ false
      neither true = refl
      neither false = refl

  pub sparse-input : first (head_checks bs) ≡ 4 → length bs ≤ max_sparse → output bs ≡ first_edition bs
  unfolding output is_sparse
  sparse-input e h = rw (eq-eqb (first (head_checks bs)) 4 e, le-leb (length bs) max_sparse h, either (eqb (sparse_fault bs) 0))
    where
      either : (b : Bool) → (b || true) ≡ true
      either true = refl
      either false = refl

  pub accepted-input : sparse_fault bs ≡ 0 → length bs ≤ max_sparse → output bs ≡ first_edition bs
  unfolding output is_sparse
  accepted-input z h = rw (eq-eqb (sparse_fault bs) 0 z, le-leb (length bs) max_sparse h)

  -- refused by its head: that is the number of the book
  pub head-refused : (number : ℕ) → refused number ≡ head_call bs
      → (number ≡ first (head_checks bs)) × (first (head_checks bs) ≡ 0 → ⊥) × (refused_line number ≡ sparse_edition bs)
  unfolding head_call sparse_edition book_fault book_checks
  head-refused number e =
      let r = refused-fault (first (head_checks bs)) number _ (never number) e in
      let f : book_fault bs ≡ first (head_checks bs) = first-stop (head_checks bs) (model_number_checks (decode bs)) r.1 in
      (r.0, r.1, refused-when (r.0 ∙ sym f) (λ z. r.1 (sym f ∙ z)) (to_sparse bs))
    where
      never : (k : ℕ) {n m : ℕ} → refused k ≡ sizes_are n m → ⊥
      never k e = let z : ◌≡◌ {A = ℕ} 0 1 = cc in omega arith

  -- accepted by its head
  pub head_passed : (n m : ℕ) → sizes_are n m ≡ head_call bs → first (head_checks bs) ≡ 0
  unfolding head_call
  head_passed n m e = (accepted (first (head_checks bs)) _ _ n m (sym e)).0

-- an input that is no longer than the buffer is held whole
pub held_whole : {bs start tail : List ℕ} {len : ℕ} → Held bs start tail len → len ≤ length start → take len start ≡ bs
held_whole {bs} {start} h k = ap (λ (r : ℕ). take r start) h.size ∙ h.whole (omega (arith, h.size))

-- a part at the start of a buffer lies within it
pub part-fits : (ds rest : List ℕ) {len : ℕ} → length ds ≡ len → len ≤ length (ds ++ rest)
part-fits ds rest k = omega (arith, k, length-append ds rest)

-- an input that is longer than any sparse book, and whose head is refused, is of the first edition, which refuses it so
pub long_refused : (bs : List ℕ) (number : ℕ) → refused number ≡ head_call bs → max_sparse < length bs → refused_line number ≡ output bs
long_refused bs number e k = (head-refused bs number e).2 ∙ sym (long-input bs k)
