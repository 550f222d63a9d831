-- Laws of the input: where its book ends, what stands behind it, and which check fails first.
use Prim.Native.Nat.{◌*◌, ◌+◌, ◌-◌, ◌<◌, ◌≤◌, ℕ}
use borrow.Author.Tests.{eq-eqb, le-leb, lt-leb, ne_eqb}
use lib.Dec.{T, T_not, eqb, leb}
use lib.IntN.{ℤ}
use lib.ListN.{drop, length, length-append, length-drop, take}
use lib.Seq.{length-take-le, take_all, take_at, take-length}
use mathlib.Core.Bool.{Bool, ◌&&◌, false, not, true}
use mathlib.Core.List.{List, ◌++◌, ◌∷◌}
use mathlib.Core.Logic.{inl, inr}
use mathlib.Core.Path.{◌∙◌, ◌≡◌, ap, ap₂, refl, subst, sym}
use native.Mathlib.Decide.{dec_lt, ℕ_discrete}
use native.Mathlib.Omega.{arith}
use Rattle.integer.specs.Index.{all}
use Rattle.integer.proofs.IndexLaws.{all_more, all-test}
use Rattle.integer.proofs.Tests.{and_i, both, eqb-test, false→T, leb-test, not-or-l, true→T}
use Rattle.model.specs.Checks.{Check, first, length_checks, must, size_checks}
use Rattle.model.specs.Model.{Model, model_of}
use Rattle.model.specs.Rows.{Rows, rows_of}
use Rattle.model.proofs.CheckLaws.{ends, fails, first-go, first-none, goes, length-test, past, stops}
use Rattle.book.specs.Answers.{bounds_read, coefs_read, kinds_read, read_call, read_fault, refused, rhs_read, sizes_are}
use Rattle.book.specs.Book.{decode, model_in, trailer_of, variables}
use Rattle.book.specs.BookChecks.{head_checks, model_number_checks, read_checks}
use Rattle.book.proofs.AcceptLaws.{Head, decoded-lengths, decoded-sizes, head-numbered, head-test}
use Rattle.book.proofs.AnswerLaws.{accepted-by, becomes, refused-by}
use Rattle.intake.specs.Intake.{Held}
use Rattle.intake.proofs.CheckLaws.{accepted}
use Rattle.little_endian.specs.Bytes.{integers_at, number_at}
use Rattle.little_endian.specs.Pieces.{part}
use Rattle.little_endian.proofs.ByteLaws.{length-integers_at}
use Rattle.proposals.specs.Call.{allocation_checks, allocation_fault, verdicts_left}
use Rattle.proposals.specs.Proposals.{max_proposals, numbers, proposal}
use Rattle.proposals.specs.Verdict.{verdict}
use Rattle.proposals.proofs.CallLaws.{count-in, count-out, left-accepted}
use Rattle.semantics.specs.Lowest.{lowest}
use Rattle.call_laws.proofs.LowestLaws.{lowest-all, lowest-below, lowest-fails, lowest-is}
use Rattle.allocation_input.specs.Judging.{Holdable, Judged, Room, Splits, verdicts_of}
use Rattle.allocation_input.specs.Input.{book_end, book_of, count_at, first_end, input_checks, input_fault, max_input, model_of_input, no_book, no_split, proposal_checks, proposals_at, whole_end}
use Rattle.allocation_input.specs.Meaning.{BookFound}
use Rattle.allocation_input.specs.Output.{input_verdict}

-- ---- where the book ends

-- the first place that passes a test of the places of bs
module _ (bs : List ℕ) (f : ℕ → Bool) (p : ℕ) where
  pub end-here : p ≤ length bs → T (all p f) → f p ≡ false → p ≡ lowest (length bs + 1) f
  end-here h t e = sym (lowest-is f (length bs + 1) p (omega arith) t (false→T (f p) e))

  pub end-further : T (all p f) → f p ≡ true → T (all (p + 1) f)
  end-further t e = rw (all_more f p) (and_i (all p f) (f p) t (true→T (f p) e))

  pub end-nowhere : p ≡ length bs + 1 → T (all p f) → p ≡ lowest (length bs + 1) f
  end-nowhere e t = e ∙ sym (lowest-all f (length bs + 1) (subst (λ (q : ℕ). T (all q f)) e t))

module _ (bs : List ℕ) (p : ℕ) where
  pub book-ends : first (head_checks (take p bs)) ≡ 0 → no_book bs p ≡ false
  unfolding no_book
  book-ends e = rw e

  pub no-book-ends : (first (head_checks (take p bs)) ≡ 0 → ⊥) → no_book bs p ≡ true
  unfolding no_book
  no-book-ends n = rw (ne_eqb (first (head_checks (take p bs))) 0 n)

  ends-book : T (not (no_book bs p)) → first (head_checks (take p bs)) ≡ 0
  ends-book t = go (ℕ_discrete (first (head_checks (take p bs))) 0)
    where
      go : Dec (first (head_checks (take p bs)) ≡ 0) → first (head_checks (take p bs)) ≡ 0
      go (yes e) = e
      go (no n) = absurd (T_not (no_book bs p) t (true→T (no_book bs p) (no-book-ends n)))

  -- whether it splits the input
  pub splits-not : (first (head_checks (take p bs)) ≡ 0 → ⊥) → false ≡ not (no_split bs p)
  unfolding no_split
  splits-not n = rw (no-book-ends n)

  pub splits-by : first (head_checks (take p bs)) ≡ 0 → eqb (first (proposal_checks (decode (take p bs)).n p bs)) 0 ≡ not (no_split bs p)
  unfolding no_split
  splits-by e = rw (book-ends e) (twice (eqb (first (proposal_checks (decode (take p bs)).n p bs)) 0))
    where
      twice : (b : Bool) → b ≡ not (not b)
      twice true = refl
      twice false = refl

  splits : first (head_checks (take p bs)) ≡ 0 → first (proposal_checks (decode (take p bs)).n p bs) ≡ 0 → no_split bs p ≡ false
  unfolding no_split
  splits b c = rw (book-ends b, c)

module _ (bs : List ℕ) where
  pub end_whole : whole_end bs ≤ length bs → whole_end bs ≡ book_end bs
  unfolding book_end
  end_whole h = rw (le-leb (whole_end bs) (length bs) h)

  pub end-first : length bs < whole_end bs → first_end bs ≡ book_end bs
  unfolding book_end
  end-first h = rw (lt-leb (whole_end bs) (length bs) h)

  by_first : first_end bs ≤ length bs → first (head_checks (take (first_end bs) bs)) ≡ 0
  unfolding first_end
  by_first l = ends-book bs (first_end bs) (lowest-fails (no_book bs) (length bs + 1) (omega arith))

  by_whole : whole_end bs ≤ length bs → first (head_checks (take (whole_end bs) bs)) ≡ 0
  unfolding whole_end no_split
  by_whole l = ends-book bs (whole_end bs) (not-or-l (no_book bs (whole_end bs)) _ (lowest-fails (no_split bs) (length bs + 1) (omega arith)))

  -- the book passes checks 1 to 4 where it ends within the input
  pub book-head : book_end bs ≤ length bs → first (head_checks (book_of bs)) ≡ 0
  unfolding book_of
  book-head h = go (dec_lt (length bs) (whole_end bs))
    where
      go : Dec (length bs < whole_end bs) → first (head_checks (take (book_end bs) bs)) ≡ 0
      go (yes k) = subst (λ (q : ℕ). first (head_checks (take q bs)) ≡ 0) (end-first k) (by_first (omega (arith, end-first k)))
      go (no k) = subst (λ (q : ℕ). first (head_checks (take q bs)) ≡ 0) (end_whole (omega arith)) (by_whole (omega arith))

  -- and where it does not, it is the whole input, which fails one of them
  pub book-whole : length bs < book_end bs → book_of bs ≡ bs
  unfolding book_of
  book-whole h = take_all (book_end bs) bs (omega arith)

  past_first : length bs < first_end bs → first (head_checks bs) ≡ 0 → ⊥
  unfolding first_end
  past_first l e =
      T_not (no_book bs (length bs)) (false→T (no_book bs (length bs)) (book-ends bs (length bs) (ap (λ (b : List ℕ). first (head_checks b)) (take-length bs) ∙ e)))
      (lowest-below (no_book bs) (length bs + 1) (length bs) l)

  pub no-book : length bs < book_end bs → first (head_checks bs) ≡ 0 → ⊥
  no-book h e = go (dec_lt (length bs) (whole_end bs))
    where
      go : Dec (length bs < whole_end bs) → ⊥
      go (yes k) = past_first (omega (arith, end-first k)) e
      go (no k) = let l : whole_end bs ≤ length bs = omega arith in let q = end_whole l in omega (arith, q)

  -- a place that splits the input, and no lower one does
  split-found : (k : ℕ) → k ≤ length bs → T (all k (no_split bs)) → no_split bs k ≡ false → k ≡ book_end bs
  unfolding whole_end
  split-found k h t f = let q : k ≡ whole_end bs = end-here bs (no_split bs) k h t f in q ∙ end_whole (omega (arith, q))

pub book-found : BookFound
unfolding book_of
book-found book behind e z none =
    let bs = book ++ behind in
    let k = length book in
    let l : length bs ≡ k + length behind = length-append book behind in
    let whole : take k bs ≡ book = take_at book behind k refl in
    let b = ap (λ (xs : List ℕ). first (head_checks xs)) whole ∙ e in
    let c = ap (λ (xs : List ℕ). first (proposal_checks (decode xs).n k bs)) whole ∙ z in
    let end = split-found bs k (omega (arith, l)) ((all-test k (no_split bs) (λ i. ((λ t. t), (λ t. t)))).1 none) (splits bs k b c) in
    ap (λ (q : ℕ). take q bs) (sym end) ∙ whole

-- ---- what stands behind it

module _ (e : ℕ) (bs : List ℕ) where
  pub count-missing : length bs < e + 4 → 0 ≡ count_at e bs
  unfolding count_at
  count-missing h = rw (lt-leb (e + 4) (length bs) h)

  pub count-there : e + 4 ≤ length bs → number_at 4 e bs ≡ count_at e bs
  unfolding count_at
  count-there h = rw (le-leb (e + 4) (length bs) h)

  module _ (n : ℕ) where
    pub count_low : count_at e bs < 1 → 22 ≡ first (proposal_checks n e bs)
    unfolding proposal_checks
    count_low h = fails _ 22 _ (count-out (count_at e bs) (inl h))

    pub count-high : 64 < count_at e bs → 22 ≡ first (proposal_checks n e bs)
    unfolding proposal_checks
    count-high h = fails _ 22 _ (count-out (count_at e bs) (inr h))

    pub not-ended : 1 ≤ count_at e bs → count_at e bs ≤ 64 → (length bs ≡ e + 4 + 4 * (count_at e bs * n) → ⊥) → 5 ≡ first (proposal_checks n e bs)
    unfolding proposal_checks
    not-ended l h k = past _ 22 _ (count-in (count_at e bs) l h) (fails _ 5 _ (ne_eqb (length bs) (e + 4 + 4 * (count_at e bs * n)) k))

    pub ended : 1 ≤ count_at e bs → count_at e bs ≤ 64 → length bs ≡ e + 4 + 4 * (count_at e bs * n) → 0 ≡ first (proposal_checks n e bs)
    unfolding proposal_checks
    ended l h k = past _ 22 _ (count-in (count_at e bs) l h) (past _ 5 _ (eq-eqb (length bs) (e + 4 + 4 * (count_at e bs * n)) k) ends)

    -- what they ask
    pub behind-passed : first (proposal_checks n e bs) ≡ 0 → (1 ≤ count_at e bs) × (count_at e bs ≤ 64) × (length bs ≡ e + 4 + 4 * (count_at e bs * n))
    unfolding proposal_checks
    behind-passed z =
        let k = count_at e bs in
        let h = (first-none (proposal_checks n e bs) tt).0 z in
        let c = (both (leb 1 k) (leb k max_proposals) (leb-test 1 k) (leb-test k max_proposals)).0 h.0 in
        (c.0, c.1, (eqb-test (length bs) (e + 4 + 4 * (k * n))).0 h.1.0)

-- ---- the first check that fails

module _ (bs : List ℕ) (short : length bs ≤ max_input) where
  -- no book
  pub refused-head : length bs < book_end bs → {k : ℕ} → k ≡ first (head_checks bs) → (k ≡ input_fault bs) × (k ≡ 0 → ⊥)
  unfolding input_fault input_checks
  refused-head h {k} e =
      let w = book-whole bs h in
      let n : k ≡ 0 → ⊥ = λ z. no-book bs h (sym e ∙ z) in
      (past _ 2 _ (le-leb (length bs) max_input short) (stops _ _ (e ∙ ap (λ (b : List ℕ). first (head_checks b)) (sym w)) n), n)

  module _ (within : book_end bs ≤ length bs) where
    past_head : {k : ℕ} (ys : List Check) → k ≡ first ys → k ≡ first (must (leb (length bs) max_input) 2 ∷ (head_checks (book_of bs) ++ ys))
    past_head ys e =
        past _ 2 _ (le-leb (length bs) max_input short)
        (goes (head_checks (book_of bs)) ys (head-numbered (book_of bs)) (sym (book-head bs within)) refl e)

    -- by 22 or 5
    pub refused-behind : {k : ℕ} → k ≡ first (proposal_checks (model_of_input bs).n (book_end bs) bs) → (k ≡ 0 → ⊥) → k ≡ input_fault bs
    unfolding input_fault input_checks
    refused-behind e n = past_head _ (stops _ _ e n)

    -- by the book's numbers, or not at all
    pub fault-numbers : first (proposal_checks (model_of_input bs).n (book_end bs) bs) ≡ 0 → {k : ℕ} → k ≡ first (model_number_checks (model_of_input bs)) → k ≡ input_fault bs
    unfolding input_fault input_checks proposal_checks
    fault-numbers z e = past_head _ (goes (proposal_checks (model_of_input bs).n (book_end bs) bs) _ tt (sym z) refl e)

-- ---- holding the proposals against the book

module _ (book behind : List ℕ) (count : ℕ) (Y : List ℕ) (h : Holdable book behind count Y) where
  pub head : Head book
  head = (head-test book).0 h.head

  -- with buffers that have their lengths, a book is refused by its numbers
  pub read-numbers : (B : List ℤ) (A : Rows) (P : List ℤ) → Room book count B A P → read_fault book B A ≡ first (model_number_checks (decode book))
  unfolding read_fault read_checks length_checks
  read-numbers B A P r =
      let M = model_of (decode book).n (decode book).m B A in
      first-go (head_checks book) _ (head-numbered book) h.head
      ∙ first-go (length_checks M) (model_number_checks (decode book)) tt
      ((first-none (length_checks M) tt).1 ((length-test M).1 (r.box, r.coefs, r.rhs, r.kinds), tt))

  abbrev P : List ℤ
  P = integers_at 0 4 (count * (decode book).n) behind

  -- and so is the call
  pub call-numbers : allocation_fault (decode book) P count Y ≡ first (model_number_checks (decode book))
  unfolding allocation_fault allocation_checks size_checks length_checks
  call-numbers =
      let M = decode book in
      let lens : eqb (length P) (count * M.n) ≡ true = eq-eqb (length P) (count * M.n) (length-integers_at 0 4 (count * M.n) behind) in
      let fits : (eqb (length P) (count * M.n) && eqb (length Y) (2 * count)) ≡ true = rw (lens, eq-eqb (length Y) (2 * count) h.room) refl in
      sym (goes (size_checks M.n M.m) _ tt (sym (decoded-sizes book head.layout)) refl
      (past _ 22 _ (count-in count h.some h.few)
      (goes (length_checks M) _ tt (sym (decoded-lengths book)) refl
      (past _ 5 _ fits refl))))

  pub call-told : allocation_fault (decode book) P count Y ≡ 0 → verdicts_left (decode book) P count Y ≡ verdicts_of (decode book) count behind
  unfolding verdicts_of
  call-told z = sym (left-accepted (decode book) P count Y z)

  module _ (B : List ℤ) (A : Rows) (Q : List ℤ) (r : Room book count B A Q) where
    -- the book is refused
    pub read-refused : (number : ℕ) → refused number ≡ read_call book B A → (number ≡ first (model_number_checks (decode book))) × (number ≡ 0 → ⊥)
    unfolding read_call
    read-refused number e = go (ℕ_discrete (read_fault book B A) 0)
      where
        go : Dec (read_fault book B A ≡ 0) → (number ≡ first (model_number_checks (decode book))) × (number ≡ 0 → ⊥)
        go (yes z) =
            let k : refused number ≡ sizes_are (decode book).n (decode book).m = e ∙ sym (accepted-by z _) in
            let y : ◌≡◌ {A = ℕ} 0 1 = cc in
            absurd (let w : ⊥ = omega arith in w)
        go (no n) =
            let k : refused number ≡ refused (read_fault book B A) = e ∙ sym (refused-by refl n _) in
            let j : number ≡ read_fault book B A = cc in
            (j ∙ read-numbers B A Q r, λ z. n (sym j ∙ z))

    -- it is read
    pub read-model : (n m : ℕ) {B' C' R' : List ℤ} {K' : List ℕ} → sizes_are n m ≡ read_call book B A → B' ≡ bounds_read book B A → C' ≡ coefs_read book B A
        → R' ≡ rhs_read book B A → K' ≡ kinds_read book B A → model_of n m B' (rows_of C' R' K') ≡ decode book
    unfolding read_call bounds_read coefs_read rhs_read kinds_read decode model_in
    read-model n m e b c d k =
        let a = accepted (read_fault book B A) (decode book).n (decode book).m n m (sym e) in
        let z = a.0 in
        let b' = b ∙ sym (becomes z B (decode book).box) in
        let c' = c ∙ sym (becomes z A.coefs (decode book).rows.coefs) in
        let d' = d ∙ sym (becomes z A.rhs (decode book).rows.rhs) in
        let k' = k ∙ sym (becomes z A.kinds (decode book).rows.kinds) in
        rw (b', c', d', k', ← a.1, ← a.2)

  pub answered : {M : Model} {Q : List ℤ} {fault : ℕ} {Z : List ℕ} → M ≡ decode book → Q ≡ P → fault ≡ allocation_fault M Q count Y → Z ≡ verdicts_left M Q count Y
      → (fault ≡ first (model_number_checks (decode book))) × (fault ≡ 0 → Z ≡ verdicts_of (decode book) count behind)
  answered {M} {Q} {fault} {Z} m q e t =
      let f : fault ≡ allocation_fault (decode book) P count Y = e ∙ ap₂ (λ (N : Model) (X : List ℤ). allocation_fault N X count Y) m q in
      (f ∙ call-numbers, λ z. t ∙ ap₂ (λ (N : Model) (X : List ℤ). verdicts_left N X count Y) m q ∙ call-told (sym f ∙ z))

-- an input that is no longer than the buffer is held whole
pub held_whole : {bs start tail : List ℕ} {len : ℕ} → Held bs start tail len → len ≤ length start → take len start ≡ bs
held_whole {bs} {start} h k = ap (λ (r : ℕ). take r start) h.size ∙ h.whole (omega (arith, h.size))

-- ---- a split input

-- what it starts with up to the book's end passes checks 1 to 4
pub end-head : (bs : List ℕ) (e : ℕ) → e ≡ book_end bs → e ≤ length bs → first (head_checks (take e bs)) ≡ 0
unfolding book_of
end-head bs e q h =
    subst (λ (p : ℕ). first (head_checks (take p bs)) ≡ 0) (sym q) (book-head bs (subst (λ (p : ℕ). p ≤ length bs) q h))

pub book-variables : (book : List ℕ) → variables (trailer_of book) ≡ (decode book).n
unfolding decode model_in
book-variables book = refl

pub end-variables : (bs : List ℕ) (e : ℕ) → e ≡ book_end bs → variables (trailer_of (take e bs)) ≡ (model_of_input bs).n
unfolding model_of_input book_of decode model_in
end-variables bs e q = ap (λ (p : ℕ). variables (trailer_of (take p bs))) q

module _ (bs : List ℕ) (e : ℕ) (p : Splits bs e) where
  at-end : book_end bs ≤ length bs
  at-end = subst (λ (q : ℕ). q ≤ length bs) p.end p.within

  behind-end : first (proposal_checks (model_of_input bs).n (book_end bs) bs) ≡ 0
  behind-end = subst (λ (q : ℕ). first (proposal_checks (model_of_input bs).n q bs) ≡ 0) p.end p.behind

  pub split-passed : (1 ≤ count_at e bs) × (count_at e bs ≤ 64) × (length bs ≡ e + 4 + 4 * (count_at e bs * (model_of_input bs).n))
  split-passed = behind-passed e bs (model_of_input bs).n p.behind

  abbrev Behind : List ℕ
  Behind = part (e + 4) (length bs - (e + 4)) bs

  behind-is : Behind ≡ drop (e + 4) bs
  behind-is =
      let l = length-drop (e + 4) bs in
      take_all (length bs - (e + 4)) (drop (e + 4) bs) (omega (arith, l))

  model_is : decode (take e bs) ≡ model_of_input bs
  unfolding model_of_input book_of
  model_is = ap (λ (q : ℕ). decode (take q bs)) p.end

  pub split-holdable : (count : ℕ) (Y : List ℕ) → count ≡ count_at e bs → length Y ≡ 128 → Holdable (take e bs) Behind count (take (2 * count) Y)
  split-holdable count Y k l =
      let s = split-passed in
      let w : length Behind ≡ length bs - (e + 4) = ap length behind-is ∙ length-drop (e + 4) bs in
      let n : count * (decode (take e bs)).n ≡ count_at e bs * (model_of_input bs).n = ap₂ (λ (c : ℕ) (M : Model). c * M.n) k model_is in
      record {
        head = end-head bs e p.end p.within;
        some = omega (arith, k, s);
        few = omega (arith, k, s);
        bytes = omega (arith, w, s.2, n);
        room = length-take-le (2 * count) Y (omega (arith, k, s, l));
      }

  pub split-fault : {k : ℕ} → k ≡ first (model_number_checks (decode (take e bs))) → k ≡ input_fault bs
  split-fault q = fault-numbers bs p.short at-end behind-end (q ∙ ap (λ (M : Model). first (model_number_checks M)) model_is)

  -- the numbers of the verdicts, by the place e, the count and the bytes behind
  abbrev told-by : ℕ → ℕ → ℕ → List ℕ → List ℕ
  told-by count q k d =
      let M = decode (take q bs) in
      numbers count (λ c. verdict M (proposal M.n (integers_at 0 4 (k * M.n) d) c))

  split-told : (count : ℕ) → count ≡ count_at e bs → verdicts_of (decode (take e bs)) count Behind ≡ numbers count (input_verdict bs)
  unfolding verdicts_of input_verdict model_of_input book_of proposals_at
  split-told count k =
      ap (λ (d : List ℕ). told-by count e count d) behind-is
      ∙ ap (λ (j : ℕ). told-by count e j (drop (e + 4) bs)) k
      ∙ ap (λ (q : ℕ). told-by count q (count_at q bs) (drop (q + 4) bs)) p.end

  pub split-judged : (count : ℕ) {Z : List ℕ} (rest : List ℕ) {k : ℕ} → count ≡ count_at e bs → k ≡ first (model_number_checks (decode (take e bs))) → k ≡ 0
      → length Z ≡ 2 * count → Z ≡ verdicts_of (decode (take e bs)) count Behind → Judged bs (Z ++ rest) count
  split-judged count {Z} rest q f z l v = record {
    faultless = sym (split-fault f) ∙ z;
    counted = q ∙ ap (λ (i : ℕ). count_at i bs) p.end;
    few = omega (arith, q, split-passed);
    told = take_at Z rest (2 * count) l ∙ v ∙ split-told count q;
  }
