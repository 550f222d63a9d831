-- Pages read back: the bounds, and the implications, all of them and no others.
use Prim.Native.Nat.{◌%◌, ◌*◌, ◌+◌, ◌-◌, ◌/◌, ◌<◌, ◌≤◌, suc, zero, ℕ}
use lib.IntN.{ℤ}
use lib.ListN.{get_or-append, get_or-eq_default, drop, get_or, length, length-append, replicate, replicate-append-replicate, take}
use lib.Seq.{drop-append-le, drop_at, drop-drop, get_or-drop, take_all, take_at, take-suc}
use mathlib.Core.List.{List, [], ◌++◌, ◌∷◌, append_assoc, append-nil}
use mathlib.Core.Path.{◌∙◌, ◌≡◌, ap, refl, sym}
use native.Mathlib.Decide.{dec_lt}
use native.Mathlib.Omega.{arith}
use Rattle.model.specs.Box.{lower, upper}
use Rattle.text.specs.Text.{texts}
use Rattle.text.proofs.TextLaws.{texts-add}
use Rattle.pages.specs.Page.{Paper, contents, empty_line, implied, joined, page, page_count, page_line, pages, variable_lines}
use Rattle.pages.specs.Reading.{Entry, entries, entry_of, line_in, lines_in, pending, read_pages}
use Rattle.pages.proofs.LineLaws.{empty-entries, empty-pending, variable-entries, variable-pending}
use Rattle.pages.specs.Claims.{IsLine}
use Rattle.pages.proofs.PrintLaws.{printed-at}
use Rattle.pages.proofs.PageLaws.{Lines, bound-small, contents-length, contents-lines, implied-small, page-length, page-line-length, page-line-print, pages-length, pages-most, pages-room, texts-length}

-- ---- a text among texts of one length

cut : (w n : ℕ) (f : ℕ → List ℕ) → ((i : ℕ) → i < n → length (f i) ≡ w) → (i : ℕ) → i < n → (rest : List ℕ) × (drop (w * i) (texts n f) ≡ f i ++ rest)
unfolding texts
cut w n f h i l =
    let r = n - i - 1 in
    let e : n ≡ i + (1 + r) = omega arith in
    let z : i + 0 ≡ i = omega arith in
    let len : length (texts i f) ≡ w * i = texts-length w i f (λ j k. h j (omega arith)) ∙ (let c : i * w ≡ w * i = omega arith in c) in
    let one : texts (1 + r) (λ j. f (i + j)) ≡ f i ++ texts r (λ j. f (i + (1 + j))) = texts-add 1 r (λ j. f (i + j)) ∙ rw z in
    (texts r (λ j. f (i + (1 + j))), ap (λ (m : ℕ). drop (w * i) (texts m f)) e ∙ rw (texts-add i (1 + r) f) (drop_at (texts i f) (texts (1 + r) (λ j. f (i + j))) (w * i) len ∙ one))

-- line i of page p
pub line-drop : (ls : List (List ℕ)) → Lines ls → (c : ℕ) → c ≤ 999_999 → (p i : ℕ) → p < c → i < 60 → (rest : List ℕ) × (drop (4_860 * p + 81 * i) (texts c (page ls)) ≡ page_line ls p i ++ (10 ∷ rest))
unfolding page
line-drop ls h c few p i hp hi =
    let line : ℕ → List ℕ = λ j. page_line ls p j ++ (10 ∷ []) in
    let len : (j : ℕ) → j < 60 → length (line j) ≡ 81 = λ j _. length-append (page_line ls p j) (10 ∷ []) ∙ rw (page-line-length ls h p (omega arith) j) in
    let a = cut 4_860 c (page ls) (λ q l. page-length ls h q (omega arith)) p hp in
    let b = cut 81 60 line len i hi in
    let room : 81 * i ≤ length (texts 60 line) = rw (texts-length 81 60 line len) (omega arith) in
    (b.0 ++ a.0, rw (← drop-drop (81 * i) (4_860 * p) (texts c (page ls)), a.1, drop-append-le (81 * i) (texts 60 line) a.0 room, b.1, append_assoc (page_line ls p i) (10 ∷ []) b.0, append_assoc (page_line ls p i) ((10 ∷ []) ++ b.0) a.0))

pub line-cut : (ls : List (List ℕ)) → Lines ls → (c : ℕ) → c ≤ 999_999 → (p i : ℕ) → p < c → i < 60 → take 80 (drop (4_860 * p + 81 * i) (texts c (page ls))) ≡ page_line ls p i
line-cut ls h c few p i hp hi =
    let d = line-drop ls h c few p i hp hi in
    rw d.1 (take_at (page_line ls p i) (10 ∷ d.0) 80 (page-line-length ls h p (omega arith) i))

-- it has 80 columns and is ended by a line feed
pub line-is : (ls : List (List ℕ)) → Lines ls → (c : ℕ) → c ≤ 999_999 → (p i : ℕ) → p < c → i < 60 → IsLine (texts c (page ls)) (4_860 * p + 81 * i)
line-is ls h c few p i hp hi =
    let bytes = texts c (page ls) in
    let at = 4_860 * p + 81 * i in
    let l = page_line ls p i in
    let d = line-drop ls h c few p i hp hi in
    let len : length l ≡ 80 = page-line-length ls h p (omega arith) i in
    let here : (j : ℕ) → get_or bytes (at + j) 0 ≡ get_or (l ++ (10 ∷ d.0)) j 0 = λ j. sym (get_or-drop at bytes j 0) ∙ ap (λ (x : List ℕ). get_or x j 0) d.1 in
    let end : get_or (drop 80 (l ++ (10 ∷ d.0))) 0 0 ≡ 10 = ap (λ (x : List ℕ). get_or x 0 0) (drop_at l (10 ∷ d.0) 80 len) in
    record {
      printed = λ j k. rw (here j, get_or-append l (10 ∷ d.0) 0 j (rw len k)) (printed-at (page-line-print ls h p i) j (rw len k));
      ended = here 80 ∙ sym (get_or-drop 80 (l ++ (10 ∷ d.0)) 0 0) ∙ end;
    }

pub line-in : (ls : List (List ℕ)) → Lines ls → (c : ℕ) → c ≤ 999_999 → (k : ℕ) → k < 59 * c → line_in (texts c (page ls)) k ≡ get_or ls k empty_line
unfolding line_in page_line
line-in ls h c few k l =
    let e : 59 * (k / 59) + k % 59 ≡ k = omega arith in
    line-cut ls h c few (k / 59) (suc (k % 59)) (omega arith) (omega arith) ∙ ap (λ (m : ℕ). get_or ls m empty_line) e

-- ---- lists by their places

pub joined_same : {A : Type 0} (n : ℕ) (f g : ℕ → List A) → ((i : ℕ) → i < n → f i ≡ g i) → joined n f ≡ joined n g
unfolding joined
joined_same zero f g h = refl
joined_same (suc n) f g h = cc (joined_same n f g (λ i k. h i (omega arith)), h n (omega arith))

-- every element of a list up to m, and the default from its end on
joined-list : {A : Type 0} (xs : List A) (d : A) (m : ℕ) → joined m (λ i. get_or xs i d ∷ []) ≡ take m xs ++ replicate (m - length xs) d
unfolding joined
joined-list xs d zero = let e : 0 - length xs ≡ 0 = omega arith in rw e
joined-list {A} xs d (suc m) = go (dec_lt m (length xs)) (joined-list xs d m)
  where
    go : Dec (m < length xs) → joined m (λ i. get_or xs i d ∷ []) ≡ take m xs ++ replicate (m - length xs) d → joined m (λ i. get_or xs i d ∷ []) ++ (get_or xs m d ∷ []) ≡ take (suc m) xs ++ replicate (suc m - length xs) d
    go (yes l) r =
        let a : m - length xs ≡ 0 = omega arith in
        let b : suc m - length xs ≡ 0 = omega arith in
        rw (r, a, b, append-nil, append-nil) (sym (take-suc xs m d l))
    go (no l) r =
        let o : length xs ≤ m = omega arith in
        let b : suc m - length xs ≡ (m - length xs) + 1 = omega arith in
        rw (r, b, ← replicate-append-replicate (m - length xs) 1 d, take_all m xs o, take_all (suc m) xs (omega arith), get_or-eq_default xs d o) (append_assoc xs (replicate (m - length xs) d) (d ∷ []))

-- ---- the entries of all variables

entries-joined : (n : ℕ) (f : ℕ → List (List ℕ)) (v : ℕ → Entry) → ((k : ℕ) → k < n → (rest : List (List ℕ)) → pending rest ≡ [] → entries (f k ++ rest) ≡ v k ∷ entries rest) → ((k : ℕ) → k < n → (rest : List (List ℕ)) → pending (f k ++ rest) ≡ []) → (rest : List (List ℕ)) → pending rest ≡ [] → entries (joined n f ++ rest) ≡ joined n (λ k. v k ∷ []) ++ entries rest
unfolding joined
entries-joined zero f v h g rest e = refl
entries-joined (suc n) f v h g rest e =
    rw (append_assoc (joined n f) (f n) rest, append_assoc (joined n (λ k. v k ∷ [])) (v n ∷ []) (entries rest), ← h n (omega arith) rest e) (entries-joined n f v (λ k l. h k (omega arith)) (λ k l. g k (omega arith)) (f n ++ rest) (g n (omega arith) rest))

pub contents-entries : (n : ℕ) (B : List ℤ) (t : List ℕ) → Paper n B → (c : ℕ) → entries (contents n B t ++ replicate c empty_line) ≡ joined n (λ k. entry_of n B t k ∷ [])
unfolding contents entry_of
contents-entries n B t p c =
    let f : ℕ → List (List ℕ) = λ k. variable_lines k (lower B k) (upper B k) (implied n t k) in
    entries-joined n f (entry_of n B t)
    (λ k h rest e. variable-entries k (lower B k) (upper B k) (implied n t k) rest (omega (arith, p.few)) (bound-small (lower B k) (p.range (2 * k))) (bound-small (upper B k) (p.range (2 * k + 1))) (implied-small n t k p.few) e)
    (λ k h rest. variable-pending k (lower B k) (upper B k) (implied n t k) rest (omega (arith, p.few)))
    (replicate c empty_line) (empty-pending c) ∙ rw (empty-entries c) (append-nil (joined n (λ k. entry_of n B t k ∷ [])))

-- ---- the pages give back the bounds and the implications

pages-line : (n : ℕ) (B : List ℤ) (t : List ℕ) → Paper n B → page_count n t ≤ 999_999 → (k : ℕ) → k < 59 * page_count n t → line_in (pages n B t) k ≡ get_or (contents n B t) k empty_line
unfolding pages
pages-line n B t p few k l = line-in (contents n B t) (contents-lines n B t p) (page_count n t) few k l

pub pages-read : (n : ℕ) (B : List ℤ) (t : List ℕ) → Paper n B → read_pages (pages n B t) ≡ joined n (λ k. entry_of n B t k ∷ [])
unfolding read_pages lines_in
pages-read n B t p =
    let ls = contents n B t in
    let c = page_count n t in
    let bytes = pages n B t in
    let e : length bytes / 4_860 ≡ c = rw (pages-length n B t p) (omega arith) in
    let small : c ≤ 999_999 = omega (arith, pages-most n t p.few) in
    let room : length ls ≤ 59 * c = rw (contents-length n B t) (pages-room n t) in
    let s : joined (59 * c) (λ k. line_in bytes k ∷ []) ≡ joined (59 * c) (λ k. get_or ls k empty_line ∷ []) = joined_same (59 * c) (λ k. line_in bytes k ∷ []) (λ k. get_or ls k empty_line ∷ []) (λ k l. ap (λ (x : List ℕ). x ∷ []) (pages-line n B t p small k l)) in
    rw (e, s, joined-list ls empty_line (59 * c), take_all (59 * c) ls room) (contents-entries n B t p (59 * c - length ls))
