-- What the loops that count and write pages go by: the literals that are left, lines one after the other, and that all of them are the
-- pages. By induction on the lists.
use Prim.Native.Nat.{◌%◌, ◌*◌, ◌+◌, ◌-◌, ◌/◌, ◌<◌, ◌≤◌, suc, zero, ℕ}
use borrow.Author.Tests.{eq-eqb, ne_eqb}
use lib.Dec.{eqb}
use lib.IntN.{nat_abs, ℤ}
use lib.ListN.{get_or-append, get_or-eq_default, drop, drop_of_length-le, get_or, length, length-append, length-drop, length-replicate, length-take, replicate, take}
use lib.Seq.{drop-append_seam, drop-drop, drop-nil, get_or-drop, get_or-take, length-take-le, take-add, take_all}
use mathlib.Core.Bool.{Bool, cond, false, true}
use mathlib.Core.List.{List, [], ◌++◌, ◌∷◌, append_assoc, append-nil}
use mathlib.Core.Path.{◌∙◌, ◌≡◌, ap, refl, sym}
use native.Mathlib.Decide.{dec_lt, ℕ_discrete}
use native.Mathlib.Nat.{add-suc, add-zero, mul-le-mul_right}
use native.Mathlib.Numerals.{add-one}
use native.Mathlib.Omega.{arith}
use Rattle.model.specs.Box.{lower, upper}
use Rattle.semantics.specs.Probe.{byte_of, literal}
use Rattle.text.specs.Decimal.{decimal, signed}
use Rattle.text.specs.Text.{Wrote, texts}
use Rattle.text.proofs.TextLaws.{texts-add, texts-same}
use Rattle.pages.specs.Page.{Paper, contents, empty_line, first_line, further_count, further_line, further_lines, implied, implies_one, joined, left, line_total, literal_text, literals, newline, number_line, page, page_count, page_line, pages, passing, right, slots, spaces, total, variable_lines}
use Rattle.pages.specs.Writing.{fields, filled, heading, is_one, ones_from, passing_from, sheet, start}
use Rattle.pages.proofs.FieldLaws.{signed-length}
use Rattle.pages.proofs.LineLaws.{number-line-length}
use Rattle.pages.proofs.ReadingLaws.{joined_same}
use Rattle.pages.proofs.PageLaws.{Lines, contents-length, further-count, joined-most, line, lines_at, no_line, one-length, pages-length, pages-room, total-joined}

-- ---- counting

pub total-more : (f : ℕ → ℕ) (n : ℕ) → total (n + 1) f ≡ total n f + f n
unfolding total
total-more f n = rw add-one

-- ---- the literals that are left

joined-add : {A : Type 0} (a b : ℕ) (f : ℕ → List A) → joined (a + b) f ≡ joined a f ++ joined b (λ i. f (a + i))
unfolding joined
joined-add a zero f = rw (add-zero, append-nil)
joined-add a (suc b) f = rw (add-suc, joined-add a b f, append_assoc)

-- where the scan stands at q: q is the next literal, or it is none
passing_step : (f : ℕ → Bool) (q r : ℕ) → passing_from f q (suc r) ≡ cond (f q) (q ∷ []) [] ++ passing_from f (q + 1) r
unfolding passing_from joined
passing_step f q r =
    let g : ℕ → List ℕ = λ i. cond (f i) (i ∷ []) [] in
    let e : suc r ≡ 1 + r = omega arith in
    let z : q + 0 ≡ q = omega arith in
    let same : (i : ℕ) → i < r → g (q + (1 + i)) ≡ g (q + 1 + i) = λ i _. let d : q + (1 + i) ≡ q + 1 + i = omega arith in ap g d in
    ap (λ (m : ℕ). joined m (λ i. g (q + i))) e ∙ joined-add 1 r (λ i. g (q + i)) ∙ rw (z, joined_same r (λ i. g (q + (1 + i))) (λ i. g (q + 1 + i)) same)

ones_step : (part : List ℕ) (q : ℕ) → q < length part → ones_from part q ≡ cond (is_one part q) (q ∷ []) [] ++ ones_from part (q + 1)
unfolding ones_from
ones_step part q h =
    let e : length part - q ≡ suc (length part - (q + 1)) = omega arith in
    rw e (passing_step (is_one part) q (length part - (q + 1)))

pub ones-here : (part : List ℕ) (q : ℕ) → q < length part → get_or part q 0 ≡ 1 → ones_from part q ≡ q ∷ ones_from part (q + 1)
unfolding is_one
ones-here part q h e = ones_step part q h ∙ rw (eq-eqb (get_or part q 0) 1 e)

pub ones-not : (part : List ℕ) (q : ℕ) → q < length part → (get_or part q 0 ≡ 1 → ⊥) → ones_from part q ≡ ones_from part (q + 1)
unfolding is_one
ones-not part q h e = ones_step part q h ∙ rw (ne_eqb (get_or part q 0) 1 e)

pub ones-end : (part : List ℕ) (q : ℕ) → length part ≤ q → ones_from part q ≡ []
unfolding ones_from passing_from joined
ones-end part q h = let e : length part - q ≡ 0 = omega arith in rw e

-- no more than there are bytes left
pub ones-length : (part : List ℕ) (q : ℕ) → length (ones_from part q) ≤ length part - q
unfolding ones_from passing_from
ones-length part q = joined-most (length part - q) (λ i. cond (is_one part (q + i)) ((q + i) ∷ []) []) (λ i. one-length (is_one part (q + i)) (q + i))

-- variable k's part of the table has its literals
pub ones-implied : (n : ℕ) (t : List ℕ) (k : ℕ) → length t ≡ 4 * (n * n) → k < n → ones_from (take (2 * n) (drop ((2 * k + 1) * (2 * n)) t)) 0 ≡ implied n t k
unfolding ones_from passing_from implied passing implies_one is_one byte_of literal
ones-implied n t k len h =
    let at = (2 * k + 1) * (2 * n) in
    let part = take (2 * n) (drop at t) in
    let room : at + 2 * n ≤ length t = omega (arith, mul-le-mul_right {m = 2 * k + 2} {n = 2 * n} (2 * n) (omega arith)) in
    let whole : length part - 0 ≡ 2 * n = rw (length-take-le (2 * n) (drop at t) (rw (length-drop at t) (omega arith))) (omega arith) in
    let same : (i : ℕ) → i < 2 * n → cond (eqb (get_or part (0 + i) 0) 1) ((0 + i) ∷ []) [] ≡ cond (eqb (get_or t (at + i) 0) 1) (i ∷ []) [] = λ i l. let z : 0 + i ≡ i = omega arith in rw (z, get_or-take (2 * n) (drop at t) i 0 l, get_or-drop at t i 0) in
    rw whole (joined_same (2 * n) (λ i. cond (eqb (get_or part (0 + i) 0) 1) ((0 + i) ∷ []) []) (λ i. cond (eqb (get_or t (at + i) 0) 1) (i ∷ []) []) same)

-- ---- the literals of a line

pub slots-more : (j : ℕ) (qs : List ℕ) → slots (j + 1) qs ≡ slots j qs ++ slots 1 (drop j qs)
unfolding slots
slots-more zero qs = refl
slots-more (suc j) [] = let e : suc j + 1 ≡ suc (j + 1) = omega arith in rw (e, slots-more j []) (rw (drop-nil j))
slots-more (suc j) (q ∷ qs) = let e : suc j + 1 ≡ suc (j + 1) = omega arith in rw (e, slots-more j qs, append_assoc)

pub slots-here : (q : ℕ) (qs : List ℕ) → slots 1 (q ∷ qs) ≡ left 6 (literal_text q)
unfolding slots
slots-here q qs = append-nil (left 6 (literal_text q))

pub slots-past : slots 1 [] ≡ spaces 6
unfolding slots
slots-past = append-nil (spaces 6)

pub drop-next : (qs : List ℕ) (j q : ℕ) (rest : List ℕ) → drop j qs ≡ q ∷ rest → drop (j + 1) qs ≡ rest
drop-next qs j q rest e = sym (drop-drop 1 j qs) ∙ ap (drop 1) e

-- ---- the first 23 columns

-- a space before a field is a field of one column more
right-space : (w : ℕ) (text : List ℕ) → length text ≤ w → right (suc w) text ≡ 32 ∷ right w text
unfolding right
right-space w text h = let e : suc w - length text ≡ suc (w - length text) = omega arith in rw e

pub first-fields : (k : ℕ) (l u : ℤ) (qs : List ℕ) → nat_abs l < 1_000_000 → nat_abs u < 1_000_000 → first_line k l u qs ≡ fields k l u ++ literals qs
unfolding first_line fields
first-fields k l u qs hl hu =
    rw (right-space 7 (signed l) (signed-length 5 l hl), right-space 7 (signed u) (signed-length 5 u hu)) (simp append_assoc)

-- ---- lines one after the other

pub sheet-one : (c : ℕ) (l : List ℕ) → sheet c (l ∷ []) ≡ heading c ++ (l ++ newline)
unfolding sheet
sheet-one c l = append-nil (heading c ++ (l ++ newline))

pub sheet-append : (c : ℕ) (s t : List (List ℕ)) → sheet c (s ++ t) ≡ sheet c s ++ sheet (c + length s) t
unfolding sheet
sheet-append c [] t = let e : c + 0 ≡ c = omega arith in rw e
sheet-append c (l ∷ s) t =
    let e : c + suc (length s) ≡ c + 1 + length s = omega arith in
    rw (sheet-append (c + 1) s t, e) (sym (append_assoc (heading c ++ (l ++ newline)) (sheet (c + 1) s) (sheet (c + 1 + length s) t)))

-- one line more, as a loop writes it
pub sheet-more : (c : ℕ) (s : List (List ℕ)) (l : List ℕ) → sheet c (s ++ (l ∷ [])) ≡ sheet c s ++ (heading (c + length s) ++ (l ++ newline))
sheet-more c s l = sheet-append c s (l ∷ []) ∙ rw (sheet-one (c + length s) l)

-- ---- where a line begins

-- a line ends where the next begins
pub heading-ends : (c : ℕ) → c ≤ 58_000_000 → start c + length (heading c) + 81 ≡ start (c + 1)
unfolding heading start
heading-ends c h = go (ℕ_discrete (c % 59) 0)
  where
    go : Dec (c % 59 ≡ 0) → 81 * (c + (c + 58) / 59) + length (cond (eqb (c % 59) 0) (number_line (c / 59) ++ newline) []) + 81 ≡ 81 * (c + 1 + (c + 1 + 58) / 59)
    go (yes e) =
        let len : length (number_line (c / 59) ++ newline) ≡ 81 = length-append (number_line (c / 59)) newline ∙ rw (number-line-length (c / 59) (omega arith)) in
        rw (eq-eqb (c % 59) 0 e, len) (omega arith)
    go (no e) = rw (ne_eqb (c % 59) 0 e) (omega arith)

pub sheet-ends : (c : ℕ) {ls : List (List ℕ)} → Lines ls → c + length ls ≤ 58_000_000 → start c + length (sheet c ls) ≡ start (c + length ls)
unfolding sheet
sheet-ends c no_line h = let e : c + 0 ≡ c = omega arith in rw e (omega arith)
sheet-ends c (line {l} {ls} e p r) h =
    let s = sheet-ends (c + 1) r (omega arith) in
    let d : c + suc (length ls) ≡ c + 1 + length ls = omega arith in
    rw (d, ← s) (simp length-append (omega (arith, e, heading-ends c (omega arith))))

-- ---- all lines are the pages

texts-front : (c : ℕ) (f : ℕ → List ℕ) → texts (suc c) f ≡ f 0 ++ texts c (λ i. f (1 + i))
unfolding texts
texts-front c f = let e : suc c ≡ 1 + c = omega arith in ap (λ (m : ℕ). texts m f) e ∙ texts-add 1 c f

-- the list's lines by their places
unfoldable lines_of : List (List ℕ) → List ℕ
lines_of xs = texts (length xs) (λ i. get_or xs i empty_line ++ newline)

lines-front : (x : List ℕ) (xs : List (List ℕ)) → lines_of (x ∷ xs) ≡ (x ++ newline) ++ lines_of xs
unfolding lines_of
lines-front x xs =
    let next : (i : ℕ) → i < length xs → get_or (x ∷ xs) (1 + i) empty_line ++ newline ≡ get_or xs i empty_line ++ newline = λ i _. let e : 1 + i ≡ suc i = omega arith in rw e in
    texts-front (length xs) (λ i. get_or (x ∷ xs) i empty_line ++ newline) ∙ rw (texts-same (length xs) (λ i. get_or (x ∷ xs) (1 + i) empty_line ++ newline) (λ i. get_or xs i empty_line ++ newline) next)

-- no page begins among the lines of one page but the first
sheet-within : (c j : ℕ) (xs : List (List ℕ)) → 0 < j → j + length xs ≤ 59 → sheet (59 * c + j) xs ≡ lines_of xs
unfolding sheet heading lines_of texts
sheet-within c j [] some h = refl
sheet-within c j (x ∷ xs) some h =
    let m : (59 * c + j) % 59 ≡ j = omega arith in
    let d : 59 * c + j + 1 ≡ 59 * c + (j + 1) = omega arith in
    rw (m, ne_eqb j 0 (λ e. omega arith), d, sheet-within c (j + 1) xs (omega arith) (omega arith)) (sym (lines-front x xs))

-- the lines of a page are its number and 59 lines
page-lines : (ls : List (List ℕ)) (c : ℕ) (ys : List (List ℕ)) → length ys ≡ 59 → ((i : ℕ) → i < 59 → get_or ys i empty_line ≡ get_or ls (59 * c + i) empty_line) → page ls c ≡ (number_line c ++ newline) ++ lines_of ys
unfolding page page_line lines_of
page-lines ls c ys len e =
    let next : (i : ℕ) → i < 59 → page_line ls c (1 + i) ++ newline ≡ get_or ys i empty_line ++ newline = λ i l. let d : 1 + i ≡ suc i = omega arith in rw (d, e i l) in
    texts-front 59 (λ i. page_line ls c i ++ newline) ∙ rw (len, texts-same 59 (λ i. page_line ls c (1 + i) ++ newline) (λ i. get_or ys i empty_line ++ newline) next)

sheet-lines : (c : ℕ) (ys : List (List ℕ)) → length ys ≡ 59 → sheet (59 * c) ys ≡ (number_line c ++ newline) ++ lines_of ys
unfolding sheet heading
sheet-lines c [] len = absurd (let z : ⊥ = omega arith in z)
sheet-lines c (y ∷ ys) len =
    let m : 59 * c % 59 ≡ 0 = omega arith in
    let d : 59 * c / 59 ≡ c = omega arith in
    rw (m, d, sheet-within c 1 ys (omega arith) (omega arith), lines-front y ys) (append_assoc (number_line c ++ newline) (y ++ newline) (lines_of ys))

page-sheet : (ls : List (List ℕ)) (c : ℕ) → 59 * suc c ≤ length ls → page ls c ≡ sheet (59 * c) (take 59 (drop (59 * c) ls))
page-sheet ls c h =
    let ys = take 59 (drop (59 * c) ls) in
    let len = length-take-le 59 (drop (59 * c) ls) (rw (length-drop (59 * c) ls) (omega arith)) in
    page-lines ls c ys len (λ i l. get_or-take 59 (drop (59 * c) ls) i empty_line l ∙ get_or-drop (59 * c) ls i empty_line) ∙ sym (sheet-lines c ys len)

texts-sheet : (ls : List (List ℕ)) (c : ℕ) → 59 * c ≤ length ls → texts c (page ls) ≡ sheet 0 (take (59 * c) ls)
unfolding texts sheet
texts-sheet ls zero h = refl
texts-sheet ls (suc c) h =
    let e : 59 * suc c ≡ 59 * c + 59 = omega arith in
    let len : 0 + length (take (59 * c) ls) ≡ 59 * c = rw (length-take-le (59 * c) ls (omega arith)) (omega arith) in
    rw (e, take-add (59 * c) 59 ls, sheet-append 0 (take (59 * c) ls) (take 59 (drop (59 * c) ls)), len, texts-sheet ls c (omega arith), page-sheet ls c (omega arith))

-- empty lines behind the list are what is read past its end
get_d-filled : (ls : List (List ℕ)) (k i : ℕ) → get_or (ls ++ replicate k empty_line) i empty_line ≡ get_or ls i empty_line
get_d-filled [] zero i = refl
get_d-filled [] (suc k) zero = refl
get_d-filled [] (suc k) (suc i) = get_d-filled [] k i
get_d-filled (l ∷ ls) k zero = refl
get_d-filled (l ∷ ls) k (suc i) = get_d-filled ls k i

line-filled : (ls : List (List ℕ)) (k p i : ℕ) → page_line (ls ++ replicate k empty_line) p i ≡ page_line ls p i
unfolding page_line
line-filled ls k p zero = refl
line-filled ls k p (suc i) = get_d-filled ls k (59 * p + i)

page-filled : (ls : List (List ℕ)) (k p : ℕ) → page (ls ++ replicate k empty_line) p ≡ page ls p
unfolding page
page-filled ls k p = texts-same 60 (λ i. page_line (ls ++ replicate k empty_line) p i ++ newline) (λ i. page_line ls p i ++ newline) (λ i _. ap (λ (l : List ℕ). l ++ newline) (line-filled ls k p i))

-- all lines, and the empty ones that fill the last page
pub pages-sheet : (n : ℕ) (B : List ℤ) (t : List ℕ) → pages n B t ≡ sheet 0 (contents n B t ++ replicate (filled (line_total n t) - line_total n t) empty_line)
unfolding pages page_count filled
pages-sheet n B t =
    let ls = contents n B t in
    let c = (line_total n t + 58) / 59 in
    let k = 59 * c - line_total n t in
    let all = ls ++ replicate k empty_line in
    let len : length all ≡ 59 * c = simp (length-append, length-replicate) (omega (arith, contents-length n B t)) in
    texts-same c (page ls) (page all) (λ p _. sym (page-filled ls k p)) ∙ texts-sheet all c (omega arith) ∙ ap (sheet 0) (take_all (59 * c) all (omega arith))

-- ---- the lines of a variable

-- one further line more, as a loop writes it
pub further-more : (c : ℕ) (qs : List ℕ) → further_lines (c + 1) qs ≡ further_lines c qs ++ (further_line (drop (8 * c) qs) ∷ [])
unfolding further_lines
further-more zero qs = refl
further-more (suc c) qs =
    let e : suc c + 1 ≡ suc (c + 1) = omega arith in
    let d : 8 + 8 * c ≡ 8 * suc c = omega arith in
    rw (e, further-more c (drop 8 qs), drop-drop (8 * c) 8 qs, d)

pub variable-count : (k : ℕ) (l u : ℤ) (qs : List ℕ) → length (variable_lines k l u qs) ≡ 1 + further_count (length qs)
unfolding variable_lines
variable-count k l u qs = omega (arith, further-count (further_count (length qs)) (drop 8 qs))

-- ---- the lent buffer

-- once the pages are written from its beginning, the buffer is the pages
pub wrote-pages : (n : ℕ) (B : List ℤ) (t : List ℕ) → Paper n B → {old new : List ℕ} {next : ℕ} → length old ≡ page_count n t * 4_860 → Wrote old 0 (pages n B t) next new → new ≡ pages n B t
wrote-pages n B t p {old} {new} {next} len w =
    let e : length old ≤ next = omega (arith, w.end, len, pages-length n B t p) in
    w.bytes ∙ rw (drop_of_length-le old e) (append-nil (pages n B t))
