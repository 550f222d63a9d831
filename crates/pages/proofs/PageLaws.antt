-- Pages: their lengths and number.
use Prim.Native.Nat.{◌*◌, ◌+◌, ◌-◌, ◌/◌, ◌<◌, ◌≤◌, suc, zero, ℕ}
use borrow.Author.Tests.{eq-eqb}
use lib.IntN.{nat_abs, ℤ}
use lib.ListN.{drop, get_or, length, length-append}
use mathlib.Core.Bool.{Bool, cond, false, true}
use mathlib.Core.List.{List, [], ◌++◌, ◌∷◌}
use mathlib.Core.Path.{◌∙◌, ◌≡◌, ap, refl}
use native.Mathlib.Omega.{arith}
use Rattle.integer.proofs.Parts.{zarith}
use Rattle.integer.proofs.RangeLaws.{within! }
use Rattle.integer.specs.Range.{Within}
use Rattle.model.specs.Box.{lower, upper}
use Rattle.model.specs.Limits.{max_bound, min_bound}
use Rattle.model.specs.Valid.{Between, ValidBox}
use Rattle.text.specs.Text.{texts}
use Rattle.semantics.specs.Probe.{byte_of, literal}
use Rattle.pages.specs.Page.{Paper, contents, empty_line, further_count, further_lines, implied, implies_one, joined, line_total, page, page_count, page_line, pages, passing, total, variable_lines}
use Rattle.pages.proofs.LineLaws.{Small, first-length, further-length, none, number-line-length, one, small-append, small-drop}
use Rattle.pages.proofs.PrintLaws.{Printed, printed-first, printed-further, printed-number, printed-spaces}

-- ---- texts of one length

pub texts-length : (w n : ℕ) (f : ℕ → List ℕ) → ((i : ℕ) → i < n → length (f i) ≡ w) → length (texts n f) ≡ n * w
unfolding texts
texts-length w zero f h = omega arith
texts-length w (suc n) f h =
    length-append (texts n f) (f n) ∙ rw (texts-length w n f (λ i l. h i (omega arith)), h n (omega arith)) (omega arith)

-- ---- the literals of a variable

pub one-length : (x : Bool) (q : ℕ) → length (cond x (q ∷ []) []) ≤ 1
one-length true q = omega arith
one-length false q = omega arith

one-small : (x : Bool) (q : ℕ) → q < 200_000 → Small (cond x (q ∷ []) [])
one-small true q h = one h none
one-small false q h = none

pub joined-most : {A : Type 0} (n : ℕ) (f : ℕ → List A) → ((i : ℕ) → length (f i) ≤ 1) → length (joined n f) ≤ n
unfolding joined
joined-most zero f h = omega arith
joined-most (suc n) f h = rw (length-append (joined n f) (f n)) (omega (arith, joined-most n f h, h n))

pub passing-length : (f : ℕ → Bool) (n : ℕ) → length (passing f n) ≤ n
unfolding passing
passing-length f n = joined-most n (λ q. cond (f q) (q ∷ []) []) (λ q. one-length (f q) q)

pub passing-small : (f : ℕ → Bool) (n : ℕ) → n ≤ 200_000 → Small (passing f n)
unfolding passing joined
passing-small f zero h = none
passing-small f (suc n) h = small-append (passing-small f n (omega arith)) (one-small (f n) n (omega arith))

pub implied-length : (n : ℕ) (t : List ℕ) (k : ℕ) → length (implied n t k) ≤ 2 * n
unfolding implied
implied-length n t k = passing-length (implies_one n t k) (2 * n)

pub implied-small : (n : ℕ) (t : List ℕ) (k : ℕ) → n ≤ 128 → Small (implied n t k)
unfolding implied
implied-small n t k h = passing-small (implies_one n t k) (2 * n) (omega arith)

-- ---- every line has 80 columns

-- every line of a list has 80 columns, of printed bytes
pub data Lines : List (List ℕ) → Type 0 where
  no_line : Lines []
  line : {l : List ℕ} {ls : List (List ℕ)} → length l ≡ 80 → Printed l → Lines ls → Lines (l ∷ ls)

pub lines-append : {s t : List (List ℕ)} → Lines s → Lines t → Lines (s ++ t)
lines-append no_line k = k
lines-append (line l g h) k = line l g (lines-append h k)

pub lines-joined : (n : ℕ) (f : ℕ → List (List ℕ)) → ((k : ℕ) → k < n → Lines (f k)) → Lines (joined n f)
unfolding joined
lines-joined zero f h = no_line
lines-joined (suc n) f h = lines-append (lines-joined n f (λ k l. h k (omega arith))) (h n (omega arith))

pub lines_at : {ls : List (List ℕ)} → Lines ls → (i : ℕ) → length (get_or ls i empty_line) ≡ 80
lines_at no_line i = refl
lines_at (line l g h) zero = l
lines_at (line l g h) (suc i) = lines_at h i

pub lines-print : {ls : List (List ℕ)} → Lines ls → (i : ℕ) → Printed (get_or ls i empty_line)
lines-print no_line i = printed-spaces 80
lines-print (line l g h) zero = g
lines-print (line l g h) (suc i) = lines-print h i

further-lines : (c : ℕ) (qs : List ℕ) → Small qs → Lines (further_lines c qs)
unfolding further_lines
further-lines zero qs h = no_line
further-lines (suc c) qs h = line (further-length qs h) (printed-further qs) (further-lines c (drop 8 qs) (small-drop 8 h))

variable-lines : (k : ℕ) (l u : ℤ) (qs : List ℕ) → k < 1_000_000 → nat_abs l < 1_000_000 → nat_abs u < 1_000_000 → Small qs → Lines (variable_lines k l u qs)
unfolding variable_lines
variable-lines k l u qs hk hl hu h =
    line (first-length k l u qs hk hl hu h) (printed-first k l u qs) (further-lines (further_count (length qs)) (drop 8 qs) (small-drop 8 h))

pub bound-small : (z : ℤ) → Between min_bound max_bound z → nat_abs z < 1_000_000
bound-small z h =
    let w : Within 32_768 z = within! 32_768 z (omega (zarith, h.above, h.below)) in
    omega (arith, w.abs)

-- a box that passes its checks can be printed
pub paper-valid : (n : ℕ) (B : List ℤ) → n ≤ 128 → ValidBox n B → Paper n B
paper-valid n B h v = record { few = h; len = v.len; range = v.range }

pub contents-lines : (n : ℕ) (B : List ℤ) (t : List ℕ) → Paper n B → Lines (contents n B t)
unfolding contents
contents-lines n B t p =
    lines-joined n (λ k. variable_lines k (lower B k) (upper B k) (implied n t k)) λ k h.
    variable-lines k (lower B k) (upper B k) (implied n t k) (omega (arith, p.few)) (bound-small (lower B k) (p.range (2 * k))) (bound-small (upper B k) (p.range (2 * k + 1))) (implied-small n t k p.few)

-- ---- pages

pub page-line-length : (ls : List (List ℕ)) → Lines ls → (p : ℕ) → p < 999_999 → (i : ℕ) → length (page_line ls p i) ≡ 80
unfolding page_line
page-line-length ls h p l zero = number-line-length _ (omega arith)
page-line-length ls h p l (suc i) = lines_at h (59 * p + i)

pub page-line-print : (ls : List (List ℕ)) → Lines ls → (p i : ℕ) → Printed (page_line ls p i)
unfolding page_line
page-line-print ls h p zero = printed-number _
page-line-print ls h p (suc i) = lines-print h (59 * p + i)

pub page-length : (ls : List (List ℕ)) → Lines ls → (p : ℕ) → p < 999_999 → length (page ls p) ≡ 4_860
unfolding page
page-length ls h p l =
    texts-length 81 60 (λ i. page_line ls p i ++ (10 ∷ [])) λ i _.
    length-append (page_line ls p i) (10 ∷ []) ∙ rw (page-line-length ls h p l i)

-- ---- the number of lines and pages

pub total-joined : {A : Type 0} (n : ℕ) (f : ℕ → List A) (g : ℕ → ℕ) → ((k : ℕ) → k < n → length (f k) ≡ g k) → length (joined n f) ≡ total n g
unfolding joined total
total-joined zero f g h = refl
total-joined (suc n) f g h =
    length-append (joined n f) (f n) ∙ rw (total-joined n f g (λ k l. h k (omega arith)), h n (omega arith))

pub total-most : (n m : ℕ) (g : ℕ → ℕ) → ((k : ℕ) → g k ≤ m) → total n g ≤ n * m
unfolding total
total-most zero m g h = omega arith
total-most (suc n) m g h = omega (arith, total-most n m g h, h n)

pub further-count : (c : ℕ) (qs : List ℕ) → length (further_lines c qs) ≡ c
unfolding further_lines
further-count zero qs = refl
further-count (suc c) qs = ap suc (further-count c (drop 8 qs))

-- the lines that the table alone counts are the lines
pub contents-length : (n : ℕ) (B : List ℤ) (t : List ℕ) → length (contents n B t) ≡ line_total n t
unfolding contents line_total variable_lines
contents-length n B t =
    total-joined n (λ k. variable_lines k (lower B k) (upper B k) (implied n t k)) (λ k. 1 + further_count (length (implied n t k))) λ k h.
    let e = further-count (further_count (length (implied n t k))) (drop 8 (implied n t k)) in
    omega (arith, e)

pub line-most : (n : ℕ) (t : List ℕ) (k : ℕ) → n ≤ 128 → 1 + further_count (length (implied n t k)) ≤ 32
unfolding further_count
line-most n t k h = omega (arith, implied-length n t k)

-- at most 4,096 lines, and 70 pages
pub lines-most : (n : ℕ) (t : List ℕ) → n ≤ 128 → line_total n t ≤ 4_096
unfolding line_total
lines-most n t h = omega (arith, total-most n 32 (λ k. 1 + further_count (length (implied n t k))) (λ k. line-most n t k h))

pub pages-most : (n : ℕ) (t : List ℕ) → n ≤ 128 → page_count n t ≤ 70
unfolding page_count
pages-most n t h = omega (arith, lines-most n t h)

-- there is room for every line
pub pages-room : (n : ℕ) (t : List ℕ) → line_total n t ≤ 59 * page_count n t
unfolding page_count
pages-room n t = omega arith

-- the whole is 4,860 bytes for each page
pub pages-length : (n : ℕ) (B : List ℤ) (t : List ℕ) → Paper n B → length (pages n B t) ≡ page_count n t * 4_860
unfolding pages
pages-length n B t p =
    texts-length 4_860 (page_count n t) (page (contents n B t)) λ i h.
    page-length (contents n B t) (contents-lines n B t p) i (omega (arith, pages-most n t p.few))

-- ---- 70 pages are needed where 128 variables imply everything

passing-all : (f : ℕ → Bool) (n : ℕ) → ((q : ℕ) → q < n → f q ≡ true) → length (passing f n) ≡ n
unfolding passing joined
passing-all f zero h = refl
passing-all f (suc n) h =
    length-append (passing f n) (cond (f n) (n ∷ []) []) ∙ rw (passing-all f n (λ q l. h q (omega arith)), h n (omega arith)) (omega arith)

total-same : (n m : ℕ) (g : ℕ → ℕ) → ((k : ℕ) → k < n → g k ≡ m) → total n g ≡ n * m
unfolding total
total-same zero m g h = omega arith
total-same (suc n) m g h = rw (total-same n m g (λ k l. h k (omega arith)), h n (omega arith)) (omega arith)

pub pages-full : (t : List ℕ) → ((i : ℕ) → i < 65_536 → get_or t i 0 ≡ 1) → page_count 128 t ≡ 70
unfolding page_count line_total further_count implied implies_one byte_of literal
pages-full t h =
    let all : (k : ℕ) → k < 128 → length (implied 128 t k) ≡ 256 = λ k l. passing-all (implies_one 128 t k) 256 λ q m. eq-eqb (get_or t ((2 * k + 1) * 256 + q) 0) 1 (h ((2 * k + 1) * 256 + q) (omega arith)) in
    let lines : total 128 (λ k. 1 + (length (implied 128 t k) - 1) / 8) ≡ 128 * 32 = total-same 128 32 (λ k. 1 + (length (implied 128 t k) - 1) / 8) (λ k l. omega (arith, all k l)) in
    rw lines
