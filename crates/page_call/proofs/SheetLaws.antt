-- All lines, written one variable after the other: what each turn adds, that there is room for it, and that the whole is the pages.
use Prim.Native.Nat.{◌*◌, ◌+◌, ◌-◌, ◌/◌, ◌<◌, ◌≤◌, suc, zero, ℕ}
use lib.IntN.{ℤ}
use lib.ListN.{drop, length, length-replicate, length-take, replicate, replicate-append-replicate, take}
use lib.Seq.{drop-drop}
use mathlib.Core.List.{List, ◌++◌}
use mathlib.Core.Path.{◌∙◌, ◌≡◌, ap, sym}
use native.Mathlib.Decide.{ℕ_discrete}
use native.Mathlib.Nat.{mul-le-mul_right}
use native.Mathlib.Numerals.{add-one}
use native.Mathlib.Omega.{arith}
use Rattle.integer.proofs.Parts.{zarith}
use Rattle.integer.proofs.RangeLaws.{within! }
use Rattle.integer.specs.Range.{Within}
use Rattle.model.specs.Box.{at, lower, upper}
use Rattle.text.specs.Text.{Wrote}
use Rattle.text.proofs.TextLaws.{◌⨾◌}
use Rattle.pages.specs.Page.{Paper, contents, empty_line, first_line, further_count, further_line, further_lines, implied, joined, line_total, newline, page_count, pages, total, variable_lines}
use Rattle.pages.specs.Writing.{filled, heading, ones_from, sheet, start}
use Rattle.pages.proofs.PageLaws.{contents-length, further-count, line-most, lines-most, pages-room, total-joined, total-most}
use Rattle.pages.proofs.WritingLaws.{further-more, ones-implied, pages-sheet, sheet-append, sheet-more, total-more, variable-count, wrote-pages}
use Rattle.page_line.proofs.MadeLaws.{as-end, as-text}

-- ---- the part of the table that is a variable's

pub part-inside : (n k : ℕ) → k < n → (2 * k + 1) * (2 * n) + 2 * n ≤ 4 * (n * n)
part-inside n k h = omega (arith, mul-le-mul_right {m = 2 * k + 2} {n = 2 * n} (2 * n) (omega arith))

pub table-small : (n : ℕ) → n ≤ 128 → 4 * (n * n) ≤ 65_536
table-small n h = omega (arith, mul-le-mul_right {m = n} {n = 128} n h)

-- ---- the lines that are counted

-- the lines of a variable, and of those below it
abbrev pub lines_of : ℕ → List ℕ → ℕ → ℕ
lines_of n t k = 1 + further_count (length (implied n t k))

pub counted-more : (n : ℕ) (t : List ℕ) (k lines count : ℕ) → length t ≡ 4 * (n * n) → k < n → lines ≡ total k (lines_of n t) → count ≡ further_count (length (ones_from (take (2 * n) (drop ((2 * k + 1) * (2 * n)) t)) 0)) → lines + (1 + count) ≡ total (k + 1) (lines_of n t)
counted-more n t k lines count len h e c =
    let d : count ≡ further_count (length (implied n t k)) = c ∙ ap (λ (qs : List ℕ). further_count (length qs)) (ones-implied n t k len h) in
    rw (total-more (lines_of n t) k, e, d)

pub counted-most : (n : ℕ) (t : List ℕ) (k : ℕ) → n ≤ 128 → total k (lines_of n t) ≤ k * 32
counted-most n t k h = total-most k 32 (lines_of n t) (λ j. line-most n t j h)

total-upto : (n : ℕ) (g : ℕ → ℕ) (k : ℕ) → k < n → total k g + g k ≤ total n g
unfolding total
total-upto zero g k h = absurd (let z : ⊥ = omega arith in z)
total-upto (suc n) g k h = go (ℕ_discrete k n) (total-upto n g k)
  where
    go : Dec (k ≡ n) → (k < n → total k g + g k ≤ total n g) → total k g + g k ≤ total n g + g n
    go (yes e) r = rw e (omega arith)
    go (no e) r = omega (arith, r (omega arith))

-- there is room for the lines of the next variable
pub counted-upto : (n : ℕ) (t : List ℕ) (k : ℕ) → k < n → total k (lines_of n t) + lines_of n t k ≤ line_total n t
unfolding line_total
counted-upto n t k h = total-upto n (lines_of n t) k h

pub start-most : (c pages : ℕ) → c ≤ 59 * pages → start c ≤ pages * 4_860
unfolding start
start-most c pages h = omega arith

pub start-mono : (c d : ℕ) → c ≤ d → start c ≤ start d
unfolding start
start-mono c d h = omega arith

-- ---- the lines of a variable

pub further-step : {old mid new : List ℕ} (c : ℕ) (qs left : List ℕ) (i : ℕ) → left ≡ drop (8 + 8 * i) qs → Wrote old (start c) (sheet c (further_lines i (drop 8 qs))) (start (c + i)) mid → Wrote mid (start (c + i)) (heading (c + i) ++ (further_line left ++ newline)) (start (c + i + 1)) new → Wrote old (start c) (sheet c (further_lines (i + 1) (drop 8 qs))) (start (c + (i + 1))) new
further-step c qs left i e v w =
    let lines = further_lines i (drop 8 qs) in
    let here : c + length lines ≡ c + i = omega (arith, further-count i (drop 8 qs)) in
    let d : c + i + 1 ≡ c + (i + 1) = omega arith in
    let line : further_line (drop (8 * i) (drop 8 qs)) ≡ further_line left = ap further_line (drop-drop (8 * i) 8 qs ∙ sym e) in
    let text : sheet c (further_lines (i + 1) (drop 8 qs)) ≡ sheet c lines ++ (heading (c + i) ++ (further_line left ++ newline)) = ap (sheet c) (further-more i (drop 8 qs)) ∙ sheet-more c lines (further_line (drop (8 * i) (drop 8 qs))) ∙ rw (here, line) in
    as-end (ap start d) (as-text (sym text) (v ⨾ w))

pub variable-written : {old mid new : List ℕ} {end : ℕ} (c k : ℕ) (l u : ℤ) (qs : List ℕ) (i : ℕ) → i ≡ further_count (length qs) → Wrote old (start c) (heading c ++ (first_line k l u qs ++ newline)) (start (c + 1)) mid → Wrote mid (start (c + 1)) (sheet (c + 1) (further_lines i (drop 8 qs))) end new → Wrote old (start c) (sheet c (variable_lines k l u qs)) end new
unfolding sheet variable_lines
variable-written c k l u qs i e v w = as-text (rw e) (v ⨾ w)

pub left-next : (qs left after : List ℕ) (i : ℕ) → left ≡ drop (8 + 8 * i) qs → after ≡ drop 8 left → after ≡ drop (8 + 8 * (i + 1)) qs
left-next qs left after i e a =
    let d : 8 + 8 * i + 8 ≡ 8 + 8 * (i + 1) = omega arith in
    a ∙ ap (drop 8) e ∙ drop-drop 8 (8 + 8 * i) qs ∙ ap (λ (m : ℕ). drop m qs) d

-- ---- the empty lines

pub empty-step : {old mid new : List ℕ} (c next : ℕ) → c ≤ next → Wrote old (start c) (sheet c (replicate (next - c) empty_line)) (start next) mid → Wrote mid (start next) (heading next ++ (empty_line ++ newline)) (start (next + 1)) new → Wrote old (start c) (sheet c (replicate (next + 1 - c) empty_line)) (start (next + 1)) new
empty-step c next h v w =
    let d : next + 1 - c ≡ next - c + 1 = omega arith in
    let here : c + length (replicate (next - c) empty_line) ≡ next = rw (length-replicate (next - c) empty_line) (omega arith) in
    let text : sheet c (replicate (next + 1 - c) empty_line) ≡ sheet c (replicate (next - c) empty_line) ++ (heading next ++ (empty_line ++ newline)) = rw (d, ← replicate-append-replicate (next - c) 1 empty_line, sheet-more c (replicate (next - c) empty_line) empty_line, here) in
    as-text (sym text) (v ⨾ w)

-- ---- all of them

abbrev pub lines_upto : ℕ → List ℤ → List ℕ → ℕ → List (List ℕ)
lines_upto n B t k = joined k (λ j. variable_lines j (lower B j) (upper B j) (implied n t j))

upto-length : (n : ℕ) (B : List ℤ) (t : List ℕ) (k : ℕ) → length (lines_upto n B t k) ≡ total k (lines_of n t)
upto-length n B t k = total-joined k (λ j. variable_lines j (lower B j) (upper B j) (implied n t j)) (lines_of n t) (λ j _. variable-count j (lower B j) (upper B j) (implied n t j))

pub upto_step : {old mid new : List ℕ} {next : ℕ} (n : ℕ) (B : List ℤ) (t : List ℕ) (k line : ℕ) → length t ≡ 4 * (n * n) → k < n → line ≡ total k (lines_of n t) → Wrote old 0 (sheet 0 (lines_upto n B t k)) (start line) mid → Wrote mid (start line) (sheet line (variable_lines k (lower B k) (upper B k) (ones_from (take (2 * n) (drop ((2 * k + 1) * (2 * n)) t)) 0))) next new → Wrote old 0 (sheet 0 (lines_upto n B t (k + 1))) next new
unfolding joined
upto_step n B t k line len h e v w =
    let lines = variable_lines k (lower B k) (upper B k) (implied n t k) in
    let here : 0 + length (lines_upto n B t k) ≡ line = rw (upto-length n B t k, e) (omega arith) in
    let text : sheet 0 (lines_upto n B t (k + 1)) ≡ sheet 0 (lines_upto n B t k) ++ sheet line lines = rw add-one (sheet-append 0 (lines_upto n B t k) lines ∙ rw here) in
    as-text (sym text) (v ⨾ as-text (ap (λ (qs : List ℕ). sheet line (variable_lines k (lower B k) (upper B k) qs)) (ones-implied n t k len h)) w)

pub all-written : {old mid new : List ℕ} {next : ℕ} (n : ℕ) (B : List ℤ) (t : List ℕ) (line : ℕ) → Paper n B → length old ≡ page_count n t * 4_860 → line ≡ line_total n t → Wrote old 0 (sheet 0 (lines_upto n B t n)) (start line) mid → Wrote mid (start line) (sheet line (replicate (filled line - line) empty_line)) next new → new ≡ pages n B t
unfolding contents
all-written n B t line p room e v w =
    let here : 0 + length (contents n B t) ≡ line = rw (contents-length n B t, e) (omega arith) in
    let text : pages n B t ≡ sheet 0 (contents n B t) ++ sheet line (replicate (filled line - line) empty_line) = pages-sheet n B t ∙ sheet-append 0 (contents n B t) (replicate (filled (line_total n t) - line_total n t) empty_line) ∙ rw (here, ← e) in
    wrote-pages n B t p room (as-text (sym text) (v ⨾ w))

pub paper-within : {n : ℕ} {B : List ℤ} → Paper n B → (i : ℕ) → Within 32_768 (at B i)
paper-within {n} {B} p i = let h = p.range i in within! 32_768 (at B i) (omega (zarith, h.above, h.below))

-- ---- the part as code cuts it

abbrev pub part_of : ℕ → List ℕ → ℕ → List ℕ
part_of n t k = take ((2 * k + 1) * (2 * n) + 2 * n - (2 * k + 1) * (2 * n)) (drop ((2 * k + 1) * (2 * n)) t)

part-is : (n : ℕ) (t : List ℕ) (k : ℕ) → length t ≡ 4 * (n * n) → k < n → ones_from (part_of n t k) 0 ≡ implied n t k
part-is n t k len h =
    let e : (2 * k + 1) * (2 * n) + 2 * n - (2 * k + 1) * (2 * n) ≡ 2 * n = omega arith in
    rw e (ones-implied n t k len h)

pub part_length : (n : ℕ) (t : List ℕ) (k : ℕ) → n ≤ 128 → length (part_of n t k) ≤ 256
part_length n t k h = simp length-take (omega arith)

-- there is room for the next variable's lines
pub next-room : (n : ℕ) (t : List ℕ) (k line : ℕ) → n ≤ 128 → length t ≡ 4 * (n * n) → k < n → line ≡ total k (lines_of n t) → (line + 1 + further_count (length (ones_from (part_of n t k) 0)) ≤ 4_130) × (start (line + 1 + further_count (length (ones_from (part_of n t k) 0))) ≤ page_count n t * 4_860)
next-room n t k line few len h e =
    let upto = counted-upto n t k h in
    let room = pages-room n t in
    rw (part-is n t k len h) (omega (arith, upto, lines-most n t few, e), start-most _ (page_count n t) (omega (arith, upto, room, e)))

-- and for the empty ones
pub fill-room : (n : ℕ) (t : List ℕ) (line : ℕ) → n ≤ 128 → line ≡ line_total n t → (line ≤ 4_130) × (start (filled line) ≤ page_count n t * 4_860)
unfolding filled page_count
fill-room n t line few e = (omega (arith, lines-most n t few), start-most _ ((line_total n t + 58) / 59) (omega (arith, e)))

pub upto_next : {old mid new : List ℕ} (n : ℕ) (B : List ℤ) (t : List ℕ) (k line after : ℕ) → length t ≡ 4 * (n * n) → k < n → line ≡ total k (lines_of n t) → Wrote old 0 (sheet 0 (lines_upto n B t k)) (start line) mid → Wrote mid (start line) (sheet line (variable_lines k (lower B k) (upper B k) (ones_from (part_of n t k) 0))) (start after) new → after ≡ line + 1 + further_count (length (ones_from (part_of n t k) 0)) → (after ≡ total (k + 1) (lines_of n t)) × Wrote old 0 (sheet 0 (lines_upto n B t (k + 1))) (start after) new
upto_next n B t k line after len h e v w a =
    let d : (2 * k + 1) * (2 * n) + 2 * n - (2 * k + 1) * (2 * n) ≡ 2 * n = omega arith in
    let count : further_count (length (ones_from (part_of n t k) 0)) ≡ further_count (length (implied n t k)) = ap (λ (qs : List ℕ). further_count (length qs)) (part-is n t k len h) in
    (rw (total-more (lines_of n t) k) (omega (arith, a, e, count)), upto_step n B t k line len h e v (rw d at w))
