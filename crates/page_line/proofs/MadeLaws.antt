-- Texts that are written piece by piece: a number made beside the buffer and copied into a field, and the pieces of a line. Each law
-- says which text the pieces are, and where it ends.
use Prim.Native.Nat.{◌%◌, ◌*◌, ◌+◌, ◌-◌, ◌/◌, ◌<◌, ◌≤◌, suc, ℕ}
use borrow.Author.Tests.{eq-eqb, ne_eqb}
use lib.Dec.{eqb}
use lib.IntN.{nat_abs, pos, ℤ}
use lib.ListN.{drop, get_or, length, length-append, length-replicate, replicate-append-replicate, take}
use lib.Seq.{drop-drop, take_at}
use mathlib.Core.Bool.{cond}
use mathlib.Core.List.{List, [], ◌++◌, ◌∷◌, append_assoc}
use mathlib.Core.Path.{◌∙◌, ◌≡◌, ap, sym}
use mir.Facts.{to_z_pos}
use mir.Syntax.{w32}
use mir.Val.{to_z}
use native.Mathlib.Omega.{arith}
use Rattle.integer.specs.Range.{Within}
use Rattle.text.specs.Decimal.{decimal, signed}
use Rattle.text.specs.Fields.{field}
use Rattle.text.specs.Text.{Wrote}
use Rattle.text.proofs.DecimalLaws.{decimal-length}
use Rattle.text.proofs.TextLaws.{◌⨾◌}
use Rattle.pages.specs.Page.{empty_line, first_line, further_line, left, literal_text, literals, newline, number_line, right, slots, spaces}
use Rattle.pages.specs.Writing.{fields, heading, ones_from, start}
use Rattle.pages.proofs.FieldLaws.{left-length, literal-length, right-length, signed-length}
use Rattle.pages.proofs.WritingLaws.{first-fields, heading-ends, ones-end, ones-here, slots-here, slots-more, slots-past}

-- a text is written, and it is another name's; and it ends there
pub as-text : {old new s t : List ℕ} {at next : ℕ} → s ≡ t → Wrote old at s next new → Wrote old at t next new
as-text e w = rw (← e) w

pub as-end : {old new s : List ℕ} {at next end : ℕ} → next ≡ end → Wrote old at s next new → Wrote old at s end new
as-end e w = rw (← e) w

-- ---- spaces

pub spaces-more : (i : ℕ) → spaces i ++ (32 ∷ []) ≡ spaces (i + 1)
spaces-more i = replicate-append-replicate i 1 32

pub spaces-length : (w : ℕ) → length (spaces w) ≡ w
spaces-length w = length-replicate {A = ℕ} w 32

-- ---- a number, made with the space before it

-- a small natural number as one of 32 bits, and its columns
pub small_signed : (n : ℕ) → n < 1_000 → to_z w32 n ≡ pos n
small_signed n h = to_z_pos w32 (omega arith)

pub small-columns : (n : ℕ) → n < 1_000 → length (signed (pos n)) ≤ 3
unfolding signed
small-columns n h = decimal-length 2 n h

pub bound-columns : (z : ℤ) → Within 32_768 z → length (signed z) ≤ 7
bound-columns z h = signed-length 5 z (omega (arith, h.abs))

pub made-end : {z made : List ℕ} {end : ℕ} (v : ℤ) → Wrote z 0 (field v) end made → end ≡ suc (length (signed v))
unfolding field
made-end v w = omega (arith, w.end)

made-text : {z made : List ℕ} {end : ℕ} (v : ℤ) → Wrote z 0 (field v) end made → made ≡ field v ++ drop end z
made-text v w = w.bytes

pub made-field : {z made : List ℕ} {end : ℕ} (v : ℤ) → Wrote z 0 (field v) end made → take end made ≡ 32 ∷ signed v
unfolding field
made-field {z} {made} {end} v w =
    ap (take end) (made-text v w) ∙ take_at (32 ∷ signed v) (drop end z) end (sym (made-end v w))

pub made-number : {z made : List ℕ} {end : ℕ} (v : ℤ) → Wrote z 0 (field v) end made → take (end - 1) (drop 1 made) ≡ signed v
unfolding field
made-number {z} {made} {end} v w =
    ap (λ (m : List ℕ). take (end - 1) (drop 1 m)) (made-text v w) ∙ take_at (signed v) (drop end z) (end - 1) (omega (arith, made-end v w))

-- right-aligned: the spaces before it, and the number with its own
right-field : (columns end : ℕ) (v : ℤ) → end ≡ suc (length (signed v)) → end ≤ columns → spaces (columns - end) ++ (32 ∷ signed v) ≡ right columns (signed v)
unfolding right
right-field columns end v e h =
    let d : columns - length (signed v) ≡ columns - end + 1 = omega arith in
    rw (d, ← spaces-more (columns - end)) (sym (append_assoc (spaces (columns - end)) (32 ∷ []) (signed v)))

pub right-made : {z made old mid new : List ℕ} {at here end next columns : ℕ} (v : ℤ) → Wrote z 0 (field v) end made → length (signed v) < columns → Wrote old at (spaces (columns - end)) here mid → Wrote mid here (take end made) next new → Wrote old at (right columns (signed v)) next new
right-made {z} {made} {end = end} {columns = columns} v m h a b =
    let e = made-end v m in
    as-text (right-field columns end v e (omega arith)) (a ⨾ as-text (made-field v m) b)

pub right-ends : {old new : List ℕ} {at next : ℕ} (columns : ℕ) (v : ℤ) → length (signed v) ≤ columns → Wrote old at (right columns (signed v)) next new → next ≡ at + columns
right-ends columns v h w = omega (arith, w.end, right-length columns (signed v) h)

-- a literal: its sign, the number, and spaces
pub literal-made : {z made old mid mid2 new : List ℕ} {at digits after end next sign : ℕ} (q : ℕ) → Wrote z 0 (field (pos (q / 2))) end made → sign ≡ cond (eqb (q % 2) 1) 43 45 → Wrote old at (sign ∷ []) digits mid → Wrote mid digits (take (end - 1) (drop 1 made)) after mid2 → Wrote mid2 after (spaces (6 - end)) next new → Wrote old at (left 6 (literal_text q)) next new
unfolding left literal_text signed
literal-made {end = end} q m s a b c =
    let e = made-end (pos (q / 2)) m in
    as-text (rw (s, e)) (a ⨾ as-text (made-number (pos (q / 2)) m) b ⨾ c)

-- ---- the literals of a line

pub slot-past : {old new : List ℕ} {at end : ℕ} (part : List ℕ) (q next : ℕ) → ones_from part next ≡ ones_from part q → length part ≤ next → Wrote old at (spaces 6) end new → Wrote old at (slots 1 (ones_from part q)) (at + 6) new × (ones_from part next ≡ drop 1 (ones_from part q))
slot-past part q next same h w =
    let none : ones_from part next ≡ [] = ones-end part next h in
    let e : ones_from part q ≡ [] = sym same ∙ none in
    (as-end (omega (arith, w.end)) (as-text (sym (ap (slots 1) e ∙ slots-past)) w), none ∙ ap (drop 1) (sym e))

pub slot-here : {old new : List ℕ} {at end : ℕ} (part : List ℕ) (q next : ℕ) → ones_from part next ≡ ones_from part q → next < length part → get_or part next 0 ≡ 1 → length part ≤ 256 → Wrote old at (left 6 (literal_text next)) end new → Wrote old at (slots 1 (ones_from part q)) (at + 6) new × (ones_from part (next + 1) ≡ drop 1 (ones_from part q))
slot-here part q next same h one few w =
    let e : ones_from part q ≡ next ∷ ones_from part (next + 1) = sym same ∙ ones-here part next h one in
    (as-end (omega (arith, w.end, left-length 6 (literal_text next) (literal-length next (omega arith)))) (as-text (sym (ap (slots 1) e ∙ slots-here next (ones_from part (next + 1)))) w), sym (ap (drop 1) e))

pub slots-step : {old mid new : List ℕ} {at : ℕ} (part : List ℕ) (q next after j : ℕ) → ones_from part next ≡ drop j (ones_from part q) → Wrote old at (slots j (ones_from part q)) (at + 6 * j) mid → Wrote mid (at + 6 * j) (slots 1 (ones_from part next)) (at + 6 * j + 6) new → ones_from part after ≡ drop 1 (ones_from part next) → (ones_from part after ≡ drop (j + 1) (ones_from part q)) × Wrote old at (slots (j + 1) (ones_from part q)) (at + 6 * (j + 1)) new
slots-step part q next after j left v w e =
    (e ∙ ap (drop 1) left ∙ drop-drop 1 j (ones_from part q), as-end (omega arith) (as-text (sym (slots-more j (ones_from part q))) (v ⨾ as-text (ap (slots 1) left) w)))

-- ---- lines

pub heading-none : (c : ℕ) → (c % 59 ≡ 0 → ⊥) → heading c ≡ []
unfolding heading
heading-none c h = rw (ne_eqb (c % 59) 0 h)

pub heading-new : (c : ℕ) → c % 59 ≡ 0 → spaces 74 ++ right 6 (signed (pos (c / 59 + 1))) ++ newline ≡ heading c
unfolding heading number_line signed
heading-new c h = let e : c / 59 + 1 ≡ suc (c / 59) = omega arith in rw (eq-eqb (c % 59) 0 h, e)

pub fields-length : (k : ℕ) (l u : ℤ) → k < 128 → nat_abs l < 1_000_000 → nat_abs u < 1_000_000 → length (fields k l u) ≡ 23
unfolding fields
fields-length k l u hk hl hu =
    simp length-append (omega (arith, right-length 6 (decimal k) (omega (arith, decimal-length 2 k (omega arith))), right-length 8 (signed l) (omega (arith, signed-length 5 l hl)), right-length 8 (signed u) (omega (arith, signed-length 5 u hu))))

pub first_made : {old mid mid2 new : List ℕ} {at here : ℕ} (c k : ℕ) (l u : ℤ) (qs : List ℕ) → c ≤ 4_130 → k < 128 → nat_abs l < 1_000_000 → nat_abs u < 1_000_000 → Wrote old (start c) (heading c) at mid → Wrote mid at (fields k l u) here mid2 → Wrote mid2 here (literals qs ++ newline) (here + 58) new → Wrote old (start c) (heading c ++ (first_line k l u qs ++ newline)) (start (c + 1)) new
first_made c k l u qs h hk hl hu a b d =
    as-end (omega (arith, a.end, b.end, fields-length k l u hk hl hu, heading-ends c (omega arith)))
    (as-text (rw (first-fields k l u qs hl hu) (simp append_assoc)) (a ⨾ b ⨾ d))

pub further-made : {old mid mid2 new : List ℕ} {at here : ℕ} (c : ℕ) (qs : List ℕ) → c ≤ 4_130 → Wrote old (start c) (heading c) at mid → Wrote mid at (spaces 23) here mid2 → Wrote mid2 here (literals qs ++ newline) (here + 58) new → Wrote old (start c) (heading c ++ (further_line qs ++ newline)) (start (c + 1)) new
unfolding further_line
further-made c qs h a b d =
    as-end (omega (arith, a.end, b.end, heading-ends c (omega arith))) (as-text (simp append_assoc) (a ⨾ b ⨾ d))

pub empty-made : {old mid mid2 new : List ℕ} {at here next : ℕ} (c : ℕ) → c ≤ 4_130 → Wrote old (start c) (heading c) at mid → Wrote mid at (spaces 80) here mid2 → Wrote mid2 here newline next new → Wrote old (start c) (heading c ++ (empty_line ++ newline)) (start (c + 1)) new
empty-made c h a b d =
    as-end (omega (arith, a.end, b.end, d.end, heading-ends c (omega arith))) (as-text (append_assoc (heading c) empty_line newline) (a ⨾ b ⨾ d))
