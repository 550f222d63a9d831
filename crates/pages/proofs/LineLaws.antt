-- Lines: every line has 80 columns, and what was written on it is read from it.
use Prim.Native.Nat.{◌*◌, ◌+◌, ◌-◌, ◌/◌, ◌<◌, ◌≤◌, suc, zero, ℕ}
use lib.IntN.{nat_abs, ℤ}
use lib.ListN.{drop, length, length-append, length-drop, length-replicate, replicate, take, take-append-drop}
use lib.Seq.{drop-append-add, drop_at, take_at, take-nil}
use mathlib.Core.Bool.{false, true}
use mathlib.Core.List.{List, [], ◌++◌, ◌∷◌, append_assoc, append-nil}
use mathlib.Core.Path.{◌∙◌, ◌≡◌, ap, refl, sym}
use native.Mathlib.Nat.{add-suc, add-zero}
use native.Mathlib.Omega.{arith}
use Rattle.text.specs.Decimal.{decimal, signed}
use Rattle.text.proofs.DecimalLaws.{decimal-length}
use Rattle.pages.specs.Page.{empty_line, first_line, further_count, further_line, further_lines, left, literal_text, literals, number_line, right, slots, spaces, variable_lines}
use Rattle.pages.specs.Reading.{Entry, begins, columns, entries, entry, line_literals, literal_in, literals_in, natural_in, pending, whole_in}
use Rattle.pages.proofs.FieldLaws.{blank-right, blank-spaces, left-length, literal-left, literal-length, natural-right, right-length, signed-length, whole-right}

-- ---- columns

-- each number of a list is small enough for its six columns
pub data Small : List ℕ → Type 0 where
  none : Small []
  one : {q : ℕ} {qs : List ℕ} → q < 200_000 → Small qs → Small (q ∷ qs)

pub small-append : {s t : List ℕ} → Small s → Small t → Small (s ++ t)
small-append none k = k
small-append (one l h) k = one l (small-append h k)

pub small-drop : (c : ℕ) {qs : List ℕ} → Small qs → Small (drop c qs)
small-drop zero h = h
small-drop (suc c) none = none
small-drop (suc c) (one l h) = small-drop c h

pub slots_length : (c : ℕ) (qs : List ℕ) → Small qs → length (slots c qs) ≡ 6 * c
unfolding slots
slots_length zero qs h = refl
slots_length (suc c) [] none = length-append (spaces 6) (slots c []) ∙ rw (slots_length c [] none) (omega arith)
slots_length (suc c) (q ∷ qs) (one l h) =
    length-append (left 6 (literal_text q)) (slots c qs) ∙ rw (slots_length c qs h, left-length 6 (literal_text q) (literal-length q l)) (omega arith)

pub literals-length : (qs : List ℕ) → Small qs → length (literals qs) ≡ 57
unfolding literals
literals-length qs h = simp (length-append, length-replicate, slots_length) (omega arith)

number-length : (k : ℕ) → k < 1_000_000 → length (right 6 (decimal k)) ≡ 6
number-length k h = right-length 6 (decimal k) (decimal-length 5 k h)

bound-length : (z : ℤ) → nat_abs z < 1_000_000 → length (right 7 (signed z)) ≡ 7
bound-length z h = right-length 7 (signed z) (signed-length 5 z h)

pub first-length : (k : ℕ) (l u : ℤ) (qs : List ℕ) → k < 1_000_000 → nat_abs l < 1_000_000 → nat_abs u < 1_000_000 → Small qs → length (first_line k l u qs) ≡ 80
unfolding first_line
first-length k l u qs hk hl hu h =
    simp length-append (omega (arith, number-length k hk, bound-length l hl, bound-length u hu, literals-length qs h))

pub further-length : (qs : List ℕ) → Small qs → length (further_line qs) ≡ 80
unfolding further_line
further-length qs h = length-append (spaces 23) (literals qs) ∙ rw (literals-length qs h)

pub number-line-length : (p : ℕ) → suc p < 1_000_000 → length (number_line p) ≡ 80
unfolding number_line
number-line-length p h = let k : p < 1_000_000 = omega arith in simp (length-append, length-replicate, number-length) (omega arith)

-- ---- the literals of a line

literal-blank : literal_in (spaces 6) ≡ []
unfolding literal_in
literal-blank = rw (blank-spaces 6)

pub slots_read : (m c : ℕ) (qs rest : List ℕ) → Small qs → literals_in (m + c) (slots c qs ++ rest) ≡ take c qs ++ literals_in m rest
unfolding slots literals_in
slots_read m zero qs rest h = rw add-zero
slots_read m (suc c) [] rest none = rw (add-suc, literal-blank) (slots_read m c [] rest none ∙ rw (take-nil c))
slots_read m (suc c) (q ∷ qs) rest (one l h) =
    let len = left-length 6 (literal_text q) (literal-length q l) in
    let s = slots c qs ++ rest in
    rw (add-suc, append_assoc (left 6 (literal_text q)) (slots c qs) rest, take_at (left 6 (literal_text q)) s 6 len, drop_at (left 6 (literal_text q)) s 6 len, literal-left q) (ap (λ (r : List ℕ). q ∷ r) (slots_read m c qs rest h))

ninth-blank : literals_in 1 (spaces 9) ≡ []
unfolding literals_in
ninth-blank = rw literal-blank

literals-read : (qs : List ℕ) → Small qs → literals_in 9 (literals qs) ≡ take 8 qs
unfolding literals
literals-read qs h = slots_read 1 8 qs (spaces 9) h ∙ rw (ninth-blank, append-nil)

-- ---- the fields of a line

-- behind a field and its space
skip : (p q : List ℕ) (a b : ℕ) → length p ≡ a → drop (a + suc b) (p ++ (32 ∷ q)) ≡ drop b q
skip p q a b e = rw (← e) (drop-append-add p (32 ∷ q) (suc b))

pub first-begins : (k : ℕ) (l u : ℤ) (qs : List ℕ) → k < 1_000_000 → begins (first_line k l u qs) ≡ true
unfolding begins first_line columns
first-begins k l u qs hk =
    rw (take_at (right 6 (decimal k)) (32 ∷ (right 7 (signed l) ++ (32 ∷ (right 7 (signed u) ++ (32 ∷ literals qs))))) 6 (number-length k hk), blank-right 6 k)

pub further-begins : (qs : List ℕ) → begins (further_line qs) ≡ false
unfolding begins further_line columns
further-begins qs = rw (blank-spaces 6)

pub empty-begins : begins empty_line ≡ false
unfolding begins columns
empty-begins = rw (blank-spaces 6)

pub further-read : (qs : List ℕ) → Small qs → line_literals (further_line qs) ≡ take 8 qs
unfolding line_literals further_line
further-read qs h = literals-read qs h

-- an empty line reads as a further line without literals
empty-further : further_line [] ≡ empty_line
unfolding further_line literals slots
empty-further = refl

pub empty-read : line_literals empty_line ≡ []
empty-read = ap line_literals (sym empty-further) ∙ further-read [] none

-- the first line: the variable, l, u, and its literals
pub first_entry : (k : ℕ) (l u : ℤ) (qs rest : List ℕ) → k < 1_000_000 → nat_abs l < 1_000_000 → nat_abs u < 1_000_000 → Small qs → entry (first_line k l u qs) rest ≡ record { variable = k; low = l; high = u; implies = take 8 qs ++ rest }
unfolding entry first_line columns line_literals
first_entry k l u qs rest hk hl hu h =
    let ub = right 7 (signed u) ++ (32 ∷ literals qs) in
    let lb = right 7 (signed l) ++ (32 ∷ ub) in
    let kl = number-length k hk in
    let ll = bound-length l hl in
    let ul = bound-length u hu in
    let d7 : drop 7 (right 6 (decimal k) ++ (32 ∷ lb)) ≡ lb = skip (right 6 (decimal k)) lb 6 0 kl in
    let d15 : drop 15 (right 6 (decimal k) ++ (32 ∷ lb)) ≡ ub = skip (right 6 (decimal k)) lb 6 8 kl ∙ skip (right 7 (signed l)) ub 7 0 ll in
    let d23 : drop 23 (right 6 (decimal k) ++ (32 ∷ lb)) ≡ literals qs = skip (right 6 (decimal k)) lb 6 16 kl ∙ skip (right 7 (signed l)) ub 7 8 ll ∙ skip (right 7 (signed u)) (literals qs) 7 0 ul in
    let a : natural_in (take 6 (right 6 (decimal k) ++ (32 ∷ lb))) ≡ k = rw (take_at (right 6 (decimal k)) (32 ∷ lb) 6 kl) (natural-right 6 k) in
    let b : whole_in (take 7 (drop 7 (right 6 (decimal k) ++ (32 ∷ lb)))) ≡ l = rw (d7, take_at (right 7 (signed l)) (32 ∷ ub) 7 ll) (whole-right 7 l) in
    let c : whole_in (take 7 (drop 15 (right 6 (decimal k) ++ (32 ∷ lb)))) ≡ u = rw (d15, take_at (right 7 (signed u)) (32 ∷ literals qs) 7 ul) (whole-right 7 u) in
    let d : literals_in 9 (drop 23 (right 6 (decimal k) ++ (32 ∷ lb))) ≡ take 8 qs = rw d23 (literals-read qs h) in
    same a b c (ap (λ (x : List ℕ). x ++ rest) d)
  where
    same : {k k' : ℕ} {l l' u u' : ℤ} {x x' : List ℕ} → k ≡ k' → l ≡ l' → u ≡ u' → x ≡ x' → ◌≡◌ {A = Entry} (record { variable = k; low = l; high = u; implies = x }) (record { variable = k'; low = l'; high = u'; implies = x' })
    same p q r s = rw (p, q, r, s)

-- ---- the lines of a variable

pub further-pending : (c : ℕ) (qs : List ℕ) (rest : List (List ℕ)) → Small qs → length qs ≤ 8 * c → pending rest ≡ [] → pending (further_lines c qs ++ rest) ≡ qs
unfolding pending further_lines
further-pending zero [] rest h le e = e
further-pending zero (q ∷ qs) rest h le e = absurd (let z : ⊥ = omega arith in z)
further-pending (suc c) qs rest h le e =
    let n : length (drop 8 qs) ≤ 8 * c = rw (length-drop 8 qs) (omega arith) in
    rw (further-begins qs, further-read qs h, further-pending c (drop 8 qs) rest (small-drop 8 h) n e) (take-append-drop 8 qs)

pub further-entries : (c : ℕ) (qs : List ℕ) (rest : List (List ℕ)) → entries (further_lines c qs ++ rest) ≡ entries rest
unfolding entries further_lines
further-entries zero qs rest = refl
further-entries (suc c) qs rest = rw (further-begins qs) (further-entries c (drop 8 qs) rest)

pub variable-entries : (k : ℕ) (l u : ℤ) (qs : List ℕ) (rest : List (List ℕ)) → k < 1_000_000 → nat_abs l < 1_000_000 → nat_abs u < 1_000_000 → Small qs → pending rest ≡ [] → entries (variable_lines k l u qs ++ rest) ≡ record { variable = k; low = l; high = u; implies = qs } ∷ entries rest
unfolding entries variable_lines further_count
variable-entries k l u qs rest hk hl hu h e =
    let c = (length qs - 1) / 8 in
    let n : length (drop 8 qs) ≤ 8 * c = rw (length-drop 8 qs) (omega arith) in
    rw (first-begins k l u qs hk, further-pending c (drop 8 qs) rest (small-drop 8 h) n e, further-entries c (drop 8 qs) rest, first_entry k l u qs (drop 8 qs) hk hl hu h, take-append-drop 8 qs)

pub variable-pending : (k : ℕ) (l u : ℤ) (qs : List ℕ) (rest : List (List ℕ)) → k < 1_000_000 → pending (variable_lines k l u qs ++ rest) ≡ []
unfolding pending variable_lines
variable-pending k l u qs rest hk = rw (first-begins k l u qs hk)

-- ---- empty lines

pub empty-pending : (c : ℕ) → pending (replicate c empty_line) ≡ []
unfolding pending
empty-pending zero = refl
empty-pending (suc c) = rw (empty-begins, empty-read) (empty-pending c)

pub empty-entries : (c : ℕ) → entries (replicate c empty_line) ≡ []
unfolding entries
empty-entries zero = refl
empty-entries (suc c) = rw empty-begins (empty-entries c)
