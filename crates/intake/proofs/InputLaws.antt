-- Laws of what is kept of an input: a piece shifted in, the last 16 bytes, and one piece more.
use Prim.Native.Nat.{◌+◌, ◌-◌, ◌<◌, ◌≤◌, ℕ}
use lib.ListN.{get_or-append, drop, get_or, length, length-append, length-drop, replicate, set, take}
use lib.Seq.{drop-append-add, drop-append-le, drop-drop, drop-length, drop-paste, get_or-append-add, get_or-drop, paste, paste-suc, take_all, take-length, take-paste}
use mathlib.Core.List.{List, [], ◌++◌, append_assoc, append-nil}
use mathlib.Core.Path.{◌∙◌, ◌≡◌, ap, ap₂, refl, sym}
use native.Mathlib.Numerals.{add-one}
use native.Mathlib.Omega.{arith}
use Rattle.book.specs.Book.{trailer_of}
use Rattle.intake.specs.Intake.{Held, last_bytes, shifted}

-- ---- a piece shifted in

module _ (t p : List ℕ) where
  pub length-shifted : length (shifted t p) ≡ length t
  unfolding shifted
  length-shifted = omega (arith, length-drop (length p) (t ++ p), length-append t p)

  -- byte i comes from t where the piece is too short to reach it, else from the piece
  pub shifted-old : (i : ℕ) → length p < length t - i → get_or (shifted t p) i 0 ≡ get_or t (i + length p) 0
  unfolding shifted
  shifted-old i h =
      get_or-drop (length p) (t ++ p) i 0
      ∙ (let e : length p + i ≡ i + length p = omega arith in rw e (get_or-append t p 0 (i + length p) (omega arith)))

  pub shifted-new : (i : ℕ) → i ≤ length t → length t - i ≤ length p → get_or (shifted t p) i 0 ≡ get_or p (length p - (length t - i)) 0
  unfolding shifted
  shifted-new i k h =
      get_or-drop (length p) (t ++ p) i 0
      ∙ (let e : length p + i ≡ length t + (length p - (length t - i)) = omega arith in rw e (get_or-append-add t p (length p - (length t - i)) 0))

-- a loop that stores from the front leaves what lies behind it
paste-rest : (d s : List ℕ) (i k : ℕ) → i ≤ length s → get_or (paste d 0 s i) (i + k) 0 ≡ get_or d (i + k) 0
paste-rest d s i k h =
    let e : 0 + i + k ≡ i + k = omega arith in
    ap (λ (r : ℕ). get_or (paste d 0 s i) r 0) (sym e)
    ∙ sym (get_or-drop (0 + i) (paste d 0 s i) k 0)
    ∙ ap (λ (r : List ℕ). get_or r k 0) (drop-paste d 0 s i (omega arith) h)
    ∙ get_or-drop (0 + i) d k 0
    ∙ ap (λ (r : ℕ). get_or d r 0) e

-- a turn of the loop that shifts, where i bytes are shifted
module _ (t p tail : List ℕ) (i : ℕ) (e : tail ≡ paste t 0 (shifted t p) i) (h : i < length t) where
  shift-turn : (x : ℕ) → x ≡ get_or (shifted t p) i 0 → set tail i x ≡ paste t 0 (shifted t p) (i + 1)
  shift-turn x k =
      let z : i ≡ 0 + i = omega arith in
      ap₂ (λ (r : List ℕ) (y : ℕ). set r i y) e k
      ∙ ap (λ (q : ℕ). set (paste t 0 (shifted t p) i) q (get_or (shifted t p) i 0)) z
      ∙ paste-suc t 0 (shifted t p) i 0 (omega arith) (omega (arith, length-shifted t p))
      ∙ ap (paste t 0 (shifted t p)) (sym (add-one i))

  pub shift-old : length p < length t - i → set tail i (get_or tail (i + length p) 0) ≡ paste t 0 (shifted t p) (i + 1)
  shift-old l =
      shift-turn (get_or tail (i + length p) 0)
      (ap (λ (r : List ℕ). get_or r (i + length p) 0) e
      ∙ paste-rest t (shifted t p) i (length p) (omega (arith, length-shifted t p))
      ∙ sym (shifted-old t p i l))

  pub shift-new : (left : ℕ) → left ≡ length t - i → left ≤ length p → set tail i (get_or p (length p - left) 0) ≡ paste t 0 (shifted t p) (i + 1)
  shift-new left k l =
      shift-turn (get_or p (length p - left) 0)
      (ap (λ (r : ℕ). get_or p (length p - r) 0) k ∙ sym (shifted-new t p i (omega arith) (omega arith)))

-- after its last turn
pub shift-done : (t p tail : List ℕ) (i : ℕ) → tail ≡ paste t 0 (shifted t p) i → i ≡ length t → tail ≡ shifted t p
shift-done t p tail i e h =
    let k : 0 + length t ≡ length t = omega arith in
    e ∙ rw (h, k, drop-length t, take_all (length t) (shifted t p) (omega (arith, length-shifted t p))) (append-nil (shifted t p))

-- ---- the last 16 bytes

abbrev zeros : List ℕ
zeros = replicate 16 0

pub length_last : (bs : List ℕ) → length (last_bytes bs) ≡ 16
unfolding last_bytes
length_last bs = omega (arith, length-drop (length bs) (zeros ++ bs), length-append zeros bs)

pub last-trailer : (bs : List ℕ) → 16 ≤ length bs → last_bytes bs ≡ trailer_of bs
unfolding last_bytes trailer_of
last-trailer bs h =
    let z = zeros in
    let e : length bs ≡ length z + (length bs - 16) = omega arith in
    ap (λ (k : ℕ). drop k (z ++ bs)) e ∙ drop-append-add z bs (length bs - 16)

pub last-shifted : (bs p : List ℕ) → shifted (last_bytes bs) p ≡ last_bytes (bs ++ p)
unfolding last_bytes shifted
last-shifted bs p =
    let z = zeros in
    let b = length bs in
    let w : b ≤ length (z ++ bs) = omega (arith, length-append z bs) in
    ap (drop (length p)) (sym (drop-append-le b (z ++ bs) p w))
    ∙ drop-drop (length p) b (z ++ bs ++ p)
    ∙ ap (λ (k : ℕ). drop k (z ++ bs ++ p)) (sym (length-append bs p))
    ∙ ap (drop (length (bs ++ p))) (append_assoc z bs p)

-- ---- one piece more

module _ {bs start tail : List ℕ} {len : ℕ} (h : Held bs start tail len) (p : List ℕ) where
  held-size : len + length p ≡ length (bs ++ p)
  held-size = omega (arith, h.size, length-append bs p)

  held-end : shifted tail p ≡ last_bytes (bs ++ p)
  held-end = ap (λ (t : List ℕ). shifted t p) h.end ∙ last-shifted bs p

  -- there is room for it, and it is stored
  pub held-stored : len + length p ≤ length start → Held (bs ++ p) (paste start len p (length p)) (shifted tail p) (len + length p)
  held-stored k = record {
    size = held-size;
    whole = λ _. rw (← held-size)
        (take-paste start len p (length p) (omega arith) (omega arith)
        ∙ ap (λ (r : List ℕ). take len start ++ r) (take-length p)
        ∙ ap (λ (r : List ℕ). r ++ p) (ap (λ (r : ℕ). take r start) h.size ∙ h.whole (omega (arith, h.size))));
    end = held-end;
  }

  -- there is none
  pub held-passed : length start < len + length p → Held (bs ++ p) start (shifted tail p) (len + length p)
  held-passed k = record { size = held-size; whole = λ l. absurd (let z : ⊥ = omega (arith, held-size) in z); end = held-end }

-- before the first piece
pub held_none : (start tail : List ℕ) → tail ≡ replicate 16 0 → Held [] start tail 0
unfolding last_bytes
held_none start tail e = record { size = refl; whole = λ _. refl; end = e }
