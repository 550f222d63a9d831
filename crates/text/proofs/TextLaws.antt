-- Texts one after the other, chunk by chunk; and writing one text after another is writing both.
use Prim.Native.Nat.{◌+◌, ◌-◌, ◌<◌, ◌≤◌, suc, zero, ℕ}
use borrow.Author.Tests.{le-ltb, lt-ltb}
use lib.ListN.{drop, length, length-append, length-drop, length-take, set, take, take-append-drop}
use lib.Seq.{append_snoc, drop_at, drop-drop, set_split, take_at}
use mathlib.Core.List.{List, [], ◌++◌, ◌∷◌, append_assoc, append-nil}
use mathlib.Core.Path.{◌∙◌, ◌≡◌, ap, refl, sym}
use native.Mathlib.Nat.{add-suc, add-zero}
use native.Mathlib.Numerals.{add-one}
use native.Mathlib.Omega.{arith}
use Rattle.text.specs.Text.{Wrote, chunk, texts, then}

-- ---- texts

-- one more, as a loop writes it
pub texts-more : (f : ℕ → List ℕ) (n : ℕ) → texts (n + 1) f ≡ texts n f ++ f n
unfolding texts
texts-more f n = rw add-one

pub texts-same : (n : ℕ) (f g : ℕ → List ℕ) → ((i : ℕ) → i < n → f i ≡ g i) → texts n f ≡ texts n g
unfolding texts
texts-same zero f g h = refl
texts-same (suc n) f g h = cc (texts-same n f g (λ i k. h i (omega arith)), h n (omega arith))

pub texts-add : (a b : ℕ) (f : ℕ → List ℕ) → texts (a + b) f ≡ texts a f ++ texts b (λ i. f (a + i))
unfolding texts
texts-add a zero f = rw (add-zero, append-nil)
texts-add a (suc b) f = rw (add-suc, texts-add a b f, append_assoc)

pub then-first : (a : ℕ) (f g : ℕ → List ℕ) (i : ℕ) → i < a → then a f g i ≡ f i
unfolding then
then-first a f g i h = rw (lt-ltb i a h)

pub then-later : (a : ℕ) (f g : ℕ → List ℕ) (i : ℕ) → a ≤ i → then a f g i ≡ g (i - a)
unfolding then
then-later a f g i h = rw (le-ltb i a h)

-- the texts of f, and then those of g
pub texts-then : (a b : ℕ) (f g : ℕ → List ℕ) → texts (a + b) (then a f g) ≡ texts a f ++ texts b g
texts-then a b f g =
    let later : (i : ℕ) → i < b → then a f g (a + i) ≡ g i = λ i _. let e : a + i - a ≡ i = omega arith in then-later a f g (a + i) (omega arith) ∙ ap g e in
    texts-add a b (then a f g) ∙ rw (texts-same a _ f (then-first a f g), texts-same b _ g later)

-- ---- chunks

pub chunk-none : (f : ℕ → List ℕ) (a : ℕ) → chunk f a a ≡ []
unfolding chunk texts
chunk-none f a = let e : a - a ≡ 0 = omega arith in rw e

-- one text more, as a loop writes it
pub chunk-more : (f : ℕ → List ℕ) (a b : ℕ) → a ≤ b → chunk f a (b + 1) ≡ chunk f a b ++ f b
unfolding chunk
chunk-more f a b h =
    let e : b + 1 - a ≡ b - a + 1 = omega arith in
    let g : a + (b - a) ≡ b = omega arith in
    rw (e, texts-more, g)

pub chunk-chunk : (f : ℕ → List ℕ) (a b c : ℕ) → a ≤ b → b ≤ c → chunk f a b ++ chunk f b c ≡ chunk f a c
unfolding chunk
chunk-chunk f a b c h k =
    let e : c - a ≡ (b - a) + (c - b) = omega arith in
    let g : (i : ℕ) → i < c - b → f (b + i) ≡ f (a + (b - a + i)) = λ i _. let d : b + i ≡ a + (b - a + i) = omega arith in ap f d in
    rw (e, texts-add, texts-same (c - b) _ _ g)

texts-silent : (n : ℕ) (f : ℕ → List ℕ) → ((i : ℕ) → i < n → f i ≡ []) → texts n f ≡ []
unfolding texts
texts-silent zero f h = refl
texts-silent (suc n) f h = rw (texts-silent n f (λ i k. h i (omega arith)), h n (omega arith))

-- texts of nothing at its end change no chunk
pub chunk-silent : (f : ℕ → List ℕ) (a b c : ℕ) → a ≤ b → b ≤ c → ((q : ℕ) → b ≤ q → q < c → f q ≡ []) → chunk f a c ≡ chunk f a b
unfolding chunk
chunk-silent f a b c h k s =
    sym (chunk-chunk f a b c h k) ∙ rw (texts-silent (c - b) (λ i. f (b + i)) (λ i l. s (b + i) (omega arith) (omega arith))) (append-nil _)

pub chunk_whole : (f : ℕ → List ℕ) (n : ℕ) → chunk f 0 n ≡ texts n f
unfolding chunk
chunk_whole f n =
    let e : n - 0 ≡ n = omega arith in
    rw e (texts-same n _ f (λ i _. let d : 0 + i ≡ i = omega arith in ap f d))

-- ---- writing

-- the length stays
pub wrote-length : {old text new : List ℕ} {at next : ℕ} → Wrote old at text next new → length new ≡ length old
wrote-length {old} {text} {new} {at} {next} w =
    ap length w.bytes ∙ simp (length-append, length-take, length-drop) (omega (arith, w.end, w.fits))

pub wrote_none : (old : List ℕ) (at : ℕ) → at ≤ length old → Wrote old at [] at old
wrote_none old at h = record { end = omega arith; fits = h; bytes = rw (append-nil, take-append-drop) }

pub wrote-byte : (old : List ℕ) (at b : ℕ) → at < length old → Wrote old at (b ∷ []) (at + 1) (set old at b)
wrote-byte old at b h = record { end = refl; fits = omega arith; bytes = set_split old at b h ∙ rw (add-one, append_snoc) }

-- one text, and then another
infixl 20 ◌⨾◌
pub ◌⨾◌ : {old mid new s t : List ℕ} {at here next : ℕ} → Wrote old at s here mid → Wrote mid here t next new → Wrote old at (s ++ t) next new
◌⨾◌ {old} {mid} {new} {s} {t} {at} {here} {next} v w =
    let p = take at old ++ s in
    let len : length p ≡ here = simp (length-append, length-take) (omega (arith, v.end, v.fits)) in
    let front : take here mid ≡ p = ap (take here) v.bytes ∙ take_at p (drop here old) here len in
    let back : drop here mid ≡ drop here old = ap (drop here) v.bytes ∙ drop_at p (drop here old) here len in
    let rest : drop next mid ≡ drop next old = rw (w.end, ← drop-drop (length t) here mid, back) (drop-drop (length t) here old) in
    record {
      end = simp length-append (omega (arith, v.end, w.end));
      fits = omega (arith, w.fits, wrote-length v);
      bytes = w.bytes ∙ rw (front, rest) (simp append_assoc);
    }
