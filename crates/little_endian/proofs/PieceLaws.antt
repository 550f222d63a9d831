-- Laws of lists in pieces: what a part of joined pieces is, and what parts joined or overwritten come to.
use Prim.Native.Nat.{◌*◌, ◌+◌, ◌-◌, ◌<◌, ◌≤◌, suc, zero, ℕ}
use lib.ListN.{drop, get_or, length, length-append, length-drop, length-take, set, take, take-append-drop}
use lib.Seq.{drop-append-add, drop-append-le, drop-drop, drop-length, ext_get_or, get_or-drop, get_or-take, length-take-le, sets-eq, take-add, take_all, take-append-le, take_at, take-take}
use mathlib.Core.List.{List, [], ◌++◌, ◌∷◌, append_assoc, append-nil}
use mathlib.Core.Path.{◌∙◌, ◌≡◌, ap, refl, sym}
use native.Mathlib.Nat.{mul-le-mul_right}
use native.Mathlib.Decide.{ℕ_discrete}
use native.Mathlib.Numerals.{add-one}
use native.Mathlib.Omega.{arith}
use Rattle.little_endian.specs.Pieces.{joined, list_of, overwrite, part}

-- piece i of n pieces of w lies within them
pub piece-within : (n w i : ℕ) → i < n → i * w + w ≤ n * w
piece-within n w i h = let k : suc i * w ≤ n * w = mul-le-mul_right w h in omega arith

module _ {ℓ} {A : Type ℓ} where
  -- ---- parts

  pub length_part : (p w : ℕ) (xs : List A) → p + w ≤ length xs → length (part p w xs) ≡ w
  length_part p w xs h = length-take-le w (drop p xs) (omega (arith, length-drop p xs))

  pub part-add : (p a b : ℕ) (xs : List A) → part p (a + b) xs ≡ part p a xs ++ part (p + a) b xs
  part-add p a b xs = take-add a b (drop p xs) ∙ rw (drop-drop a p xs)

  pub part_left : (p w : ℕ) (xs ys : List A) → p + w ≤ length xs → part p w (xs ++ ys) ≡ part p w xs
  part_left p w xs ys h =
      ap (take w) (drop-append-le p xs ys (omega arith)) ∙ take-append-le w (drop p xs) ys (omega (arith, length-drop p xs))

  pub part_right : (p w q : ℕ) (xs ys : List A) → q ≡ length xs + p → part q w (xs ++ ys) ≡ part p w ys
  part_right p w q xs ys e = rw e (ap (take w) (drop-append-add xs ys p))

  pub part-whole : (xs : List A) (w : ℕ) → length xs ≡ w → part 0 w xs ≡ xs
  part-whole xs w e = take_all w xs (omega arith)

  -- a part of a part
  pub part-part : (p v q w r : ℕ) (xs : List A) → p + v ≤ length xs → q + w ≤ v → r ≡ p + q → part q w (part p v xs) ≡ part r w xs
  part-part p v q w r xs h k e =
      let z : v ≡ q + (v - q) = omega arith in
      ap (λ (u : ℕ). part q w (part p u xs)) z
      ∙ ap (part q w) (part-add p q (v - q) xs)
      ∙ part_right 0 w q (part p q xs) (part (p + q) (v - q) xs) (omega (arith, length_part p q xs (omega arith)))
      ∙ take-take w (v - q) (drop (p + q) xs) (omega arith)
      ∙ ap (λ (u : ℕ). part u w xs) (sym e)

  pub get_d_part : (p w i : ℕ) (xs : List A) (d : A) → i < w → get_or (part p w xs) i d ≡ get_or xs (p + i) d
  get_d_part p w i xs d h = get_or-take w (drop p xs) i d h ∙ get_or-drop p xs i d

  -- ---- pieces joined

  pub joined-more : (i : ℕ) (f : ℕ → List A) → joined (i + 1) f ≡ joined i f ++ f i
  unfolding joined
  joined-more i f = rw add-one

  pub joined-cong : (n : ℕ) (f g : ℕ → List A) → ((i : ℕ) → i < n → f i ≡ g i) → joined n f ≡ joined n g
  unfolding joined
  joined-cong zero f g h = refl
  joined-cong (suc n) f g h = cc (joined-cong n f g (λ i k. h i (omega arith)), h n (omega arith))

  pub length-joined : (n w : ℕ) (f : ℕ → List A) → ((i : ℕ) → i < n → length (f i) ≡ w) → length (joined n f) ≡ n * w
  unfolding joined
  length-joined zero w f h = omega arith
  length-joined (suc n) w f h =
      omega (arith, length-append (joined n f) (f n), length-joined n w f (λ i k. h i (omega arith)), h n (omega arith))

  -- piece i, where each has w elements
  pub part-joined : (n w : ℕ) (f : ℕ → List A) → ((i : ℕ) → i < n → length (f i) ≡ w) → (i : ℕ) → i < n → part (i * w) w (joined n f) ≡ f i
  unfolding joined
  part-joined zero w f h i k = absurd (let z : ⊥ = omega arith in z)
  part-joined (suc n) w f h i k = go (ℕ_discrete i n) (λ (q : i < n). part-joined n w f (λ j r. h j (omega arith)) i q)
    where
      l : length (joined n f) ≡ n * w
      l = length-joined n w f (λ j r. h j (omega arith))

      go : Dec (i ≡ n) → (i < n → part (i * w) w (joined n f) ≡ f i) → part (i * w) w (joined n f ++ f n) ≡ f i
      go (yes e) r = rw e (part_right 0 w (n * w) (joined n f) (f n) (omega (arith, l)) ∙ part-whole (f n) w (h n (omega arith)))
      go (no e) r = part_left (i * w) w (joined n f) (f n) (omega (arith, l, piece-within n w i (omega arith))) ∙ r (omega arith)

  -- consecutive parts are one part
  pub joined-parts : (k w p : ℕ) (xs : List A) → joined k (λ i. part (p + i * w) w xs) ≡ part p (k * w) xs
  unfolding joined
  joined-parts zero w p xs = let e : 0 * w ≡ 0 = omega arith in rw e
  joined-parts (suc k) w p xs =
      let e : suc k * w ≡ k * w + w = omega arith in
      rw e (ap (λ (ys : List A). ys ++ part (p + k * w) w xs) (joined-parts k w p xs) ∙ sym (part-add p (k * w) w xs))

  -- ---- lists over an index

  pub length-list_of : (n : ℕ) (f : ℕ → A) → length (list_of n f) ≡ n
  length-list_of n f = omega (arith, length-joined n 1 (λ i. f i ∷ []) (λ i k. refl))

  pub get_d-list_of : (n : ℕ) (f : ℕ → A) (i : ℕ) (d : A) → i < n → get_or (list_of n f) i d ≡ f i
  get_d-list_of n f i d h =
      let e : i * 1 + 0 ≡ i = omega arith in
      rw e at (sym (get_d_part (i * 1) 1 0 (list_of n f) d (omega arith)))
      ∙ ap (λ (xs : List A). get_or xs 0 d) (part-joined n 1 (λ j. f j ∷ []) (λ j k. refl) i h)

  -- a part is the list of its elements
  pub list_of-part : (p w : ℕ) (xs : List A) (d : A) → p + w ≤ length xs → list_of w (λ i. get_or xs (p + i) d) ≡ part p w xs
  list_of-part p w xs d h =
      ext_get_or d _ _ (length-list_of w _ ∙ sym (length_part p w xs h))
      (λ i k. let l : i < w = omega (arith, length-list_of w (λ i. get_or xs (p + i) d)) in
      get_d-list_of w _ i d l ∙ sym (get_d_part p w i xs d l))

  pub list_of-all : (xs : List A) (n : ℕ) (d : A) → length xs ≡ n → list_of n (λ i. get_or xs i d) ≡ xs
  list_of-all xs n d e =
      joined-cong n _ _ (λ i k. let z : i ≡ 0 + i = omega arith in ap (λ (q : ℕ). get_or xs q d ∷ []) z)
      ∙ list_of-part 0 n xs d (omega arith)
      ∙ part-whole xs n e

  -- n lists of w elements over two indices
  pub length-grid : (n w : ℕ) (f : ℕ → ℕ → A) → length (joined n (λ i. list_of w (f i))) ≡ n * w
  length-grid n w f = length-joined n w _ (λ i k. length-list_of w (f i))

  pub get_d-grid : (n w : ℕ) (f : ℕ → ℕ → A) (i j : ℕ) (d : A) → i < n → j < w → get_or (joined n (λ r. list_of w (f r))) (i * w + j) d ≡ f i j
  get_d-grid n w f i j d h k =
      sym (get_d_part (i * w) w j (joined n (λ r. list_of w (f r))) d k)
      ∙ ap (λ (xs : List A). get_or xs j d) (part-joined n w (λ r. list_of w (f r)) (λ r q. length-list_of w (f r)) i h)
      ∙ get_d-list_of w (f i) j d k

  pub grid-all : (xs : List A) (n w : ℕ) (d : A) → length xs ≡ n * w → joined n (λ i. list_of w (λ j. get_or xs (i * w + j) d)) ≡ xs
  grid-all xs n w d e =
      joined-cong n _ _ (λ i k. list_of-part (i * w) w xs d (omega (arith, piece-within n w i k))
      ∙ (let z : i * w ≡ 0 + i * w = omega arith in ap (λ (q : ℕ). part q w xs) z))
      ∙ joined-parts n w 0 xs
      ∙ part-whole xs (n * w) e

  -- ---- a part overwritten

  pub length-overwrite : (p : ℕ) (ys xs : List A) → p + length ys ≤ length xs → length (overwrite p ys xs) ≡ length xs
  unfolding overwrite
  length-overwrite p ys xs h = simp (length-append, length-take, length-drop) (omega arith)

  pub overwrite-none : (p : ℕ) (xs : List A) → overwrite p [] xs ≡ xs
  unfolding overwrite
  overwrite-none p xs =
      let e : p + 0 ≡ p = omega arith in rw (e, append-nil (take p xs)) (take-append-drop p xs)

  -- one part after the other
  pub overwrite-next : (p q : ℕ) (ys zs xs : List A) → q ≡ p + length ys → q + length zs ≤ length xs
      → overwrite q zs (overwrite p ys xs) ≡ overwrite p (ys ++ zs) xs
  unfolding overwrite
  overwrite-next p q ys zs xs e h =
      let l : length (take p xs ++ ys) ≡ q = simp (length-append, length-take) (omega arith) in
      let t : take q (overwrite p ys xs) ≡ take p xs ++ ys = take_at (take p xs ++ ys) (drop (p + length ys) xs) q l in
      let d : drop (q + length zs) (overwrite p ys xs) ≡ drop (p + length (ys ++ zs)) xs =
      rw (← l) (drop-append-add (take p xs ++ ys) (drop (p + length ys) xs) (length zs))
      ∙ drop-drop (length zs) (p + length ys) xs
      ∙ (let k : p + length ys + length zs ≡ p + length (ys ++ zs) = omega (arith, length-append ys zs) in ap (λ (r : ℕ). drop r xs) k) in
      ap (λ (r : List A). r ++ zs ++ drop (q + length zs) (overwrite p ys xs)) t
      ∙ ap (λ (r : List A). take p xs ++ ys ++ zs ++ r) d
      ∙ ap (λ (r : List A). r ++ drop (p + length (ys ++ zs)) xs) (append_assoc (take p xs) ys zs)

  pub overwrite-all : (ys xs : List A) → length ys ≡ length xs → overwrite 0 ys xs ≡ ys
  unfolding overwrite
  overwrite-all ys xs e =
      let k : 0 + length ys ≡ length xs = omega arith in rw (k, drop-length xs) (append-nil ys)

  -- one element stored
  pub overwrite-one : (p : ℕ) (a : A) (xs : List A) → p < length xs → set xs p a ≡ overwrite p (a ∷ []) xs
  unfolding overwrite
  overwrite-one p a xs h = sets-eq (a ∷ []) xs p (omega arith)

  -- a loop that writes piece after piece: before the first turn, and a turn
  pub overwrite-start : (p : ℕ) (f : ℕ → List A) (xs : List A) → xs ≡ overwrite p (joined 0 f) xs
  unfolding joined
  overwrite-start p f xs = sym (overwrite-none p xs)

  pub overwrite-turn : (p q i : ℕ) (f : ℕ → List A) (xs : List A) → q ≡ p + length (joined i f) → q + length (f i) ≤ length xs
      → overwrite q (f i) (overwrite p (joined i f) xs) ≡ overwrite p (joined (i + 1) f) xs
  overwrite-turn p q i f xs e h =
      overwrite-next p q (joined i f) (f i) xs e h ∙ ap (λ (ys : List A). overwrite p ys xs) (sym (joined-more i f))

  -- a part that was lent, given back with w other elements
  pub overwrite-part : (p w : ℕ) (ys xs : List A) → length ys ≡ w → take p xs ++ (ys ++ drop w (drop p xs)) ≡ overwrite p ys xs
  unfolding overwrite
  overwrite-part p w ys xs e = rw (← e, drop-drop (length ys) p xs) (sym (append_assoc (take p xs) ys (drop (p + length ys) xs)))
