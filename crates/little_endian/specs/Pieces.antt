-- Lists in pieces: a part of a list, a part overwritten, and pieces joined over an index.
use Rattle.std.specs.Prelude.{◌+◌, suc, zero, ℕ, drop, length, take, List, [], ◌++◌, ◌∷◌}

-- the w elements of xs from place p
abbrev pub part {ℓ} : {A : Type ℓ} → ℕ → ℕ → List A → List A
part p w xs = take w (drop p xs)

-- xs with ys in the place of as many elements from place p
unfoldable pub overwrite {ℓ} : {A : Type ℓ} → ℕ → List A → List A → List A
overwrite p ys xs = take p xs ++ ys ++ drop (p + length ys) xs

-- f 0 and f 1 and .. and f (n − 1), one after the other
unfoldable pub joined {ℓ} : {A : Type ℓ} → ℕ → (ℕ → List A) → List A
joined zero f = []
joined (suc n) f = joined n f ++ f n

-- the list of f 0, f 1, .., f (n − 1)
abbrev pub list_of {ℓ} : {A : Type ℓ} → ℕ → (ℕ → A) → List A
list_of n f = joined n (λ i. f i ∷ [])
