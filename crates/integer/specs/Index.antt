-- Sums and tests over the indices 0 to n − 1. Each is the invariant of the loop that computes it.
use Rattle.std.specs.Prelude.{suc, zero, ℕ, ◌+ℤ◌, pos, ℤ, Bool, ◌&&◌, true}

-- f 0 + f 1 + .. + f (n − 1)
unfoldable pub sum : ℕ → (ℕ → ℤ) → ℤ
sum zero f = pos 0
sum (suc n) f = sum n f +ℤ f n

-- f 0 and f 1 and .. and f (n − 1)
unfoldable pub all : ℕ → (ℕ → Bool) → Bool
all zero f = true
all (suc n) f = all n f && f n
