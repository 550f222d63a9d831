-- Texts one after the other, and a text in a buffer.
use Rattle.std.specs.Prelude.{◌+◌, ◌-◌, ◌≤◌, suc, zero, ℕ, ltb, drop, length, take, cond, List, [], ◌++◌, ◌≡◌}

-- f 0, f 1, .. f (n − 1), one after the other
unfoldable pub texts : ℕ → (ℕ → List ℕ) → List ℕ
texts zero f = []
texts (suc n) f = texts n f ++ f n

-- f from, .. f (to − 1). Chunks put together are a chunk (`chunk-chunk`), and all of them are the texts (`chunk_whole`).
unfoldable pub chunk : (ℕ → List ℕ) → ℕ → ℕ → List ℕ
chunk f from to = texts (to - from) (λ i. f (from + i))

-- the texts of f below n, and those of g from there on
unfoldable pub then : ℕ → (ℕ → List ℕ) → (ℕ → List ℕ) → ℕ → List ℕ
then n f g i = cond (ltb i n) (f i) (g (i - n))

-- `text` was written into a buffer at a position: what stood before it and after it stays, and `next` is the position after it
pub record Wrote (old : List ℕ) (at : ℕ) (text : List ℕ) (next : ℕ) (new : List ℕ) : Type 0 where
  pub end : next ≡ at + length text
  pub fits : next ≤ length old
  pub bytes : new ≡ take at old ++ text ++ drop next old
