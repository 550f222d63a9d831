-- The lowest index that fails a test.
use Rattle.std.specs.Prelude.{suc, zero, ℕ, Bool, cond}
use Rattle.integer.specs.Index.{all}

-- the least i below m with f i false; m where there is none (`lowest-fails`, `lowest-below`, `lowest-all`)
unfoldable pub lowest : ℕ → (ℕ → Bool) → ℕ
lowest zero f = zero
lowest (suc m) f = cond (all m f) (cond (f m) (suc m) m) (lowest m f)
