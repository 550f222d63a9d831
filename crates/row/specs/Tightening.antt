-- Tighten a coefficient (01's sharpen; 000, 1.2 and 1.3, "improvement of coefficients").
use Rattle.std.specs.Prelude.{ℕ, ◌-ℤ◌, nat_abs, pos, ℤ, set, Bool, ◌&&◌, cond, List}
use Rattle.std.specs.Int.Signed.{le_z, lt_z}
use Rattle.model.specs.Box.{at, is_empty}
use Rattle.model.specs.Limits.{min_rhs}
use Rattle.row.specs.Activity.{max_activity}
use Rattle.row.specs.Outcome.{Outcome, changed, infeasible, unchanged}

-- a row after a call that may change it
pub record NewRow : Type 0 where
  pub outcome : Outcome
  pub coefs : List ℤ
  pub rhs : ℤ

-- "if Lmax > b and Lmax − |a| < b": the row can be broken, but not with the variable at its other bound; L is Lmax
abbrev pub may_tighten : ℤ → ℤ → ℤ → Bool
may_tighten a L b = lt_z b L && lt_z (L -ℤ pos (nat_abs a)) b

-- "if Lmax > b and Lmax − |a| < b, then for a > 0 the coefficient becomes Lmax − b and b becomes Lmax − a (old values on the
-- right); for a < 0 the coefficient becomes b − Lmax and b stays. For a > 0 it is not made if the new b is under
-- −1,000,000,000. .. a = 0 gives Same": then L and L − |a| are the same and no b lies between. a is the coefficient of k, L is Lmax.
unfoldable pub tighten_at : ℤ → ℤ → List ℤ → ℤ → ℕ → NewRow
tighten_at a L A b k =
    cond (may_tighten a L b)
    (cond (lt_z (pos 0) a)
    (cond (le_z min_rhs (L -ℤ a))
    (record { outcome = changed; coefs = set A k (L -ℤ b); rhs = L -ℤ a })
    (record { outcome = unchanged; coefs = A; rhs = b }))
    (record { outcome = changed; coefs = set A k (b -ℤ L); rhs = b }))
    (record { outcome = unchanged; coefs = A; rhs = b })

-- at the free binary variable k; "On the void box all five calls answer None .. and change nothing."
unfoldable pub tighten_coefficient : ℕ → List ℤ → ℤ → List ℤ → ℕ → NewRow
tighten_coefficient n A b B k =
    cond (is_empty n B) (record { outcome = infeasible; coefs = A; rhs = b }) (tighten_at (at A k) (max_activity n A B) A b k)
