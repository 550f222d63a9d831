-- Division of a whole number by a positive one (01: "Floor is towards minus infinity, ceiling towards plus infinity").
use Rattle.std.specs.Prelude.{◌/◌, ℤ, nat_abs, negsuc, neg_ℤ, pos}

-- floor (p / g), for g above 0. `negsuc p` is −(p + 1), and floor (−(p + 1) / g) is −(p / g) − 1 with p / g rounded down.
-- Its law, that q ≤ floor_div p g exactly if q × g ≤ p, is `floor-le`.
unfoldable pub floor_div : ℤ → ℤ → ℤ
floor_div (pos p) g = pos (p / nat_abs g)
floor_div (negsuc p) g = negsuc (p / nat_abs g)

-- ceiling (p / g), for g above 0. Its law, that ceil_div p g ≤ q exactly if p ≤ q × g, is `ceil-le`.
unfoldable pub ceil_div : ℤ → ℤ → ℤ
ceil_div p g = neg_ℤ (floor_div (neg_ℤ p) g)
