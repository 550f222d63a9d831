-- Verdicts while they are found: what a list of numbers tells, by the box alone, and by one row more.
use Rattle.std.specs.Prelude.{◌*◌, ◌+◌, ◌<◌, ℕ, ℤ, get_or, length, set, Bool, cond, List, ◌≡◌}
use Rattle.integer.specs.Index.{all}
use Rattle.semantics.specs.Lowest.{lowest}
use Rattle.proposals.specs.Proposals.{case_of, number_of}
use Rattle.proposals.specs.Verdict.{Verdict, breaks, in_bounds, inside, outside_at}

-- Y tells v of proposal c
pub record Says (Y : List ℕ) (c : ℕ) (v : Verdict) : Type 0 where
  pub case : get_or Y (2 * c) 0 ≡ case_of v
  pub number : get_or Y (2 * c + 1) 0 ≡ number_of v

-- Y tells the verdicts f of count proposals
pub record Tells (count : ℕ) (f : ℕ → Verdict) (Y : List ℕ) : Type 0 where
  pub len : length Y ≡ 2 * count
  pub says : (c : ℕ) → c < count → Says Y c (f c)

-- Y with the numbers a and b for the verdict of proposal c
unfoldable pub with_numbers : List ℕ → ℕ → ℕ → ℕ → List ℕ
with_numbers Y c a b = set (set Y (2 * c) a) (2 * c + 1) b

-- Y with v told of proposal c
unfoldable pub with_verdict : List ℕ → ℕ → Verdict → List ℕ
with_verdict Y c v = with_numbers Y c (case_of v) (number_of v)

-- by the box alone (`box-verdict`)
unfoldable pub box_verdict : ℕ → List ℤ → List ℤ → Verdict
box_verdict n B x = cond (all n (in_bounds B x)) inside (outside_at (lowest n (in_bounds B x)))

-- by row k more, which is met or not (`held-verdict`): only a proposal that is still inside is held against it
unfoldable pub held : ℕ → Bool → Verdict → Verdict
held k met inside = cond met inside (breaks k)
held k met (outside_at j) = outside_at j
held k met (breaks i) = breaks i
