-- `box_checks::check_box`: bounds that are plain, two by two, are in range, in order and narrow, so that they pass the three checks; of any
-- other box the checks are made one by one. Assumes nothing.
use Prim.Native.Nat.{◌*◌, ◌+◌, ◌/◌, ◌%◌, ◌<◌, ℕ}
use lib.Dec.{T}
use lib.IntN.{◌+ℤ◌, ◌-ℤ◌, ℤ}
use lib.ListN.{length}
use lib.Signed.{◌≤ℤ◌, le_z}
use mathlib.Core.List.{List}
use mathlib.Core.Path.{◌∙◌, ◌≡◌, sym}
use native.Mathlib.Decide.{ℕ_discrete}
use native.Mathlib.Omega.{arith}
use Rattle.integer.specs.Index.{all}
use Rattle.integer.specs.Order.{min_z}
use Rattle.integer.proofs.IndexLaws.{all-at, all-i}
use Rattle.integer.proofs.Parts.{zarith, zify}
use Rattle.integer.proofs.Tests.{T→true, all_three, le_test, or_inr, true→T}
use Rattle.model.specs.Box.{at, is_empty, lower, upper}
use Rattle.model.specs.Checks.{box_checks, first, in_range, narrow, ordered}
use Rattle.model.specs.Limits.{max_bound, max_width, min_bound}
use Rattle.model.specs.Valid.{Between}
use Rattle.model.proofs.CheckLaws.{ends, in_range-test, past}
use Rattle.box_checks.specs.Plain.{plain_at}
use Rattle.box_checks.proofs.check_box.Goals as goal

-- what the test of a variable says
record Plain (l u : ℤ) : Type 0 where
  pub low : Between min_bound max_bound l
  pub high : Between min_bound max_bound u
  pub order : l ≤ℤ u
  pub width : (u -ℤ l) ≤ℤ max_width

plain_of : (l u : ℤ) → min_bound ≤ℤ l → l ≤ℤ u → u ≤ℤ min_z (l +ℤ max_width) max_bound → Plain l u
plain_of l u a b c =
    let d = simp zify at c in
    record {
      low = record { above = a; below = omega (zarith, d) };
      high = record { above = omega zarith; below = omega (zarith, d) };
      order = b;
      width = simp zify (omega (zarith, d));
    }

module _ (B : List ℤ) (t : T (all (length B / 2) (plain_at B))) where
  plain : (j : ℕ) → j < length B / 2 → Plain (lower B j) (upper B j)
  plain j h =
      let l = lower B j in
      let u = upper B j in
      let most = min_z (l +ℤ max_width) max_bound in
      let w = (all_three (le_z min_bound l) (le_z l u) (le_z u most) (le_test min_bound l) (le_test l u) (le_test u most)).0
      (all-at (length B / 2) (plain_at B) t j h) in
      plain_of l u w.0 w.1 w.2

  plain-ordered : T (ordered B)
  unfolding ordered
  plain-ordered = all-i (length B / 2) _ (λ j h. (le_test (lower B j) (upper B j)).1 (plain j h).order)

  plain-narrow : T (narrow B)
  unfolding narrow
  plain-narrow = all-i (length B / 2) _ (λ j h. (le_test (upper B j -ℤ lower B j) max_width).1 (plain j h).width)

  plain-range : length B % 2 ≡ 0 → T (in_range min_bound max_bound B)
  plain-range e = (in_range-test min_bound max_bound B).1 (λ i h. go i h (ℕ_discrete i (2 * (i / 2))))
    where
      go : (i : ℕ) → i < length B → Dec (i ≡ 2 * (i / 2)) → Between min_bound max_bound (at B i)
      go i h (yes d) = rw d (plain (i / 2) (omega arith)).low
      go i h (no d) = let f : i ≡ 2 * (i / 2) + 1 = omega arith in rw f (plain (i / 2) (omega arith)).high

passes : (n : ℕ) (B : List ℤ) → length B % 2 ≡ 0 → T (all (length B / 2) (plain_at B)) → 0 ≡ first (box_checks n B)
unfolding box_checks
passes n B e t =
    past _ 6 _ (T→true _ (plain-range B t e))
    (past _ 7 _ (T→true _ (or_inr (is_empty n B) (ordered B) (plain-ordered B t))) (past _ 23 _ (T→true _ (plain-narrow B t)) ends))

pub returns-then-is_plain : goal.returns-then-is_plain
returns-then-is_plain c =
    let B = c.args.bounds.now in
    passes c.args.n B c.if-bounds-eq0.true (true→T (all (length B / 2) (plain_at B)) (sym c.is_plain.ensures ∙ c.if-is_plain.true))
