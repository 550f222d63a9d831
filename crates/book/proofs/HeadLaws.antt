-- The checks 1 to 4 of a book in their order: a law for 1, one for 2, and one for 3 and 4. `check_head` is judged by them.
use Rattle.std.proofs.Common.{◌∙◌, ◌≡◌, ◌<◌, ◌≤◌, ◌-◌, ap, length, ℕ, List}
use borrow.Author.Tests.{le-leb, lt-leb}
use Rattle.little_endian.specs.Pieces.{part}
use Rattle.model.specs.Checks.{first}
use Rattle.model.specs.declared.refusal.Refusal.{Refusal}
use Rattle.model.specs.Refusals.{number_of}
use Rattle.model.proofs.CheckLaws.{accepts, fails, past, refuses}
use Rattle.book.specs.Book.{trailer_of}
use Rattle.book.specs.BookChecks.{given_length_checks, head_checks, layout_checks}
use Rattle.book.proofs.EncodeLaws.{trailer-part}

-- 1
pub head-short : (bs : List ℕ) → length bs < 16 → 1 ≡ first (head_checks bs)
unfolding head_checks
head-short bs h = fails _ 1 _ (lt-leb _ _ h)

module _ (bs : List ℕ) where
  -- the last 16 bytes as code takes them
  abbrev pub trailer_part : List ℕ
  trailer_part = part (length bs - 16) (length bs - (length bs - 16)) bs

  -- 2
  pub head-given : (z : Refusal) → 16 ≤ length bs → number_of z ≡ first (given_length_checks trailer_part (length bs))
      → number_of z ≡ first (head_checks bs)
  unfolding head_checks
  head-given z h e =
      past _ 1 _ (le-leb _ _ h)
      (refuses (given_length_checks (trailer_of bs) (length bs)) (layout_checks (trailer_of bs)) z
      (e ∙ ap (λ (t : List ℕ). first (given_length_checks t (length bs))) (trailer-part bs)))

  -- 3 and 4
  pub head-layout : (r : ℕ) → 16 ≤ length bs → 0 ≡ first (given_length_checks trailer_part (length bs)) → r ≡ first (layout_checks trailer_part)
      → r ≡ first (head_checks bs)
  unfolding head_checks given_length_checks
  head-layout r h g e =
      past _ 1 _ (le-leb _ _ h)
      (accepts (given_length_checks (trailer_of bs) (length bs)) (layout_checks (trailer_of bs)) tt
      (g ∙ ap (λ (t : List ℕ). first (given_length_checks t (length bs))) (trailer-part bs))
      (e ∙ ap (λ (t : List ℕ). first (layout_checks t)) (trailer-part bs)))

pub ruleset head_order = (head-short, head-given, head-layout)
