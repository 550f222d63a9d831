-- `plan_lengths::lengths_for`: each length is written as it is defined, the book's with its products by n apart; within the limits
-- of n and m none overflows.
use Prim.Native.Nat.{◌*◌, ◌+◌, ◌≤◌, ℕ}
use mathlib.Core.Path.{◌≡◌}
use native.Mathlib.Nat.{mul-le-mul}
use native.Mathlib.Omega.{arith}
use Rattle.book.specs.Book.{book_length}
use Rattle.plan.specs.Lengths.{lengths_for, lengths_of}
use Rattle.plan_lengths.proofs.lengths_for.Goals as goal

-- within the limits of n and m no product is large
products : (s : goal.Start) → (s.args.m * s.args.n ≤ 120 * 128) × (s.args.n * s.args.n ≤ 128 * 128)
products s = (mul-le-mul s.requires.1 s.requires.0, mul-le-mul s.requires.0 s.requires.0)

-- the book's length, with its products by n apart
book-bytes : (n m : ℕ) → 8 * n + 4 * m + 4 * (m * n) + 16 ≡ book_length n m
unfolding book_length
book-bytes n m = omega arith

pub returns : goal.returns
unfolding lengths_of lengths_for
returns c = rw (book-bytes c.args.n c.args.m)
