-- `book_reading::check_bounds`: the front of the local array holds the book's bounds. Assumes nothing.
use Rattle.std.proofs.Common.{◌*◌, ℕ, pos, ℤ, drop, length, replicate, take, List, ◌∙◌, ◌≡◌, ap, arith, ◌≤◌}
use lib.ListN.{length-replicate}
use lib.Seq.{length-take-le, take_at}
use Rattle.model.specs.Checks.{box_checks, first}
use Rattle.book.specs.Book.{bounds_of}
use Rattle.little_endian.specs.Bytes.{integers_at}
use Rattle.book_reading.proofs.check_bounds.Goals as goal

abbrev zeros : List ℤ
zeros = replicate 256 (pos 0)

room : (n : ℕ) → n ≤ 128 → length (take (2 * n) zeros) ≡ 2 * n
room n h = length-take-le (2 * n) zeros (rw length-replicate (omega arith))

pub returns : goal.returns
unfolding bounds_of
returns c =
    let n = c.args.n in
    let len = c.read_integers.auto.xs ∙ room n c.requires.0 in
    let held = take_at c.read_integers.new.xs (drop (2 * n) zeros) (2 * n) len in
    c.check_box.ensures
    ∙ ap (λ (B : List ℤ). first (box_checks n B))
    (held ∙ c.read_integers.ensures ∙ ap (λ (k : ℕ). integers_at 0 4 k c.args.book.now) (room n c.requires.0))
