-- `book_reading::read_coefs`: after i turns the coefficients of the first i rows are overwritten by those read.
-- Assumes nothing.
use Rattle.std.proofs.Common.{◌*◌, ◌+◌, ◌-◌, ◌≤◌, ℕ, List, ℤ, length, ◌∙◌, ◌≡◌, ap₂, arith}
use Rattle.book.specs.Book.{coefs_of, row_place}
use Rattle.little_endian.specs.Bytes.{integers_at}
use Rattle.little_endian.specs.Pieces.{overwrite, part}
use Rattle.little_endian.proofs.ByteLaws.{length-integers_at}
use Rattle.book.proofs.DecodeLaws.{length-coefs_of}
use Rattle.book.proofs.EncodeLaws.{row_within}
use Rattle.little_endian.proofs.PieceLaws.{length-joined, length_part, overwrite-all, overwrite-part, overwrite-start, overwrite-turn, piece-within}
use Rattle.book_reading.proofs.read_coefs.Invariants.{piece}
use Rattle.book_reading.proofs.read_coefs.Goals as goal

-- the part lent is as long as a row
lent_length : (k n : ℕ) (xs : List ℤ) → k + n ≤ length xs → length (part k (k + n - k) xs) ≡ n
lent_length k n xs h = let e : k + n - k ≡ n = omega arith in rw e (length_part k n xs h)

pub loop-i-init : goal.loop-i-init
loop-i-init c = overwrite-start 0 _ _

pub overflow_add-row : goal.overflow_add-row
overflow_add-row c = omega (arith, row_within c.args.n c.args.m c.loop-i.i c.loop-i-test.true)

pub read_integers-requires : goal.read_integers-requires
read_integers-requires c = λ j h.
    let n = c.args.n in
    let i = c.loop-i.i in
    let p = piece-within c.args.m n i c.loop-i-test.true in
    omega (arith, row_within n c.args.m i c.loop-i-test.true, lent_length (i * n) n c.loop-i.coefs (omega arith))

-- what comes back of the part is the row's coefficients
pub loop-i-preserved : goal.loop-i-preserved
loop-i-preserved c =
    let a = c.args in
    let i = c.loop-i.i in
    let n = a.n in
    let bs = a.book.now in
    let f = piece n bs in
    let new = c.read_integers.new.xs in
    let p = piece-within a.m n i c.loop-i-test.true in
    let lent = lent_length (i * n) n c.loop-i.coefs (omega arith) in
    let read : new ≡ f i = c.read_integers.ensures ∙ ap₂ (λ (q k : ℕ). integers_at (q + 4) 4 k bs) c.row_place-row.ensures lent in
    let e : i * n + n - i * n ≡ n = omega arith in
    let pieces = length-joined i n f (λ r _. length-integers_at (row_place n r + 4) 4 n bs) in
    rw e (overwrite-part (i * n) n new c.loop-i.coefs (c.read_integers.auto.xs ∙ lent)
    ∙ ap₂ (overwrite (i * n)) read c.loop-i.invariant
    ∙ overwrite-turn 0 (i * n) i f a.coefs.now (omega (arith, pieces)) (omega (arith, length-integers_at (row_place n i + 4) 4 n bs)))

pub returns : goal.returns
unfolding coefs_of
returns c =
    let a = c.args in
    let end : c.loop-i.i ≡ a.m = omega arith in
    rw end at c.loop-i.invariant
    ∙ overwrite-all (coefs_of a.n a.m a.book.now) a.coefs.now (omega (arith, length-coefs_of a.n a.m a.book.now))
