-- `sparse_checks::head::check_head`: the part of the book is its trailer, and the checks are passed in their order.
-- Assumes nothing.
use Rattle.std.proofs.Common.{◌≤◌, ℕ, length, List, ◌++◌, ◌∷◌, ◌∙◌, ◌≡◌, ap, sym, leb, arith}
use Rattle.std.proofs.lemmas.Result.{err_from_is_err_and}
use borrow.Author.Tests.{le-leb, lt-leb}
use Rattle.model.specs.Checks.{Check, first, must, size_checks}
use Rattle.model.proofs.CheckLaws.{accepts, ends, fails, past, refuses}
use Rattle.little_endian.specs.Bytes.{Bytes}
use Rattle.book.specs.Book.{trailer_of}
use Rattle.book.specs.BookChecks.{given_length_checks}
use Rattle.book.proofs.EncodeLaws.{trailer-part}
use Rattle.sparse_layout.specs.SparseChecks.{sparse_frame_checks, sparse_head_checks, sparse_offset_checks, walk_checks}
use Rattle.sparse_layout.proofs.CheckingLaws.{frame-passed, given-passed}
use Rattle.sparse_checks.proofs.head.check_head.Goals as goal

-- the calls answer for the book's trailer (`trailer-part`)

-- past checks 1 and 2
past-given : {r : ℕ} (bs : List ℕ) (ys : List Check) → 16 ≤ length bs → 0 ≡ first (given_length_checks (trailer_of bs) (length bs)) → r ≡ first ys
    → r ≡ first (must (leb 16 (length bs)) 1 ∷ given_length_checks (trailer_of bs) (length bs) ++ ys)
unfolding given_length_checks
past-given bs ys l g h = past _ 1 _ (le-leb _ _ l) (accepts (given_length_checks (trailer_of bs) (length bs)) ys tt g h)

-- past checks 1 to 3 and the offsets
past-frame : {r : ℕ} (bs : List ℕ) (ys : List Check) → 16 ≤ length bs → 0 ≡ first (given_length_checks (trailer_of bs) (length bs))
    → 0 ≡ first (sparse_frame_checks (trailer_of bs)) → r ≡ first ys
    → r ≡ first (must (leb 16 (length bs)) 1 ∷ given_length_checks (trailer_of bs) (length bs) ++ (sparse_frame_checks (trailer_of bs) ++ ys))
unfolding sparse_frame_checks size_checks sparse_offset_checks
past-frame bs ys l g f h = past-given bs _ l g (accepts (sparse_frame_checks (trailer_of bs)) ys tt f h)

pub returns-then-len-lt-TRAILER : goal.returns-then-len-lt-TRAILER
unfolding sparse_head_checks
returns-then-len-lt-TRAILER c = fails _ 1 _ (lt-leb _ _ c.if-len-lt-TRAILER.true)

pub returns-in_err-check_given_length : goal.returns-in_err-check_given_length
unfolding sparse_head_checks
returns-in_err-check_given_length c =
    let bs = c.args.book.now in
    let p = err_from_is_err_and c.from_residual.result c.from_residual.ensures.1 in
    let given = c.in_err-check_given_length.ensures ∙ ap (λ (t : List ℕ). first (given_length_checks t (length bs))) (trailer-part bs) in
    rw (p.1, p.2) (past _ 1 _ (le-leb _ _ c.if-len-lt-TRAILER.false) (refuses (given_length_checks (trailer_of bs) (length bs)) _ _ given))

pub returns-in_err-check_frame : goal.returns-in_err-check_frame
unfolding sparse_head_checks
returns-in_err-check_frame c =
    let bs = c.args.book.now in
    let p = err_from_is_err_and c.from_residual-in_err-check_frame.result c.from_residual-in_err-check_frame.ensures.1 in
    let given = c.in_ok-check_given_length.ensures ∙ ap (λ (t : List ℕ). first (given_length_checks t (length bs))) (trailer-part bs) in
    let frame = c.in_err-check_frame.ensures ∙ ap (λ (t : List ℕ). first (sparse_frame_checks t)) (trailer-part bs) in
    rw (p.1, p.2) (past-given bs _ c.if-len-lt-TRAILER.false given (refuses (sparse_frame_checks (trailer_of bs)) _ _ frame))

-- n is within its limit, and the book's length is one of 32 bits
pub walk_ends-requires : goal.walk_ends-requires
walk_ends-requires c =
    let bs = c.args.book.now in
    let b : Bytes bs = record { below = λ i. omega (arith, c.type_inv.book i) } in
    let given = c.in_ok-check_given_length.ensures ∙ ap (λ (t : List ℕ). first (given_length_checks t (length bs))) (trailer-part bs) in
    let frame = c.in_ok-check_frame.ensures ∙ ap (λ (t : List ℕ). first (sparse_frame_checks t)) (trailer-part bs) in
    omega (arith, frame-passed (trailer_of bs) (sym frame), given-passed bs b c.if-len-lt-TRAILER.false (sym given), c.trailer_u16-n.ensures)

-- the walk is that of the book's n and m
pub returns-then-not-walk_ends : goal.returns-then-not-walk_ends
unfolding sparse_head_checks walk_checks
returns-then-not-walk_ends c =
    let bs = c.args.book.now in
    let given = c.in_ok-check_given_length.ensures ∙ ap (λ (t : List ℕ). first (given_length_checks t (length bs))) (trailer-part bs) in
    let frame = c.in_ok-check_frame.ensures ∙ ap (λ (t : List ℕ). first (sparse_frame_checks t)) (trailer-part bs) in
    let walked = rw (c.trailer_u16-n.ensures, c.trailer_u16-m.ensures) at c.if-not-walk_ends.ensures in
    past-frame bs _ c.if-len-lt-TRAILER.false given frame (fails _ 4 _ (sym walked))

pub returns : goal.returns
unfolding sparse_head_checks walk_checks
returns c =
    let bs = c.args.book.now in
    let given = c.in_ok-check_given_length.ensures ∙ ap (λ (t : List ℕ). first (given_length_checks t (length bs))) (trailer-part bs) in
    let frame = c.in_ok-check_frame.ensures ∙ ap (λ (t : List ℕ). first (sparse_frame_checks t)) (trailer-part bs) in
    let walked = rw (c.trailer_u16-n.ensures, c.trailer_u16-m.ensures) at c.if-not-walk_ends.ensures in
    past-frame bs _ c.if-len-lt-TRAILER.false given frame (past _ 4 _ (sym walked) ends)
