-- `book_reading::read`: a refused call leaves the buffers; an accepted one fills them by what each call says, and the round
-- trip follows from the other promises (`reads-back`). Assumes nothing.
use Rattle.std.proofs.Common.{◌*◌, ◌+◌, ℕ, ◌∙◌, ◌≡◌, ap, ap₂, sym, arith, List, ℤ}
use Rattle.std.proofs.lemmas.List.{append-nil, drop_all}
use Rattle.std.proofs.lemmas.Result.{err_from_is_err_and}
use Rattle.model.specs.Model.{model_of}
use Rattle.model.specs.Rows.{Rows, rows_of}
use Rattle.model.specs.Refusals.{number_of}
use Rattle.model.proofs.CheckLaws.{LengthsFit}
use Rattle.model.proofs.RefusalLaws.{number_of-ne0}
use Rattle.book.specs.Answers.{bounds_read, coefs_read, kinds_read, read_call, read_fault, refused, rhs_read, sizes_answer, sizes_are}
use Rattle.book.specs.Book.{HoldsModel, bounds_of, coefs_of, decode, kinds_of, model_in, rhs_of, row_place}
use Rattle.little_endian.specs.Bytes.{Bytes, integers_at}
use Rattle.book.proofs.AcceptLaws.{Head, head-holds, read-passed}
use Rattle.book.proofs.AnswerLaws.{accepted-by, becomes, refused-by, stays}
use Rattle.book.proofs.EncodeLaws.{row_within}
use Rattle.book.proofs.RoundTripLaws.{reads-back}
use Rattle.book_reading.proofs.read.Goals as goal

-- what is left of a list of which a part, or the whole, is filled
ruleset filled = (drop_all, append-nil)

-- the sizes that are read are the book's: they lie within it, and the buffers have their lengths
sized : (n m : ℕ) (bs : List ℕ) (B : List ℤ) (A : Rows) → 0 ≡ read_fault bs B A → n ≡ (decode bs).n → m ≡ (decode bs).m
    → Head bs × HoldsModel n m bs × LengthsFit (model_of n m B A)
unfolding decode model_in
sized n m bs B A e p q =
    let h = read-passed bs B A (sym e) in
    rw (p, q) (h.0, head-holds bs h.0, h.1)

pub returns-in_err-check_book : goal.returns-in_err-check_book
unfolding sizes_answer read_call bounds_read coefs_read rhs_read kinds_read
returns-in_err-check_book c =
    let q = err_from_is_err_and c.from_residual.result c.from_residual.ensures.1 in
    let z = c.in_err-check_book.field-0.0 in
    let e = c.in_err-check_book.ensures in
    let n = number_of-ne0 z in
    let a = c.args in
    let bs = a.book.now in
    let B = a.bounds.now in
    let A = rows_of a.coefs.now a.rhs.now a.kinds.now in
    let known : Bytes bs = record { below = λ i. omega (arith, c.type_inv.book i) } in
    let f = read_fault bs B A in
    let M = decode bs in
    let said : refused (number_of z) ≡ read_call bs B A = refused-by {fault = f} e n (sizes_are M.n M.m) in
    let kept₁ = stays {fault = f} e n B M.box in
    let kept₂ = stays {fault = f} e n A.coefs M.rows.coefs in
    let kept₃ = stays {fault = f} e n A.rhs M.rows.rhs in
    let kept₄ = stays {fault = f} e n A.kinds M.rows.kinds in
    rw (q.1, q.2) (record {
      answer = said;
      bounds_read = kept₁;
      coefs_read = kept₂;
      rhs_read = kept₃;
      kinds_read = kept₄;
      round_trip = λ n m h. reads-back bs B _ A A known kept₁ kept₂ kept₃ kept₄ n m (sym said ∙ h);
    })

pub trailer_u16-n-requires : goal.trailer_u16-n-requires
trailer_u16-n-requires c = omega (arith, (read-passed _ _ _ (sym c.in_ok-check_book.ensures)).0.long)

pub trailer_u16-m-requires : goal.trailer_u16-m-requires
trailer_u16-m-requires c = omega (arith, (read-passed _ _ _ (sym c.in_ok-check_book.ensures)).0.long)

pub read_integers-requires : goal.read_integers-requires
unfolding decode model_in
read_integers-requires c = λ i h.
    let a = c.args in
    let s = sized c.trailer_u16-n.result c.trailer_u16-m.result a.book.now a.bounds.now (rows_of a.coefs.now a.rhs.now a.kinds.now)
    c.in_ok-check_book.ensures c.trailer_u16-n.ensures c.trailer_u16-m.ensures in
    omega arith

pub read_coefs-requires : goal.read_coefs-requires
unfolding decode model_in
read_coefs-requires c =
    let a = c.args in
    let s = sized c.trailer_u16-n.result c.trailer_u16-m.result a.book.now a.bounds.now (rows_of a.coefs.now a.rhs.now a.kinds.now)
    c.in_ok-check_book.ensures c.trailer_u16-n.ensures c.trailer_u16-m.ensures in
    (s.1, s.2.1)

pub overflow_mul-n : goal.overflow_mul-n
unfolding decode model_in
overflow_mul-n c =
    let a = c.args in
    let s = sized c.trailer_u16-n.result c.trailer_u16-m.result a.book.now a.bounds.now (rows_of a.coefs.now a.rhs.now a.kinds.now)
    c.in_ok-check_book.ensures c.trailer_u16-n.ensures c.trailer_u16-m.ensures in
    omega arith

pub overflow_mul-n-2 : goal.overflow_mul-n-2
unfolding decode model_in
overflow_mul-n-2 c =
    let a = c.args in
    let s = sized c.trailer_u16-n.result c.trailer_u16-m.result a.book.now a.bounds.now (rows_of a.coefs.now a.rhs.now a.kinds.now)
    c.in_ok-check_book.ensures c.trailer_u16-n.ensures c.trailer_u16-m.ensures in
    omega arith

pub overflow_add-n : goal.overflow_add-n
unfolding decode model_in
overflow_add-n c =
    let a = c.args in
    let s = sized c.trailer_u16-n.result c.trailer_u16-m.result a.book.now a.bounds.now (rows_of a.coefs.now a.rhs.now a.kinds.now)
    c.in_ok-check_book.ensures c.trailer_u16-n.ensures c.trailer_u16-m.ensures in
    omega arith

pub read_integers-requires-2 : goal.read_integers-requires-2
unfolding decode model_in row_place
read_integers-requires-2 c = λ i h.
    let a = c.args in
    let s = sized c.trailer_u16-n.result c.trailer_u16-m.result a.book.now a.bounds.now (rows_of a.coefs.now a.rhs.now a.kinds.now)
    c.in_ok-check_book.ensures c.trailer_u16-n.ensures c.trailer_u16-m.ensures in
    omega (arith, row_within c.trailer_u16-n.result c.trailer_u16-m.result i (omega (arith, s.2.2)))

-- the buffers hold the book's model
pub returns : goal.returns
unfolding sizes_answer read_call bounds_read coefs_read rhs_read kinds_read decode model_in bounds_of rhs_of row_place integers_at kinds_of
returns c =
    let a = c.args in
    let s = sized c.trailer_u16-n.result c.trailer_u16-m.result a.book.now a.bounds.now (rows_of a.coefs.now a.rhs.now a.kinds.now)
    c.in_ok-check_book.ensures c.trailer_u16-n.ensures c.trailer_u16-m.ensures in
    let bs = a.book.now in
    let B = a.bounds.now in
    let A = rows_of a.coefs.now a.rhs.now a.kinds.now in
    let M = decode bs in
    let n = c.trailer_u16-n.ensures in
    let m = c.trailer_u16-m.ensures in
    let known : Bytes bs = record { below = λ i. omega (arith, c.type_inv.book i) } in
    let z = sym c.in_ok-check_book.ensures in
    let said = ap₂ sizes_are n m ∙ accepted-by z (sizes_are M.n M.m) in
    let zeros = c.fill.ensures.after (λ y e. e) in
    let new₁ = c.read_integers.ensures ∙ ap (λ (k : ℕ). integers_at 0 4 k bs) (s.2.0 ∙ ap (λ (k : ℕ). 2 * k) n) ∙ becomes z B M.box in
    let new₂ = c.read_coefs.ensures ∙ ap₂ (λ (j k : ℕ). coefs_of j k bs) n m ∙ becomes z A.coefs M.rows.coefs in
    let new₃ = c.read_integers-2.ensures ∙ ap₂ (λ (j k : ℕ). integers_at (8 * j) (4 + 4 * j) k bs) n (s.2.2 ∙ m) ∙ becomes z A.rhs M.rows.rhs in
    let zeros_read = ap kinds_of (s.2.3 ∙ m) ∙ becomes z A.kinds M.rows.kinds in
    record {
      answer = said;
      bounds_read = new₁;
      coefs_read = new₂;
      rhs_read = new₃;
      kinds_read = grind (arith, filled);
      round_trip = λ p q h. reads-back bs B _ A (rows_of _ _ _) known new₁ new₂ new₃ (grind (arith, filled)) p q (sym said ∙ h);
    }
