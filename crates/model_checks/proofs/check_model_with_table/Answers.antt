-- `model_checks::check_model_with_table`: the chain without a table, in which the table's length must fit too, and then check 10
-- (`table-chain`).
use Rattle.std.proofs.Common.{◌≡◌, ◌∙◌, true, false, ap, sym, ℕ, ◌*◌, Bool, ◌&&◌, eqb, length, List}
use Rattle.std.proofs.lemmas.Result.{err_from_is_err_and}
use Rattle.model.specs.Checks.{box_checks, first, length_checks, model_checks, model_fault, none, number_checks, size_checks, table, table_byte_checks, table_length_checks}
use Rattle.model.specs.Model.{Model, model_of}
use Rattle.model.specs.Rows.{rows_of}
use Rattle.model.proofs.CheckLaws.{accepts, ends, fails, past, refuses, table-chain}
use Rattle.model_checks.proofs.check_model_with_table.Goals as goal
use Rattle.model_checks.proofs.check_model_with_table.Goals.{then-is_table_length, else-is_table_length}

-- what the chain without a table answers, where every other length fits: the table's and those that the caller answers for
told : {r : ℕ} (M : Model) (t : List ℕ) (fits fit : Bool) → r ≡ model_fault M none fit → fit ≡ (eqb (length t) (4 * (M.n * M.n)) && fits)
    → r ≡ first (model_checks M none (eqb (length t) (4 * (M.n * M.n)) && fits))
unfolding model_fault
told M t fits fit e h = e ∙ ap (λ f. first (model_checks M none f)) h

-- past the chain, what check 10 answers is the answer
past_chain : {r : ℕ} (M : Model) (t : List ℕ) (fits fit : Bool) → 0 ≡ model_fault M none fit → fit ≡ (eqb (length t) (4 * (M.n * M.n)) && fits)
    → r ≡ first (table_byte_checks (table t)) → r ≡ model_fault M (table t) fits
unfolding model_checks size_checks length_checks table_length_checks box_checks number_checks table_byte_checks
past_chain M t fits fit e f h =
    accepts (model_checks M none (eqb (length t) (4 * (M.n * M.n)) && fits)) _ tt (told M t fits fit e f) h ∙ sym (table-chain M t fits)

both : (e f fit r : Bool) → r ≡ e → r ≡ true → fit ≡ f → fit ≡ (e && f)
both e f fit r p q h = rw (sym p ∙ q) h

neither : (e f fit r : Bool) → r ≡ e → r ≡ false → fit ≡ r → fit ≡ (e && f)
neither e f fit r p q h = rw (sym p ∙ q) (h ∙ q)

pub returns-in_err-check_model : goal.returns-in_err-check_model
returns-in_err-check_model c =
    let M = model_of c.args.n c.args.m c.args.bounds.now (rows_of c.args.coefs.now c.args.rhs.now c.args.kinds.now) in
    let e = eqb (length c.args.table.now) (4 * (c.args.n * c.args.n)) in
    let fit : c.if-is_table_length.all_fit ≡ (e && c.args.fits) =
    elim c.if-is_table_length.branch [
      | then-is_table_length w ↦ both e c.args.fits _ _ c.is_table_length.ensures w.if-is_table_length.true w.all_fit-is
      | else-is_table_length w ↦ neither e c.args.fits _ _ c.is_table_length.ensures w.if-is_table_length.false w.all_fit-is
    ] in
    let p = err_from_is_err_and c.from_residual.result c.from_residual.ensures.1 in
    rw (p.1, p.2)
    (refuses _ (table_byte_checks (table c.args.table.now)) _ (told M c.args.table.now c.args.fits _ c.in_err-check_model.ensures fit)
    ∙ sym (table-chain M c.args.table.now c.args.fits))

pub returns-then-not-is_bits : goal.returns-then-not-is_bits
unfolding table_byte_checks
returns-then-not-is_bits c =
    let M = model_of c.args.n c.args.m c.args.bounds.now (rows_of c.args.coefs.now c.args.rhs.now c.args.kinds.now) in
    let e = eqb (length c.args.table.now) (4 * (c.args.n * c.args.n)) in
    let fit : c.if-is_table_length.all_fit ≡ (e && c.args.fits) =
    elim c.if-is_table_length.branch [
      | then-is_table_length w ↦ both e c.args.fits _ _ c.is_table_length.ensures w.if-is_table_length.true w.all_fit-is
      | else-is_table_length w ↦ neither e c.args.fits _ _ c.is_table_length.ensures w.if-is_table_length.false w.all_fit-is
    ] in
    past_chain M c.args.table.now c.args.fits _ c.in_ok-check_model.ensures fit (fails _ 10 _ (sym c.if-not-is_bits.ensures))

pub returns : goal.returns
unfolding table_byte_checks
returns c =
    let M = model_of c.args.n c.args.m c.args.bounds.now (rows_of c.args.coefs.now c.args.rhs.now c.args.kinds.now) in
    let e = eqb (length c.args.table.now) (4 * (c.args.n * c.args.n)) in
    let fit : c.if-is_table_length.all_fit ≡ (e && c.args.fits) =
    elim c.if-is_table_length.branch [
      | then-is_table_length w ↦ both e c.args.fits _ _ c.is_table_length.ensures w.if-is_table_length.true w.all_fit-is
      | else-is_table_length w ↦ neither e c.args.fits _ _ c.is_table_length.ensures w.if-is_table_length.false w.all_fit-is
    ] in
    past_chain M c.args.table.now c.args.fits _ c.in_ok-check_model.ensures fit (past _ 10 _ (sym c.if-not-is_bits.ensures) ends)
