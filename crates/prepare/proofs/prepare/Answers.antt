-- `prepare::prepare`: a model that passes the checks is valid (`fits-fault-none`), and what is written then is prepared for its rows
-- (`written-prepared`). Assumes nothing.
use lib.Dec.{eqb, eqb→eq}
use mathlib.Core.Path.{◌≡◌, refl, sym}
use Rattle.std.proofs.lemmas.Result.{err_from_is_err_and}
use Rattle.model.specs.Checks.{model_fault, none}
use Rattle.model.specs.Model.{Model, model_of}
use Rattle.model.specs.Rows.{rows_of}
use Rattle.model.specs.Valid.{ValidModel}
use Rattle.model.proofs.CheckLaws.{fits-fault-none}
use Rattle.model.proofs.RefusalLaws.{number_of-ne0}
use Rattle.prepared_model.specs.Layout.{workspace_len}
use Rattle.prepare.proofs.WrittenLaws.{valid-zero, written-prepared}
use Rattle.prepare.proofs.prepare.Goals as goal

-- where no check failed
accepted : (M : Model) (k : Prim.Native.Nat.ℕ) → 0 ≡ model_fault M none (eqb k workspace_len) → ValidModel M × (k ≡ workspace_len)
accepted M k e =
    let d = (fits-fault-none M (eqb k workspace_len)).0 (sym e) in
    (d.0, eqb→eq _ _ d.1)

pub returns-in_err-check_model : goal.returns-in_err-check_model
returns-in_err-check_model c =
    let p = err_from_is_err_and c.from_residual.result c.from_residual.ensures.1 in
    rw (p.1, p.2) (record { fault = c.in_err-check_model.ensures; refused = λ e. refl; prepared = λ e. absurd (number_of-ne0 _ e) })

pub write-requires : goal.write-requires
write-requires c =
    let a = accepted (model_of c.args.n c.args.m c.args.bounds.now (rows_of c.args.coefs.now c.args.rhs.now c.args.kinds.now)) _ c.in_ok-check_model.ensures in
    (valid-zero a.0, a.1)

pub returns : goal.returns
returns c =
    let a = accepted (model_of c.args.n c.args.m c.args.bounds.now (rows_of c.args.coefs.now c.args.rhs.now c.args.kinds.now)) _ c.in_ok-check_model.ensures in
    let w = c.write.ensures in
    record {
      fault = c.in_ok-check_model.ensures;
      refused = λ f. absurd (f refl);
      prepared = λ f. (written-prepared _ _ _ _ w (valid-zero a.0), w.variables, w.row_count);
    }
