-- Laws of the rows' turn: an accepted call can hold its proposals against the next row, and each is then judged by one row more.
use Prim.Native.Nat.{◌+◌, ◌<◌, ℕ}
use lib.IntN.{ℤ}
use mathlib.Core.List.{List}
use mathlib.Core.Path.{◌∙◌, ◌≡◌, sym}
use native.Mathlib.Omega.{arith}
use Rattle.integer.specs.Range.{Within}
use Rattle.model.specs.Box.{at}
use Rattle.model.specs.Model.{Model}
use Rattle.model.specs.Rows.{row_at, row_of}
use Rattle.model.specs.Valid.{ValidModel}
use Rattle.model.proofs.RowsLaws.{length-row_of}
use Rattle.row.proofs.RowLoops.{coefs-small}
use Rattle.row_index.proofs.IndexLoops.{line-end}
use Rattle.matrix_view.specs.RowIn.{RowIn}
use Rattle.call_laws.proofs.RowChange.{row-valid}
use Rattle.proposals.specs.Call.{allocation_fault}
use Rattle.proposals.proofs.CallLaws.{accepted}
use Rattle.proposals.specs.Holding.{Judgeable, Lent, Pending}
use Rattle.proposals.specs.Proposals.{proposal}
use Rattle.proposals.specs.Telling.{Tells, held}
use Rattle.proposals.specs.Verdict.{meets, row_met, verdict_by}
use Rattle.proposals.proofs.VerdictLaws.{in_box-test, inside-by, inside-case}
use Rattle.proposals.proofs.HeldLaws.{held-verdict, inside-small}

-- an accepted call
pub judgeable : (M : Model) (P : List ℤ) (count : ℕ) (Y : List ℕ) → allocation_fault M P count Y ≡ 0 → Judgeable M count P Y
judgeable M P count Y e =
    let a = accepted M P count Y e in
    record { valid = a.0; lent = record { few = a.0.few; few_proposals = a.1; len = a.2; room = a.3 } }

module _ (M : Model) (v : ValidModel M) (i : ℕ) (h : i < M.m) where
  pub row_in : RowIn M.n M.rows i
  row_in = record {
    coefs = omega (arith, line-end i M.m M.n h, v.coefs_len);
    rhs = omega (arith, v.rhs_len);
    kinds = omega (arith, v.kinds_len);
  }

  row-coefs : (j : ℕ) → Within 1_000_000 (at (row_of M.n M.rows.coefs i) j)
  row-coefs j = coefs-small (row-valid M i v h).coefs j

  -- each proposal is judged by the rows below i: those inside so far are as small as the bounds
  pub pending : {count : ℕ} {P : List ℤ} {Y : List ℕ} → Lent M.n count P Y → Tells count (λ c. verdict_by i M (proposal M.n P c)) Y
      → Pending M.n count (row_of M.n M.rows.coefs i) P Y
  pending {count} {P} {Y} l t = record {
    lent = l;
    len = length-row_of M.n M.m M.rows.coefs i v.coefs_len h;
    told = λ c k. (verdict_by i M (proposal M.n P c), t.says c k);
    small = λ c k e.
        let x = proposal M.n P c in
        let q = length-row_of M.n count P c l.len k in
        let b = (inside-by i M x).0 ((inside-case (verdict_by i M x)).0 (sym (t.says c k).case ∙ e)) in
        record { few = l.few; len = q; coefs = row-coefs; numbers = inside-small v.box q ((in_box-test M.n M.box x).0 b.0) };
  }

pub held-row : (i : ℕ) (M : Model) (x : List ℤ) → held i (meets M.n (row_at M.n M.rows i) x) (verdict_by i M x) ≡ verdict_by (i + 1) M x
unfolding row_met
held-row i M x = sym (held-verdict i M x)
