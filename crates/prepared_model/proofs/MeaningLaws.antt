-- What the reasons mean: row by row the list tells the bounds that differ, since a bound that moved only moves on; then pass by pass.
use Prim.Native.Nat.{◌*◌, ◌+◌, ◌/◌, ◌<◌, ◌≤◌, suc, zero, ℕ}
use lib.Dec.{T, T_not, ltb, not_T}
use lib.IntN.{ℤ, ℤ_discrete}
use lib.ListN.{get_or, get_or-replicate, length, length-replicate, replicate}
use mathlib.Core.Bool.{Bool, false, not, true, true≢false}
use mathlib.Core.List.{List}
use mathlib.Core.Logic.{⊎_elim}
use mathlib.Core.Path.{◌∙◌, ◌≡◌, ap, refl, sym}
use native.Mathlib.Numerals.{add-one}
use native.Mathlib.Omega.{arith}
use Rattle.integer.specs.Index.{all}
use Rattle.integer.proofs.IndexLaws.{all-at}
use Rattle.integer.proofs.Parts.{zarith}
use Rattle.integer.proofs.Tests.{false→T}
use Rattle.model.specs.Box.{Inside, NonEmpty, at, is_empty}
use Rattle.model.specs.Rows.{Row, Rows, row_at}
use Rattle.model.proofs.BoxLaws.{inside-refl, inside-trans, non_empty-isn't}
use Rattle.row.specs.Kinds.{propagate_row_of}
use Rattle.row.specs.Outcome.{is_infeasible}
use Rattle.row.proofs.KindLaws.{kinded-non_empty, kinded-shrinks}
use Rattle.semantics.specs.Propagate.{Pass, Propagated, is_none, pass_to, propagate, propagate_from}
use Rattle.call_laws.proofs.LowestLaws.{lowest-found}
use Rattle.call_laws.proofs.PropagateLaws.{look-ind, pass-ended, pass-next}
use Rattle.prepared_model.specs.Meaning.{ReasonsMean, Tells}
use Rattle.prepared_model.specs.Reasons.{Reasons, ending_row, no_row, reasons_from, reasons_to}
use Rattle.prepared_model.specs.RowReasons.{reason_at, row_reasons}
use Rattle.prepared_model.proofs.ReasonsLaws.{reasons-some, reasons-suc}
use Rattle.prepared_model.proofs.RowReasonLaws.{blames-at, half, length-blames, reason-moved, reason-same}

-- the box P came of B, and the list S tells it
pub record Telling (n m : ℕ) (B P : List ℤ) (S : List ℕ) : Type 0 where
  pub some : NonEmpty n P
  pub inside : Inside n P B
  pub len : length S ≡ 2 * n
  pub tells : (i : ℕ) → i < 2 * n → Tells m B P S i

-- a propagation came to W and told S
record Meant (n m : ℕ) (B : List ℤ) (W : Propagated) (S : Reasons) : Type 0 where
  telling : T (not (is_none W.ending)) → Telling n m B W.box S.movers
  none : T (not (is_none W.ending)) → S.infeasible ≡ no_row
  row : T (is_none W.ending) → S.infeasible < m

-- a bound that moved on from one inside B is not B's
pub moved_on : {n : ℕ} {B P Q : List ℤ} → Inside n P B → Inside n Q P → (i : ℕ) → i < 2 * n → (at P i ≡ at Q i → ⊥) → at Q i ≡ at B i → ⊥
moved_on {n} {B} {P} {Q} a b i h d e = ⊎_elim low high (half i)
  where
    low : i ≡ 2 * (i / 2) → ⊥
    low z =
        let x = a.low (i / 2) (omega arith) in
        let y = b.low (i / 2) (omega arith) in
        let f : at Q (2 * (i / 2)) ≡ at B (2 * (i / 2)) = rw (← z) e in
        let g : at P (2 * (i / 2)) ≡ at Q (2 * (i / 2)) = omega zarith in
        d (rw z g)

    high : i ≡ 2 * (i / 2) + 1 → ⊥
    high z =
        let x = a.high (i / 2) (omega arith) in
        let y = b.high (i / 2) (omega arith) in
        let f : at Q (2 * (i / 2) + 1) ≡ at B (2 * (i / 2) + 1) = rw (← z) e in
        let g : at P (2 * (i / 2) + 1) ≡ at Q (2 * (i / 2) + 1) = omega zarith in
        d (rw z g)

module _ (n m : ℕ) (few : m ≤ 120) (B : List ℤ) where
  -- one row more
  module _ (r : ℕ) (h : r < m) (row : Row) {P : List ℤ} {S : List ℕ} (t : Telling n m B P S) (f : T (not (is_infeasible (propagate_row_of n row P).outcome))) where
    abbrev Q : List ℤ
    Q = (propagate_row_of n row P).box

    abbrev S' : List ℕ
    S' = row_reasons r P (propagate_row_of n row P) S

    tells_more : (i : ℕ) → i < 2 * n → Tells m B Q S' i
    tells_more i k = go (ℤ_discrete (at P i) (at Q i))
      where
        is : get_or S' i 0 ≡ reason_at r P Q S i
        is = blames-at r P (propagate_row_of n row P) S f i (omega (arith, t.len))

        go : Dec (at P i ≡ at Q i) → Tells m B Q S' i
        go (yes e) =
            let w = t.tells i k in
            let s : get_or S' i 0 ≡ get_or S i 0 = is ∙ reason-same r P Q S i (sym e) in
            record { still = λ z. sym e ∙ w.still (sym s ∙ z); moved = λ z. let y = w.moved (λ x. z (s ∙ x)) in (rw s y.0, λ x. y.1 (e ∙ x)) }
        go (no d) =
            let s : get_or S' i 0 ≡ r = is ∙ reason-moved r P Q S i d in
            record {
              still = λ z. absurd (let y : ⊥ = omega (arith, s, z) in y);
              moved = λ _. (rw s h, moved_on t.inside (kinded-shrinks n row P f) i k d);
            }

    pub telling-next : Telling n m B Q S'
    telling-next = record {
      some = kinded-non_empty row t.some f;
      inside = inside-trans (kinded-shrinks n row P f) t.inside;
      len = length-blames r P (propagate_row_of n row P) S f ∙ t.len;
      tells = tells_more;
    }

  -- a pass
  pub pass-telling : (A : Rows) (P : List ℤ) (R : List ℕ) → Telling n m B P R → (r : ℕ) → r ≤ m → (pass_to n r A P).ended ≡ false
      → Telling n m B (pass_to n r A P).box (reasons_to n r A P R)
  unfolding pass_to reasons_to
  pass-telling A P R t zero h e = t
  pass-telling A P R t (suc r) h e = go (pass_to n r A P).ended refl (λ k. pass-telling A P R t r (omega arith) k)
    where
      go : (b : Bool) → (pass_to n r A P).ended ≡ b → ((pass_to n r A P).ended ≡ false → Telling n m B (pass_to n r A P).box (reasons_to n r A P R))
          → Telling n m B (pass_to n (suc r) A P).box (reasons_to n (suc r) A P R)
      go true d w = absurd (true≢false (sym d ∙ ap (λ (p : Pass). p.ended) (sym (pass-ended n r A P (suc r) (omega arith) (rw d tt))) ∙ e))
      go false d w =
          let next = rw (add-one r) at (pass-next n r A P (rw d tt)) in
          let f : T (not (is_infeasible (propagate_row_of n (row_at n A r) (pass_to n r A P).box).outcome)) = false→T _ (sym (ap (λ (p : Pass). p.ended) next) ∙ e) in
          rw (next, reasons-suc n A P R r d refl) (telling-next r (omega arith) (row_at n A r) (w d) f)

  -- a row ended it
  ended-row : (A : Rows) (P : List ℤ) → T (pass_to n m A P).ended → ending_row n m A P < m
  unfolding ending_row pass_to
  ended-row A P t = (lowest-found (λ r. not (pass_to n (suc r) A P).ended) m (not_T (all m (λ r. not (pass_to n (suc r) A P).ended)) (none m t))).0
    where
      none : (k : ℕ) → T (pass_to n k A P).ended → T (all k (λ r. not (pass_to n (suc r) A P).ended)) → ⊥
      none zero u a = u
      none (suc k) u a = T_not (pass_to n (suc k) A P).ended (all-at (suc k) _ a k (omega arith)) u

  -- the passes that are left: what they come to and what they tell
  passes-meant : (left made sum : ℕ) (A : Rows) (P : List ℤ) (R : List ℕ) → Telling n m B P R → Meant n m B (propagate_from left made sum n m A P) (reasons_from left n m A P R)
  unfolding propagate_from reasons_from is_none
  passes-meant zero made sum A P R t = record {
    telling = λ _. t;
    none = λ _. refl;
    row = look-ind n m A P (λ x. T (is_none x) → no_row < m) (λ _ z. absurd z) (λ _ z. absurd z);
  }
  passes-meant (suc left) made sum A P R t =
      go (pass_to n m A P).ended refl (ltb 0 (pass_to n m A P).moved) refl
      (λ k. passes-meant left (suc made) (sum + (pass_to n m A P).moved) A (pass_to n m A P).box (reasons_to n m A P R) (pass-telling A P R t m (omega arith) k))
    where
      again : Propagated
      again = propagate_from left (suc made) (sum + (pass_to n m A P).moved) n m A (pass_to n m A P).box

      told : Reasons
      told = reasons_from left n m A (pass_to n m A P).box (reasons_to n m A P R)

      go : (b : Bool) → (pass_to n m A P).ended ≡ b → (c : Bool) → ltb 0 (pass_to n m A P).moved ≡ c → ((pass_to n m A P).ended ≡ false → Meant n m B again told)
          → Meant n m B (propagate_from (suc left) made sum n m A P) (reasons_from (suc left) n m A P R)
      go true e c d w = rw e (record { telling = λ z. absurd z; none = λ z. absurd z; row = λ _. ended-row A P (rw e tt) })
      go false e true d w = rw (e, d) (w e)
      go false e false d w = rw (e, d) (record { telling = λ _. pass-telling A P R t m (omega arith) e; none = λ _. refl; row = λ z. absurd z })

-- a list that holds no row tells the box as it is
telling-first : (n m : ℕ) {B : List ℤ} → NonEmpty n B → Telling n m B B (replicate (2 * n) no_row)
telling-first n m {B} p = record {
  some = p;
  inside = inside-refl n B;
  len = length-replicate (2 * n) no_row;
  tells = λ i h. record { still = λ _. refl; moved = λ z. absurd (z (get_or-replicate (2 * n) i no_row 0 h)) };
}

propagate-some : (budget n m : ℕ) (A : Rows) (B : List ℤ) → is_empty n B ≡ false → propagate budget n m A B ≡ propagate_from budget 0 0 n m A B
unfolding propagate
propagate-some budget n m A B e = rw e

pub reasons-mean : (budget n m : ℕ) (A : Rows) (B : List ℤ) → 0 < n → m ≤ 120 → NonEmpty n B → ReasonsMean budget n m A B
reasons-mean budget n m A B some few p =
    let w = passes-meant n m few B budget 0 0 A B (replicate (2 * n) no_row) (telling-first n m p) in
    let e = non_empty-isn't some p in
    let f = propagate-some budget n m A B e in
    let g = reasons-some budget n m A B (2 * n) e in
    record { bounds = rw (f, g) (λ z. (w.telling z).tells); none = rw (f, g) w.none; row = rw (f, g) w.row }
