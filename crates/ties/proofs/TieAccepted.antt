-- What a tie call that is accepted knows: the state is valid, its tie list too, and k and j are variables.
use Prim.Native.Nat.{◌*◌, ◌<◌, ◌≤◌, ℕ}
use lib.Dec.{T, eqb, leb}
use lib.ListN.{get_or, length}
use mathlib.Core.Bool.{◌&&◌}
use mathlib.Core.List.{List, [], ◌∷◌}
use mathlib.Core.Logic.{◌↔◌}
use mathlib.Core.Path.{◌≡◌}
use native.Mathlib.Omega.{arith}
use Rattle.integer.proofs.IndexLaws.{all-test, get_d-all}
use Rattle.integer.proofs.Tests.{all_three, eqb-test, leb-test, ltb-test}
use Rattle.model.specs.Checks.{model_fault, must, table}
use Rattle.model.proofs.CheckLaws.{first-none, first-zero-append, fits-table-fault-none}
use Rattle.semantics.specs.Call.{lengths_of}
use Rattle.call_laws.proofs.Accepted.{numbered-model}
use Rattle.ties.specs.TieCall.{TieCall, given_model_tie, is_lent_tie, places_check, places_fit, tie_checks, tie_fault, tie_own_checks, ties_fault}
use Rattle.ties.specs.Ties.{TiedState, ValidTiedState, ValidTies}

-- ---- the list

pub places-below : (n : ℕ) (ties : List ℕ) → T (places_fit n ties) ↔ ((i : ℕ) → i < length ties → get_or ties i 0 ≤ 2 * n)
unfolding places_fit
places-below n ties = all-test (length ties) (λ i. leb (get_or ties i 0) (2 * n)) (λ i. leb-test (get_or ties i 0) (2 * n))

places-test : (n : ℕ) (ties : List ℕ) → T (places_fit n ties) ↔ ((i : ℕ) → get_or ties i 0 ≤ 2 * n)
places-test n ties =
    let d = places-below n ties in ((λ t. get_d-all ties 0 (λ p. p ≤ 2 * n) (omega arith) (d.0 t)), (λ p. d.1 (λ i _. p i)))

pub ties-fault-none : (n : ℕ) (ties : List ℕ) → (ties_fault n ties ≡ 0) ↔ ValidTies n ties
unfolding ties_fault
ties-fault-none n ties =
    let d = first-none (must (eqb (length ties) n) 5 ∷ places_check n ties ∷ []) tt in
    let l = eqb-test (length ties) n in
    let p = places-test n ties in (
      (λ e. let h = d.0 e in record { len = l.0 h.0; places = p.0 h.1.0 }),
      (λ v. d.1 (l.1 v.len, (p.1 v.places, tt))),
    )

-- ---- the buffers that the call is lent

pub record LentTie (s : TiedState) (c : TieCall) : Type 0 where
  pub variables : c.n ≡ s.state.model.n
  pub rows : c.m ≡ s.state.model.m
  pub box : c.lengths.box ≡ length s.state.model.box
  pub coefs : c.lengths.coefs ≡ length s.state.model.rows.coefs
  pub rhs : c.lengths.rhs ≡ length s.state.model.rows.rhs
  pub kinds : c.lengths.kinds ≡ length s.state.model.rows.kinds
  pub table : c.lengths.table ≡ length s.state.table
  pub ties : c.ties ≡ length s.ties
  pub places : length s.ties ≡ c.n

pub lent-tie-test : (s : TiedState) (c : TieCall) → T (is_lent_tie s c) ↔ LentTie s c
unfolding is_lent_tie lengths_of
lent-tie-test s c =
    let M = s.state.model in
    let n = eqb c.n M.n in let m = eqb c.m M.m in let B = eqb c.lengths.box (length M.box) in
    let C = eqb c.lengths.coefs (length M.rows.coefs) in let R = eqb c.lengths.rhs (length M.rows.rhs) in
    let K = eqb c.lengths.kinds (length M.rows.kinds) in let t = eqb c.lengths.table (length s.state.table) in
    let i = eqb c.ties (length s.ties) in let p = eqb (length s.ties) c.n in
    let d = all_three (n && m && B && C && R && K && t) i p
    (all_three (n && m && B && C && R) K t
    (all_three (n && m && B) C R
    (all_three n m B (eqb-test c.n M.n) (eqb-test c.m M.m) (eqb-test c.lengths.box (length M.box)))
    (eqb-test c.lengths.coefs (length M.rows.coefs)) (eqb-test c.lengths.rhs (length M.rows.rhs)))
    (eqb-test c.lengths.kinds (length M.rows.kinds)) (eqb-test c.lengths.table (length s.state.table)))
    (eqb-test c.ties (length s.ties)) (eqb-test (length s.ties) c.n) in (
      (λ h. let l = d.0 h in record {
        variables = l.0.0.0.0;
        rows = l.0.0.0.1;
        box = l.0.0.0.2;
        coefs = l.0.0.1;
        rhs = l.0.0.2;
        kinds = l.0.1;
        table = l.0.2;
        ties = l.1;
        places = l.2;
      }),
      (λ l. d.1 ((((l.variables, l.rows, l.box), l.coefs, l.rhs), l.kinds, l.table), l.ties, l.places)),
    )

-- the model that such a call is given is the state's
pub given-own-tie : (s : TiedState) (c : TieCall) → LentTie s c → given_model_tie s c ≡ s.state.model
unfolding given_model_tie
given-own-tie s c l = rw (l.variables, l.rows)

-- ---- the call

pub record TieAccepted (s : TiedState) (c : TieCall) : Type 0 where
  pub lent : LentTie s c
  pub valid : ValidTiedState s
  pub k : c.k < s.state.model.n
  pub j : c.j < s.state.model.n

pub tie-accepted : (s : TiedState) (c : TieCall) → tie_fault s c ≡ 0 → TieAccepted s c
unfolding tie_fault tie_checks model_fault tie_own_checks
tie-accepted s c e =
    let t = s.state.table in
    let h = (first-zero-append _ (tie_own_checks s c) (numbered-model (given_model_tie s c) (table t) (is_lent_tie s c))).0 e in
    let v = (fits-table-fault-none (given_model_tie s c) t (is_lent_tie s c)).0 h.0 in
    let l = (lent-tie-test s c).0 v.2 in
    let own = (first-none (tie_own_checks s c) tt).0 h.1 in
    let g = given-own-tie s c l in
    record {
      lent = l;
      valid = record {
        state = record { model = rw g at v.0; table = rw g at v.1 };
        ties = record { len = rw l.variables at l.places; places = rw l.variables at ((places-test c.n s.ties).0 own.0) };
      };
      k = rw l.variables at ((ltb-test c.k c.n).0 own.1.0);
      j = rw l.variables at ((ltb-test c.j c.n).0 own.1.1.0);
    }
