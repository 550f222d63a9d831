-- What a call that is accepted knows: it is lent the state's own buffers, the model and table are valid, its own fields fit.
use Prim.Native.Nat.{◌<◌, ◌≤◌, ℕ}
use lib.Dec.{T, eqb, leb}
use lib.ListN.{length}
use mathlib.Core.Bool.{Bool, ◌&&◌, ◌||◌, cond, false, not, true}
use mathlib.Core.List.{List, ◌++◌}
use mathlib.Core.Logic.{◌↔◌}
use mathlib.Core.Path.{◌∙◌, ◌≡◌, ap}
use Rattle.integer.proofs.Tests.{T→true, all_three, both, eqb-test, leb-test, ltb-test, when-test}
use Rattle.model.specs.Box.{is_empty, is_free}
use Rattle.model.specs.Checks.{LentTable, box_checks, first, length_checks, model_checks, model_fault, none, number_checks, size_checks, table, table_byte_checks, table_length_checks}
use Rattle.model.specs.Model.{Model}
use Rattle.model.specs.State.{State}
use Rattle.model.specs.Valid.{ValidModel, ValidState, ValidTable}
use Rattle.model.proofs.CheckLaws.{first-append, first-none, first-zero-append, fits-fault-none, fits-table-fault-none, numbered, table-fault-none}
use Rattle.semantics.specs.Call.{Call, Kind, Lengths, has_budget, has_row, has_table, has_variable, is_unknown, kind_of, lengths_of}
use Rattle.semantics.specs.CallChecks.{call_checks, call_fault, given_model, is_lent, lent_table, listed_checks, listed_fault, max_budget, record_checks}

-- ---- the buffers that a call is lent are the state's

pub record Lent (k : Kind) (s : State) (c : Call) : Type 0 where
  pub variables : c.n ≡ s.model.n
  pub rows : c.m ≡ s.model.m
  pub box : c.lengths.box ≡ length s.model.box
  pub coefs : c.lengths.coefs ≡ length s.model.rows.coefs
  pub rhs : c.lengths.rhs ≡ length s.model.rows.rhs
  pub kinds : c.lengths.kinds ≡ length s.model.rows.kinds
  pub table : T (has_table k) → c.lengths.table ≡ length s.table

-- a call that is lent all of the state, as the code makes it
pub lent-own : {k : Kind} {s : State} {c : Call} → c.n ≡ s.model.n → c.m ≡ s.model.m → c.lengths ≡ lengths_of s → Lent k s c
unfolding lengths_of
lent-own {k} {s} {c} n m l = record {
  variables = n;
  rows = m;
  box = ap (λ (x : Lengths). x.box) l;
  coefs = ap (λ (x : Lengths). x.coefs) l;
  rhs = ap (λ (x : Lengths). x.rhs) l;
  kinds = ap (λ (x : Lengths). x.kinds) l;
  table = λ _. ap (λ (x : Lengths). x.table) l;
}

pub lent-test : (k : Kind) (s : State) (c : Call) → T (is_lent k s c) ↔ Lent k s c
unfolding is_lent lengths_of
lent-test k s c =
    let n = eqb c.n s.model.n in let m = eqb c.m s.model.m in let B = eqb c.lengths.box (length s.model.box) in
    let C = eqb c.lengths.coefs (length s.model.rows.coefs) in let R = eqb c.lengths.rhs (length s.model.rows.rhs) in
    let t = not (has_table k) || eqb c.lengths.table (length s.table) in
    let K = eqb c.lengths.kinds (length s.model.rows.kinds) in
    let d = all_three (n && m && B && C && R) K t
    (all_three (n && m && B) C R
    (all_three n m B (eqb-test c.n s.model.n) (eqb-test c.m s.model.m) (eqb-test c.lengths.box (length s.model.box)))
    (eqb-test c.lengths.coefs (length s.model.rows.coefs)) (eqb-test c.lengths.rhs (length s.model.rows.rhs)))
    (eqb-test c.lengths.kinds (length s.model.rows.kinds))
    (when-test (has_table k) _ (eqb-test c.lengths.table (length s.table))) in (
      (λ h. let l = d.0 h in record {
        variables = l.0.0.0;
        rows = l.0.0.1;
        box = l.0.0.2;
        coefs = l.0.1;
        rhs = l.0.2;
        kinds = l.1;
        table = l.2;
      }),
      (λ l. d.1 (((l.variables, l.rows, l.box), l.coefs, l.rhs), l.kinds, l.table)),
    )

-- ---- such a call's checks are those of the model, then its own

pub numbered-model : (M : Model) (t : LentTable) (fits : Bool) → T (numbered (model_checks M t fits))
unfolding model_checks size_checks length_checks table_length_checks box_checks number_checks table_byte_checks
numbered-model M none fits = tt
numbered-model M (table t) fits = tt

abbrev pub model_fault_of : Kind → State → ℕ
model_fault_of k s = model_fault s.model (lent_table k s) true

fault-first : (k : Kind) (s : State) (c : Call) → Lent k s c
    → first (call_checks k s c) ≡ first (model_checks s.model (lent_table k s) true ++ record_checks k s c)
unfolding call_checks given_model
fault-first k s c l = rw (T→true (is_lent k s c) ((lent-test k s c).1 l), l.variables, l.rows)

pub fault-lent : (s : State) (c : Call) → Lent (kind_of c.kind) s c
    → call_fault s c ≡ cond (eqb (model_fault_of (kind_of c.kind) s) 0) (first (record_checks (kind_of c.kind) s c)) (model_fault_of (kind_of c.kind) s)
unfolding call_fault model_fault
fault-lent s c l =
    let k = kind_of c.kind in
    fault-first k s c l
    ∙ first-append (model_checks s.model (lent_table k s) true) (record_checks k s c) (numbered-model s.model (lent_table k s) true)

pub fault-of-own : (s : State) (c : Call) → c.n ≡ s.model.n → c.m ≡ s.model.m → c.lengths ≡ lengths_of s
    → call_fault s c ≡ cond (eqb (model_fault_of (kind_of c.kind) s) 0) (first (record_checks (kind_of c.kind) s c)) (model_fault_of (kind_of c.kind) s)
fault-of-own s c n m l = fault-lent s c (lent-own n m l)

-- ---- acceptance

pub record Accepted (k : Kind) (s : State) (c : Call) : Type 0 where
  pub lent : Lent k s c
  pub model : ValidModel s.model
  pub table : T (has_table k) → ValidTable s.model.n s.table
  pub kind : T (not (is_unknown k))
  pub row : T (has_row k) → c.row < s.model.m
  pub variable : T (has_variable k) → c.variable < s.model.n
  pub free : T (has_variable k) → T (is_empty s.model.n s.model.box || is_free s.model.box c.variable)
  pub budget : T (has_budget k) → (1 ≤ c.budget) × (c.budget ≤ max_budget)

table-test : (M : Model) (t : List ℕ) (b fits : Bool)
    → (model_fault M (cond b (table t) none) fits ≡ 0) ↔ (ValidModel M × (T b → ValidTable M.n t) × T fits)
table-test M t true fits =
    let d = fits-table-fault-none M t fits in ((λ e. let h = d.0 e in (h.0, (λ _. h.1), h.2)), (λ h. d.1 (h.0, h.1 tt, h.2)))
table-test M t false fits =
    let d = fits-fault-none M fits in ((λ e. let h = d.0 e in (h.0, (λ z. absurd z), h.1)), (λ h. d.1 (h.0, h.2)))

-- in a valid state only the record's own checks can refuse a call that is lent all of it
pub fault-of-valid : (s : State) (c : Call) → ValidState s → c.n ≡ s.model.n → c.m ≡ s.model.m → c.lengths ≡ lengths_of s
    → call_fault s c ≡ first (record_checks (kind_of c.kind) s c)
unfolding lent_table
fault-of-valid s c v n m l =
    fault-of-own s c n m l
    ∙ rw ((table-test s.model s.table (has_table (kind_of c.kind)) true).1 (v.model, (λ _. v.table), tt))

-- what the record's own checks come to
abbrev Fields : Kind → State → Call → Type 0
Fields k s c =
    T (not (is_unknown k))
    × (T (has_row k) → c.row < s.model.m)
    × (T (has_variable k) → c.variable < s.model.n)
    × (T (has_variable k) → T (is_empty s.model.n s.model.box || is_free s.model.box c.variable))
    × (T (has_budget k) → (1 ≤ c.budget) × (c.budget ≤ max_budget))

fields-test : (k : Kind) (s : State) (c : Call) → (first (record_checks k s c) ≡ 0) ↔ Fields k s c
unfolding record_checks
fields-test k s c =
    let d = first-none (record_checks k s c) tt in
    let r = when-test (has_row k) _ (ltb-test c.row s.model.m) in
    let v = when-test (has_variable k) _ (ltb-test c.variable s.model.n) in
    let f = when-test (has_variable k) (is_empty s.model.n s.model.box || is_free s.model.box c.variable) ((λ t. t), (λ t. t)) in
    let b = when-test (has_budget k) _ (both (leb 1 c.budget) (leb c.budget max_budget) (leb-test 1 c.budget) (leb-test c.budget max_budget)) in (
      (λ e. let h = d.0 e in (h.0, r.0 h.1.0, v.0 h.1.1.0, f.0 h.1.1.1.0, b.0 h.1.1.1.1.0)),
      (λ h. d.1 (h.0, (r.1 h.1, (v.1 h.2, (f.1 h.3, (b.1 h.4, tt)))))),
    )

accepted-split : (s : State) (c : Call)
    → (call_fault s c ≡ 0) ↔ ((model_fault (given_model s c) (lent_table (kind_of c.kind) s) (is_lent (kind_of c.kind) s c) ≡ 0)
    × (first (record_checks (kind_of c.kind) s c) ≡ 0))
unfolding call_fault call_checks model_fault
accepted-split s c =
    let k = kind_of c.kind in
    first-zero-append (model_checks (given_model s c) (lent_table k s) (is_lent k s c)) (record_checks k s c)
    (numbered-model (given_model s c) (lent_table k s) (is_lent k s c))

-- the model that such a call is given is the state's
given-own : (k : Kind) (s : State) (c : Call) → Lent k s c → given_model s c ≡ s.model
unfolding given_model
given-own k s c l = rw (l.variables, l.rows)

-- and then only the own checks of a call that a list makes can refuse it
pub fault-listed-own : (s : State) (c : Call) → ValidState s → c.n ≡ s.model.n → c.m ≡ s.model.m → c.lengths ≡ lengths_of s
    → listed_fault s c ≡ first (listed_checks (kind_of c.kind) s c)
unfolding listed_fault lent_table model_fault
fault-listed-own s c v n m l =
    let k = kind_of c.kind in
    let o = lent-own n m l in
    rw (given-own k s c o, T→true (is_lent k s c) ((lent-test k s c).1 o))
    (first-append (model_checks s.model (lent_table k s) true) (listed_checks k s c) (numbered-model s.model (lent_table k s) true)
    ∙ rw ((table-test s.model s.table (has_table k) true).1 (v.model, (λ _. v.table), tt)))

pub accepted : (s : State) (c : Call) → call_fault s c ≡ 0 → Accepted (kind_of c.kind) s c
unfolding lent_table
accepted s c e =
    let k = kind_of c.kind in
    let h = (accepted-split s c).0 e in
    let v = (table-test (given_model s c) s.table (has_table k) (is_lent k s c)).0 h.0 in
    let l = (lent-test k s c).0 v.2 in
    let f = (fields-test k s c).0 h.1 in
    record {
      lent = l;
      model = rw (given-own k s c l) at v.0;
      table = rw (given-own k s c l) at v.1;
      kind = f.0;
      row = f.1;
      variable = f.2;
      free = f.3;
      budget = f.4;
    }

pub accepts : (s : State) (c : Call) → Accepted (kind_of c.kind) s c → call_fault s c ≡ 0
unfolding lent_table
accepts s c a =
    let k = kind_of c.kind in
    let o = given-own k s c a.lent in
    (accepted-split s c).1 (
      (table-test (given_model s c) s.table (has_table k) (is_lent k s c)).1 (rw o a.model, rw o a.table, (lent-test k s c).1 a.lent),
      (fields-test k s c).1 (a.kind, a.row, a.variable, a.free, a.budget),
    )

-- ---- states

pub valid-accepted : (s : State) → ValidState s → model_fault s.model (table s.table) true ≡ 0
valid-accepted s v = (table-fault-none s.model s.table).1 (v.model, v.table)

pub accepted-valid : (s : State) → model_fault s.model (table s.table) true ≡ 0 → ValidState s
accepted-valid s e =
    let v = (table-fault-none s.model s.table).0 e in record { model = v.0; table = v.1 }
