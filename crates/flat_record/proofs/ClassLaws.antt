-- The classes of a run record by record: before record i those of the records before it are told, and those of the records left are the
-- classes from i on (`Told`). And the four counts are the counts of the classes. Assumes nothing.
use Prim.Native.Nat.{◌*◌, ◌+◌, ◌-◌, ◌/◌, ◌<◌, ◌≤◌, suc, zero, ℕ}
use borrow.Author.Count.{below_more}
use lib.Dec.{eqb}
use lib.ListN.{get_or, length, length-set, set, take}
use lib.Seq.{ext_get_or, get_or-set_other, get_or-set_same, get_or-take, length-take-le, take_all}
use mathlib.Core.Bool.{Bool, cond, false, true}
use mathlib.Core.List.{List, [], ◌∷◌}
use mathlib.Core.Path.{◌∙◌, ◌≡◌, ap, ap₂, refl, subst, sym}
use native.Mathlib.Omega.{arith}
use Rattle.integer.proofs.Tests.{cond_ind, eqb-test, neqb→ne}
use Rattle.model.specs.Checks.{first, model_checks, model_fault, table}
use Rattle.model.specs.State.{State}
use Rattle.model.specs.Valid.{ValidState}
use Rattle.model.proofs.CheckLaws.{fits-table-fault-none}
use Rattle.semantics.specs.Call.{Call}
use Rattle.semantics.specs.CallList.{ListRun, list_checks, list_fault, ran, record_at, records_from, records_of, refused_list, run_list}
use Rattle.semantics.specs.Run.{CallClass, Counts, changed_call, class_listed, count_call, infeasible_call, no_counts, refused_call, step_listed, tally, unchanged_call}
use Rattle.demands.specs.TwoLists.{ListMeans}
use Rattle.demands.proofs.CallLists.{Along, along-more, along-start, list-accepted, list-means, list-refused, list-runs, same-record}
use Rattle.flat_record.specs.Classes.{ClassesCounted, ClassesRun, class_byte, classes_checks, classes_fault, classes_from, classes_of, how_many, run_classes}

-- a class for each record
classes-length : (count : ℕ) (s r : State) (xs : List ℕ) (i : ℕ) → length (classes_from s (records_from count r xs i)) ≡ count
unfolding classes_from records_from
classes-length zero s r xs i = refl
classes-length (suc count) s r xs i = ap suc (classes-length count _ r xs (i + 1))

-- ---- record by record

-- before record i, of C₀ lent for the classes C is left
pub record Told (s₀ : State) (xs C₀ : List ℕ) (s : State) (k : Counts) (i : ℕ) (C : List ℕ) : Type 0 where
  pub along : Along s₀ xs s k i
  pub len : length C ≡ length C₀
  pub ahead : (j : ℕ) → get_or (classes_from s (records_from (length xs / 4 - i) s₀ xs i)) j 0 ≡ get_or (classes_of s₀ xs) (i + j) 0
  pub behind : (j : ℕ) → j < i → j < length C₀ → get_or C j 0 ≡ get_or (classes_of s₀ xs) j 0

pub told-start : (s : State) (xs C : List ℕ) → ValidState s → Told s xs C s no_counts 0 C
unfolding classes_of records_of
told-start s xs C v = let e : length xs / 4 - 0 ≡ length xs / 4 = omega arith in
    record { along = along-start s xs v; len = refl; ahead = λ j. let z : 0 + j ≡ j = omega arith in rw (e, z); behind = λ j h. absurd (let w : ⊥ = omega arith in w) }

module _ (s₀ : State) (xs C₀ : List ℕ) (s : State) (k : Counts) (i : ℕ) (C : List ℕ) (t : Told s₀ xs C₀ s k i C) where
  -- record i counts as q and leaves r, and D of the bytes
  pub told_more : {r : State} {q : CallClass} {j : Counts} {D : List ℕ} → i < length xs / 4
      → (q ≡ class_listed s (record_at s xs i)) × (r ≡ step_listed s (record_at s xs i)) → j ≡ count_call q k → D ≡ set C i (class_byte q) → Told s₀ xs C₀ r j (i + 1) D
  unfolding records_from classes_from
  told_more {r} {q} h d g w =
      let left = length xs / 4 - (i + 1) in
      let e : length xs / 4 - i ≡ suc left = omega arith in
      let a = t.along in
      let next : classes_from s (records_from (length xs / 4 - i) s₀ xs i) ≡ class_byte q ∷ classes_from r (records_from left s₀ xs (i + 1)) =
      ap (λ (n : ℕ). classes_from s (records_from n s₀ xs i)) e
      ∙ ap (λ (c : Call). class_byte (class_listed s c) ∷ classes_from (step_listed s c) (records_from left s₀ xs (i + 1))) (same-record xs i a.valid a.start a.sizes)
      ∙ sym (ap₂ (λ (z : CallClass) (o : State). class_byte z ∷ classes_from o (records_from left s₀ xs (i + 1))) d.0 d.1) in
      let here : (j : ℕ) → get_or (class_byte q ∷ classes_from r (records_from left s₀ xs (i + 1))) j 0 ≡ get_or (classes_of s₀ xs) (i + j) 0 =
      (λ j. sym (ap (λ (l : List ℕ). get_or l j 0) next) ∙ t.ahead j) in
      let z : i + 0 ≡ i = omega arith in
      rw w (record {
        along = along-more s₀ xs s k i a h d g;
        len = length-set C i (class_byte q) ∙ t.len;
        ahead = λ j. let n : i + 1 + j ≡ i + suc j = omega arith in here (suc j) ∙ ap (λ (m : ℕ). get_or (classes_of s₀ xs) m 0) (sym n);
        behind = below_more (λ j. j < length C₀ → get_or (set C i (class_byte q)) j 0 ≡ get_or (classes_of s₀ xs) j 0) i
            (λ j l m. get_or-set_other C i j (class_byte q) 0 (omega arith) ∙ t.behind j l m)
            (λ m. get_or-set_same C i (class_byte q) 0 (omega (arith, t.len)) ∙ (here 0 ∙ ap (λ (m : ℕ). get_or (classes_of s₀ xs) m 0) z));
      })

  pub told-end : length xs / 4 ≤ i → length C₀ ≤ length xs / 4 → C ≡ take (length C₀) (classes_of s₀ xs)
  unfolding classes_of records_of
  told-end h b =
      let all = classes_from s₀ (records_from (length xs / 4) s₀ xs 0) in
      let n = length-take-le (length C₀) all (rw (classes-length (length xs / 4) s₀ s₀ xs 0) b) in
      ext_get_or 0 C (take (length C₀) all) (t.len ∙ sym n)
      (λ j l. let m : j < length C₀ = omega (arith, t.len) in t.behind j (omega arith) m ∙ sym (get_or-take (length C₀) all j 0 m))

-- ---- which lists are run, and what is left

pub classes-accepted : (s : State) (xs C : List ℕ) → classes_fault s xs C ≡ 0 → ValidState s × (length xs ≡ 4 * length C)
unfolding classes_fault classes_checks model_fault
classes-accepted s xs C e =
    let h = (fits-table-fault-none s.model s.table (eqb (length xs) (4 * length C))).0 e in
    (record { model = h.0; table = h.1 }, (eqb-test (length xs) (4 * length C)).0 h.2)

pub classes-listed : (s : State) (xs C : List ℕ) → classes_fault s xs C ≡ 0 → list_fault s xs ≡ 0
classes-listed s xs C e = let h = classes-accepted s xs C e in (list-accepted s xs).1 (h.0, omega (arith, h.1))

-- the two cases
classes-ind : (s : State) (xs C : List ℕ) (P : ClassesRun → Type 0)
    → (classes_fault s xs C ≡ 0 → P (record { list = run_list s xs; classes = classes_of s xs }))
    → ((classes_fault s xs C ≡ 0 → ⊥) → P (record { list = record { answer = refused_list (classes_fault s xs C); state = s }; classes = C }))
    → P (run_classes s xs C)
unfolding run_classes
classes-ind s xs C P f g =
    cond_ind (eqb (classes_fault s xs C) 0) _ _ P (λ t. f ((eqb-test (classes_fault s xs C) 0).0 t)) (λ t. g (neqb→ne (classes_fault s xs C) 0 t))

pub classes-refused : (s : State) (xs C : List ℕ) → (classes_fault s xs C ≡ 0 → ⊥)
    → record { list = record { answer = refused_list (classes_fault s xs C); state = s }; classes = C } ≡ run_classes s xs C
classes-refused s xs C n =
    classes-ind s xs C (λ w. record { list = record { answer = refused_list (classes_fault s xs C); state = s }; classes = C } ≡ w) (λ e. absurd (n e)) (λ _. refl)

-- the loop's classes are all
pub classes-ran : (s : State) (xs C : List ℕ) {w : ListRun} {D : List ℕ} → classes_fault s xs C ≡ 0 → w ≡ run_list s xs → D ≡ take (length C) (classes_of s xs)
    → record { list = w; classes = D } ≡ run_classes s xs C
unfolding classes_of records_of
classes-ran s xs C {w} {D} e f g =
    let n : length (classes_from s (records_from (length xs / 4) s xs 0)) ≤ length C = rw (classes-length (length xs / 4) s s xs 0) (omega (arith, (classes-accepted s xs C e).1)) in
    classes-ind s xs C (λ v. record { list = w; classes = D } ≡ v) (λ _. rw (f, g, take_all (length C) _ n)) (λ n. absurd (n e))

-- a list that is refused is refused as one of no record, or of one number, is
refused_as : (s : State) (fits : Bool) → first (model_checks s.model (table s.table) fits) ≡ list_fault s (cond fits [] (0 ∷ []))
unfolding list_fault list_checks
refused_as s true = refl
refused_as s false = refl

classes-means : (s : State) (xs C : List ℕ) → ListMeans s (run_classes s xs C).list
unfolding classes_fault classes_checks
classes-means s xs C =
    let fits = eqb (length xs) (4 * length C) in
    let ys : List ℕ = cond fits [] (0 ∷ []) in
    let e = refused_as s fits in
    classes-ind s xs C (λ w. ListMeans s w.list) (λ _. list-means s xs)
    (λ n. subst (ListMeans s) (list-refused s ys (λ z. n (e ∙ z)) ∙ rw e) (list-means s ys))

-- ---- the counts are the counts of the classes

-- j are k and those of the bytes C
record Raised (k j : Counts) (C : List ℕ) : Type 0 where
  refused : j.refusals ≡ k.refusals + how_many 0 C
  infeasible : j.infeasibles ≡ k.infeasibles + how_many 1 C
  changed : j.changes ≡ k.changes + how_many 2 C
  unchanged : j.unchanges ≡ k.unchanges + how_many 3 C

raised-once : (q : CallClass) (k : Counts) → Raised k (count_call q k) (class_byte q ∷ [])
unfolding count_call class_byte how_many
raised-once (refused_call number) k = record { refused = omega arith; infeasible = omega arith; changed = omega arith; unchanged = omega arith }
raised-once infeasible_call k = record { refused = omega arith; infeasible = omega arith; changed = omega arith; unchanged = omega arith }
raised-once changed_call k = record { refused = omega arith; infeasible = omega arith; changed = omega arith; unchanged = omega arith }
raised-once unchanged_call k = record { refused = omega arith; infeasible = omega arith; changed = omega arith; unchanged = omega arith }

raised : (k : Counts) (s : State) (cs : List Call) → Raised k (tally k s cs) (classes_from s cs)
unfolding tally classes_from how_many
raised k s [] = record { refused = omega arith; infeasible = omega arith; changed = omega arith; unchanged = omega arith }
raised k s (c ∷ cs) =
    let o = raised-once (class_listed s c) k in
    let r = raised (count_call (class_listed s c) k) (step_listed s c) cs in
    record {
      refused = omega (arith, o.refused, r.refused);
      infeasible = omega (arith, o.infeasible, r.infeasible);
      changed = omega (arith, o.changed, r.changed);
      unchanged = omega (arith, o.unchanged, r.unchanged);
    }

ran-injective : {j k : Counts} → ran j ≡ ran k → j ≡ k
ran-injective e = cc

classes-counted : (s : State) (xs C : List ℕ) (k : Counts) → (run_classes s xs C).list.answer ≡ ran k → ClassesCounted k (run_classes s xs C).classes
unfolding classes_of no_counts
classes-counted s xs C k = classes-ind s xs C (λ w. w.list.answer ≡ ran k → ClassesCounted k w.classes)
    (λ z e. let r = raised no_counts s (records_of s xs) in
    rw (sym (ran-injective (sym (ap (λ (w : ListRun). w.answer) (list-runs s xs (classes-listed s xs C z))) ∙ e)))
    (record {
      refused = omega (arith, r.refused);
      infeasible = omega (arith, r.infeasible);
      changed = omega (arith, r.changed);
      unchanged = omega (arith, r.unchanged);
    }))
    (λ _ e. record { refused = cc; infeasible = cc; changed = cc; unchanged = cc })

-- all promises, from the first
pub classes-promised : (s : State) (xs C : List ℕ) (w : ClassesRun) → w ≡ run_classes s xs C
    → (w ≡ run_classes s xs C) × (ListMeans s w.list × ((k : Counts) → w.list.answer ≡ ran k → ClassesCounted k w.classes))
classes-promised s xs C w e = (
  e,
  (
    subst (λ (v : ClassesRun). ListMeans s v.list) (sym e) (classes-means s xs C),
    subst (λ (v : ClassesRun). (k : Counts) → v.list.answer ≡ ran k → ClassesCounted k v.classes) (sym e) (classes-counted s xs C),
  ),
)
