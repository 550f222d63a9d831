-- `row_passes::propagate_marked` is the definition: rows 0 to r − 1 came to what `pass_to` says, and the passes that are left from here,
-- with the tally so far, give what the whole gives. The two ways out of the passes meet in `met`. Assumes nothing.
use Prim.Native.Nat.{◌+◌, ◌-◌, ◌≤◌, ℕ}
use borrow.Author.Rules.{rules}
use lib.Dec.{T}
use lib.IntN.{◌+ℤ◌, pos, ℤ}
use lib.ListN.{length}
use lib.Signed.{◌≤ℤ◌}
use mathlib.Core.Bool.{cond, false, not}
use mathlib.Core.List.{List}
use mathlib.Core.Logic.{◌⊎◌, inl, inr, ⊎_elim}
use mathlib.Core.Path.{◌∙◌, ◌≡◌, ap, refl, sym}
use native.Mathlib.Nat.{sub-zero}
use native.Mathlib.Omega.{arith}
use Rattle.integer.proofs.Parts.{zarith, zify}
use Rattle.integer.proofs.Tests.{false→T}
use Rattle.model.specs.Box.{is_empty, width}
use Rattle.model.specs.Rows.{Row, Rows, row_at, rows_of}
use Rattle.model.specs.Valid.{ValidBox}
use Rattle.row.specs.Answers.{propagated_row_of}
use Rattle.row.specs.Outcome.{is_infeasible}
use Rattle.row.specs.Kinds.{propagate_row_of}
use Rattle.row.specs.declared.propagation.RowPropagation.TheVariants.{Tightened, Unchanged}
use Rattle.semantics.specs.Propagate.{Propagated, propagate, propagate_from}
use Rattle.propagation.specs.Results.{propagation_of}
use Rattle.propagation.specs.declared.Propagation.TheVariants as code
use Rattle.propagation.proofs.PropagationLoops.{PassIs, pass-begins, pass-converged, pass-infeasible, pass-moved, pass-over, pass-width, passes-made, row-feasible, row-infeasible, sum_fits}
use Rattle.row.proofs.ImpliedBoxLaws.{valid-non_empty}
use Rattle.row.proofs.KindLaws.{kinded-infeasible-box, kinded-valid}
use Rattle.model.proofs.BoxLaws.{empty-is, non_empty-isn't}
use Rattle.row_marks.specs.Marks.{Watched}
use Rattle.marked_row.proofs.MarkedRowLaws.{Ready, broken, left_by, model_at, ready, ready-trans, ready-row, tightened, unmoved}
use Rattle.row_passes.proofs.propagate_marked.Statement.{statement}
use Rattle.row_passes.proofs.propagate_marked.Tie as tie

abbrev invariant-rows : tie.invariant-rows
invariant-rows n m bounds₀ coefs rhs kinds budget across₀ signs₀ seen₀ marks₀ passes tally₀ before r₀ bounds across signs seen marks tally r =
    (r ≤ m)
    × PassIs n r (rows_of coefs rhs kinds) bounds₀ before false tally.moved bounds
    × Ready n m (rows_of coefs rhs kinds) bounds₀ across₀ signs₀ seen₀ marks₀ bounds across signs seen marks

abbrev decreases-rows : tie.decreases-rows
decreases-rows n m bounds₀ coefs rhs kinds budget across₀ signs₀ seen₀ marks₀ passes tally₀ before r₀ bounds across signs seen marks tally r = m - r

abbrev invariant-passes : tie.invariant-passes
invariant-passes n m bounds₀ coefs rhs kinds budget across₀ signs₀ seen₀ marks₀ passes₀ tally₀ bounds across signs seen marks passes tally =
    (passes ≤ budget)
    × (propagate_from (budget - passes) passes tally.moved n m (rows_of coefs rhs kinds) bounds ≡ propagate_from budget 0 0 n m (rows_of coefs rhs kinds) bounds₀)
    × Ready n m (rows_of coefs rhs kinds) bounds₀ across₀ signs₀ seen₀ marks₀ bounds across signs seen marks
    × ((pos tally.moved +ℤ width n bounds) ≤ℤ width n bounds₀)

abbrev decreases-passes : tie.decreases-passes
decreases-passes n m bounds₀ coefs rhs kinds budget across₀ signs₀ seen₀ marks₀ passes₀ tally₀ bounds across signs seen marks passes tally = budget - passes

is-empty-requires : tie.Need-is_empty-requires invariant-rows decreases-rows invariant-passes decreases-passes
is-empty-requires c κs = let p = c.requires.0 in omega (arith, p.some, p.box.len)

same_length : tie.Need-shape_of-bounds-then-is_empty invariant-rows decreases-rows invariant-passes decreases-passes
same_length c = search rules

returns : tie.Need-returns-then-is_empty invariant-rows decreases-rows invariant-passes decreases-passes
unfolding propagate propagation_of
returns c =
    let s = c.before.before.before.before.before.before in
    let p = s.requires.0 in
    (rw (sym (c.is_empty.ensures _ p.some p.box) ∙ c.if-is_empty.true), s.requires.1.0)

passes-holds : tie.Need-passes-init invariant-rows decreases-rows invariant-passes decreases-passes
passes-holds c =
    let s = c.before.before.before.before.before.before in
    let p = s.requires.0 in
    let e = sym (c.is_empty.ensures _ p.some p.box) ∙ c.if-is_empty.false in
    (omega arith, rw sub-zero, ready p.box (valid-non_empty p.box (false→T (is_empty s.args.n s.args.bounds.now) e)) s.requires.1.0, simp zify (omega zarith))

add-passes : tie.Need-overflow_add-passes invariant-rows decreases-rows invariant-passes decreases-passes
add-passes c = omega arith

next-row-requires : tie.Need-next_row-r-requires invariant-rows decreases-rows invariant-passes decreases-passes
next-row-requires c κs =
    let q = c.before in
    (omega arith, omega (arith, q.requires.1.1, q.passes.invariant.2.marks_len))

rows-holds : tie.Need-rows-init invariant-rows decreases-rows invariant-passes decreases-passes
rows-holds c =
    let i = c.passes.invariant in
    let t = c.next_row-r.ensures in
    (t.1, pass-over _ 0 _ (pass-begins _ _ _ _) i.2.non_empty i.2.watched.clean t.0 t.1 t.2, ready i.2.box i.2.non_empty i.2.watched)

-- the call, where it comes to a pass
module _ (h : tie.At-passes invariant-rows decreases-rows invariant-passes decreases-passes) where
  abbrev s : tie.Start invariant-rows decreases-rows invariant-passes decreases-passes
  s = h.before.before.before.before.before.before.before

  abbrev n : ℕ
  n = s.args.n

  abbrev m : ℕ
  m = s.args.m

  abbrev budget : ℕ
  budget = s.args.budget

  abbrev A : Rows
  A = rows_of s.args.coefs.now s.args.rhs.now s.args.kinds.now

  abbrev B₀ : List ℤ
  B₀ = s.args.bounds.now

  abbrev made : ℕ
  made = h.passes.passes

  abbrev B : List ℤ
  B = h.passes.bounds

  abbrev before : ℕ
  before = h.passes.tally.moved

  whole : propagate budget n m A B₀ ≡ propagate_from budget 0 0 n m A B₀
  unfolding propagate
  whole = rw (sym (h.is_empty.ensures _ s.requires.0.some s.requires.0.box) ∙ h.if-is_empty.false)

-- and to a row of it, which lies in the matrix
module _ (c : tie.In-rows invariant-rows decreases-rows invariant-passes decreases-passes) where
  abbrev here : tie.At-passes invariant-rows decreases-rows invariant-passes decreases-passes
  here = c.before.before.before.before

  abbrev r : ℕ
  r = c.rows.r

  abbrev P : List ℤ
  P = c.rows.bounds

propagate-row-marked-requires : tie.Need-propagate_row_marked-requires invariant-rows decreases-rows invariant-passes decreases-passes
propagate-row-marked-requires c κs =
    let i = c.before.before.before.before.before in
    let q = here i in
    let t = s q in
    let y = i.rows.invariant.2 in (
      record {
        valid = model_at t.requires.0 y.box;
        non_empty = y.non_empty;
        watched = y.watched;
        room = omega (arith, t.requires.1.1, y.marks_len, q.passes.invariant.2.marks_len);
      },
      i.rows-test.true,
    )

-- what the row answers and leaves
module _ (c : tie.After-propagate_row_marked invariant-rows decreases-rows invariant-passes decreases-passes) where
  abbrev row : tie.In-rows invariant-rows decreases-rows invariant-passes decreases-passes
  row = c.before.before.before.before.before.before

  abbrev h : tie.At-passes invariant-rows decreases-rows invariant-passes decreases-passes
  h = here row

  abbrev Q : List ℤ
  Q = c.propagate_row_marked.new.bounds

  abbrev its : Row
  its = row_at (n h) (A h) (r row)

  heard : propagated_row_of c.propagate_row_marked.result Q ≡ propagate_row_of (n h) its (P row)
  heard = c.propagate_row_marked.ensures.0

  left : Q ≡ (propagate_row_of (n h) its (P row)).box
  left = left_by _ Q heard

  -- one that is feasible leaves all ready for the next
  row-ready : T (not (is_infeasible (propagate_row_of (n h) its (P row)).outcome)) →
      let q = c.propagate_row_marked.new in
      Ready (n h) (m h) (A h) (B h) h.passes.across h.passes.signs h.passes.seen h.passes.marks Q q.across q.signs q.seen q.marks
  row-ready f =
      let l = c.propagate_row_marked.auto in
      ready-row its row.rows.invariant.2 left f c.propagate_row_marked.ensures.1
      l.bounds l.across l.signs l.seen l.marks

  -- and the pass so far, with it
  one-row : {k now : ℕ} → ((c.propagate_row_marked.result ≡ Tightened k) × (now ≡ row.rows.tally.moved + k))
      ⊎ ((c.propagate_row_marked.result ≡ Unchanged) × (now ≡ row.rows.tally.moved))
      → PassIs (n h) (r row + 1) (A h) (B h) (before h) false now Q
  one-row = row-feasible (n h) (r row) (A h) (B h) (before h) _ Q row.rows.invariant.1 heard

enum_told : tie.Need-enum_told-1 invariant-rows decreases-rows invariant-passes decreases-passes
enum_told c = search rules

enum-known-moved : tie.Need-enum_known-moved invariant-rows decreases-rows invariant-passes decreases-passes
enum-known-moved c = search rules

add-requires : tie.Need-add-tally-requires invariant-rows decreases-rows invariant-passes decreases-passes
add-requires c κs =
    let d = c.before.before.before.before.before.before.before.before.before in
    let told = c.in-Tightened.is in
    sum_fits (one-row d (inl (told, refl))) (B₀ (h d)) (h d).passes.invariant.3 (s (h d)).requires.0 (row-ready d (tightened _ (Q d) (heard d) told)).non_empty

enum-told-2 : tie.Need-enum_told-in-Unchanged invariant-rows decreases-rows invariant-passes decreases-passes
enum-told-2 c = search rules

-- where the row moved bounds or did not
module _ (c : tie.Joined-propagate_row_marked invariant-rows decreases-rows invariant-passes decreases-passes) where
  abbrev d : tie.After-propagate_row_marked invariant-rows decreases-rows invariant-passes decreases-passes
  d = c.before.before.before.before.before.before.before.before.before

  abbrev k : tie.At-rows invariant-rows decreases-rows invariant-passes decreases-passes
  k = (row d).before

  feasible : T (not (is_infeasible (propagate_row_of (n (h d)) (its d) (P (row d))).outcome))
  feasible = ⊎_elim (λ w. tightened _ (Q d) (heard d) w.in-Tightened.is) (λ w. (unmoved _ (Q d) (heard d) w.in-Unchanged.is).0) c.match-propagate_row_marked.branch-raw

  counted : PassIs (n (h d)) (r (row d) + 1) (A (h d)) (B (h d)) (before (h d)) false c.match-propagate_row_marked.tally.moved (Q d)
  counted =
      ⊎_elim
      (λ w. one-row d (inl (w.in-Tightened.is, ap (λ t. t.moved) w.tally-is ∙ w.add-tally.ensures)))
      (λ w. one-row d {k = 0} (inr (w.in-Unchanged.is, ap (λ t. t.moved) w.tally-is)))
      c.match-propagate_row_marked.branch-raw

add-next-row : tie.Need-overflow_add-r invariant-rows decreases-rows invariant-passes decreases-passes
add-next-row c = let e = d c in omega (arith, (row e).rows-test.true, (s (h e)).requires.0.few_rows)

next-row-requires-2 : tie.Need-next_row-r-requires-in-rows invariant-rows decreases-rows invariant-passes decreases-passes
next-row-requires-2 c κs =
    let e = d c in
    let q = h e in
    let l = e.propagate_row_marked.auto.marks in
    (omega (arith, (row e).rows-test.true), omega (arith, (s q).requires.1.1, l, (k c).rows.invariant.2.marks_len, q.passes.invariant.2.marks_len))

rows-less : tie.Need-rows-smaller invariant-rows decreases-rows invariant-passes decreases-passes
rows-less c = let t = c.next_row-r-in-rows.ensures in omega (arith, t.0, t.1, (row (d c.before)).rows-test.true)

rows-again : tie.Need-rows-preserved invariant-rows decreases-rows invariant-passes decreases-passes
rows-again c =
    let a = c.before in
    let t = c.next_row-r-in-rows.ensures in
    let y = row-ready (d a) (feasible a) in
    (t.1, pass-over _ _ _ (counted a) y.non_empty y.watched.clean t.0 t.1 t.2, y)

-- a pass over all rows
passed : (c : tie.After-rows invariant-rows decreases-rows invariant-passes decreases-passes) →
    let q = c.before.before.before.before in
    PassIs (n q) (m q) (A q) (B q) (before q) false c.rows.tally.moved c.rows.bounds
passed c =
    let q = c.before.before.before.before in
    let k : c.rows.r ≡ m q = omega arith in
    rw k at c.rows.invariant.1

-- box, copy and marks after the rows of a pass
pass-ready : (c : tie.After-rows invariant-rows decreases-rows invariant-passes decreases-passes) →
    let q = c.before.before.before.before in
    let w = c.rows in
    Ready (n q) (m q) (A q) (B₀ q) (s q).args.across.now (s q).args.signs.now (s q).args.seen.now (s q).args.marks.now w.bounds w.across w.signs w.seen w.marks
pass-ready c = ready-trans c.passes.invariant.2 c.rows.invariant.2

same-length-2 : tie.Need-shape_of-bounds-then-tally-before invariant-rows decreases-rows invariant-passes decreases-passes
same-length-2 c = (pass-ready c.before.before).box_len

same-length-3 : tie.Need-shape_of-across-then-tally-before invariant-rows decreases-rows invariant-passes decreases-passes
same-length-3 c = (pass-ready c.before.before).across_len

same-length-4 : tie.Need-shape_of-signs-then-tally-before invariant-rows decreases-rows invariant-passes decreases-passes
same-length-4 c = (pass-ready c.before.before).signs_len

same-length-5 : tie.Need-shape_of-seen-then-tally-before invariant-rows decreases-rows invariant-passes decreases-passes
same-length-5 c = (pass-ready c.before.before).seen_len

same-length-6 : tie.Need-shape_of-marks-then-tally-before invariant-rows decreases-rows invariant-passes decreases-passes
same-length-6 c = (pass-ready c.before.before).marks_len

returns-2 : tie.Need-returns-then-tally-before invariant-rows decreases-rows invariant-passes decreases-passes
unfolding propagation_of
returns-2 c =
    let e = c.before.before in
    let q = e.before.before.before.before in
    let i = rw c.if-tally-before.true at (passed e) in (
      sym (whole q ∙ pass-converged (budget q) (made q) (before q) (n q) (m q) (A q) (B q) e.passes-test.true q.passes.invariant.1 i),
      e.rows.invariant.2.watched,
    )

passes-less : tie.Need-passes-smaller invariant-rows decreases-rows invariant-passes decreases-passes
passes-less c = omega arith

passes-again : tie.Need-passes-preserved invariant-rows decreases-rows invariant-passes decreases-passes
passes-again c =
    let e = c.before.before in
    let q = e.before.before.before.before in (
      omega arith,
      pass-moved (budget q) (made q) (before q) (n q) (m q) (A q) (B q) e.passes-test.true q.passes.invariant.1 (passed e) c.if-tally-before.false,
      pass-ready e,
      pass-width (passed e) (B₀ q) q.passes.invariant.3,
    )

-- where the two ways out of the passes meet: the box is empty exactly if a row was infeasible
abbrev after : ℕ → ℕ → Rows → ℕ → ℕ → List ℤ → Propagated
after n m A p k B = cond (is_empty n B) (propagation_of (code.Infeasible p k) B) (propagate_from 0 p k n m A B)

after_is : (n m : ℕ) (A : Rows) {p q k l : ℕ} {B P : List ℤ} → p ≡ q → k ≡ l → B ≡ P → after n m A p k B ≡ after n m A q l P
after_is n m A e t f = rw (e, t, f)

-- of a box that is equal to one
valid-is : {n : ℕ} {B P : List ℤ} → B ≡ P → ValidBox n P → ValidBox n B
valid-is e v = rw e v

watched-is : {n m : ℕ} {A : Rows} {B P : List ℤ} {a a' s s' : List ℕ} {e e' : List ℤ} {k k' : List ℕ} → B ≡ P → a ≡ a' → s ≡ s' → e ≡ e' → k ≡ k'
    → Watched n m A P a' s' e' k' → Watched n m A B a s e k
watched-is b a s e k w = rw (b, a, s, e, k) w

-- what the call comes to, what is known of the rows, and the lengths of what is lent
record Left (q : tie.At-passes invariant-rows decreases-rows invariant-passes decreases-passes) (passes moved : ℕ) (bounds : List ℤ) (across signs : List ℕ) (seen : List ℤ) (marks : List ℕ) : Type 0 where
  answer : after (n q) (m q) (A q) passes moved bounds ≡ propagate (budget q) (n q) (m q) (A q) (B₀ q)
  box : ValidBox (n q) bounds
  watched : Watched (n q) (m q) (A q) bounds across signs seen marks
  box_len : length bounds ≡ length (B₀ q)
  across_len : length across ≡ length (s q).args.across.now
  signs_len : length signs ≡ length (s q).args.signs.now
  seen_len : length seen ≡ length (s q).args.seen.now
  marks_len : length marks ≡ length (s q).args.marks.now

met : (c : tie.Left-passes invariant-rows decreases-rows invariant-passes decreases-passes) →
    let o = c.passes-test in
    Left c.before o.passes o.tally.moved o.bounds o.across o.signs o.seen o.marks
unfolding propagation_of
met c =
    let q = c.before in
    let y = q.passes.invariant.2 in
    let some = (s q).requires.0.some in
    ⊎_elim
    (λ w. record {
      answer = after_is (n q) (m q) (A q) w.passes-is (ap (λ t. t.moved) w.tally-is) w.bounds-is ∙ rw (non_empty-isn't some y.non_empty)
          (sym (whole q ∙ passes-made (budget q) (made q) (before q) (n q) (m q) (A q) (B q) w.passes-test.false q.passes.invariant.1));
      box = valid-is w.bounds-is y.box;
      watched = watched-is w.bounds-is w.across-is w.signs-is w.seen-is w.marks-is y.watched;
      box_len = ap length w.bounds-is ∙ y.box_len;
      across_len = ap length w.across-is ∙ y.across_len;
      signs_len = ap length w.signs-is ∙ y.signs_len;
      seen_len = ap length w.seen-is ∙ y.seen_len;
      marks_len = ap length w.marks-is ∙ y.marks_len;
    })
    (λ w.
    let i : tie.In-rows invariant-rows decreases-rows invariant-passes decreases-passes = record { before = record { before = record { before = record { before = q; passes-test = w.passes-test }; next_row-r = w.next_row-r }; rows = w.rows }; rows-test = w.rows-test } in
    let d : tie.After-propagate_row_marked invariant-rows decreases-rows invariant-passes decreases-passes = record {
      before = record {
        before = record {
          before = record { before = record { before = record { before = i; propagate_row_marked-arg-1 = w.propagate_row_marked-arg-1 }; propagate_row_marked-arg-in-rows-1 = w.propagate_row_marked-arg-in-rows-1 }; propagate_row_marked-arg-in-rows-2-1 = w.propagate_row_marked-arg-in-rows-2-1 };
          propagate_row_marked-arg-in-rows-3-1 = w.propagate_row_marked-arg-in-rows-3-1;
        };
        propagate_row_marked-arg-in-rows-4-1 = w.propagate_row_marked-arg-in-rows-4-1;
      };
      propagate_row_marked = w.propagate_row_marked;
    } in
    let z = ready-trans y w.rows.invariant.2 in
    let k = w.propagate_row_marked.auto in
    let e = row-infeasible (n q) (r (row d)) (A q) (B q) (before q) _ (Q d) w.rows.invariant.1 (heard d) (m q) w.rows-test.true w.in-Infeasible.is in
    let empty = left d ∙ kinded-infeasible-box (n q) (its d) (P (row d)) (broken _ (Q d) (heard d) w.in-Infeasible.is) in
    record {
      answer = after_is (n q) (m q) (A q) w.passes-is (ap (λ t. t.moved) w.tally-is) w.bounds-is ∙ rw (empty-is (n q) (Q d) empty)
          (sym (whole q ∙ pass-infeasible (budget q) (made q) (before q) (n q) (m q) (A q) (B q) w.passes-test.true q.passes.invariant.1 e));
      box = valid-is (w.bounds-is ∙ left d) (kinded-valid (its d) w.rows.invariant.2.box);
      watched = watched-is w.bounds-is w.across-is w.signs-is w.seen-is w.marks-is w.propagate_row_marked.ensures.1;
      box_len = ap length w.bounds-is ∙ k.bounds ∙ z.box_len;
      across_len = ap length w.across-is ∙ k.across ∙ z.across_len;
      signs_len = ap length w.signs-is ∙ k.signs ∙ z.signs_len;
      seen_len = ap length w.seen-is ∙ k.seen ∙ z.seen_len;
      marks_len = ap length w.marks-is ∙ k.marks ∙ z.marks_len;
    })
    c.passes-test.branch-raw

is-empty-requires-2 : tie.Need-is_empty-requires-2 invariant-rows decreases-rows invariant-passes decreases-passes
is-empty-requires-2 c κs = let e = c in omega (arith, (s e.before).requires.0.some, (met e).box.len)

-- the second test tells which way it was
tells : (c : tie.After-is_empty-2 invariant-rows decreases-rows invariant-passes decreases-passes) → c.is_empty-2.result ≡ is_empty (n c.before.before) c.passes-test.bounds
tells c = let e = c.before in c.is_empty-2.ensures _ (s e.before).requires.0.some (met e).box

same-length-7 : tie.Need-shape_of-bounds-then-is_empty-2 invariant-rows decreases-rows invariant-passes decreases-passes
same-length-7 c = (met c.before.before).box_len

same-length-8 : tie.Need-shape_of-across-then-is_empty-2 invariant-rows decreases-rows invariant-passes decreases-passes
same-length-8 c = (met c.before.before).across_len

same-length-9 : tie.Need-shape_of-signs-then-is_empty-2 invariant-rows decreases-rows invariant-passes decreases-passes
same-length-9 c = (met c.before.before).signs_len

same-length-10 : tie.Need-shape_of-seen-then-is_empty-2 invariant-rows decreases-rows invariant-passes decreases-passes
same-length-10 c = (met c.before.before).seen_len

same-length-11 : tie.Need-shape_of-marks-then-is_empty-2 invariant-rows decreases-rows invariant-passes decreases-passes
same-length-11 c = (met c.before.before).marks_len

returns-3 : tie.Need-returns-then-is_empty-2 invariant-rows decreases-rows invariant-passes decreases-passes
unfolding propagation_of
returns-3 c = let k = met c.before.before in (rw (sym (tells c.before) ∙ c.if-is_empty-2.true) at k.answer, k.watched)

last-look-requires : tie.Need-last_look-requires invariant-rows decreases-rows invariant-passes decreases-passes
last-look-requires c κs =
    let e = c in
    let q = e.before.before.before in
    let k = met e.before.before in (
      model_at (s q).requires.0 k.box,
      (
        valid-non_empty k.box (false→T (is_empty (n q) e.passes-test.bounds) (sym (tells e.before) ∙ e.if-is_empty-2.false)),
        k.watched.clean,
        omega (arith, (s q).requires.1.1, k.marks_len),
      ),
    )

same-length-12 : tie.Need-shape_of-bounds invariant-rows decreases-rows invariant-passes decreases-passes
same-length-12 c = (met c.before.before.before).box_len

same-length-13 : tie.Need-shape_of-across invariant-rows decreases-rows invariant-passes decreases-passes
same-length-13 c = (met c.before.before.before).across_len

same-length-14 : tie.Need-shape_of-signs invariant-rows decreases-rows invariant-passes decreases-passes
same-length-14 c = (met c.before.before.before).signs_len

same-length-15 : tie.Need-shape_of-seen invariant-rows decreases-rows invariant-passes decreases-passes
same-length-15 c = (met c.before.before.before).seen_len

same-length-16 : tie.Need-shape_of-marks invariant-rows decreases-rows invariant-passes decreases-passes
same-length-16 c = (met c.before.before.before).marks_len

returns-4 : tie.Need-returns invariant-rows decreases-rows invariant-passes decreases-passes
returns-4 c =
    let e = c.before in
    let k = met e.before.before in
    (c.last_look.ensures ∙ rw (sym (tells e.before) ∙ e.if-is_empty-2.false) at k.answer, k.watched)

pub propagate_marked_spec : {M : Type 1} → statement M
propagate_marked_spec =
    tie.close
    (tie.spec
    invariant-rows
    decreases-rows
    invariant-passes
    decreases-passes
    is-empty-requires
    same_length
    returns
    passes-holds
    add-passes
    next-row-requires
    rows-holds
    propagate-row-marked-requires
    enum_told
    enum-known-moved
    add-requires
    enum-told-2
    add-next-row
    next-row-requires-2
    rows-less
    rows-again
    same-length-2
    same-length-3
    same-length-4
    same-length-5
    same-length-6
    returns-2
    passes-less
    passes-again
    is-empty-requires-2
    same-length-7
    same-length-8
    same-length-9
    same-length-10
    same-length-11
    returns-3
    last-look-requires
    same-length-12
    same-length-13
    same-length-14
    same-length-15
    same-length-16
    returns-4)
