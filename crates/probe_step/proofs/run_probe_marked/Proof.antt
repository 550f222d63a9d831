-- `probe_step::run_probe_marked`: the copy is the box before, so the probing's case, its new bytes and the comparison give the class of the
-- call; its sides say whether one was Spent. Assumes nothing.
use Prim.Native.Nat.{ℕ}
use borrow.Author.Rules.{rules}
use lib.Dec.{eqb}
use lib.IntN.{ℤ}
use lib.ListN.{length}
use mathlib.Core.Bool.{◌&&◌, ◌||◌}
use mathlib.Core.List.{List}
use mathlib.Core.Path.{◌∙◌, ◌≡◌, ap, refl, sym}
use Rattle.integer.proofs.Tests.{eqb-test, test-false}
use Rattle.model.specs.Box.{same_list}
use Rattle.semantics.specs.Perform.{perform}
use Rattle.semantics.specs.Run.{CallClass, changed_call, infeasible_call, probe_infeasible, unchanged_call}
use Rattle.semantics.specs.Call.{call_of, has_variable, kind_of}
use Rattle.demands.specs.Unmoved.{side_spent}
use Rattle.model.specs.Rows.{rows_of}
use Rattle.model.specs.State.{state_of}
use Rattle.call_laws.proofs.Accepted.{accepted}
use Rattle.call_laws.proofs.ClassLaws.{adds_none, class_by}
use Rattle.call.specs.Classes.{class_is}
use Rattle.two_sides.specs.Results.{probing_of, report_of}
use Rattle.two_sides.specs.declared.Probing.{Probing}
use Rattle.probe_step.proofs.AcceptedLaws.{Ran, probe-spent, ran-probe}
use Rattle.marked_row.proofs.LocalBox.{box-room, box-small, held, held_fits, held-length}
use Rattle.probe_step.proofs.run_probe_marked.Statement.{statement}
use Rattle.probe_step.proofs.run_probe_marked.Tie as tie

array-borrow-prefix-before : tie.Need-slice_bounds-before-end
unfolding state_of
array-borrow-prefix-before c = box-small c.requires.0.model

slice-aggregate-copy-box : tie.Need-slice_bounds-copy_box-end
unfolding state_of
slice-aggregate-copy-box c = sym (box-room c.requires.0.model)

copy-box-requires : tie.Need-copy_box-requires
unfolding state_of
copy-box-requires c κs = sym (box-room c.requires.0.model)

probe-marked-requires : tie.Need-probe_marked-requires
unfolding state_of call_of kind_of has_variable
probe-marked-requires c κs =
    let s = c.before.before.before.before.before.before.before.before.before.before.before.before.before in
    let a = accepted _ _ s.requires.1.0 in
    (s.requires.0.model, (s.requires.0.table, (a.free tt, (a.variable tt, s.requires.1.1))))

-- what the probing answers and leaves
module _ (d : tie.After-probe_marked) where
  abbrev s : tie.Start
  s = d.before.before.before.before.before.before.before.before.before.before.before.before.before.before

  abbrev B : List ℤ
  B = s.args.bounds.now

  abbrev Q : List ℤ
  Q = d.probe_marked.new.bounds

  abbrev t : List ℕ
  t = d.probe_marked.new.table

  done : {v : Probing} {k : CallClass} → d.probe_marked.result ≡ v → let w = probing_of v Q t in
      k ≡ class_by (probe_infeasible w.ending) (adds_none w.ending && same_list B w.box)
      → let a = s.args in
      Ran a.n a.m B (rows_of a.coefs.now a.rhs.now a.kinds.now) a.table.now 3 0 a.variable a.budget k
      (state_of a.n a.m w.box (rows_of a.coefs.now a.rhs.now a.kinds.now) w.table)
  unfolding kind_of
  done e h =
      let a = s.args in
      ran-probe a.n a.m B (rows_of a.coefs.now a.rhs.now a.kinds.now) a.table.now 3 0 a.variable a.budget s.requires.1.0 _ refl h
      (ap (λ v. probing_of v Q t) (sym e) ∙ d.probe_marked.ensures.0)

  spent : {v : Probing} → d.probe_marked.result ≡ v → let w = probing_of v Q t in let a = s.args in
      let r = state_of a.n a.m B (rows_of a.coefs.now a.rhs.now a.kinds.now) a.table.now in
      (w.side0.spent || w.side1.spent) ≡ side_spent (perform r (call_of r 3 0 a.variable a.budget)).answer
  unfolding kind_of
  spent e =
      let a = s.args in
      probe-spent a.n a.m B (rows_of a.coefs.now a.rhs.now a.kinds.now) a.table.now 3 0 a.variable a.budget s.requires.1.0 _ refl
      (ap (λ v. probing_of v Q t) (sym e) ∙ d.probe_marked.ensures.0)

  -- the copy
  abbrev P : List ℤ
  P = d.copy_box.new.to

  copied : P ≡ B
  copied = d.copy_box.ensures

enum-known-s0 : tie.Need-enum_known-s0
enum-known-s0 c = search rules

step-of-requires : tie.Need-step_of-requires
step-of-requires c κs = search rules

enum-known-s0-2 : tie.Need-enum_known-s0-in-Fixed-1
enum-known-s0-2 c = search rules

step-of-requires-2 : tie.Need-step_of-requires-in-Fixed
step-of-requires-2 c κs = search rules

enum-known-added : tie.Need-enum_known-added
enum-known-added c = search rules

step-of-requires-3 : tie.Need-step_of-requires-then-added-ne0
step-of-requires-3 c κs = search rules

same_length : tie.Need-shape_of-bounds-then-added-ne0
same_length c = search rules

same-length-2 : tie.Need-shape_of-table-then-added-ne0
same-length-2 c = search rules

same-length-3 : tie.Need-shape_of-across-then-added-ne0
same-length-3 c = search rules

same-length-4 : tie.Need-shape_of-signs-then-added-ne0
same-length-4 c = search rules

same-length-5 : tie.Need-shape_of-marks-then-added-ne0
same-length-5 c = search rules

returns : tie.Need-returns-then-added-ne0
unfolding class_is probing_of probe_infeasible adds_none report_of
returns c =
    let d = c.before.before.before.before.before.before.before.before.before.before.before.before in
    let e = c.in-BothFeasible.is in
    let w = done d {k = changed_call} e (rw (test-false (eqb c.in-BothFeasible.added 0) (eqb-test _ 0) c.if-added-ne0.true)) in
    (c.step_of-then-added-ne0.ensures.0 ∙ w.0, (w.1, (c.step_of-then-added-ne0.ensures.1 ∙ spent d e, d.probe_marked.ensures.1)))

array-share-prefix-before : tie.Need-slice_bounds-before-end-in-BothFeasible
array-share-prefix-before c = let d = c.before.before.before.before.before.before.before.before.before.before.before in held_fits (P d) (length (B d)) (ap length (copied d))

slice-aggregate-same-box : tie.Need-slice_bounds-same_box-end
slice-aggregate-same-box c = let d = c.before.before.before.before.before.before.before.before.before.before.before.before in sym (held-length (P d) (length (B d)) (ap length (copied d)))

same-box-requires : tie.Need-same_box-requires
same-box-requires c κs =
    let d = c.before.before.before.before.before.before.before.before.before.before.before.before in
    held-length (P d) (length (B d)) (ap length (copied d)) ∙ sym d.probe_marked.auto.bounds

step-of-requires-4 : tie.Need-step_of-requires-then-same_box
step-of-requires-4 c κs = search rules

same-length-6 : tie.Need-shape_of-bounds-then-same_box
same-length-6 c = search rules

same-length-7 : tie.Need-shape_of-table-then-same_box
same-length-7 c = search rules

same-length-8 : tie.Need-shape_of-across-then-same_box
same-length-8 c = search rules

same-length-9 : tie.Need-shape_of-signs-then-same_box
same-length-9 c = search rules

same-length-10 : tie.Need-shape_of-marks-then-same_box
same-length-10 c = search rules

-- the comparison is of the box before and the box after
compared : (c : tie.After-same_box) → let d = c.before.before.before.before.before.before.before.before.before.before.before.before.before in c.same_box.result ≡ same_list (B d) (Q d)
compared c =
    let d = c.before.before.before.before.before.before.before.before.before.before.before.before.before in
    c.same_box.ensures ∙ ap (λ (z : List ℤ). same_list z (Q d)) (held (P d) (length (B d)) (ap length (copied d)) ∙ copied d)

returns-2 : tie.Need-returns-then-same_box
unfolding class_is probing_of probe_infeasible adds_none report_of
returns-2 c =
    let d = c.before.before.before.before.before.before.before.before.before.before.before.before.before.before.before in
    let e = c.in-BothFeasible.is in
    let w = done d {k = unchanged_call} e (rw (c.if-added-ne0.false, sym (compared c.before.before), c.if-same_box.true)) in
    (c.step_of-then-same_box.ensures.0 ∙ w.0, (w.1, (c.step_of-then-same_box.ensures.1 ∙ spent d e, d.probe_marked.ensures.1)))

step-of-requires-5 : tie.Need-step_of-requires-in-BothFeasible
step-of-requires-5 c κs = search rules

same-length-11 : tie.Need-shape_of-bounds-in-Infeasible
same-length-11 c = search rules

same-length-12 : tie.Need-shape_of-table-in-Infeasible
same-length-12 c = search rules

same-length-13 : tie.Need-shape_of-across-in-Infeasible
same-length-13 c = search rules

same-length-14 : tie.Need-shape_of-signs-in-Infeasible
same-length-14 c = search rules

same-length-15 : tie.Need-shape_of-marks-in-Infeasible
same-length-15 c = search rules

returns-3 : tie.Need-returns-in-Infeasible
unfolding class_is probing_of probe_infeasible adds_none report_of
returns-3 c =
    let d = c.before.before.before.before.before.before.before.before.before.before.before in
    let e = c.in-Infeasible.is in
    let w = done d {k = infeasible_call} e refl in
    (c.step_of.ensures.0 ∙ w.0, (w.1, (c.step_of.ensures.1 ∙ spent d e, d.probe_marked.ensures.1)))

same-length-16 : tie.Need-shape_of-bounds-in-Fixed
same-length-16 c = search rules

same-length-17 : tie.Need-shape_of-table-in-Fixed
same-length-17 c = search rules

same-length-18 : tie.Need-shape_of-across-in-Fixed
same-length-18 c = search rules

same-length-19 : tie.Need-shape_of-signs-in-Fixed
same-length-19 c = search rules

same-length-20 : tie.Need-shape_of-marks-in-Fixed
same-length-20 c = search rules

returns-4 : tie.Need-returns-in-Fixed
unfolding class_is probing_of probe_infeasible adds_none report_of
returns-4 c =
    let d = c.before.before.before.before.before.before.before.before.before.before.before in
    let e = c.in-Fixed.is in
    let w = done d {k = changed_call} e refl in
    (c.step_of-in-Fixed.ensures.0 ∙ w.0, (w.1, (c.step_of-in-Fixed.ensures.1 ∙ spent d e, d.probe_marked.ensures.1)))

same-length-21 : tie.Need-shape_of-bounds-else-same_box
same-length-21 c = search rules

same-length-22 : tie.Need-shape_of-table-else-same_box
same-length-22 c = search rules

same-length-23 : tie.Need-shape_of-across-else-same_box
same-length-23 c = search rules

same-length-24 : tie.Need-shape_of-signs-else-same_box
same-length-24 c = search rules

same-length-25 : tie.Need-shape_of-marks-else-same_box
same-length-25 c = search rules

returns-5 : tie.Need-returns-else-same_box
unfolding class_is probing_of probe_infeasible adds_none report_of
returns-5 c =
    let d = c.before.before.before.before.before.before.before.before.before.before.before.before.before.before.before in
    let e = c.in-BothFeasible.is in
    let w = done d {k = changed_call} e (rw (c.if-added-ne0.false, sym (compared c.before.before), c.if-same_box.false)) in
    (c.step_of-in-BothFeasible.ensures.0 ∙ w.0, (w.1, (c.step_of-in-BothFeasible.ensures.1 ∙ spent d e, d.probe_marked.ensures.1)))

pub run_probe_marked_spec : {M : Type 1} → statement M
run_probe_marked_spec =
    tie.close
    (tie.spec
    array-borrow-prefix-before
    slice-aggregate-copy-box
    copy-box-requires
    probe-marked-requires
    enum-known-s0
    step-of-requires
    enum-known-s0-2
    step-of-requires-2
    enum-known-added
    step-of-requires-3
    same_length
    same-length-2
    same-length-3
    same-length-4
    same-length-5
    returns
    array-share-prefix-before
    slice-aggregate-same-box
    same-box-requires
    step-of-requires-4
    same-length-6
    same-length-7
    same-length-8
    same-length-9
    same-length-10
    returns-2
    step-of-requires-5
    same-length-11
    same-length-12
    same-length-13
    same-length-14
    same-length-15
    returns-3
    same-length-16
    same-length-17
    same-length-18
    same-length-19
    same-length-20
    returns-4
    same-length-21
    same-length-22
    same-length-23
    same-length-24
    same-length-25
    returns-5)
