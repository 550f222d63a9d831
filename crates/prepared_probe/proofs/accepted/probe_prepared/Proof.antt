-- `prepared_probe::sides::probe_prepared`: the box that is left is that of a probe, valid and, where it is kept, not empty. Assumes nothing.
use Rattle.std.specs.Prelude.{◌≡◌, ◌*◌, ◌≤◌, not, T, List, length, ℤ}
use borrow.Author.Rules.{rules}
use mathlib.Core.Path.{◌∙◌, refl, sym}
use native.Mathlib.Omega.{arith}
use Rattle.integer.proofs.Tests.{false→T, or_r}
use Rattle.model.specs.Box.{is_empty, is_free}
use Rattle.two_sides.specs.Results.{probing_of, report_of}
use Rattle.probe_side.proofs.MarkedLaws.{front-room}
use Rattle.prepared_model.specs.ProbeReasons.{probe_reasons}
use Rattle.prepared_model.proofs.KeepsLaws.{keeps-box, keeps-none}
use Rattle.row.proofs.ImpliedBoxLaws.{valid-non_empty}
use Rattle.semantics.specs.Probe.{probe}
use Rattle.semantics.specs.Run.{answers_none, probe_infeasible}
use Rattle.prepared_probe.proofs.ProbedLaws.{probed-non_empty, probed-valid, probing-none, probing-some}
use Rattle.prepared_probe.proofs.accepted.probe_prepared.Statement.{statement}
use Rattle.prepared_probe.proofs.accepted.probe_prepared.Tie as tie

is-empty-requires : tie.Need-is_empty-requires
is-empty-requires c κs = search rules

no-reasons-requires : tie.Need-no_reasons-requires
no-reasons-requires c κs = search rules

untried-requires : tie.Need-untried-requires
untried-requires c κs = search rules

untried-requires-2 : tie.Need-untried-requires-then-is_empty
untried-requires-2 c κs = search rules

same_length : tie.Need-shape_of-bounds-then-is_empty
same_length c = search rules

same-length-2 : tie.Need-shape_of-reasons-then-is_empty
same-length-2 c = search rules

returns : tie.Need-returns-then-is_empty
unfolding probe probing_of report_of answers_none probe_infeasible probe_reasons
returns c =
    let r = c.before.before.before.before in
    let i = c.before.before.before.before.before.before.before in
    let s = i.before.before.before.before in
    let empty = sym (i.is_empty.ensures _ s.requires.2.some s.requires.2.box) ∙ c.if-is_empty.true in (
      (λ A P. rw (empty, c.untried.ensures, c.untried-then-is_empty.ensures) refl),
      ((λ A P. rw (empty, r.no_reasons.ensures) refl), ((λ A P. P), keeps-none s.args.ws.now _ s.args.bounds.now tt)),
    )

-- the box is not empty, so k is free
module _ (c : tie.Else-is_empty) where
  abbrev start : tie.Start
  start = c.before.before.before.before.before

  some : T (not (is_empty start.args.n start.args.bounds.now))
  some = false→T (is_empty start.args.n start.args.bounds.now)
      (sym (c.is_empty.ensures _ start.requires.2.some start.requires.2.box) ∙ c.if-is_empty.false)

  free : T (is_free start.args.bounds.now start.args.k)
  free = or_r (is_empty start.args.n start.args.bounds.now) (is_free start.args.bounds.now start.args.k) start.requires.4 some

try-sides-requires : tie.Need-try_sides-told-requires
try-sides-requires c κs =
    let e = c.before.before.before in
    let p = (start e).requires in
    ((record { variables = p.0; rows = p.1; sized = p.2; non_empty = valid-non_empty p.2.box (some e) }, free e, p.5), (p.3, p.6))

-- the box that the sides come to
module _ (c : tie.After-try_sides-told) where
  abbrev s : tie.Start
  s = start c.before.before.before.before

  abbrev Q : List ℤ
  Q = c.try_sides-told.new.bounds

  left-length : length Q ≡ 2 * s.args.n
  left-length = c.try_sides-told.auto.bounds ∙ s.requires.2.box.len

  left-room : length Q ≤ 256
  left-room = omega (arith, left-length, s.requires.2.few)

enum_told : tie.Need-enum_told-1
enum_told c = search rules

array-borrow-prefix-seen : tie.Need-slice_bounds-seen-end
array-borrow-prefix-seen c = search rules

slice-aggregate-keep : tie.Need-slice_bounds-keep-end
slice-aggregate-keep c = let d = c.before.before.before.before.before.before.before.before in sym (front-room (Q d) (left-room d))

keep-requires : tie.Need-keep-requires
keep-requires c κs =
    let d = c.before.before.before.before.before.before.before.before in
    let p = (s d).requires in
    (p.2.few, p.2.len, left-length d, front-room (Q d) (left-room d) ∙ left-length d, d.try_sides-told.ensures.1.1)

same-length-3 : tie.Need-shape_of-ws-in_default
same-length-3 c = search rules

same-length-4 : tie.Need-shape_of-bounds-in_default
same-length-4 c = search rules

same-length-5 : tie.Need-shape_of-table-in_default
same-length-5 c = search rules

same-length-6 : tie.Need-shape_of-reasons-in_default
same-length-6 c = search rules

returns-2 : tie.Need-returns-in_default
returns-2 c =
    let k = c.before.before.before in
    let d = c.before.before.before.before.before.before.before.before.before.before.before.before in
    let a = (s d).args in
    let p = (s d).requires in
    let r = d.try_sides-told.result.probing in
    let some = probing-some r c.in_default.in_default-own.keys2 in
    let u = d.try_sides-told.new.table in (
      d.try_sides-told.ensures.0,
      (
        d.try_sides-told.ensures.1.0,
        (
          λ A P.
              let e = d.try_sides-told.ensures.0 A P in
              k.keep.ensures.1.1 A P p.0 (probed-valid a.k a.budget a.m A a.table.now u r p.2.some p.2.box p.4 e)
              (probed-non_empty a.k a.budget a.m A a.table.now u r p.2.some p.2.box p.4 e some),
          keeps-box _ p.0 k.keep.ensures.1.0 k.keep.ensures.0 some,
        ),
      ),
    )

same-length-7 : tie.Need-shape_of-ws
same-length-7 c = search rules

same-length-8 : tie.Need-shape_of-bounds
same-length-8 c = search rules

same-length-9 : tie.Need-shape_of-table
same-length-9 c = search rules

same-length-10 : tie.Need-shape_of-reasons
same-length-10 c = search rules

returns-3 : tie.Need-returns
returns-3 c =
    let d = c.before.before.before.before.before.before in (
      d.try_sides-told.ensures.0,
      (d.try_sides-told.ensures.1.0, ((λ A P. P), keeps-none (s d).args.ws.now _ (Q d) (probing-none c.in-Infeasible.is))),
    )

pub probe_prepared_spec : {M : Type 1} → statement M
probe_prepared_spec =
    tie.close
    (tie.spec
    is-empty-requires
    no-reasons-requires
    untried-requires
    untried-requires-2
    same_length
    same-length-2
    returns
    try-sides-requires
    enum_told
    array-borrow-prefix-seen
    slice-aggregate-keep
    keep-requires
    same-length-3
    same-length-4
    same-length-5
    same-length-6
    returns-2
    same-length-7
    same-length-8
    same-length-9
    same-length-10
    returns-3)
