-- `prepared_probe::sides::propagate_side`: the rows outside the set are calm in the side, so the passes over the set are those over all
-- rows. Assumes nothing.
use borrow.Author.Rules.{rules}
use lib.IntN.{ℤ}
use lib.ListN.{length}
use mathlib.Core.Bool.{false}
use mathlib.Core.List.{List, []}
use mathlib.Core.Path.{◌∙◌, ◌≡◌}
use Rattle.integer.proofs.Tests.{false→T}
use Rattle.model.specs.Box.{empty_box}
use Rattle.model.specs.Rows.{Rows}
use Rattle.prepared_model.specs.Layout.{decode}
use Rattle.prepared_model.specs.Prepared.{Prepared}
use Rattle.prepared_model.specs.Reasons.{reasons_of}
use Rattle.prepared_propagation.specs.Known.{Known}
use Rattle.probe_side.proofs.SideLaws.{is-none, is_some}
use Rattle.prepared_row.specs.Looking.{Looking}
use Rattle.propagation.specs.Results.{propagation_of}
use Rattle.propagation.specs.declared.Propagation.{Propagation}
use Rattle.semantics.specs.Propagate.{is_none, propagate_from}
use Rattle.prepared_sides.proofs.SideLaws.{boxed-known, boxed-none, boxed-propagated, boxed-reasons, left-none, left-some, lent_same}
use Rattle.prepared_sides.proofs.propagate_side.Statement.{statement}
use Rattle.prepared_sides.proofs.propagate_side.Tie as tie

no-reasons-requires : tie.Need-no_reasons-requires
no-reasons-requires c κs = search rules

slice-aggregate-take-box : tie.Need-slice_bounds-take_box-end
slice-aggregate-take-box c = search rules

take-box-requires : tie.Need-take_box-requires
take-box-requires c κs = search rules

slice-aggregate-propagate-prepared : tie.Need-slice_bounds-propagate_prepared-end
slice-aggregate-propagate-prepared c = search rules

propagate-prepared-requires : tie.Need-propagate_prepared-told-requires
propagate-prepared-requires c κs =
    let t = c.before.before.before.before.before.before in
    let s = t.before.before.before.before.before.before.before.before.before in
    let g = s.requires.0 in (
      record { sized = g.sized; non_empty = g.non_empty; known = t.take_box.ensures.0; set = t.take_box.auto.dirty },
      lent_same s.requires.2 t.no_reasons.auto.reasons,
    )

-- how the passes ended, the box that they left, and what they told
module _ (c : tie.After-propagate_prepared-told) where
  abbrev t : tie.After-take_box
  t = c.before.before.before.before.before.before.before

  abbrev s : tie.Start
  s = t.before.before.before.before.before.before.before.before.before

  abbrev end : Propagation
  end = c.propagate_prepared-told.result.end

  abbrev S : List ℤ
  S = c.propagate_prepared-told.new.bounds

  known : (A : Rows) → Prepared s.args.ws.now A
      → Known s.args.n s.args.m s.args.ws.now s.args.side.now t.take_box.new.dirty
  known A P = boxed-known s.requires.0 P t.take_box.new.dirty (t.take_box.ensures.1 A P s.requires.0.variables)

  ends : (A : Rows) → Prepared s.args.ws.now A
      → propagation_of end S ≡ propagate_from s.args.budget 0 0 s.args.n s.args.m (decode s.args.n s.args.m s.args.ws.now) s.args.side.now
  ends A P = c.propagate_prepared-told.ensures.0 (known A P)

  tells : (A : Rows) → Prepared s.args.ws.now A
      → record { movers = c.propagate_prepared-told.new.reasons; infeasible = c.propagate_prepared-told.result.row }
      ≡ reasons_of s.args.budget s.args.n s.args.m A s.args.side.now (length s.args.reasons.now)
  tells A P =
      let told = c.propagate_prepared-told.ensures.1.1.1 in
      boxed-reasons s.requires.0 P s.args.budget (length s.args.reasons.now) t.no_reasons.ensures (told.0 (known A P)) (told.1 (known A P))

  looking : is_none (propagation_of end []).ending ≡ false
      → Looking s.args.n s.args.m s.args.ws.now S c.propagate_prepared-told.new.seen c.propagate_prepared-told.new.dirty
  looking z = c.propagate_prepared-told.ensures.1.1.0 (false→T (is_none (propagation_of end []).ending) z)

enum_told : tie.Need-enum_told-1
enum_told c = search rules

same_length : tie.Need-shape_of-seen-in_default
same_length c = search rules

same-length-2 : tie.Need-shape_of-side-in_default
same-length-2 c = search rules

same-length-3 : tie.Need-shape_of-reasons-in_default
same-length-3 c = search rules

returns : tie.Need-returns-in_default
returns c =
    let p = c.before.before.before.before.before.before in
    let l = looking p (is_some (end p) [] c.in_default.in_default-own.keys2) in (
      (λ A P. boxed-propagated (s p).requires.0 P (s p).args.budget (end p) (S p) (ends p A P)),
      (
        tells p,
        left-some (end p) (S p) (s p).requires.0.sized.some (is_some (end p) (S p) c.in_default.in_default-own.keys2) l.sized.box l.non_empty,
      ),
    )

make-empty-requires : tie.Need-make_empty-requires
make-empty-requires c κs = search rules

same-length-4 : tie.Need-shape_of-seen
same-length-4 c = search rules

same-length-5 : tie.Need-shape_of-side
same-length-5 c = search rules

same-length-6 : tie.Need-shape_of-reasons
same-length-6 c = search rules

returns-2 : tie.Need-returns
returns-2 c =
    let e = c.before in
    let told = e.in-Infeasible.is in
    let p = c.before.before.before.before.before.before.before.before.before in
    let b = (s p).requires.0 in
    let S' = e.make_empty.new.bounds in
    let empty : S' ≡ empty_box (s p).args.n = e.make_empty.ensures (s p).args.n (p.propagate_prepared-told.auto.bounds ∙ b.sized.box.len) in (
      (λ A P. boxed-none b P (s p).args.budget (end p) (S p) S' (ends p A P) (is-none (S p) told) empty),
      (tells p, left-none (end p) S' (is-none S' told) empty),
    )

pub propagate_side_spec : {M : Type 1} → statement M
propagate_side_spec =
    tie.close
    (tie.spec
    no-reasons-requires
    slice-aggregate-take-box
    take-box-requires
    slice-aggregate-propagate-prepared
    propagate-prepared-requires
    enum_told
    same_length
    same-length-2
    same-length-3
    returns
    make-empty-requires
    same-length-4
    same-length-5
    same-length-6
    returns-2)
