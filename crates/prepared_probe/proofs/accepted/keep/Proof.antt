-- `prepared_probe::sides::keep`: the rows outside the set are calm in the box, and only the set and the box are written. Assumes nothing.
use borrow.Author.Rules.{rules}
use native.Mathlib.Omega.{arith}
use Rattle.prepared_model.proofs.KeptLaws.{same-join}
use Rattle.prepared_probe.proofs.ProbedLaws.{kept-prepared}
use Rattle.prepared_probe.proofs.accepted.keep.Statement.{statement}
use Rattle.prepared_probe.proofs.accepted.keep.Tie as tie

slice-aggregate-take-box : tie.Need-slice_bounds-take_box-end
slice-aggregate-take-box c = search rules

take-box-requires : tie.Need-take_box-requires
take-box-requires c κs = search rules

slice-aggregate-keep-set : tie.Need-slice_bounds-keep_set-end
slice-aggregate-keep-set c = search rules

keep-set-requires : tie.Need-keep_set-requires
keep-set-requires c κs = search rules

keep-box-requires : tie.Need-keep_box-requires
keep-box-requires c κs = search rules

same_length : tie.Need-shape_of-ws
same_length c = search rules

same-length-2 : tie.Need-shape_of-seen
same-length-2 c = search rules

returns : tie.Need-returns
returns c =
    let b = c.before.before in
    let k = b.before.before.before.before in
    let t = k.before.before.before.before.before in
    let s = t.before.before.before.before in
    let kept = b.keep_box.ensures.0 s.args.n s.requires.2 in (
      kept,
      (
        same-join (omega arith) (omega arith) k.keep_set.ensures.1 b.keep_box.ensures.1,
        λ A P e v p. kept-prepared P e k.keep_set.ensures.1 b.keep_box.ensures.1 k.keep_set.ensures.0 kept v p (t.take_box.ensures.1 A P e),
      ),
    )

pub keep_spec : {M : Type 1} → statement M
keep_spec =
    tie.close
    (tie.spec
    slice-aggregate-take-box
    take-box-requires
    slice-aggregate-keep-set
    keep-set-requires
    keep-box-requires
    same_length
    same-length-2
    returns)
