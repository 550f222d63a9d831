-- `allocation_judging::judge_at`: the two parts of the input can be held against each other (`split-holdable`), and what comes of it is
-- what the input gets (`split-fault`, `split-judged`).
use Prim.Native.Nat.{◌*◌, ◌≤◌, ℕ}
use lib.ListN.{length}
use lib.Seq.{length-take-le}
use mathlib.Core.Path.{◌≡◌, ◌∙◌, refl, sym}
use native.Mathlib.Omega.{arith}
use Rattle.std.proofs.lemmas.Result.{err_from_is_err_and}
use mathlib.Core.List.{List}
use Rattle.model.proofs.RefusalLaws.{number_of-ne0}
use Rattle.allocation_input.specs.Input.{count_at}
use Rattle.allocation_input.specs.Judging.{Splits}
use Rattle.allocation_input.proofs.InputLaws.{split-fault, split-holdable, split-judged, split-passed}
use Rattle.allocation_judging.proofs.judge_at.Goals as goal

pub slice_bounds-hold-end : goal.slice_bounds-hold-end
slice_bounds-hold-end c = sym (length-take-le _ _ c.requires.0.within)

pub slice_bounds-hold-count : goal.slice_bounds-hold-count
slice_bounds-hold-count c = omega (arith, split-passed _ _ c.requires.0)

pub slice_bounds-hold-start : goal.slice_bounds-hold-start
slice_bounds-hold-start c = omega (arith, split-passed _ _ c.requires.0)

-- the verdicts have room
fits : (bs V : List ℕ) {e count : ℕ} → Splits bs e → count ≡ count_at e bs → length V ≡ 128 → 2 * count ≤ length V
fits bs V {e} {count} h q r = omega (arith, split-passed bs e h)

pub slice_bounds-hold-end-3 : goal.slice_bounds-hold-end-3
slice_bounds-hold-end-3 c = fits _ _ c.requires.0 c.count_behind-count.ensures c.requires.1

pub slice_bounds-hold-end-4 : goal.slice_bounds-hold-end-4
slice_bounds-hold-end-4 c = sym (length-take-le _ _ (fits _ _ c.requires.0 c.count_behind-count.ensures c.requires.1))

pub hold-requires : goal.hold-requires
hold-requires c =
    split-holdable _ _ c.requires.0 _ _ c.count_behind-count.ensures c.requires.1

pub returns-in_err-hold : goal.returns-in_err-hold
returns-in_err-hold c =
    let p = err_from_is_err_and c.from_residual.result c.from_residual.ensures.1 in
    rw (p.1, p.2) (split-fault _ _ c.requires.0 c.in_err-hold.ensures.fault, number_of-ne0 _)

pub returns : goal.returns
returns c =
    let e = c.in_ok-hold.ensures in
    split-judged _ _ c.requires.0 _ _ c.count_behind-count.ensures e.fault refl
    (c.hold.auto.verdicts ∙ length-take-le _ _ (fits _ _ c.requires.0 c.count_behind-count.ensures c.requires.1)) (e.told refl)
