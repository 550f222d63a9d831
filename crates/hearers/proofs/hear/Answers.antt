-- `hearers::hear`: a coefficient of 0 is not heard, an = row hears both ways, a ≤ row the one of its coefficient's sign. Assumes nothing.
use lib.Dec.{eqb}
use lib.IntN.{pos}
use lib.Signed.{◌<ℤ◌}
use mathlib.Core.Bool.{false, true≢false}
use mathlib.Core.Path.{◌∙◌, ◌≡◌, ap, refl, sym}
use mir.Facts.{sfits_lit, to_z-of_z}
use mir.Syntax.{w32}
use Rattle.integer.proofs.Parts.{zarith}
use Rattle.integer.proofs.Reading.{eq-read, ge-read, lt-read}
use Rattle.row_set.specs.Readers.{hears_fall, hears_rise}
use Rattle.hearers.proofs.ColumnLaws.{fall-above, fall-none, not-equality, rise-below, rise-none}
use Rattle.hearers.proofs.hear.Goals as goal

pub returns-then-a-eq0 : goal.returns-then-a-eq0
returns-then-a-eq0 c =
    let e = eqb c.args.kind 1 in
    let zero = eq-read w32 c.ranges.a (sfits_lit {z = pos 0} tt) c.if-a-eq0.true in
    record {
      rising = λ t. absurd (true≢false (sym t ∙ ap (hears_rise e) zero ∙ rise-none e));
      falling = λ t. absurd (true≢false (sym t ∙ ap (hears_fall e) zero ∙ fall-none e));
      others = λ i n. (refl, refl);
    }

pub returns-then-kind-eq1 : goal.returns-then-kind-eq1
returns-then-kind-eq1 c =
    let second = c.insert-then-kind-eq1.ensures in
    let first = c.insert.ensures in
    record { rising = λ t. first.row; falling = λ t. second.row; others = λ i n. (first.others i n, second.others i n) }

pub returns-then-is_positive : goal.returns-then-is_positive
returns-then-is_positive c =
    let put = c.insert-then-is_positive.ensures in
    let above : pos 0 <ℤ c.args.a = lt-read refl (to_z-of_z {w = w32} c.ranges.a) c.if-is_positive.true in
    let deaf : hears_fall (eqb c.args.kind 1) c.args.a ≡ false = rw (not-equality c.args.kind c.if-kind-eq1.false) (fall-above (omega zarith)) in
    record { rising = λ t. put.row; falling = λ t. absurd (true≢false (sym t ∙ deaf)); others = λ i n. (put.others i n, refl) }

pub returns : goal.returns
returns c =
    let put = c.insert-2.ensures in
    let below = ge-read refl (to_z-of_z {w = w32} c.ranges.a) c.if-is_positive.false in
    let deaf : hears_rise (eqb c.args.kind 1) c.args.a ≡ false = rw (not-equality c.args.kind c.if-kind-eq1.false) (rise-below below) in
    record { rising = λ t. absurd (true≢false (sym t ∙ deaf)); falling = λ t. put.row; others = λ i n. (refl, put.others i n) }
