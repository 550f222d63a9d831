-- `propagate_row_noted` is propagate_row_of of the row that the words say; the rows that are not to be looked at then are calm: those that
-- heard nothing of what moved (`calm-moved`), and the row itself where it moves nothing any more. Assumes nothing.
use lib.ListN.{length}
use mathlib.Core.Path.{◌∙◌, ◌≡◌, sym}
use Rattle.marked_row.proofs.MarkedRowLaws.{broken, left_by, said, tightened, unmoved}
use Rattle.packed_row.specs.Words.{row_of_words}
use Rattle.prepared_model.proofs.RowReasonLaws.{blames-moved, blames-none, blames-still}
use Rattle.row.proofs.KindLaws.{kinded-infeasible-box, kinded-unchanged}
use Rattle.prepared_row.proofs.CalmLaws.{calm-broken, calm-moved, calm-unmoved, kept-kind, moved-blaming, moved-noting, nothing-in}
use Rattle.prepared_row.proofs.propagate_row_noted.Goals as goal

pub propagate_row_packed-requires : goal.propagate_row_packed-requires
propagate_row_packed-requires c = c.requires.0.words

pub returns-in-Infeasible : goal.returns-in-Infeasible
returns-in-Infeasible c =
    let v = c.requires.0 in
    let row = row_of_words c.args.words.now c.args.rhs_word in
    let Q = c.propagate_row_packed.new.bounds in
    let heard = c.propagate_row_packed.ensures in
    let left = left_by _ Q heard in
    let t = broken _ Q heard c.in-Infeasible.is in
    record {
      propagated = said _ Q heard c.in-Infeasible.is;
      known = nothing-in v.words.some (left ∙ kinded-infeasible-box (length c.args.words.now) row c.args.bounds.now t);
      calm = λ m A few same hearers calm. calm-broken c.args.ws.now c.args.r row same few v.words.some v.non_empty hearers calm left t;
      reasons = blames-none _ _ _ _ t;
    }

pub blame-requires : goal.blame-requires
blame-requires c =
    let Q = c.propagate_row_packed.new.bounds in
    let heard = c.propagate_row_packed.ensures in
    moved-blaming c.requires.0 c.args.rhs_word c.requires.1 (left_by _ Q heard) (tightened _ Q heard c.in-Tightened.is)

pub note-requires : goal.note-requires
note-requires c =
    let Q = c.propagate_row_packed.new.bounds in
    let heard = c.propagate_row_packed.ensures in
    moved-noting c.requires.0 c.args.rhs_word (left_by _ Q heard) (tightened _ Q heard c.in-Tightened.is)

pub returns-in-Tightened : goal.returns-in-Tightened
returns-in-Tightened c =
    let v = c.requires.0 in
    let row = row_of_words c.args.words.now c.args.rhs_word in
    let Q = c.propagate_row_packed.new.bounds in
    let heard = c.propagate_row_packed.ensures in
    let left = left_by _ Q heard in
    let told = c.in-Tightened.is in
    let f = tightened _ Q heard told in
    let noted = c.note in
    let d = c.done in
    record {
      propagated = said _ Q heard told;
      known = λ _. noted.ensures.left;
      calm = λ m A few same hearers calm.
          calm-moved c.args.ws.now c.args.r row same few v.words.some v.non_empty hearers calm left f
          noted.new.dirty d.new.dirty (rw v.known at noted.ensures.dirty) d.ensures.others (kept-kind v c.args.rhs_word d.ensures.equality);
      reasons = blames-moved _ _ _ _ f left _ v.known c.blame.ensures;
    }

pub returns-in-Unchanged : goal.returns-in-Unchanged
returns-in-Unchanged c =
    let v = c.requires.0 in
    let row = row_of_words c.args.words.now c.args.rhs_word in
    let Q = c.propagate_row_packed.new.bounds in
    let heard = c.propagate_row_packed.ensures in
    let left = left_by _ Q heard in
    let told = c.in-Unchanged.is in
    let f = unmoved _ Q heard told in
    let still : Q ≡ c.args.bounds.now = left ∙ kinded-unchanged row v.non_empty f.0 f.1 in
    let r = c.remove in
    record {
      propagated = said _ Q heard told;
      known = λ _. v.known ∙ sym still;
      calm = λ m A few same hearers calm.
          calm-unmoved c.args.ws.now c.args.r row same few v.words.some v.non_empty hearers calm left f.0 f.1 r.new.set r.ensures;
      reasons = blames-still _ _ _ _ f.0 left still;
    }
