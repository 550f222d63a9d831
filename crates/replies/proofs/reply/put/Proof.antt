-- `replies::reply::put`: stores into places that are all 0 leave the numbers and zeros behind them, by computation. Assumes nothing.
use borrow.Author.Rules.{rules}
use Prim.Native.Nat.{◌<◌, ℕ}
use lib.ListN.{length, length-set, replicate, set}
use mathlib.Core.List.{List, ◌++◌, ◌∷◌}
use mathlib.Core.Path.{◌∙◌, ◌≡◌, ap, refl, subst, sym}
use native.Mathlib.Omega.{arith}
use Rattle.two_sides.specs.Results.{report_of}
use Rattle.two_sides.specs.declared.Side.{Side}
use Rattle.replies.specs.Replies.{answer_length, bit, padded, reply_of, returned, side_numbers, written}
use Rattle.replies.proofs.reply.put.Statement.{statement}
use Rattle.replies.proofs.reply.put.Tie as tie

enum-known-reply : tie.Need-enum_known-reply
enum-known-reply c = search rules

enum-known-reply-2 : tie.Need-enum_known-reply-in-Numbers-1
enum-known-reply-2 c = search rules

clear-requires : tie.Need-clear-requires
clear-requires c κs = search rules

slice-write-answer : tie.Need-bounds-answer-0
slice-write-answer c = search rules

slice-write-answer-2 : tie.Need-bounds-answer-1
slice-write-answer-2 c = search rules

slice-write-answer-3 : tie.Need-bounds-answer-2
slice-write-answer-3 c = simp length-set (omega arith)

slice-write-answer-4 : tie.Need-bounds-answer-3
slice-write-answer-4 c = simp length-set (omega arith)

enum-known-reply-3 : tie.Need-enum_known-reply-in-Probed-1
enum-known-reply-3 c = search rules

clear-requires-2 : tie.Need-clear-requires-in-Probed
clear-requires-2 c κs = search rules

slice-write-answer-5 : tie.Need-bounds-answer-0-in-Probed
slice-write-answer-5 c = search rules

cast-answer : tie.Need-overflow_cast-answer
cast-answer c = search rules

slice-write-answer-6 : tie.Need-bounds-answer-1-in-Probed
slice-write-answer-6 c = search rules

put-side-requires : tie.Need-put_side-requires
put-side-requires c κs = simp length-set (omega arith)

-- after each side its numbers are there, and zeros behind them
module _ (p : tie.After-put_side) where
  abbrev start : tie.Start
  start = p.before.before.before.before.before.before.before.before

  abbrev case : ℕ
  case = p.in-Probed.case

  abbrev value : ℕ
  value = p.in-Probed.value

  abbrev side0 : Side
  side0 = p.in-Probed.side0

  abbrev side1 : Side
  side1 = p.in-Probed.side1

  one_side : p.put_side.new.answer ≡ padded answer_length (case ∷ value ∷ side_numbers (report_of side0))
  unfolding report_of
  one_side =
      p.put_side.ensures
      ∙ ap (λ (z : List ℕ). set (set (set (set (set z 0 case) 1 value) 2 side0.passes) 3 (bit side0.spent)) 4 side0.moved)
      (p.clear-in-Probed.ensures ∙ ap (λ (k : ℕ). replicate k 0) start.requires)

both-sides : (p : tie.After-put_side-in-Probed) → let q = p.before.before.before.before in
    p.put_side-in-Probed.new.answer ≡ padded answer_length (case q ∷ value q ∷ side_numbers (report_of (side0 q)) ++ side_numbers (report_of (side1 q)))
unfolding report_of
both-sides p =
    let q = p.before.before.before.before in
    p.put_side-in-Probed.ensures ∙ ap (λ (z : List ℕ). set (set (set z 5 (side1 q).passes) 6 (bit (side1 q).spent)) 7 (side1 q).moved) (one_side q)

put-side-requires-2 : tie.Need-put_side-requires-in-Probed
put-side-requires-2 c κs = subst (λ (ys : List ℕ). 7 < length ys) (sym (one_side c.before.before.before)) (omega arith)

returns : tie.Need-returns-in-Refused
unfolding reply_of returned written
returns c = rw c.in-Refused.is (refl, refl)

same_length : tie.Need-shape_of-answer-in-Numbers
same_length c = search rules

returns-2 : tie.Need-returns-in-Numbers
unfolding reply_of returned written
returns-2 c =
    let a = c.before.before in
    rw (c.in-Numbers.is, a.clear.ensures, a.requires) (refl, refl)

same-length-2 : tie.Need-shape_of-answer-in-Probed
same-length-2 c = ap length (both-sides c.before.before) ∙ sym (start c.before.before.before.before.before.before).requires

returns-3 : tie.Need-returns-in-Probed
unfolding reply_of returned written
returns-3 c =
    rw c.in-Probed.is
    (refl, both-sides c.before.before)

pub put_spec : {M : Type 1} → statement M
put_spec =
    tie.close
    (tie.spec
    enum-known-reply
    enum-known-reply-2
    clear-requires
    slice-write-answer
    slice-write-answer-2
    slice-write-answer-3
    slice-write-answer-4
    enum-known-reply-3
    clear-requires-2
    slice-write-answer-5
    cast-answer
    slice-write-answer-6
    put-side-requires
    put-side-requires-2
    returns
    same_length
    returns-2
    same-length-2
    returns-3)
