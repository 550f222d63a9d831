-- `packed_row::form_moves_packed` is row_moves of the row with its sign: in a box that is not empty, one comparison of the room with
-- the widest term tells (`moves-test`). Assumes nothing.
use borrow.Author.Rules.{rules}
use Prim.Native.Nat.{ℕ}
use lib.IntN.{ℤ}
use lib.ListN.{length}
use mathlib.Core.List.{List}
use mathlib.Core.Path.{◌∙◌, ◌≡◌, ap₂, sym}
use Rattle.integer.proofs.Reading.{wide_fits}
use lib.Signed.{lt_z}
use Rattle.row.specs.Activity.{min_activity, widest_term}
use Rattle.row.specs.Kinds.{signed}
use Rattle.row.specs.ValidRow.{ValidRow}
use Rattle.row.proofs.SignedLaws.{sign-bits, sign-is, signed-row}
use Rattle.row.proofs.ReachLaws.{moves-empty, moves-test, slack-fits, slack-read, widest-read}
use Rattle.packed_row.specs.Words.{coefs_from}
use Rattle.packed_row.proofs.form_moves_packed.Statement.{statement}
use Rattle.packed_row.proofs.form_moves_packed.Tie as tie

is-empty-requires : tie.Need-is_empty-requires
is-empty-requires c κs = search rules

returns : tie.Need-returns-then-is_empty
returns c =
    let v = c.requires.0.coefs in
    sym (moves-empty _ _ _ _ (sym (c.is_empty.ensures _ v.some v.box) ∙ c.if-is_empty.true))

reach-packed-requires : tie.Need-reach_packed-r-requires
reach-packed-requires c κs = let s = c.before.before.before in (s.requires.0.coefs, sign-bits s.requires.1)

cast-result : tie.Need-overflow_cast-result
cast-result c = wide_fits c.ranges.b

-- what the sweep found of the row with its sign
module _ (m : tie.After-reach_packed-r) where
  abbrev s : tie.Start
  s = m.before.before.before.before

  abbrev A : List ℤ
  A = signed s.args.sign (coefs_from s.args.words.now 0)

  abbrev B : List ℤ
  B = s.args.bounds.now

  abbrev n : ℕ
  n = length s.args.words.now

  v : ValidRow n A s.args.b B
  v = signed-row s.requires.1 s.requires.0

  found-least : m.reach_packed-r.result.least ≡ min_activity n A B
  found-least = rw (sign-is s.requires.1) at m.reach_packed-r.ensures.0

  found-widest : m.reach_packed-r.result.widest ≡ widest_term n A B
  found-widest = rw (sign-is s.requires.1) at m.reach_packed-r.ensures.1

sub-result : tie.Need-overflow_sub-result
sub-result c = let m = c.before.before in slack-fits (v m) (found-least m) (found-widest m)

returns-2 : tie.Need-returns
returns-2 c =
    let m = c.before.before.before.before in
    let w = v m in
    let some = sym (m.is_empty.ensures _ w.coefs.some w.coefs.box) ∙ m.if-is_empty.false in
    ap₂ lt_z (slack-read w (found-least m) (found-widest m)) (widest-read w (found-least m) (found-widest m))
    ∙ moves-test (n m) (A m) (s m).args.b (B m) some w.coefs.box.len

pub form_moves_packed_spec : {M : Type 1} → statement M
form_moves_packed_spec =
    tie.close
    (tie.spec is-empty-requires returns reach-packed-requires cast-result sub-result returns-2)
