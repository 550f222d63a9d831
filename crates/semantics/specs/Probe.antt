-- Probe a free binary variable (01's probe; 000, 1.2 for the sides, 2.2 for the implications): propagate with it at 0 and at 1, and keep what both sides say.
use Rattle.std.specs.Prelude.{◌*◌, ◌+◌, ◌-◌, suc, zero, ℕ, eqb, pos, ℤ, get_or, set, Bool, ◌&&◌, cond, false, not, List, [], ◌∷◌}
use Rattle.integer.specs.Order.{eq_z}
unfoldable pub use Rattle.model.specs.Box.{hull}
use Rattle.model.specs.Box.{box_of, empty_box, is_empty, is_free, lower, upper}
use Rattle.model.specs.Rows.{Rows}
use Rattle.semantics.specs.Propagate.{Propagated, is_none, is_spent, propagate}

-- "Side v is the box with k set to v", before it is settled
unfoldable pub fix : ℕ → List ℤ → ℕ → ℕ → List ℤ
fix n B k v = box_of n (λ j. cond (eqb j k) (pos v) (lower B j)) (λ j. cond (eqb j k) (pos v) (upper B j))

-- ---- the implication table

-- "A literal `variable k is v` has the number 2k + v."
unfoldable pub literal : ℕ → ℕ → ℕ
literal k v = 2 * k + v

-- "byte p × 2n + q is 1 when literal p implies literal q, else 0"
unfoldable pub byte_of : ℕ → ℕ → ℕ → ℕ
byte_of n p q = p * (2 * n) + q

-- the table's bytes, and how many of them went from 0 to 1
pub record Table : Type 0 where
  pub bytes : List ℕ
  pub added : ℕ

-- how many bytes of a table are 1
unfoldable pub ones : List ℕ → ℕ
ones [] = 0
ones (x ∷ xs) = cond (eqb x 1) (suc (ones xs)) (ones xs)

-- byte i becomes 1, and counts where it was 0
unfoldable pub put : Table → ℕ → Table
put t i = record { bytes = set t.bytes i 1; added = t.added + cond (eqb (get_or t.bytes i 0) 0) 1 0 }

-- "literal (k is v) implies (j is w) and (j is 1 − w) implies (k is 1 − v)"
unfoldable pub implies : ℕ → ℕ → ℕ → ℕ → ℕ → Table → Table
implies n k v j w t = put (put t (byte_of n (literal k v) (literal j w))) (byte_of n (literal j (1 - w)) (literal k (1 - v)))

-- side S "fixes [j] at w"
unfoldable pub is_fixed : List ℤ → ℕ → ℕ → Bool
is_fixed S j w = eq_z (lower S j) (pos w) && eq_z (upper S j) (pos w)

-- what side v of k, whose box is S, says of variable j
unfoldable pub record_side : ℕ → ℕ → ℕ → ℕ → List ℤ → Table → Table
record_side n k v j S t = cond (is_fixed S j 0) (implies n k v j 0 t) (cond (is_fixed S j 1) (implies n k v j 1 t) t)

-- "For each variable j other than k, free 0-1 before the call, that side v fixes at w": the variables below j; B is the box
-- before the call, S0 and S1 are the sides
unfoldable pub record_to : ℕ → ℕ → ℕ → List ℤ → List ℤ → List ℤ → List ℕ → Table
record_to zero n k B S0 S1 t = record { bytes = t; added = 0 }
record_to (suc j) n k B S0 S1 t =
    cond (not (eqb j k) && is_free B j)
    (record_side n k 1 j S1 (record_side n k 0 j S0 (record_to j n k B S0 S1 t)))
    (record_to j n k B S0 S1 t)

-- ---- the call

-- None; "Fixed with that side's v"; "Both has the number of bytes that went from 0 to 1"
pub data ProbeEnding : Type 0 where
  infeasible : ProbeEnding
  fixed : ℕ → ProbeEnding
  both_feasible : ℕ → ProbeEnding

-- "Each side's passes and whether it was Spent are in the answer." 02 (C-11): "A probe carries that sum for each side."
pub record Side : Type 0 where
  pub passes : ℕ
  pub spent : Bool
  pub moved : ℕ

pub record Probed : Type 0 where
  pub ending : ProbeEnding
  pub side0 : Side
  pub side1 : Side
  pub box : List ℤ
  pub table : List ℕ

unfoldable pub side_of : Propagated → Side
side_of p = record { passes = p.passes; spent = is_spent p.ending; moved = p.moved }

-- the four cases, from the two sides as they were settled: "Both None: void, None." "One None: the bounds of the surviving side
-- are handed on as the new box; answer Fixed with that side's v. The table stays." "Neither: the new box is the smallest that
-- contains both sides." and the table gets what they say. "A Spent side is used with the box it reached."
unfoldable pub join_sides : ℕ → ℕ → List ℤ → List ℕ → Propagated → Propagated → Probed
join_sides n k B t s0 s1 =
    cond (is_none s0.ending)
    (cond (is_none s1.ending)
    (record { ending = infeasible; side0 = side_of s0; side1 = side_of s1; box = empty_box n; table = t })
    (record { ending = fixed 1; side0 = side_of s0; side1 = side_of s1; box = s1.box; table = t }))
    (cond (is_none s1.ending)
    (record { ending = fixed 0; side0 = side_of s0; side1 = side_of s1; box = s0.box; table = t })
    (let r : Table = record_to n n k B s0.box s1.box t in
    record {
      ending = both_feasible r.added;
      side0 = side_of s0;
      side1 = side_of s1;
      box = hull n s0.box s1.box;
      table = r.bytes;
    }))

-- "Side v is the box with k set to v, then settled with the budget." "On the void box all five calls answer None (.. a probe
-- with 0 for each side) and change nothing."
unfoldable pub probe : ℕ → ℕ → ℕ → ℕ → Rows → List ℤ → List ℕ → Probed
probe k budget n m A B t =
    cond (is_empty n B)
    (record {
      ending = infeasible;
      side0 = record { passes = 0; spent = false; moved = 0 };
      side1 = record { passes = 0; spent = false; moved = 0 };
      box = B;
      table = t;
    })
    (join_sides n k B t (propagate budget n m A (fix n B k 0)) (propagate budget n m A (fix n B k 1)))
