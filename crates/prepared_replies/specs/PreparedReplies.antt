-- What the calls on a prepared model say in the C interface. Words in quotation marks are D-63's and D-69's (docs/DECISIONS.md).
use Rattle.std.specs.Prelude.{ℕ, eqb, length, set, cond, List, [], ◌∷◌, ◌≡◌}
use Rattle.replies.specs.Replies.{Reply, answer_length, call_reply, ending_case, places, refused_by, returned, says, written}
use Rattle.semantics.specs.Perform.{Answer, probed, propagated, propagated_row, refused, removed, tightened}

-- "{0 None | 1 Settled | 2 Spent, passes, moved, row}": what a settle says, "and in the fourth place the row that was infeasible, the
-- number that is no row where none was"; any other answer is said as ever
unfoldable pub prepared_reply : Answer → ℕ → Reply
prepared_reply (propagated e passes moved) row = says (ending_case e ∷ passes ∷ moved ∷ row ∷ [])
prepared_reply (refused number) row = call_reply (refused number)
prepared_reply (propagated_row o moved) row = call_reply (propagated_row o moved)
prepared_reply (probed e s0 s1) row = call_reply (probed e s0 s1)
prepared_reply (tightened o) row = call_reply (tightened o)
prepared_reply (removed o) row = call_reply (removed o)

-- what a probe says, "and in the two places after it the rows that were infeasible in side 0 and in side 1"
unfoldable pub with_rows : Reply → ℕ → ℕ → Reply
with_rows (refused_by number) row0 row1 = refused_by number
with_rows (places xs) row0 row1 = places (set (set xs 8 row0) 9 row1)

-- the number by which a prepared call is refused that is lent the answer A, 0 where it is accepted: "the answer's length is check 5,
-- which is the first of these calls"
unfoldable pub fault_with : List ℕ → ℕ → ℕ
fault_with A fault = cond (eqb (length A) answer_length) fault 5

-- the reply q was said: its number is returned, and its places are written over the answer A
pub record Said (q : Reply) (A : List ℕ) (number : ℕ) (A' : List ℕ) : Type 0 where
  pub returns : number ≡ returned q
  pub writes : A' ≡ written q A
