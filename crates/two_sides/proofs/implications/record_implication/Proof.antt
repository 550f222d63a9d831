-- `two_sides::implications::record_implication` is implies on a table with nothing counted: each of its two bytes lies in the table
-- (`byte-in`). Assumes nothing.
use Prim.Native.Nat.{◌*◌, ◌+◌, ◌-◌, ◌<◌, ℕ}
use borrow.Author.Rules.{rules}
use lib.ListN.{length}
use native.Mathlib.Omega.{arith}
use Rattle.semantics.specs.Probe.{byte_of, implies, literal, put}
use Rattle.two_sides.specs.Results.{table_of}
use Rattle.two_sides.proofs.ImplicationLoops.{back, byte-in, goes_on, in_table, put-adds}
use Rattle.two_sides.proofs.implications.record_implication.Statement.{statement}
use Rattle.two_sides.proofs.implications.record_implication.Tie as tie

abbrev first_byte : tie.Start → ℕ
first_byte s = let a = s.args in (2 * a.k + a.v) * (2 * a.n) + (2 * a.j + a.w)

abbrev second-byte : tie.Start → ℕ
second-byte s = let a = s.args in (2 * a.j + (1 - a.w)) * (2 * a.n) + (2 * a.k + (1 - a.v))

first-in : (s : tie.Start) → first_byte s < length s.args.table.now
first-in s = byte-in s.requires.0 s.args.v s.args.w s.requires.1.0 s.requires.1.1

second-in : (c : tie.After-put-first) → second-byte c.before.before.before < length c.put-first.new.table
second-in c =
    let s = c.before.before.before in
    byte-in (in_table {u = c.put-first.new.table} c.put-first.auto.table (back s.requires.0)) (1 - s.args.w) (1 - s.args.v) (omega arith) (omega arith)

mul-put : tie.Need-overflow_mul-k
mul-put c = search rules

add-put : tie.Need-overflow_add-k
add-put c = search rules

mul-put-2 : tie.Need-overflow_mul-n
mul-put-2 c = search rules

mul-put-3 : tie.Need-overflow_mul-k-2
mul-put-3 c = omega (arith, first-in c.before.before)

mul-put-4 : tie.Need-overflow_mul-j
mul-put-4 c = search rules

add-put-2 : tie.Need-overflow_add-j
add-put-2 c = search rules

add-put-3 : tie.Need-overflow_add-k-2
add-put-3 c = omega (arith, first-in c.before.before)

put-requires : tie.Need-put-first-requires
put-requires c κs = first-in c.before.before

mul-put-5 : tie.Need-overflow_mul-j-2
mul-put-5 c = search rules

sub-put : tie.Need-overflow_sub-w
sub-put c = search rules

add-put-4 : tie.Need-overflow_add-j-2
add-put-4 c = search rules

mul-put-6 : tie.Need-overflow_mul-n-2
mul-put-6 c = search rules

mul-put-7 : tie.Need-overflow_mul-j-3
mul-put-7 c = omega (arith, second-in c.before.before.before, c.put-first.auto.table)

mul-put-8 : tie.Need-overflow_mul-k-3
mul-put-8 c = search rules

sub-put-2 : tie.Need-overflow_sub-v
sub-put-2 c = search rules

add-put-5 : tie.Need-overflow_add-k-3
add-put-5 c = search rules

add-put-6 : tie.Need-overflow_add-j-3
add-put-6 c = omega (arith, second-in c.before.before.before, c.put-first.auto.table)

put-requires-2 : tie.Need-put-second-requires
put-requires-2 c κs = second-in c.before.before.before

add-result : tie.Need-overflow_add-result
unfolding table_of
add-result c =
    let p = c.before.before in
    let q = p.before.before.before.before in
    let s = q.before.before.before in
    let few1 = (put-adds (first_byte s) (table_of s.args.table.now 0)).few in
    let few2 = (put-adds (second-byte s) (table_of q.put-first.new.table 0)).few in
    omega (arith, few1, few2, p.put-second.ensures.1, q.put-first.ensures.1)

same_length : tie.Need-shape_of-table
same_length c = search rules

returns : tie.Need-returns
unfolding implies byte_of literal
returns c =
    let p = c.before.before in
    let q = p.before.before.before.before in
    let s = q.before.before.before in
    goes_on (λ t. put t (second-byte s)) (put-adds (second-byte s)) _ q.put-first.ensures p.put-second.ensures

pub record_implication_spec : {M : Type 1} → statement M
record_implication_spec =
    tie.close
    (tie.spec
    mul-put
    add-put
    mul-put-2
    mul-put-3
    mul-put-4
    add-put-2
    add-put-3
    put-requires
    mul-put-5
    sub-put
    add-put-4
    mul-put-6
    mul-put-7
    mul-put-8
    sub-put-2
    add-put-5
    add-put-6
    put-requires-2
    add-result
    same_length
    returns)
