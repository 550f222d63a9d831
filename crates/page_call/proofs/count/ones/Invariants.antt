-- `page_call::count::ones`: the bytes 1 that are counted and those that are left are all of them. Assumes nothing.
use Prim.Native.Nat.{◌+◌}
use lib.ListN.{length}
use mathlib.Core.Path.{◌≡◌}
use Rattle.pages.specs.Writing.{ones_from}
use Rattle.page_call.proofs.count.ones.Given as goal

abbrev pub invariant-loop-q : goal.invariant-loop-q
invariant-loop-q l = record {
  counted : l.count + length (ones_from l.part l.q) ≡ length (ones_from l.part 0);
}
