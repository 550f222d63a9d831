-- What the test of a workspace's length and head says.
use Prim.Native.Nat.{ℕ}
use lib.Dec.{T, eqb, leb, ltb}
use lib.ListN.{get_or, length}
use mathlib.Core.Bool.{◌&&◌, true}
use mathlib.Core.List.{List}
use mathlib.Core.Logic.{◌↔◌}
use mathlib.Core.Path.{◌≡◌}
use Rattle.integer.proofs.Tests.{T→true, all_three, both, eqb-test, leb-test, ltb-test, true→T}
use Rattle.prepared_model.specs.Layout.{is_ours, our_mark, rows_in, variables_of, workspace_len}
use Rattle.prepared_model.specs.Prepared.{Ours}

ours-test : (W : List ℕ) → T (is_ours W) ↔ Ours W
unfolding is_ours
ours-test W =
    let a = eqb (length W) workspace_len in
    let b = eqb (get_or W 0 0) our_mark in
    let c = ltb 0 (variables_of W) in
    let d = leb (variables_of W) 128 in
    let three = all_three a b c (eqb-test (length W) workspace_len) (eqb-test (get_or W 0 0) our_mark) (ltb-test 0 (variables_of W)) in
    let four = both (a && b && c) d three (leb-test (variables_of W) 128) in
    let five = both (a && b && c && d) (leb (rows_in W) 120) four (leb-test (rows_in W) 120) in (
      (λ t. let h = five.0 t in
          record { len = h.0.0.0; mark = h.0.0.1; some = h.0.0.2; few = h.0.1; few_rows = h.1 }),
      (λ o. five.1 (((o.len, o.mark, o.some), o.few), o.few_rows)),
    )

pub ours-is : {W : List ℕ} → is_ours W ≡ true → Ours W
ours-is {W} e = (ours-test W).0 (true→T (is_ours W) e)

pub is_ours_lem : {W : List ℕ} → Ours W → is_ours W ≡ true
is_ours_lem {W} o = T→true (is_ours W) ((ours-test W).1 o)
