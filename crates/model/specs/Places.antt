-- The order in which the checks are made: each number's place. "The first that applies to the call is the answer" (01), and "first" is
-- by place: the numbers of 02 stand where 02 puts them, between those of 01. No two numbers have one place (`place-injective`).
use Rattle.std.specs.Prelude.{◌*◌, ℕ, eqb, cond}

unfoldable pub place : ℕ → ℕ
place N =
    -- 19, a column, and 20, a zero coefficient: "both straight after check 4 .. in one entry the column" (C-18)
    cond (eqb N 19) 41
    (cond (eqb N 20) 42
    -- "22, a count not 1 to 64, straight before check 5" (C-21)
    (cond (eqb N 22) 49
    -- "23, a width above 4,096, straight after check 7" (C-22)
    (cond (eqb N 23) 71
    -- "16, a kind byte above 1, after check 9; 17, an = row to be written into a first-edition book, straight after 16" (C-14)
    (cond (eqb N 16) 91
    (cond (eqb N 17) 92
    -- "21, a place of the tie list above 2n, straight after check 10" (C-19)
    (cond (eqb N 21) 101
    -- "18, a retired kind in a sheet, straight after check 11" (C-16)
    (cond (eqb N 18) 111
    -- 1 to 15, by their numbers
    (10 * N))))))))
