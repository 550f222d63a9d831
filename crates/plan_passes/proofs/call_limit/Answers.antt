-- `plan_passes::call_limit`: of the two kinds that make passes what is defined, of any other 0.
use Rattle.std.proofs.Common.{◌+◌, ◌<◌, ◌≡◌, ◌*◌, ℕ, ap, arith, min, sym}
use borrow.Author.Tests.{le-leb, lt-leb}
use native.Mathlib.Decide.{dec_lt}
use Rattle.semantics.specs.Call.{kind_of}
use Rattle.demands.specs.Passes.{call_limit, lesser}
use Rattle.plan.proofs.PlanLaws.{other-limit}
use Rattle.plan_passes.proofs.call_limit.Goals as goal

-- the lesser is the library's
least : {r : ℕ} (a b : ℕ) → r ≡ min a b → r ≡ lesser a b
unfolding lesser
least {r} a b e = go (dec_lt b a)
  where
    go : Dec (b < a) → r ≡ lesser a b
    go (yes l) = rw (lt-leb a b l) (omega arith)
    go (no n) = rw (le-leb a b (omega arith)) (omega arith)

pub returns-in-2 : goal.returns-in-2
unfolding kind_of call_limit
returns-in-2 c = (rw c.in-2.is (least c.args.budget (c.args.width + 1) (omega arith)), omega arith)

pub returns-in-3 : goal.returns-in-3
unfolding kind_of call_limit
returns-in-3 c = (rw c.in-3.is (ap (λ (x : ℕ). 2 * x) (least c.args.budget (c.args.width + 1) (omega arith))), omega arith)

pub returns-in_default : goal.returns-in_default
returns-in_default c =
    (sym (other-limit c.args.width c.args.kind c.args.budget (λ two. omega arith) (λ three. omega arith)), omega arith)
