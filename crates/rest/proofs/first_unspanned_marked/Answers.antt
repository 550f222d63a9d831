-- `rest::first_unspanned_marked`: the search ends at the lowest variable that fails the test. Assumes nothing.
use Rattle.std.proofs.Common.{◌≡◌, ◌∙◌, refl, sym, arith}
use Rattle.integer.specs.Index.{all}
use Rattle.integer.proofs.IndexLaws.{all-next}
use Rattle.integer.proofs.Tests.{false→T, true→T}
use Rattle.model.specs.Rows.{rows_of}
use Rattle.semantics.specs.RestTest.{first_unspanned, spans_at}
use Rattle.call_laws.proofs.LowestLaws.{lowest-all, lowest-is}
use Rattle.rest.proofs.first_unspanned_marked.Goals as goal

pub loop-k-init : goal.loop-k-init
unfolding all
loop-k-init c = record { span = refl; index = c.requires.fact.index }

pub spans_at-requires-clause-fact : goal.spans_at-requires-clause-fact
spans_at-requires-clause-fact c =
    let p = c.requires.fact in
    record { index = c.loop-k.invariant.index; clean = p.clean; len = p.len }

pub returns-then-not-spans_at : goal.returns-then-not-spans_at
unfolding first_unspanned
returns-then-not-spans_at c =
    let a = c.args in
    let test = spans_at a.n a.m (rows_of a.coefs.now a.rhs.now a.kinds.now) a.bounds.now in
    sym (lowest-is test a.n c.loop-k.k c.loop-k-test.true (true→T _ c.loop-k.invariant.span)
    (false→T _ (sym c.spans_at.ensures.answer ∙ c.if-not-spans_at.true)))

pub loop-k-preserved : goal.loop-k-preserved
loop-k-preserved c =
    let a = c.args in
    let test = spans_at a.n a.m (rows_of a.coefs.now a.rhs.now a.kinds.now) a.bounds.now in
    record {
      span = all-next test c.loop-k.k c.loop-k.invariant.span (sym c.spans_at.ensures.answer ∙ c.if-not-spans_at.false);
      index = c.spans_at.ensures.index;
    }

pub returns : goal.returns
unfolding first_unspanned
returns c =
    let a = c.args in
    let test = spans_at a.n a.m (rows_of a.coefs.now a.rhs.now a.kinds.now) a.bounds.now in
    let e : c.loop-k.k ≡ a.n = omega arith in
    sym (lowest-all test a.n (true→T _ (rw e at c.loop-k.invariant.span)))
