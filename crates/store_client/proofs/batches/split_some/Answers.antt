use Rattle.std.proofs.Common.{◌+◌, ◌≡◌, Some, sym, arith, ◌∙◌}
use Rattle.sessions.specs.Calls.{next_full}
use Rattle.store_client.proofs.Splitting.{some-fewer, splitting-looked, splitting-more}
use Rattle.store_client.proofs.batches.split_some.Goals as goal

pub returns-in_default-clause-tries : goal.returns-in_default-clause-tries
returns-in_default-clause-tries g c =
    let w = g.I.Index.WIDTH in
    let old = c.args.pass.now in
    let new = c.full.new.pass in
    some-fewer w c.loop.counter c.args.most old new (omega (arith, c.loop-test.true))
    (splitting-looked w c.loop.counter old c.loop.pass new c.loop.invariant c.full.ensures.looked).some

pub loop-preserved : goal.loop-preserved
loop-preserved g c =
    let w = g.I.Index.WIDTH in
    let full : next_full w c.full.new.pass ≡ Some c.in-Some.name = sym c.full.ensures.full ∙ c.in-Some.is in
    splitting-more w c.loop.counter c.args.pass.now c.loop.pass c.full.new.pass c.split_once-split.new.pass c.in-Some.name c.split_once-split.result c.loop.invariant c.full.ensures.looked full
    c.split_once-split.ensures.ends c.split_once-split.ensures.pass

pub returns-in-NotSplit-clause-tries : goal.returns-in-NotSplit-clause-tries
returns-in-NotSplit-clause-tries g c =
    let w = g.I.Index.WIDTH in
    let old = c.args.pass.now in
    let new = c.split_once-split.new.pass in
    let full : next_full w c.full.new.pass ≡ Some c.in-Some.name = sym c.full.ensures.full ∙ c.in-Some.is in
    some-fewer w (c.loop.counter + 1) c.args.most old new (omega (arith, c.loop-test.true))
    (splitting-more w c.loop.counter old c.loop.pass c.full.new.pass new c.in-Some.name c.split_once-split.result c.loop.invariant c.full.ensures.looked full
    c.split_once-split.ensures.ends c.split_once-split.ensures.pass).some
