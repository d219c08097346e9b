use Rattle.std.proofs.Common.{arith}
use Rattle.fence_watch.proofs.MarkLemmas.{word-fits}
use Rattle.fence_watch.proofs.slabs.+word_of.Goals as goal

pub overflow_mul-others : goal.overflow_mul-others
overflow_mul-others t c =
    let fits = word-fits c.args.at c.word_of-others.result c.in-Some.spans.now c.word_of-others.ensures (omega (arith, c.in-Some.ensures.cases.1, c.requires)) in
    omega (arith, fits)

pub overflow_add-result : goal.overflow_add-result
overflow_add-result t c =
    let fits = word-fits c.args.at c.word_of-others.result c.in-Some.spans.now c.word_of-others.ensures (omega (arith, c.in-Some.ensures.cases.1, c.requires)) in
    omega (arith, fits)
