use Rattle.std.proofs.Common.{arith}
use Rattle.fence_watch.proofs.MarkLemmas.{count-word, few-turns}
use Rattle.fence_watch.proofs.passages.differing.Goals as goal

pub returns-clause-count : goal.returns-clause-count
returns-clause-count c = count-word c.args.was c.args.is c.ranges.was.fits c.ranges.is.fits

pub returns-clause-few : goal.returns-clause-few
returns-clause-few c = omega (arith, count-word c.args.was c.args.is c.ranges.was.fits c.ranges.is.fits, few-turns (record { was = c.args.was; is = c.args.is }))

pub overflow_cast-result : goal.overflow_cast-result
overflow_cast-result c = omega (arith, count-word c.args.was c.args.is c.ranges.was.fits c.ranges.is.fits, few-turns (record { was = c.args.was; is = c.args.is }))
