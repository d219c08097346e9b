use Rattle.std.proofs.Common.{sym, arith}
use Rattle.std.proofs.lemmas.List.{take_all, drop_all}
use Rattle.fence_watch.proofs.slabs.of_one_word.Goals as goal

pub returns-then-spans-le64-clause-front : goal.returns-then-spans-le64-clause-front
returns-then-spans-le64-clause-front c = sym (take_all 64 c.args.spans.now (omega (arith, c.if-spans-le64.true)))

pub returns-then-spans-le64-clause-back : goal.returns-then-spans-le64-clause-back
returns-then-spans-le64-clause-back c = sym (drop_all 64 c.args.spans.now (omega (arith, c.if-spans-le64.true)))
