use Rattle.std.proofs.Common.{ap}
use Rattle.book_lock.specs.Pass.{Known}
use Rattle.thread_tests.proofs.versions.call.Goals as goal

pub returns : goal.returns
returns g c =
    let same = c.call.ensures.pass.1 in
    (ap (λ (k : Known). k.lock) same, ap (λ (k : Known). k.holds) same, ap (λ (k : Known). k.parts) same)
