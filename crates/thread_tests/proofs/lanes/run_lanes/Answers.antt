use Rattle.std.proofs.Common.{ap}
use Rattle.book_lock.specs.Pass.{Known}
use Rattle.sessions.proofs.LanePasses.{plays-same}
use Rattle.thread_tests.proofs.lanes.run_lanes.Goals as goal

pub returns : goal.returns
returns g c = λ i d within.
    let same = plays-same g.I.Index.WIDTH _ _ (c.run_lanes.ensures i d within) in
    (ap (λ (k : Known). k.lock) same.1, ap (λ (k : Known). k.holds) same.1, ap (λ (k : Known). k.parts) same.1)
