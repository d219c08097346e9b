use Rattle.std.proofs.Common.{ap, ◌∙◌}
use Rattle.book_lock.specs.Pass.{Known}
use Rattle.sessions.proofs.LaneLemmas.{goes-same, plays-more, plays-stop, stopped}
use Rattle.sessions.proofs.store.Store.play_rows.Goals as goal

pub play_next-requires-clause-lock : goal.play_next-requires-clause-lock
play_next-requires-clause-lock g c =
    let same = goes-same g.I.Index.WIDTH 0 c.loop-i.i c.args.lane.now c.loop-i.lane c.loop-i.invariant in
    (ap (λ (k : Known). k.lock) same.1 ∙ c.requires.ready.lock_is, ap (λ (k : Known). k.holds) same.1 ∙ c.requires.ready.off)

pub loop-i-preserved : goal.loop-i-preserved
loop-i-preserved g c = plays-more g.I.Index.WIDTH 0 c.loop-i.i c.in-Some.next c.args.lane.now c.loop-i.lane c.play_next.new.lane c.loop-i.invariant c.in-Some.ensures.1

pub returns-in-None : goal.returns-in-None
returns-in-None g c =
    stopped g.I.Index.WIDTH c.args.self.now c.args.lane.now c.play_next.new.lane c.requires.ready
    (plays-stop g.I.Index.WIDTH 0 c.loop-i.i c.args.lane.now c.loop-i.lane c.play_next.new.lane c.loop-i.invariant c.in-None.ensures)
