use Rattle.std.proofs.Common.{◌∙◌, inl, inr, ◌<◌, ◌++◌, length, take, drop, sym, ap, subst, arith}
use Rattle.std.specs.Prelude.{slice_index_or}
use Rattle.book_lock.specs.Pass.{Known}
use Rattle.sessions.specs.Lanes.{IsReadyLane}
use Rattle.lane_history.specs.Lanes.{AreCalmLanes}
use Rattle.play_run.specs.inside.Joined.{AreIdle, Takes, HasRun, ends_of}
use Rattle.play_run.proofs.Dealing.{lanes-few, lanes-idle, lanes-ready}
use Rattle.play_run.proofs.Joining.{RanBack, AreGathered, dealt-not, run-back, run-idle, run-not, run-settled}
use Rattle.play_run.proofs.sessions_play.play_lanes.Given as given
use Rattle.play_run.proofs.sessions_play.play_lanes.Goals.{After-are_calm-calm, After-gather-2}
use Rattle.play_run.proofs.sessions_play.play_lanes.Goals as goal

-- the lanes that ran, in the place of those that were dealt
back : (g : given.Over) (c : goal.After-are_calm-calm g) → RanBack c.args.store.now c.args.rows.now c.deal.new.pass c.as_mut_slice.result.now c.run_lanes.new.lanes (take c.deal.new.lanes.len (c.run_lanes.new.lanes ++ drop (length c.run_lanes.new.lanes) c.deal.new.lanes.items))
back g c = run-back c.args.store.now c.args.rows.now c.deal.new.pass c.as_mut_slice.result.now c.run_lanes.new.lanes c.deal.new.lanes.items c.deal.new.lanes.len c.as_mut_slice.ensures.value c.in-Ok-deal.ensures.all c.run_lanes.auto.lanes c.deal.new.lanes.ok.0

gathered : (g : given.Over) (c : goal.After-gather-2 g) → AreGathered g.I.Index.WIDTH c.args.store.now c.args.rows.now c.args.pass.now c.deal.new.pass c.gather-2.new.pass c.as_mut_slice.result.now c.run_lanes.new.lanes c.gather-2.new.ends.items
gathered g c =
    let ran = run-back c.args.store.now c.args.rows.now c.deal.new.pass c.as_mut_slice.result.now c.run_lanes.new.lanes c.deal.new.lanes.items c.deal.new.lanes.len c.as_mut_slice.ensures.value c.in-Ok-deal.ensures.all c.run_lanes.auto.lanes c.deal.new.lanes.ok.0 in
    record {
      has = ran.has;
      lock_is = ap (λ (k : Known). k.lock) c.requires.pass;
      origin = c.deal.ensures.origin;
      same = ran.same;
      plays = c.run_lanes.ensures;
      takes = subst (λ l. Takes c.deal.new.pass c.gather-2.new.pass l) ran.back c.gather-2.ensures.takes;
      ends_are = c.gather-2.ensures.ends ∙ (λ j. (c.reserve.ensures.items ∙ c.requires.none) j ++ ends_of (ran.back j));
    }

pub gather-requires-clause-idle : goal.gather-requires-clause-idle
gather-requires-clause-idle g c =
    let d = c.deal.ensures.some in
    lanes-idle c.args.store.now c.args.rows.now d.0 c.deal.new.lanes.items c.deal.new.pass d.2

pub gather-requires-clause-room : goal.gather-requires-clause-room
gather-requires-clause-room g c =
    let d = c.deal.ensures.some in
    omega (arith, c.in-Ok.ensures.ok, lanes-few c.args.store.now c.args.rows.now d.0 c.deal.new.lanes.items c.deal.new.pass d.2, d.1)

pub returns-in_default-deal-clause-ran : goal.returns-in_default-deal-clause-ran
returns-in_default-deal-clause-ran g c =
    let d = c.deal.ensures.some in
    inr (dealt-not c.args.store.now c.args.rows.now d.0 c.args.pass.now c.deal.new.pass c.gather.new.pass c.deal.new.lanes.items d.2 (ap (λ (k : Known). k.lock) c.requires.pass) c.deal.ensures.origin c.gather.ensures.takes).0

pub run_lanes-requires-clause-ready : goal.run_lanes-requires-clause-ready
run_lanes-requires-clause-ready g c κs within = λ i d lt.
    let has = c.in-Ok-deal.ensures.all in
    subst (λ l. i < length l → IsReadyLane {I = g.row.I.Denot} {D = g.row.D.Denot} {O = g.row.O.Denot} {P = g.row.I-Place.Denot} c.args.store.now (slice_index_or l i d)) (sym c.as_mut_slice.ensures.value)
    (lanes-ready c.args.store.now c.args.rows.now 16 c.deal.new.lanes.items c.deal.new.pass c.requires.rows has i d) lt

pub gather-requires-2-clause-idle : goal.gather-requires-2-clause-idle
gather-requires-2-clause-idle g c =
    let ran = back g (goal.at.gather-requires-2-clause-idle g c).After-are_calm-calm in
    subst (λ l. AreIdle c.args.store.now l) (sym ran.back) (run-idle g.I.Index.WIDTH c.args.store.now c.args.rows.now c.deal.new.pass c.as_mut_slice.result.now c.run_lanes.new.lanes ran.has ran.same c.run_lanes.ensures)

pub gather-requires-2-clause-room : goal.gather-requires-2-clause-room
gather-requires-2-clause-room g c =
    let ran = back g (goal.at.gather-requires-2-clause-room g c).After-are_calm-calm in
    omega (arith, c.in-Ok.ensures.ok, lanes-few c.args.store.now c.args.rows.now 16 c.as_mut_slice.result.now c.deal.new.pass ran.has, ran.same, ap length ran.back)

pub returns-then-not-calm-clause-ran : goal.returns-then-not-calm-clause-ran
returns-then-not-calm-clause-ran g c = inl (run-not (gathered g (goal.at.returns-then-not-calm-clause-ran g c).After-gather-2))

pub returns-clause-ran : goal.returns-clause-ran
returns-clause-ran g c =
    let at = goal.at.returns-clause-ran g c in
    let calm = subst (λ l. AreCalmLanes l) (c.as_slice.ensures.value ∙ (back g at.After-are_calm-calm).back) (c.are_calm-calm.ensures c.if-not-calm.false) in
    inl (subst (λ b. HasRun g.row.I.Denot g.row.D.Denot g.row.O.Denot g.row.I-Place.Denot g.I.Index.WIDTH c.args.pass.now.origin c.args.rows.now c.gather-2.new.ends.items c.settle.new.pass b) (sym c.is_ok.ensures.value)
    (run-settled (gathered g at.After-gather-2) c.settle.new.pass c.settle.result calm c.settle.ensures.settles))
