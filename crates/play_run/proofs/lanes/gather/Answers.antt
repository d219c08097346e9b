use Rattle.std.proofs.Common.{◌≡◌, ◌∙◌, ◌+◌, ◌<◌, Bool, [], ◌∷◌, ◌++◌, cond, length, length-append, ap, subst, arith, vec_len, vec_capacity}
use Rattle.book_lock.specs.Pass.{Known}
use Rattle.play_run.specs.inside.Joined.{end_of}
use Rattle.play_run.proofs.Joining.{Joining, joining-idle, joining-more}
use Rattle.play_run.proofs.lanes.gather.Given as given
use Rattle.play_run.proofs.lanes.gather.Goals.{In-Some}
use Rattle.play_run.proofs.lanes.gather.Goals as goal

-- one more lane is left
more : (g : given.Over) (c : goal.In-Some g) → Joining {I = g.row.I.Denot} {D = g.row.D.Denot} {O = g.row.O.Denot} {P = g.row.I-Place.Denot} c.args.store.now c.args.pass.now c.args.lanes.items c.args.ends.now.items (c.pop.new.self.items ++ c.in-Some.lane ∷ []) c.loop-lane.pass c.loop-lane.ends.items
more g c = subst (λ l. Joining {I = g.row.I.Denot} {D = g.row.D.Denot} {O = g.row.O.Denot} {P = g.row.I-Place.Denot} c.args.store.now c.args.pass.now c.args.lanes.items c.args.ends.now.items l c.loop-lane.pass c.loop-lane.ends.items) c.in-Some.ensures.items c.loop-lane.invariant.0

pub join_pass-requires-clause-lock : goal.join_pass-requires-clause-lock
join_pass-requires-clause-lock g c = (c.loop-lane.invariant.2, (joining-idle _ _ _ _ _ _ _ _ (more g (goal.at.join_pass-requires-clause-lock g c).In-Some)).lock_is)

pub join_pass-requires-clause-off : goal.join_pass-requires-clause-off
join_pass-requires-clause-off g c = (c.loop-lane.invariant.3, (joining-idle _ _ _ _ _ _ _ _ (more g (goal.at.join_pass-requires-clause-off g c).In-Some)).off)

pub loop-lane-preserved : goal.loop-lane-preserved
loop-lane-preserved g c =
    let left = c.pop.new.self.items in
    let lane = c.in-Some.lane in
    let ends = c.loop-lane.ends in
    let room = c.loop-lane.invariant.1 in
    let count : length c.loop-lane.lanes.items ≡ length left + 1 = ap length c.in-Some.ensures.items ∙ length-append left (lane ∷ []) in
    let lt : vec_len ends < vec_capacity ends = omega (arith, room, count) in
    let added : c.push.new.self.items ≡ ends.items ++ end_of lane ∷ [] = c.push.ensures.items ∙ ap (λ (b : Bool). cond b (ends.items ++ end_of lane ∷ []) ends.items) (c.push.ensures.succeeds lt) in (
      joining-more c.args.store.now c.args.pass.now c.args.lanes.items c.args.ends.now.items left lane c.loop-lane.pass c.join_pass.new.into ends.items c.push.new.self.items (more g (goal.at.loop-lane-preserved g c).In-Some) c.join_pass.ensures.joined c.join_pass.ensures.begins c.join_pass.ensures.counts added,
      omega (arith, room, count, c.push.ensures.upper_bound, c.push.ensures.capacity),
      ap (λ (k : Known). k.lock) c.join_pass.ensures.joined ∙ c.loop-lane.invariant.2,
      ap (λ (k : Known). k.holds) c.join_pass.ensures.joined ∙ c.loop-lane.invariant.3,
    )
