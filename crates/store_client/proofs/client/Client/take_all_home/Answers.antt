use Rattle.std.proofs.Common.{◌≡◌, ◌∙◌, ◌++◌, [], ◌∷◌, Some, refl, sym, ap, subst, arith, List, length}
use Rattle.std.proofs.lemmas.List.{nil_from_length}
use Rattle.std.proofs.lemmas.List.Elements.{All-pop}
use Rattle.store_client.specs.Caller.{Caller}
use Rattle.store_client.specs.declared.crowd.Worker.{Worker}
use Rattle.store_client.proofs.Hands.{Homing, homing-none, homing-more, homing-all}
use Rattle.store_client.proofs.client.Client.take_all_home.Goals as goal

pub loop-worker-init : goal.loop-worker-init
loop-worker-init g c = record {
  so_far = subst (λ (works : List g.row.W.Denot). Homing c.args.self.now c.args.team.items c.args.team.items works c.args.self.now) (sym c.requires.empty) (homing-none c.args.self.now c.args.team.items);
  lock = c.requires.lock;
  count = let none = c.args.works.now.ok.0 ∙ ap length c.requires.empty in omega arith;
  room = refl;
}

pub take_home-requires : goal.take_home-requires
take_home-requires g c =
    let of_lock = All-pop (λ (hand : Worker g.row.I.Denot g.row.D.Denot g.row.O.Denot g.row.W.Denot g.row.I-Place.Denot). hand.client.pass.lock ≡ c.loop-worker.self.pass.lock) c.loop-worker.team.items c.pop.new.self.items (Some c.in-Some.worker) c.in-Some.ensures.items c.loop-worker.invariant.lock in
    record { lock = of_lock.1 }

pub loop-worker-preserved : goal.loop-worker-preserved
loop-worker-preserved g c =
    let now = subst (λ (left : List (Worker g.row.I.Denot g.row.D.Denot g.row.O.Denot g.row.W.Denot g.row.I-Place.Denot)). Homing c.args.self.now c.args.team.items left c.loop-worker.works.items c.loop-worker.self) c.in-Some.ensures.items c.loop-worker.invariant.so_far in
    let of_lock = All-pop (λ (hand : Worker g.row.I.Denot g.row.D.Denot g.row.O.Denot g.row.W.Denot g.row.I-Place.Denot). hand.client.pass.lock ≡ c.loop-worker.self.pass.lock) c.loop-worker.team.items c.pop.new.self.items (Some c.in-Some.worker) c.in-Some.ensures.items c.loop-worker.invariant.lock in
    let count = c.loop-worker.invariant.count in
    let pushed = c.push_reserved.ensures.len in
    record {
      so_far = homing-more c.args.self.now c.loop-worker.self c.take_home.new.self c.args.team.items c.pop.new.self.items c.in-Some.worker c.loop-worker.works.items c.push_reserved.new.self.items now c.take_home.ensures.joined
          c.take_home.ensures.begins.0 c.take_home.ensures.begins.1 (c.push_reserved.ensures.items ∙ ap (λ (work : g.row.W.Denot). c.loop-worker.works.items ++ work ∷ []) c.take_home.ensures.work);
      lock = λ k d lt. of_lock.0 k d lt ∙ sym (ap (λ (caller : Caller). caller.pass.lock) c.take_home.ensures.joined);
      count = omega (arith, c.in-Some.ensures.cases);
      room = c.push_reserved.ensures.capacity ∙ c.loop-worker.invariant.room;
    }

pub returns : goal.returns
returns g c =
    let none : c.loop-worker.team.items ≡ [] = nil_from_length c.loop-worker.team.items (sym c.loop-worker.team.ok.0 ∙ c.in_default.ensures.cases.0) in
    record { home = homing-all c.args.self.now c.loop-worker.self c.args.team.items c.loop-worker.works.items (subst (λ (left : List (Worker g.row.I.Denot g.row.D.Denot g.row.O.Denot g.row.W.Denot g.row.I-Place.Denot)). Homing c.args.self.now c.args.team.items left c.loop-worker.works.items c.loop-worker.self) none c.loop-worker.invariant.so_far) }
