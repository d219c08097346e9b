use Rattle.std.proofs.Common.{◌∙◌, List, sym, ap, subst, arith}
use Rattle.store_client.specs.Caller.{with_part_of}
use Rattle.store_client.specs.Teams.{session_at}
use Rattle.store_client.specs.declared.crowd.Worker.{Worker}
use Rattle.store_client.proofs.Hands.{Hiring, hiring-more}
use Rattle.store_client.proofs.client.Client.hire_all.Goals as goal

pub loop-work-preserved : goal.loop-work-preserved
loop-work-preserved g c =
    let left = c.pop.new.self.items in
    let hired = c.loop-work.invariant in
    let pushed = c.push_reserved.ensures in
    let so_far = subst (λ (works : List g.row.W.Denot). Hiring c.args.first c.args.self.now c.args.works.now.items works c.loop-work.team.items c.loop-work.self) c.in-Some.ensures.items hired.so_far in
    let session = c.session_behind-session.ensures ∙ ap (session_at c.args.first) (c.len.ensures ∙ c.pop.new.self.ok.0) in
    let more = hiring-more c.args.first c.args.self.now c.loop-work.self c.hire.new.self c.args.works.now.items left c.in-Some.work c.loop-work.team.items c.hire.result so_far c.hire.ensures.work
    (c.hire.ensures.new ∙ ap (with_part_of c.loop-work.self) session) c.hire.ensures.old in
    record {
      so_far = subst (λ (team : List (Worker g.row.I.Denot g.row.D.Denot g.row.O.Denot g.row.W.Denot g.row.I-Place.Denot)). Hiring c.args.first c.args.self.now c.args.works.now.items left team c.hire.new.self) (sym pushed.items) more;
      count = let one = c.in-Some.ensures.cases in let push = pushed.len in let sum = hired.count in omega arith;
      room = pushed.capacity ∙ hired.room;
      capacity = c.in-Some.ensures.capacity ∙ hired.capacity;
    }
