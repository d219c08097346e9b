use Rattle.std.proofs.Common.{arith}
use Rattle.store_client.proofs.Hands.{worked, all-of-lock, team-did, team-keeps}
use Rattle.store_client.proofs.client.Client.work_all.Goals as goal

pub take_all_home-requires-clause-lock : goal.take_all_home-requires-clause-lock
take_all_home-requires-clause-lock g c =
    let has = worked g.W.Work.does c.args.first c.args.self.now c.hire_all.new.self c.args.works.items c.hire_all.new.team c.deref_mut.result.now c.at_once.new.team c.hire_all.ensures.hired c.deref_mut.ensures.value c.at_once.auto.team c.at_once.ensures.does c.at_once.ensures.clients in
    all-of-lock g.W.Work.does c.args.first c.args.self.now c.hire_all.new.self c.args.works.items c.deref_mut.result.now _ has

pub returns-clause-client : goal.returns-clause-client
returns-clause-client g c =
    let has = worked g.W.Work.does c.args.first c.args.self.now c.hire_all.new.self c.args.works.items c.hire_all.new.team c.deref_mut.result.now c.at_once.new.team c.hire_all.ensures.hired c.deref_mut.ensures.value c.at_once.auto.team c.at_once.ensures.does c.at_once.ensures.clients in
    let count = c.args.works.ok.0 in
    team-keeps g.W.Work.does c.args.first c.args.self.now c.take_all_home.new.self c.args.works.items c.take_all_home.new.works.items (omega arith)
    (team-did g.W.Work.does c.args.first c.args.self.now c.hire_all.new.self c.take_all_home.new.self c.args.works.items c.take_all_home.new.works.items c.deref_mut.result.now _ has c.take_all_home.ensures.home)

pub returns-clause-did : goal.returns-clause-did
returns-clause-did g c =
    let has = worked g.W.Work.does c.args.first c.args.self.now c.hire_all.new.self c.args.works.items c.hire_all.new.team c.deref_mut.result.now c.at_once.new.team c.hire_all.ensures.hired c.deref_mut.ensures.value c.at_once.auto.team c.at_once.ensures.does c.at_once.ensures.clients in
    team-did g.W.Work.does c.args.first c.args.self.now c.hire_all.new.self c.take_all_home.new.self c.args.works.items c.take_all_home.new.works.items c.deref_mut.result.now _ has c.take_all_home.ensures.home
