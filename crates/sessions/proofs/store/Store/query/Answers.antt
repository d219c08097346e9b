use Rattle.std.proofs.Common.{Err, sym, subst}
use Rattle.std.specs.Prelude.{None}
use Rattle.plain_list.specs.History.{world_after}
use Rattle.sessions.specs.Calls.{Called}
use Rattle.sessions.specs.declared.faults.CallFault.{CallFault}
use Rattle.sessions.specs.Opens.{leaves_seen, places_seen, listed_in}
use Rattle.sessions.proofs.CallLemmas.{query-err, query-memory, query-ok, query-opens}
use Rattle.sessions.proofs.OpenLemmas.{opens-none, refused-still}
use Rattle.sessions.proofs.store.Store.query.Goals as goal

pub returns-in-Ok-ask-clause-called : goal.returns-in-Ok-ask-clause-called
returns-in-Ok-ask-clause-called g c =
    let step = c.in-Ok.ensures.looks in
    query-ok g.I.Index.leaves g.I.Index.WIDTH c.args.request.now.session c.args.request.now.row c.args.request.now.op c.args.pass.now c.look.new.pass c.requires.query c.in-Ok.shown c.in-Ok-ask.answer step
    (c.in-Ok-ask.ensures.answer (world_after c.args.pass.now.origin.world step.before) (leaves_seen g.I.Index.WIDTH c.look.new.pass) step.says.world step.says.stands)

pub returns-in-Ok-ask-clause-opened : goal.returns-in-Ok-ask-clause-opened
returns-in-Ok-ask-clause-opened g c =
    query-opens g.I.Index.leaves g.I.Index.WIDTH c.args.request.now.session c.args.request.now.row c.args.request.now.op c.args.pass.now c.look.new.pass c.requires.query c.in-Ok.shown (listed_in c.in-Ok-ask.answer) c.args.steps.now c.ask.new.steps c.in-Ok.ensures.looks
    c.in-Ok-ask.ensures.opened

pub returns-clause-opened : goal.returns-clause-opened
returns-clause-opened g c =
    query-opens g.I.Index.leaves g.I.Index.WIDTH c.args.request.now.session c.args.request.now.row c.args.request.now.op c.args.pass.now c.look.new.pass c.requires.query c.in-Ok.shown None c.args.steps.now c.ask.new.steps c.in-Ok.ensures.looks c.in-Err-ask.ensures.opened

pub returns-in-Err-clause-opened : goal.returns-in-Err-clause-opened
returns-in-Err-clause-opened g c = opens-none c.args.request.now.op (leaves_seen g.I.Index.WIDTH c.look.new.pass) (places_seen c.look.new.pass) c.args.steps.now

pub returns-in-Err-clause-called : goal.returns-in-Err-clause-called
returns-in-Err-clause-called g c = subst (λ (f : CallFault). Called g.I.Index.WIDTH c.args.request.now.session c.args.request.now.row c.args.request.now.op c.args.pass.now c.look.new.pass (Err f)) (sym c.call_fault.ensures)
    (query-err g.I.Index.leaves g.I.Index.WIDTH c.args.request.now.session c.args.request.now.row c.args.request.now.op c.args.pass.now c.look.new.pass c.requires.query c.in-Err.fault c.in-Err.ensures.looks)

pub returns-clause-called : goal.returns-clause-called
returns-clause-called g c = query-memory g.I.Index.leaves g.I.Index.WIDTH c.args.request.now.session c.args.request.now.row c.args.request.now.op c.args.pass.now c.look.new.pass c.requires.query c.in-Ok.shown c.in-Ok.ensures.looks

pub returns-in-Err-clause-refused : goal.returns-in-Err-clause-refused
returns-in-Err-clause-refused g c = refused-still c.call_fault.result c.args.steps.now
