use denote.Exit.{no}
use denote.Param.{param}
use denote.Param.Send.{param_send, arg_send}
use Rattle.std.proofs.Common.{subst}
use Rattle.std.specs.Prelude.{slice_index_or}
use Rattle.store_client.specs.Caller.{Keeps}
use Rattle.store_client.specs.declared.crowd.Worker.{Worker}
use Rattle.store_client.proofs.Crossing.{worker_send}
use Rattle.store_client.proofs.crowd.at_once.Goals as goal

pub for_each_mut-requires-send-T : goal.for_each_mut-requires-send-T
for_each_mut-requires-send-T g c κs within =
    param_send 1 _ (arg_send _ no _ (worker_send _ (param 0 g.row.I) (param 1 g.row.D) (param 2 g.row.O) (param 3 g.row.W) (param 5 g.row.I-Place) g.I.Index g.D.LogDisk g.O.Start c.type_bounds.send-I c.type_bounds.send-D c.type_bounds.send-O c.type_bounds.send-W))

pub returns : goal.returns
returns g c = record {
  does = λ i d lt.
      let h = (c.for_each_mut.ensures i d lt).1 in
      subst (λ (x : Worker g.row.I.Denot g.row.D.Denot g.row.O.Denot g.row.W.Denot g.row.I-Place.Denot). g.W.Work.does x.work x.client (slice_index_or c.for_each_mut.new.s i d).work (slice_index_or c.for_each_mut.new.s i d).client) {y = slice_index_or c.args.team.now i d} h.argument_is
      (subst (λ (y : Worker g.row.I.Denot g.row.D.Denot g.row.O.Denot g.row.W.Denot g.row.I-Place.Denot). g.W.Work.does h.argument.now.work h.argument.now.client y.work y.client) {y = slice_index_or c.for_each_mut.new.s i d} h.left h.call.0);
  clients = λ i d lt.
      let h = (c.for_each_mut.ensures i d lt).1 in
      subst (λ (x : Worker g.row.I.Denot g.row.D.Denot g.row.O.Denot g.row.W.Denot g.row.I-Place.Denot). Keeps x.client (slice_index_or c.for_each_mut.new.s i d).client) {y = slice_index_or c.args.team.now i d} h.argument_is
      (subst (λ (y : Worker g.row.I.Denot g.row.D.Denot g.row.O.Denot g.row.W.Denot g.row.I-Place.Denot). Keeps h.argument.now.client y.client) {y = slice_index_or c.for_each_mut.new.s i d} h.left h.call.1);
}
