use Rattle.std.proofs.Common.{subst}
use denote.Exit.{no}
use denote.Param.{param}
use denote.Param.Send.{IsSync, param_sync, arg_sync, shr_sync}
use Rattle.std.proofs.alloc.Global.TheSendSync as global
use Rattle.sessions.specs.contracts.store.Store as Store
use Rattle.std.specs.Prelude.{slice_index_or}
use Rattle.sessions.specs.declared.store.lanes.Lane.{Lane}
use Rattle.sessions.specs.Lanes.{PlaysLane}
use Rattle.sessions.proofs.Sent.{crossing, store_sync, closure_sync}
use Rattle.sessions.proofs.store.Store.run_lanes.Goals as goal

pub for_each_mut-requires-send-T : goal.for_each_mut-requires-send-T
for_each_mut-requires-send-T g c κs within = search crossing

pub for_each_mut-requires-sync-F : goal.for_each_mut-requires-sync-F
for_each_mut-requires-sync-F g c κs within =
    let s : IsSync (Store.the_row (param 0 g.row.I) (param 1 g.row.D) (param 2 g.row.O) (param 3 g.row.I-Place) g.I.Index g.D.LogDisk g.O.Start) =
    store_sync (param 0 g.row.I) (param 1 g.row.D) (param 2 g.row.O) (param 3 g.row.I-Place) g.I.Index g.D.LogDisk g.O.Start c.type_bounds.send-I c.type_bounds.send-D c.type_bounds.send-O in
    param_sync 2 _ (arg_sync _ no _ (closure_sync _ _ _ _ _ (shr_sync _ _ _ s) (shr_sync _ _ _ c.type_bounds.sync-R) (shr_sync _ _ _ global.the_sync) (shr_sync _ _ _ c.type_bounds.sync-G)))

pub returns : goal.returns
returns g c i d lt =
    let h = (c.for_each_mut.ensures i d lt).1 in
    let w = g.I.Index.WIDTH in
    subst (λ (x : Lane g.row.I.Denot g.row.D.Denot g.row.O.Denot g.row.I-Place.Denot). PlaysLane w x (slice_index_or c.for_each_mut.new.s i d)) {y = slice_index_or c.args.lanes.now i d} h.argument_is (subst (λ (y : Lane g.row.I.Denot g.row.D.Denot g.row.O.Denot g.row.I-Place.Denot). PlaysLane w h.argument.now y) {y = slice_index_or c.for_each_mut.new.s i d} h.left h.call)
