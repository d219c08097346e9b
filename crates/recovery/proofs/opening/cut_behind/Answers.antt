use Rattle.log_state.specs.Recovers.{Recovers}
use Rattle.recovery.specs.Found.{IsNewest}
use Rattle.std.proofs.Common.{inl, inr, true, false, [], ◌∷◌, Some, take, is_some, sym, ap, ◌∙◌, arith}
use Rattle.std.proofs.lemmas.List.{take_all}
use Rattle.disk_trait.proofs.Calls.{made-then}
use Rattle.disk_trait.proofs.Stretches.{started}
use Rattle.recovery.proofs.MakingLemmas.{not_made}
use Rattle.recovery.proofs.OpeningLemmas.{leaves-trans, leaves-sync, leaves-cut, newest-cut, cut_failed, counts_on}
use Rattle.recovery.proofs.opening.cut_behind.Goals as goal

pub returns-in_err-cut-clause-any_moment : goal.returns-in_err-cut-clause-any_moment
returns-in_err-cut-clause-any_moment g c w cells end now =
    (leaves-cut w cells c.args.end end (g.D.LogDisk.drive c.args.disk.now) (g.D.LogDisk.drive c.cut.new.self) c.cut.result (g.met.D.LogDisk.keeps_laws c.args.disk.now) now c.cut.ensures.cuts).0

pub returns-in_err-sync-clause-any_moment : goal.returns-in_err-sync-clause-any_moment
returns-in_err-sync-clause-any_moment g c w cells end now =
    let cut = leaves-cut w cells c.args.end end (g.D.LogDisk.drive c.args.disk.now) (g.D.LogDisk.drive c.cut.new.self) c.cut.result (g.met.D.LogDisk.keeps_laws c.args.disk.now) now c.cut.ensures.cuts in
    leaves-trans (g.D.LogDisk.drive c.args.disk.now) (g.D.LogDisk.drive c.cut.new.self) (g.D.LogDisk.drive c.sync.new.self) (Recovers w cells) cut.0
    (leaves-sync (g.D.LogDisk.drive c.cut.new.self) (g.D.LogDisk.drive c.sync.new.self) (Recovers w cells) c.sync.result (g.met.D.LogDisk.keeps_laws c.cut.new.self) cut.1 c.sync.ensures.syncs)

pub returns-in_ok-sync-clause-any_moment : goal.returns-in_ok-sync-clause-any_moment
returns-in_ok-sync-clause-any_moment g c w cells end now =
    let cut = leaves-cut w cells c.args.end end (g.D.LogDisk.drive c.args.disk.now) (g.D.LogDisk.drive c.cut.new.self) c.cut.result (g.met.D.LogDisk.keeps_laws c.args.disk.now) now c.cut.ensures.cuts in
    leaves-trans (g.D.LogDisk.drive c.args.disk.now) (g.D.LogDisk.drive c.cut.new.self) (g.D.LogDisk.drive c.sync.new.self) (Recovers w cells) cut.0
    (leaves-sync (g.D.LogDisk.drive c.cut.new.self) (g.D.LogDisk.drive c.sync.new.self) (Recovers w cells) c.sync.result (g.met.D.LogDisk.keeps_laws c.cut.new.self) cut.1 c.sync.ensures.syncs)

pub returns-in_err-cut-clause-done : goal.returns-in_err-cut-clause-done
returns-in_err-cut-clause-done g c =
    not_made c.from_residual.result _ _ c.from_residual.ensures.1

pub returns-in_err-cut-clause-told : goal.returns-in_err-cut-clause-told
returns-in_err-cut-clause-told g c =
    c.cut.ensures.cuts.told

pub returns-in_err-sync-clause-done : goal.returns-in_err-sync-clause-done
returns-in_err-sync-clause-done g c =
    not_made c.from_residual-in_err-sync.result _ _ c.from_residual-in_err-sync.ensures.1

pub returns-in_err-sync-clause-told : goal.returns-in_err-sync-clause-told
returns-in_err-sync-clause-told g c =
    ap is_some c.sync.ensures.syncs.bytes ∙ c.cut.ensures.cuts.told

pub returns-in_err-cut-clause-cause : goal.returns-in_err-cut-clause-cause
returns-in_err-cut-clause-cause g c =
    counts_on (g.D.LogDisk.drive c.args.disk.now) (g.D.LogDisk.drive c.cut.new.self) c.from_residual.result _ c.from_residual.ensures.1 c.cut.ensures.cause.later c.in_err-cut.ensures.cause.failed c.cut.ensures.cause.file

pub returns-in_err-sync-clause-cause : goal.returns-in_err-sync-clause-cause
returns-in_err-sync-clause-cause g c =
    counts_on (g.D.LogDisk.drive c.args.disk.now) (g.D.LogDisk.drive c.sync.new.self) c.from_residual-in_err-sync.result _ c.from_residual-in_err-sync.ensures.1
    (omega (arith, c.cut.ensures.cause.later, c.sync.ensures.cause.later)) (omega (arith, c.cut.ensures.cause.later, c.in_err-sync.ensures.cause.failed))
    (λ all told. c.cut.ensures.cause.file all (c.sync.ensures.cause.file all told))

pub returns-in_ok-sync-clause-done : goal.returns-in_ok-sync-clause-done
returns-in_ok-sync-clause-done g c =
    λ xs told only.
    let cut = c.in_ok-cut.ensures.cuts.done xs told in
    (c.sync.ensures.syncs.bytes ∙ cut, c.in_ok-sync.ensures.syncs.done (take c.args.end xs) cut)

pub returns-in_ok-sync-clause-told : goal.returns-in_ok-sync-clause-told
returns-in_ok-sync-clause-told g c =
    ap is_some c.sync.ensures.syncs.bytes ∙ c.cut.ensures.cuts.told

pub returns-in_ok-sync-clause-cause : goal.returns-in_ok-sync-clause-cause
returns-in_ok-sync-clause-cause g c = record {
  later = omega (arith, c.cut.ensures.cause.later, c.sync.ensures.cause.later);
  same = c.in_ok-sync.ensures.cause.same ∙ c.in_ok-cut.ensures.cause.same;
  failed = tt;
  file = λ all told. c.cut.ensures.cause.file all (c.sync.ensures.cause.file all told);
}

pub returns-else-len-end-clause-done : goal.returns-else-len-end-clause-done
returns-else-len-end-clause-done g c xs told only =
    let whole = take_all c.args.end xs (omega (arith, c.requires.whole xs told, c.if-len-end.false)) in
    (told ∙ ap Some (sym whole), λ image left. only image left ∙ sym whole)

pub returns-in_err-cut-clause-calls : goal.returns-in_err-cut-clause-calls
returns-in_err-cut-clause-calls g c =
    cut_failed c.args.end c.args.len (g.D.LogDisk.drive c.args.disk.now) (g.D.LogDisk.drive c.cut.new.self) c.from_residual.result _ c.from_residual.ensures.1 (inl c.in_err-cut.ensures.made)

pub returns-in_err-sync-clause-calls : goal.returns-in_err-sync-clause-calls
returns-in_err-sync-clause-calls g c =
    cut_failed c.args.end c.args.len (g.D.LogDisk.drive c.args.disk.now) (g.D.LogDisk.drive c.sync.new.self) c.from_residual-in_err-sync.result _ c.from_residual-in_err-sync.ensures.1
    (inr (made-then (true ∷ []) (false ∷ []) (g.D.LogDisk.drive c.args.disk.now) (g.D.LogDisk.drive c.cut.new.self) (g.D.LogDisk.drive c.sync.new.self) c.in_ok-cut.ensures.made c.in_err-sync.ensures.made))

pub returns-in_ok-sync-clause-calls : goal.returns-in_ok-sync-clause-calls
returns-in_ok-sync-clause-calls g c =
    inr (c.if-len-end.true, made-then (true ∷ []) (true ∷ []) (g.D.LogDisk.drive c.args.disk.now) (g.D.LogDisk.drive c.cut.new.self) (g.D.LogDisk.drive c.sync.new.self) c.in_ok-cut.ensures.made c.in_ok-sync.ensures.made)

pub returns-else-len-end-clause-calls : goal.returns-else-len-end-clause-calls
returns-else-len-end-clause-calls g c =
    inl (omega (arith, c.requires.within, c.if-len-end.false), λ all told. told)

pub returns-in_err-cut-clause-newest : goal.returns-in_err-cut-clause-newest
returns-in_err-cut-clause-newest g c long now =
    (newest-cut c.args.end (g.D.LogDisk.drive c.args.disk.now) (g.D.LogDisk.drive c.cut.new.self) c.cut.result long (g.met.D.LogDisk.keeps_laws c.args.disk.now) c.cut.ensures.cuts now).0

pub returns-in_err-sync-clause-newest : goal.returns-in_err-sync-clause-newest
returns-in_err-sync-clause-newest g c long now =
    let cut = newest-cut c.args.end (g.D.LogDisk.drive c.args.disk.now) (g.D.LogDisk.drive c.cut.new.self) c.cut.result long (g.met.D.LogDisk.keeps_laws c.args.disk.now) c.cut.ensures.cuts now in
    leaves-trans (g.D.LogDisk.drive c.args.disk.now) (g.D.LogDisk.drive c.cut.new.self) (g.D.LogDisk.drive c.sync.new.self) IsNewest cut.0
    (leaves-sync (g.D.LogDisk.drive c.cut.new.self) (g.D.LogDisk.drive c.sync.new.self) IsNewest c.sync.result (g.met.D.LogDisk.keeps_laws c.cut.new.self) cut.1 c.sync.ensures.syncs)

pub returns-in_ok-sync-clause-newest : goal.returns-in_ok-sync-clause-newest
returns-in_ok-sync-clause-newest g c long now =
    let cut = newest-cut c.args.end (g.D.LogDisk.drive c.args.disk.now) (g.D.LogDisk.drive c.cut.new.self) c.cut.result long (g.met.D.LogDisk.keeps_laws c.args.disk.now) c.cut.ensures.cuts now in
    leaves-trans (g.D.LogDisk.drive c.args.disk.now) (g.D.LogDisk.drive c.cut.new.self) (g.D.LogDisk.drive c.sync.new.self) IsNewest cut.0
    (leaves-sync (g.D.LogDisk.drive c.cut.new.self) (g.D.LogDisk.drive c.sync.new.self) IsNewest c.sync.result (g.met.D.LogDisk.keeps_laws c.cut.new.self) cut.1 c.sync.ensures.syncs)

pub returns-else-len-end-clause-newest : goal.returns-else-len-end-clause-newest
returns-else-len-end-clause-newest g c long now =
    started (g.D.LogDisk.drive c.args.disk.now) IsNewest (g.met.D.LogDisk.keeps_laws c.args.disk.now) now
