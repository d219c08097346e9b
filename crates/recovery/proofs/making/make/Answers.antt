use Rattle.std.proofs.Common.{is_some, ◌≤◌, length, ◌∙◌, arith, inl, inr, true, false, [], ◌∷◌, ap, lit≤, length-append}
use Rattle.causes.specs.Causes.{Rose}
use Rattle.cell_format.specs.Spelling.{newest, header_text}
use Rattle.disk_trait.proofs.Calls.{made-then, still-made}
use Rattle.split_log.proofs.Cells.{length-header}
use Rattle.recovery.proofs.MakingLemmas.{log_made, not_made, refused_on, small_stays, small_written, small_synced}
use Rattle.recovery.proofs.making.make.Goals as goal

pub returns-clause-made : goal.returns-clause-made
returns-clause-made g c = record {
  told = ap is_some c.sync.ensures.syncs.bytes ∙ c.write.ensures.writes.told ∙ ap is_some c.len.ensures.stays.bytes;
  same = c.in_ok-sync.ensures.cause.same ∙ c.in_ok-write.ensures.cause.same ∙ c.in_ok-len.ensures.cause.same;
  calls = still-made (true ∷ true ∷ []) (g.D.LogDisk.drive c.args.disk.now) (g.D.LogDisk.drive c.len.new.self) (g.D.LogDisk.drive c.sync.new.self) c.len.ensures.stays.calls
      (made-then (true ∷ []) (true ∷ []) (g.D.LogDisk.drive c.len.new.self) (g.D.LogDisk.drive c.write.new.self) (g.D.LogDisk.drive c.sync.new.self) c.in_ok-write.ensures.made c.in_ok-sync.ensures.made);
  log = λ bytes told.
      let now = c.len.ensures.stays.bytes ∙ told in
      let small : length bytes ≤ 17 = omega (arith, c.in_ok-len.ensures.len bytes told, c.if-len-gt-MOST_BYTES.false) in
      let (written, known, holds) = c.in_ok-write.ensures.writes.done bytes now in (
        small,
        log_made c.args.width (g.D.LogDisk.drive c.sync.new.self) bytes c.empty_log.result written small c.empty_log.ensures holds
            (c.sync.ensures.syncs.bytes ∙ known) (c.in_ok-sync.ensures.syncs.done written known),
      );
}

pub returns-in_err-len-clause-made : goal.returns-in_err-len-clause-made
returns-in_err-len-clause-made g c =
    not_made c.from_residual.result _ _ c.from_residual.ensures.1

pub returns-in_err-write-clause-made : goal.returns-in_err-write-clause-made
returns-in_err-write-clause-made g c =
    not_made c.from_residual-in_err-write.result _ _ c.from_residual-in_err-write.ensures.1

pub returns-in_err-sync-clause-made : goal.returns-in_err-sync-clause-made
returns-in_err-sync-clause-made g c =
    not_made c.from_residual-in_err-sync.result _ _ c.from_residual-in_err-sync.ensures.1

pub returns-in_err-len-clause-refused : goal.returns-in_err-len-clause-refused
returns-in_err-len-clause-refused g c =
    refused_on c.from_residual.result _ _ c.from_residual.ensures.1 (record { rose = c.in_err-len.ensures.cause.failed; told = ap is_some c.len.ensures.stays.bytes; calls = inl c.len.ensures.stays.calls })

pub returns-in_err-len-clause-small : goal.returns-in_err-len-clause-small
returns-in_err-len-clause-small g c =
    small_stays (g.D.LogDisk.drive c.args.disk.now) (g.D.LogDisk.drive c.len.new.self) (g.met.D.LogDisk.keeps_laws c.args.disk.now) c.len.ensures.stays c.len.ensures.cause.later c.len.ensures.cause.file

pub returns-then-len-gt-MOST_BYTES-clause-small : goal.returns-then-len-gt-MOST_BYTES-clause-small
returns-then-len-gt-MOST_BYTES-clause-small g c =
    small_stays (g.D.LogDisk.drive c.args.disk.now) (g.D.LogDisk.drive c.len.new.self) (g.met.D.LogDisk.keeps_laws c.args.disk.now) c.len.ensures.stays c.len.ensures.cause.later c.len.ensures.cause.file

pub returns-then-len-gt-MOST_BYTES-clause-refused : goal.returns-then-len-gt-MOST_BYTES-clause-refused
returns-then-len-gt-MOST_BYTES-clause-refused g c =
    (c.if-len-gt-MOST_BYTES.true, c.in_ok-len.ensures.len, c.len.ensures.stays, c.in_ok-len.ensures.cause.same)

pub returns-in_err-write-clause-refused : goal.returns-in_err-write-clause-refused
returns-in_err-write-clause-refused g c =
    let rose : Rose (g.D.LogDisk.drive c.args.disk.now).faults (g.D.LogDisk.drive c.write.new.self).faults = omega (arith, c.in_ok-len.ensures.cause.same, c.in_err-write.ensures.cause.failed) in
    refused_on c.from_residual-in_err-write.result _ _ c.from_residual-in_err-write.ensures.1 (record {
      rose = rose;
      told = c.write.ensures.writes.told ∙ ap is_some c.len.ensures.stays.bytes;
      calls = inr (0, record { few = lit≤ tt; calls = still-made (false ∷ []) (g.D.LogDisk.drive c.args.disk.now) (g.D.LogDisk.drive c.len.new.self) (g.D.LogDisk.drive c.write.new.self) c.len.ensures.stays.calls c.in_err-write.ensures.made });
    })

pub returns-in_err-sync-clause-refused : goal.returns-in_err-sync-clause-refused
returns-in_err-sync-clause-refused g c =
    let rose : Rose (g.D.LogDisk.drive c.args.disk.now).faults (g.D.LogDisk.drive c.sync.new.self).faults = omega (arith, c.in_ok-len.ensures.cause.same, c.in_ok-write.ensures.cause.same, c.in_err-sync.ensures.cause.failed) in
    refused_on c.from_residual-in_err-sync.result _ _ c.from_residual-in_err-sync.ensures.1 (record {
      rose = rose;
      told = ap is_some c.sync.ensures.syncs.bytes ∙ c.write.ensures.writes.told ∙ ap is_some c.len.ensures.stays.bytes;
      calls = inr (
        1,
        record {
          few = lit≤ tt;
          calls = still-made (true ∷ false ∷ []) (g.D.LogDisk.drive c.args.disk.now) (g.D.LogDisk.drive c.len.new.self) (g.D.LogDisk.drive c.sync.new.self) c.len.ensures.stays.calls
              (made-then (true ∷ []) (false ∷ []) (g.D.LogDisk.drive c.len.new.self) (g.D.LogDisk.drive c.write.new.self) (g.D.LogDisk.drive c.sync.new.self) c.in_ok-write.ensures.made c.in_err-sync.ensures.made);
        },
      );
    })

pub returns-in_err-write-clause-small : goal.returns-in_err-write-clause-small
returns-in_err-write-clause-small g c =
    let short : length c.empty_log.result ≤ 17 = omega (arith, ap length c.empty_log.ensures, length-append (header_text newest c.args.width) (0 ∷ []), length-header newest c.args.width) in
    small_written (g.D.LogDisk.drive c.args.disk.now) (g.D.LogDisk.drive c.len.new.self) (g.met.D.LogDisk.keeps_laws c.args.disk.now) c.len.ensures.stays (g.D.LogDisk.drive c.write.new.self) c.empty_log.result c.write.result short c.write.ensures.writes
    (λ bytes told. omega (arith, c.in_ok-len.ensures.len bytes told, c.if-len-gt-MOST_BYTES.false)) (omega (arith, c.len.ensures.cause.later, c.write.ensures.cause.later))
    (λ all told. c.len.ensures.cause.file all (c.write.ensures.cause.file all told))

pub returns-in_err-sync-clause-small : goal.returns-in_err-sync-clause-small
returns-in_err-sync-clause-small g c =
    let short : length c.empty_log.result ≤ 17 = omega (arith, ap length c.empty_log.ensures, length-append (header_text newest c.args.width) (0 ∷ []), length-header newest c.args.width) in
    small_synced (g.D.LogDisk.drive c.args.disk.now) (g.D.LogDisk.drive c.len.new.self) (g.met.D.LogDisk.keeps_laws c.args.disk.now) c.len.ensures.stays (g.D.LogDisk.drive c.write.new.self) c.empty_log.result c.write.result short c.write.ensures.writes
    (λ bytes told. omega (arith, c.in_ok-len.ensures.len bytes told, c.if-len-gt-MOST_BYTES.false)) (g.D.LogDisk.drive c.sync.new.self) c.sync.result c.sync.ensures.syncs
    (omega (arith, c.len.ensures.cause.later, c.write.ensures.cause.later, c.sync.ensures.cause.later))
    (λ all told. c.len.ensures.cause.file all (c.write.ensures.cause.file all (c.sync.ensures.cause.file all told)))

pub returns-clause-small : goal.returns-clause-small
returns-clause-small g c =
    let short : length c.empty_log.result ≤ 17 = omega (arith, ap length c.empty_log.ensures, length-append (header_text newest c.args.width) (0 ∷ []), length-header newest c.args.width) in
    small_synced (g.D.LogDisk.drive c.args.disk.now) (g.D.LogDisk.drive c.len.new.self) (g.met.D.LogDisk.keeps_laws c.args.disk.now) c.len.ensures.stays (g.D.LogDisk.drive c.write.new.self) c.empty_log.result c.write.result short c.write.ensures.writes
    (λ bytes told. omega (arith, c.in_ok-len.ensures.len bytes told, c.if-len-gt-MOST_BYTES.false)) (g.D.LogDisk.drive c.sync.new.self) c.sync.result c.sync.ensures.syncs
    (omega (arith, c.len.ensures.cause.later, c.write.ensures.cause.later, c.sync.ensures.cause.later))
    (λ all told. c.len.ensures.cause.file all (c.write.ensures.cause.file all (c.sync.ensures.cause.file all told)))
