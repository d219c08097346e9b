-- What a turn leads to.
use Rattle.std.proofs.Common.{◌≡◌, ℕ, ◌+◌, ◌*◌, ◌<◌, ◌≤◌, false, inl, inr, ⊎_elim, List, length, take, Option, Some, None, is_some, refl, sym, ◌∙◌, ap, subst, lit≤, arith}
use Rattle.std.specs.Prelude.{◌≢◌}
use Rattle.std.proofs.lemmas.Bool.{true≢false}
use Rattle.std.proofs.lemmas.List.{length-take-le}
use Rattle.cell_format.specs.declared.cell.Cell.{Cell}
use Rattle.cell_format.specs.Spelling.{newest}
use Rattle.disk_trait.specs.Drive.{Drive, KeepsLaws}
use Rattle.disk_trait.specs.Moments.{LeavesOnly}
use Rattle.disk_trait.proofs.Stretches.{started}
use Rattle.split_log.specs.LogText.{IsLog, IsLogText, HoldsCells, HoldsEither}
use Rattle.split_log.specs.LogView.{LogView, most_cells}
use Rattle.split_log.proofs.Cells.{length-log}
use Rattle.split_log.proofs.Commits.{widened}
use Rattle.split_log.proofs.Unique.{holds-same}
use Rattle.log_state.specs.Recovers.{Recovers}
use Rattle.recovery.specs.declared.seen.OpenFault.{OpenFault}
use Rattle.recovery.specs.declared.seen.OpenFault.TheVariants as open_fault
use Rattle.recovery.specs.Faults.{IsFault, IsInBytes}
use Rattle.recovery.specs.Found.{IsNewest, IsWanted}
use Rattle.recovery.specs.Opening.{KeepsCells, KeepsNewest, IsUntouched}
use Rattle.recovery.proofs.Exclusive.{recovers_no_fault}
use Rattle.recovery.proofs.HeadLemmas.{index_version}
use Rattle.follower.specs.declared.faults.FollowFault.{FollowFault}
use Rattle.follower.specs.declared.faults.FollowFault.TheVariants.{Strange, Log, Append, Disk, Memory}
use Rattle.follower.specs.declared.turns.Turn.{Turn}
use Rattle.follower.specs.declared.turns.Turn.TheVariants.{Arrive, Restart}
use Rattle.follower.specs.Adding.{IsNext, IsAdded, IsLost}
use Rattle.follower.specs.Faults.{IsFree, is_drives, most_left}
use Rattle.follower.specs.Follow.{Following, IsSound, after_turn, acknowledging, cell_of, held_after}
use Rattle.follower.specs.Holding.{FollowerView, HoldsFirst, LeavesFirst, RecoversFirst, AreLeading, with_state}
use Rattle.follower.specs.Reopening.{Reopens, RefusesReopen}
use Rattle.follower.specs.Turning.{CallsOfRefused, MakesCalls, TakesRoom, IsTurnCause, MakesTurn, FailsTurn}
use Rattle.follower.proofs.Machine.{held-next, sound-after}
use Rattle.follower.proofs.Prefixes.{log-recovers, log-leaves, bytes-recover, log-version, first-held, first-log}

-- A drive whose bytes are known had known bytes before.
pub told-before : (a b : Option (List ℕ)) (bytes : List ℕ) → is_some b ≡ is_some a → b ≡ Some bytes → (old : List ℕ) × (a ≡ Some old)
told-before None b bytes same told = absurd (true≢false (sym (ap is_some told) ∙ same))
told-before (Some old) b bytes same told = (old, refl)

-- As many cells as are held, or one more.
held-left : (fault : FollowFault) (held : ℕ) → held ≤ most_left fault held
held-left (Strange cell) held = omega arith
held-left (Log why) held = omega arith
held-left (Append cell) held = omega arith
held-left Disk held = omega arith
held-left Memory held = omega arith

-- A fault of a log that doesn't say that the drive failed.
pub quiet_log : (e : OpenFault) → is_drives (Log e) ≡ false → e ≢ open_fault.Disk
quiet_log e quiet is = true≢false (sym (ap (λ f. is_drives (Log f)) is) ∙ quiet)

-- A stretch that leaves two predicates leaves both together.
leaves-both : (old new : Drive) (P Q : List ℕ → Type 0) → LeavesOnly old new P → LeavesOnly old new Q → LeavesOnly old new (λ c. P c × Q c)
leaves-both old new P Q first second = record {
  later = first.later;
  each = λ c left. (first.each c left, second.each c left);
  before = λ t c le left. ⊎_elim (λ was. inl was) (λ one. ⊎_elim (λ was. inl was) (λ other. inr (one, other)) (second.before t c le left)) (first.before t c le left);
}

-- A log that stays unchanged.
log-untouched : (w : ℕ) (own : List Cell) (old new : Drive) → IsUntouched old new → IsLog w own old → IsLog w own new
log-untouched w own old new un log = record { bytes = log.bytes; told = un.bytes ∙ log.told; text = log.text; durable = λ c left. log.durable c (un.images c left) }

some_same : (a b : List ℕ) → Some a ≡ Some b → a ≡ b
some_same a b same = cc same

newest_wanted : IsWanted newest newest
newest_wanted = record { least = lit≤ tt; most = lit≤ tt }

module _ {D : Type 0} (drive : D → Drive) (cells : List Cell) (old : FollowerView D) (laws : KeepsLaws (drive old.disk)) (holds : HoldsFirst drive cells old) where
  -- If nothing is done, a crash leaves the cells.
  stands : LeavesFirst old.width cells old.state.held old.state.held (drive old.disk) (drive old.disk)
  stands bytes told =
      started (drive old.disk) (RecoversFirst old.width cells old.state.held old.state.held) laws
      (first-log old.width cells holds.leading.legal old.state.held old.state.held old.state.held (omega arith) (omega arith) (drive old.disk) (holds.log bytes told))

  -- A turn that leaves the drive and the number of cells unchanged.
  pub quiet : (turn : Turn) (new : FollowerView D) → new ≡ with_state (after_turn (length cells) old.state turn) old → (after_turn (length cells) old.state turn).held ≡ old.state.held
      → MakesCalls (length cells) old.state turn (drive old.disk) (drive old.disk) → MakesTurn drive cells turn old new
  quiet turn new is same calls = subst (MakesTurn drive cells turn old) (sym is) (record {
    turns = record {
      state = refl;
      width = refl;
      holds = record {
        leading = holds.leading;
        few = omega (arith, same, holds.few);
        sound = sound-after (length cells) old.state turn holds.sound;
        log = λ bytes told. subst (λ (n : ℕ). IsLog old.width (take n cells) (drive old.disk)) (sym same) (holds.log bytes told);
      };
      told = refl;
      calm = refl;
      calls = calls;
      file = λ all told. told;
    };
    any_moment = subst (λ (n : ℕ). LeavesFirst old.width cells old.state.held n (drive old.disk) (drive old.disk)) (sym same) stands;
  })

  -- A turn for which memory ran out.
  pub no_room : (turn : Turn) (disk : D) (fault : FollowFault) → disk ≡ old.disk → fault ≡ Memory → TakesRoom turn → FailsTurn drive cells turn old disk fault
  no_room turn disk fault same is room =
      subst (FailsTurn drive cells turn old disk) (sym is)
      (subst (λ (d : D). FailsTurn drive cells turn old d Memory) (sym same) (record {
        refused = record { cause = (room, refl); may = λ why told. absurd (cc told); told = refl; calm = λ quiet. refl; later = omega arith; calls = λ all told. told; log = λ quiet. holds.log; file = λ all told. told };
        any_moment = stands;
      }))

  -- A packet that isn't the next one makes no call.
  pub no_calls : (packet : ℕ) → held_after (length cells) (cell_of packet old.state) old.state.held ≡ old.state.held
      → MakesCalls (length cells) old.state (Arrive packet) (drive old.disk) (drive old.disk)
  no_calls packet same = (
    λ brings. absurd (omega (arith, same, held-next (length cells) (cell_of packet old.state) old.state.held brings.0 brings.1)),
    λ none all told. told,
  )

  module _ (packet : ℕ) (cell : Cell) (next : IsNext cells packet old.state cell) where
    -- With the next cell, or without.
    either : (c : List ℕ) → HoldsEither old.width (take old.state.held cells) cell c → RecoversFirst old.width cells old.state.held (old.state.held + 1) c
    either c (inl alone) = first-held old.width cells holds.leading.legal old.state.held old.state.held (old.state.held + 1) (omega arith) (omega arith) c alone
    either c (inr more) =
        first-held old.width cells holds.leading.legal (old.state.held + 1) old.state.held (old.state.held + 1) (omega arith) (omega arith) c
        (subst (λ (l : List Cell). HoldsCells newest old.width l c) (sym next.more) more)

    after_next : acknowledging (old.state.held + 1) old.state ≡ after_turn (length cells) old.state (Arrive packet)
    after_next = ap (λ (n : ℕ). acknowledging n old.state) (sym (held-next (length cells) (cell_of packet old.state) old.state.held next.brings next.below))

    pub added : (new : FollowerView D) → IsAdded drive cell old new → MakesTurn drive cells (Arrive packet) old new
    added new is =
        let held : new.state.held ≡ old.state.held + 1 = ap (λ (s : Following). s.held) is.state in
        record {
          turns = record {
            state = is.state ∙ after_next;
            width = is.width;
            holds = record {
              leading = subst (λ (v : ℕ). AreLeading v cells) (sym is.width) holds.leading;
              few = omega (arith, held, next.below);
              sound = subst (λ (s : Following). IsSound s) (sym (is.state ∙ after_next)) (sound-after (length cells) old.state (Arrive packet) holds.sound);
              log = λ bytes told.
                  let before = told-before (drive old.disk).bytes (drive new.disk).bytes bytes is.told told in
                  subst (λ (v : ℕ). IsLog v (take new.state.held cells) (drive new.disk)) (sym is.width)
                  (subst (λ (n : ℕ). IsLog old.width (take n cells) (drive new.disk)) (sym held)
                  (subst (λ (l : List Cell). IsLog old.width l (drive new.disk)) (sym next.more) (is.log old.width (take old.state.held cells) (holds.log before.0 before.1))));
            };
            told = is.told;
            calm = is.calm;
            calls = (λ brings. is.calls, λ none. absurd (none (next.brings, next.below)));
            file = is.file;
          };
          any_moment = subst (λ (n : ℕ). LeavesFirst old.width cells old.state.held n (drive old.disk) (drive new.disk)) (sym held)
              (λ bytes told. widened (drive old.disk) (drive new.disk) (HoldsEither old.width (take old.state.held cells) cell) (RecoversFirst old.width cells old.state.held (old.state.held + 1)) either
              (is.any_moment old.width (take old.state.held cells) (holds.log bytes told)));
        }

    pub lost : (disk : D) (fault : FollowFault) → IsLost drive cell old disk fault → FailsTurn drive cells (Arrive packet) old disk fault
    lost disk (Strange number) is = absurd is
    lost disk (Log why) is = absurd is
    lost disk (Append number) is = record {
      refused = record {
        cause = ((next.brings, next.below), is.named, is.rose, λ bytes told c left. either c (is.now old.width (take old.state.held cells) (holds.log bytes told) c left));
        may = λ why told. absurd (cc told);
        told = is.told;
        calm = λ quiet. absurd (true≢false quiet);
        later = is.later;
        calls = is.calls;
        log = λ quiet. absurd (true≢false quiet);
        file = is.file;
      };
      any_moment = λ bytes told. widened (drive old.disk) (drive disk) (HoldsEither old.width (take old.state.held cells) cell) (RecoversFirst old.width cells old.state.held (old.state.held + 1)) either
          (is.any_moment old.width (take old.state.held cells) (holds.log bytes told));
    }
    lost disk Disk is = absurd is
    lost disk Memory is = no_room (Arrive packet) disk Memory is refl tt

  -- The file recovers to the cells that are held, and shows no fault.
  held_few : length (take old.state.held cells) ≤ most_cells
  held_few = omega (arith, length-take-le old.state.held cells holds.few, holds.few, holds.leading.few)

  no_fault : (why : OpenFault) → IsInBytes why → ((bytes : List ℕ) → (drive old.disk).bytes ≡ Some bytes → IsFault newest (Some old.width) most_cells bytes why) → (bytes : List ℕ) → (drive old.disk).bytes ≡ Some bytes → ⊥
  no_fault why shown is bytes told =
      recovers_no_fault newest old.width most_cells (lit≤ tt) bytes (take old.state.held cells) why (bytes-recover old.width cells holds.leading.legal old.state.held (drive old.disk) bytes (holds.log bytes told) told)
      (subst (IsWanted newest) (sym (log-version old.width (take old.state.held cells) (drive old.disk) bytes (holds.log bytes told) told)) newest_wanted) held_few shown (is bytes told)

  -- Nothing follows the cells.
  not_beyond : (bytes : List ℕ) → (drive old.disk).bytes ≡ Some bytes → 17 + 32 * old.state.held < length bytes → ⊥
  not_beyond bytes told beyond =
      let log = holds.log bytes told in
      omega (
        arith,
        beyond,
        length-log old.state.held bytes (record {
          width = old.width;
          cells = take old.state.held cells;
          count_is = length-take-le old.state.held cells holds.few;
          text = subst (λ (l : List ℕ). IsLogText newest old.width (take old.state.held cells) l) (some_same log.bytes bytes (sym log.told ∙ told)) log.text;
        }),
      )

  module _ (d : Drive) (any_moment : KeepsCells old.width (drive old.disk) d) (version : KeepsNewest (drive old.disk) d) where
    kept : (most : ℕ) → old.state.held ≤ most → LeavesFirst old.width cells old.state.held most (drive old.disk) d
    kept most le bytes told =
        let log = holds.log bytes told in
        let same : List ℕ → Type 0 = Recovers old.width (take old.state.held cells) in
        widened (drive old.disk) d (λ c. same c × IsNewest c) (RecoversFirst old.width cells old.state.held most)
        (λ c both. record { count = old.state.held; least_is = omega arith; most_is = le; recovers = both.0; version = both.1 })
        (leaves-both (drive old.disk) d same IsNewest (any_moment bytes (take old.state.held cells) told (log-recovers old.width cells holds.leading.legal old.state.held (drive old.disk) log))
        (version (λ c left. index_version newest old.width (take old.state.held cells) c (log-leaves old.width (take old.state.held cells) (drive old.disk) log c left))))

  again : (new : FollowerView D) (log : LogView D) → Reopens drive old.width old.state.held (drive old.disk) log
      → new ≡ record { disk = log.disk; width = old.width; state = record old.state { held = log.cells } } → MakesTurn drive cells Restart old new
  again new log is same = subst (MakesTurn drive cells Restart old) (sym same) (record {
    turns = record {
      state = state;
      width = refl;
      holds = record {
        leading = holds.leading;
        few = omega (arith, is.cells, holds.few);
        sound = subst (λ (s : Following). IsSound s) (sym state) holds.sound;
        log = λ bytes told.
            let before = told-before (drive old.disk).bytes (drive log.disk).bytes bytes is.told told in
            let (found, count, recovers, whole) = is.text before.0 before.1 in
            let here = bytes-recover old.width cells holds.leading.legal old.state.held (drive old.disk) before.0 (holds.log before.0 before.1) before.1 in
            let one : found ≡ take old.state.held cells = holds-same recovers.version here.version old.width found (take old.state.held cells) before.0 recovers.holds here.holds in
            subst (λ (n : ℕ). IsLog old.width (take n cells) (drive log.disk)) (sym is.cells) (subst (λ (l : List Cell). IsLog old.width l (drive log.disk)) one whole);
      };
      told = is.told;
      calm = is.calm;
      calls = ⊎_elim (λ whole. inl whole.1) (λ longer. inr (λ bytes told. not_beyond bytes told (longer.0 bytes told), longer.1)) is.calls;
      file = is.file;
    };
    any_moment = kept (drive log.disk) is.any_moment is.newest log.cells (omega (arith, is.cells));
  })
    where
      state : record old.state { held = log.cells } ≡ old.state
      state = ap (λ (n : ℕ). record old.state { held = n }) is.cells

  restart_cause : (disk : D) (fault : FollowFault) → RefusesReopen old.width old.state.held (drive old.disk) (drive disk) fault → IsTurnCause drive cells Restart old disk fault
  restart_cause disk (Strange number) is = (
    refl,
    (λ bytes told. is.cause.1 bytes (take old.state.held cells) told (bytes-recover old.width cells holds.leading.legal old.state.held (drive old.disk) bytes (holds.log bytes told) told)
        (length-take-le old.state.held cells holds.few)),
    is.cause.0,
  )
  restart_cause disk (Log open_fault.Disk) is = (refl, is.rose refl)
  restart_cause disk (Log open_fault.Memory) is = refl
  restart_cause disk (Log open_fault.NotLog) is = (refl, no_fault open_fault.NotLog tt is.cause)
  restart_cause disk (Log (open_fault.OldLog version width)) is = (refl, no_fault (open_fault.OldLog version width) tt is.cause)
  restart_cause disk (Log (open_fault.Damaged number why)) is = (refl, no_fault (open_fault.Damaged number why) tt is.cause)
  restart_cause disk (Log (open_fault.TooLong limit)) is = (refl, no_fault (open_fault.TooLong limit) tt is.cause)
  restart_cause disk (Append number) is = absurd is.cause
  restart_cause disk Disk is = absurd is.cause
  restart_cause disk Memory is = absurd is.cause

  restart_calls : (disk : D) (fault : FollowFault) → RefusesReopen old.width old.state.held (drive old.disk) (drive disk) fault → CallsOfRefused fault (drive old.disk) (drive disk)
  restart_calls disk (Strange number) is = is.calls
  restart_calls disk (Log why) is = is.calls
  restart_calls disk (Append number) is = absurd is.cause
  restart_calls disk Disk is = absurd is.cause
  restart_calls disk Memory is = absurd is.cause

  restart_log : (disk : D) (fault : FollowFault) → RefusesReopen old.width old.state.held (drive old.disk) (drive disk) fault → is_drives fault ≡ false → (bytes : List ℕ) → (drive old.disk).bytes ≡ Some bytes
      → IsLog old.width (take old.state.held cells) (drive disk)
  restart_log disk (Strange number) is quiet bytes told = absurd ((restart_cause disk (Strange number) is).1 bytes told)
  restart_log disk (Log why) is quiet bytes told =
      log-untouched old.width (take old.state.held cells) (drive old.disk) (drive disk) (is.untouched why refl (quiet_log why quiet)) (holds.log bytes told)
  restart_log disk (Append number) is quiet bytes told = absurd is.cause
  restart_log disk Disk is quiet bytes told = absurd is.cause
  restart_log disk Memory is quiet bytes told = absurd is.cause

  not_again : (disk : D) (fault : FollowFault) → RefusesReopen old.width old.state.held (drive old.disk) (drive disk) fault → FailsTurn drive cells Restart old disk fault
  not_again disk fault is = record {
    refused = record { cause = restart_cause disk fault is; may = is.may; told = is.told; calm = is.calm; later = is.later; calls = restart_calls disk fault is; log = restart_log disk fault is; file = is.file };
    any_moment = kept (drive disk) is.any_moment is.newest (most_left fault old.state.held) (held-left fault old.state.held);
  }

  -- The drive, width and count of the call of `reopen`.
  module _ (log : LogView D) (w known count : ℕ) (packets acks : List ℕ) (d : D)
      (before : ◌≡◌ {A = FollowerView D} (record { disk = log.disk; width = w; state = record { held = log.cells; known = known; packets = packets; acks = acks } }) old)
      (same_disk : d ≡ log.disk) (same_count : count ≡ log.cells) where
    found : (P : ℕ → ℕ → Drive → Type 0) → P w count (drive d) → P old.width old.state.held (drive old.disk)
    found P holds =
        subst (λ (f : FollowerView D). P f.width f.state.held (drive f.disk)) before
        (subst (λ (n : ℕ). P w n (drive log.disk)) same_count (subst (λ (e : D). P w count (drive e)) same_disk holds))

    pub restarted : (new : LogView D) → Reopens drive w count (drive d) new
        → MakesTurn drive cells Restart old (record { disk = new.disk; width = w; state = record { held = new.cells; known = known; packets = packets; acks = acks } })
    restarted new is =
        again (record { disk = new.disk; width = w; state = record { held = new.cells; known = known; packets = packets; acks = acks } }) new
        (found (λ v n e. Reopens drive v n e new) is) (ap (λ (f : FollowerView D). record { disk = new.disk; width = f.width; state = record f.state { held = new.cells } }) before)

    pub not_restarted : (disk : D) (fault : FollowFault) → RefusesReopen w count (drive d) (drive disk) fault → FailsTurn drive cells Restart old disk fault
    not_restarted disk fault is = not_again disk fault (found (λ v n e. RefusesReopen v n e (drive disk) fault) is)

  -- If the bytes are known, a turn is refused only because of memory or of the drive.
  pub free : (turn : Turn) (disk : D) (fault : FollowFault) (bytes : List ℕ) → (drive old.disk).bytes ≡ Some bytes → IsTurnCause drive cells turn old disk fault
      → IsFree (drive old.disk) (drive disk) fault
  free turn disk (Strange number) bytes told is = absurd (is.1 bytes told)
  free turn disk (Log open_fault.Disk) bytes told is = inr (inr is.1)
  free turn disk (Log open_fault.Memory) bytes told is = inr (inl refl)
  free turn disk (Log open_fault.NotLog) bytes told is = absurd (is.1 bytes told)
  free turn disk (Log (open_fault.OldLog version width)) bytes told is = absurd (is.1 bytes told)
  free turn disk (Log (open_fault.Damaged number why)) bytes told is = absurd (is.1 bytes told)
  free turn disk (Log (open_fault.TooLong limit)) bytes told is = absurd (is.1 bytes told)
  free turn disk (Append number) bytes told is = inr (inr is.2)
  free turn disk Disk bytes told is = absurd is
  free turn disk Memory bytes told is = inl refl
