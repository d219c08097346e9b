-- How a writing anew ends.
use Rattle.std.proofs.Common.{◌≡◌, inl, inr, ◌∙◌, ℕ, ◌≤◌, Bool, true, false, List, length, is_some, Result, Ok, Err, sym, ap, subst, arith}
use Rattle.causes.specs.Causes.{Rose, Counts}
use Rattle.io_edge.specs.Puts.{Puts}
use Rattle.io_edge.specs.Streams.{Output}
use Rattle.disk_trait.specs.Drive.{AttachedOne, Drive, KeepsLaws, Stays}
use Rattle.cell_format.specs.declared.cell.Cell.{Cell}
use Rattle.plain_list.specs.World.{World}
use Rattle.log_state.specs.Recovers.{state_of}
use Rattle.zorder.specs.Width.{IsWidth}
use Rattle.recovery.specs.declared.seen.SeenLog.{SeenLog}
use Rattle.recovery.specs.Found.{IsFound}
use Rattle.recovery.specs.declared.seen.Seen.{Seen}
use Rattle.recovery.specs.Calls.{StopsAtFault}
use Rattle.recovery.proofs.CallLemmas.{stops-then, well-none, well-then}
use Rattle.recovery.proofs.OnlyReading.{stays-trans}
use Rattle.recovery.proofs.OpeningLemmas.{leaves-trans, leaves-stays}
use Rattle.plain_list.specs.State.{ComesBySplits}
use Rattle.log_compact.specs.Compacting.{IsCompacted, IsOnWay, KeepsOnWay, RefusesCompact}
use Rattle.log_compact.specs.declared.compacting.CompactFault.{CompactFault}
use Rattle.log_compact.specs.declared.compacting.CompactFault.TheVariants as compact_fault
use Rattle.log_compact.proofs.Counting.{comes_by_splits, fresh_few}
use Rattle.run_ends.specs.LogLines.{compacted_line}
use Rattle.run_ends.specs.declared.refusals.Refusal.{Refusal}
use Rattle.run_ends.specs.declared.refusals.Refusal.TheVariants as refusal
use Rattle.run_ends.specs.Limits.{oldest_read, most_inspected}
use Rattle.run_ends.specs.Ends.{Targets}
use Rattle.run_ends.specs.Status.{status_of, written_status}
use Rattle.run_ends.specs.Taking.{Refuses}
use Rattle.run_ends.proofs.AttachFacts.{attaches-one, attaches-as}
use Rattle.log_run.specs.Checking.{IsCheckingCause, IsDecidedBy, FindsCells, HasReadLog, HasReadUnless}
use Rattle.log_run.specs.Compacting.{LeavesNew, EndsAnew, MakesAnew, RecoversFew, EndsCompacting, anew}
use Rattle.log_run.proofs.MakingEnds.{ends-writing, not-ten, whole-writing}
use Rattle.log_run.proofs.CheckingFacts.{decided-refused}

-- what was found may be written anew
module _ (w : ℕ) (known : IsWidth w) (drive : Drive) (seen : Seen) (found : IsFound oldest_read w most_inspected drive seen) where
  pub splits-found : ComesBySplits w seen.leaves
  splits-found = subst (ComesBySplits w) (sym found.finds.leaves) (comes_by_splits w found.cells)

  pub few-found : length (anew w seen.world seen.leaves) ≤ most_inspected
  few-found =
      let few = fresh_few w known found.cells found.legal in
      let same : anew w seen.world seen.leaves ≡ anew w (state_of w found.cells).world (state_of w found.cells).leaves = λ i. anew w (found.finds.world i) (found.finds.leaves i) in
      omega (arith, ap length same, few, found.few)

  ends-found : (name : List ℕ) (old new : Drive) (status : ℕ) (before after : Output) → EndsAnew w seen.world seen.leaves name old new status before after
      → EndsAnew w (state_of w found.cells).world (state_of w found.cells).leaves name old new status before after
  ends-found name old new status before after ends =
      subst (λ (o : World). EndsAnew w o (state_of w found.cells).leaves name old new status before after) found.finds.world
      (subst (λ (l : List (List Bool)). EndsAnew w seen.world l name old new status before after) found.finds.leaves ends)

  cells-found : FindsCells w drive found.cells
  cells-found = record { known = known; legal = found.legal; few = found.few; recovers = found.recovers }

-- a file that was attached, and what was written to it
module _ (w : ℕ) (fresh : List Cell) (a b c : Drive) (laws : KeepsLaws a) (stays : Stays a b) where
  pub compacted-after : b.faults ≡ a.faults → IsCompacted w fresh b c → IsCompacted w fresh a c
  compacted-after calm is = record {
    log = λ bytes told. is.log bytes (stays.bytes ∙ told);
    told = is.told ∙ ap is_some stays.bytes;
    synced = is.synced;
    same = is.same ∙ calm;
    calls = well-then a b c (well-none a b stays.calls) is.calls;
  }

  pub leaves-attached : a.faults ≤ b.faults → LeavesNew w fresh a b
  leaves-attached later = record {
    on_way = λ bytes told now. leaves-stays a b (IsOnWay w fresh) laws (λ bytes is. inl (now bytes is)) stays;
    in_use = λ bytes told long. stays;
    later = later;
    calls = inl (well-none a b stays.calls);
  }

  pub leaves-written : a.faults ≤ b.faults → KeepsOnWay w fresh b c → StopsAtFault b c → LeavesNew w fresh a c
  leaves-written later keeps calls = record {
    on_way = λ xs told now. leaves-trans a b c (IsOnWay w fresh) (leaves-stays a b (IsOnWay w fresh) laws (λ bytes is. inl (now bytes is)) stays) (keeps.on_way xs (stays.bytes ∙ told) (λ bytes is. now bytes (stays.images bytes is)));
    in_use = λ bytes told long. stays-trans a b c stays (keeps.in_use bytes (stays.bytes ∙ told) long);
    later = omega (arith, later, keeps.later);
    calls = stops-then a b c (well-none a b stays.calls) calls;
  }

-- the calls of a writing that was refused
pub calls-refused : (old new : Drive) (cause : CompactFault) → RefusesCompact old new cause → StopsAtFault old new
calls-refused old new (compact_fault.InUse len) refuses = inl (well-none old new refuses.2.calls)
calls-refused old new compact_fault.Disk fails = fails.calls

-- a log was written, and the number of its cells put, or not all of that
pub ends-written : {T E : Type 0} (w : ℕ) (world : World) (leaves : List (List Bool)) (name : List ℕ) (old new : Drive) (before after : Output) (wrote : Result T E)
    → Puts before.taken after.taken (compacted_line (length (anew w world leaves))) wrote → Counts before.faults after.faults wrote → MakesAnew w world leaves old new → AttachedOne name true old new → LeavesNew w (anew w world leaves) old new
    → EndsAnew w world leaves name old new (written_status wrote) before after
ends-written w world leaves name old new before after wrote puts counts made attached keeps = record {
  ends = inl (made, ends-writing (compacted_line (length (anew w world leaves))) before after wrote puts counts);
  in_use = λ ten. absurd (not-ten wrote ten);
  exact = λ bytes told long calm. let small = (made.made.log bytes told).0 in absurd (omega (arith, small, long));
  whole = λ bytes told small calm quiet. inl (whole-writing before.faults after.faults wrote counts quiet);
  keeps = keeps;
  text = λ bytes told lines. (made.made.log bytes told).1;
  calm = λ other. made.made.same;
  attached = attaches-one name true old new (written_status wrote) attached;
}

-- a log that was read
pub compacts-found : {D : Type 0} (file name : List ℕ) (old new : Targets D) (log : SeenLog) (status : ℕ) (known : IsWidth log.width) (found : IsFound oldest_read log.width most_inspected old.drive log.seen)
    → IsDecidedBy most_inspected old.drive new.drive (Ok log) → HasReadLog file old.drive new.drive → Stays old.drive new.drive
    → EndsAnew log.width log.seen.world log.seen.leaves name old.other_drive new.other_drive status old.output new.output → EndsCompacting file name old new status
compacts-found file name old new log status known found decided read stays ends = record {
  ends = inr (record {
    width = log.width;
    cells = found.cells;
    found = cells-found log.width known old.drive log.seen found;
    read = read;
    ends = ends-found log.width known old.drive log.seen found name old.other_drive new.other_drive status old.output new.output ends;
  });
  decided = record {
    exact = λ bytes fault told shown wrong calm. absurd (decided.exact bytes fault told shown wrong calm);
    recovers = λ ten bytes told. (found.cells, record { width = log.width; known = known; bytes = bytes; told = told; recovers = found.recovers bytes told; few = found.few });
    long = ends.in_use;
    in_use = λ cells bytes few told long calm steady. ends.exact bytes told long steady;
    whole = λ cells bytes few told small calm steady quiet. ends.whole bytes told small steady quiet;
  };
  stays = stays;
  calm = λ other. read.calm;
  attached = attaches-one file false old.drive new.drive status read.attached;
}

-- no log is in use that is only read
not-used : (old new : Drive) (why : Refusal) → IsCheckingCause old new why → status_of why ≡ 10 → ⊥
not-used old new refusal.Usage cause ten = absurd cause
not-used old new refusal.Header cause ten = absurd cause
not-used old new (refusal.Csv row) cause ten = absurd cause
not-used old new (refusal.Field row column) cause ten = absurd cause
not-used old new refusal.NotLog cause ten = omega (arith, ten)
not-used old new (refusal.OldLog version w) cause ten = omega (arith, ten)
not-used old new (refusal.Damaged cell what) cause ten = omega (arith, ten)
not-used old new refusal.Source cause ten = absurd cause
not-used old new (refusal.Disk cell) cause ten = omega (arith, ten)
not-used old new refusal.LongInput cause ten = absurd cause
not-used old new refusal.ManyRows cause ten = absurd cause
not-used old new refusal.LongLog cause ten = omega (arith, ten)
not-used old new refusal.LongEvents cause ten = absurd cause
not-used old new refusal.Memory cause ten = omega (arith, ten)
not-used old new (refusal.InUse len) cause ten = absurd cause
not-used old new (refusal.Strange cell) cause ten = absurd cause

-- a log that wasn't
pub compacts-refused : {D : Type 0} (file name : List ℕ) (old new : Targets D) (why : Refusal) (status : ℕ) → IsCheckingCause old.drive new.drive why
    → IsDecidedBy {T = SeenLog} most_inspected old.drive new.drive (Err why) → HasReadUnless file old.drive new.drive why → Stays old.drive new.drive → Refuses why status old.output new.output
    → new.other ≡ old.other → EndsCompacting file name old new status
compacts-refused file name old new why status cause decided read stays refused other =
    let is = refused.status_is in
    let never : status ≡ 10 → ⊥ = λ ten. not-used old.drive new.drive why cause (sym is ∙ ten) in
    let memory : (cells : List Cell) → RecoversFew old.drive cells → (Rose old.drive.faults new.drive.faults → ⊥) → status ≡ 9 =
    λ cells few calm. is ∙ ap status_of (decided.whole few.bytes few.width cells few.told few.known few.recovers few.few calm) in
    record {
      ends = inl (record { refused = (why, cause, refused); other = other });
      decided = record {
        exact = (decided-refused old.drive new.drive why status old.output new.output decided refused).exact;
        recovers = λ ten. absurd (never ten);
        long = λ ten. absurd (never ten);
        in_use = λ cells bytes few told long calm steady. inr (memory cells few calm);
        whole = λ cells bytes few told small calm steady quiet. inr (memory cells few calm);
      };
      stays = stays;
      calm = λ seven. read.calm (λ e. seven (is ∙ e));
      attached = attaches-as file false old.drive new.drive status (status_of why) is read.attached;
    }
