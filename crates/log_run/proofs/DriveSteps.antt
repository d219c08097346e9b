-- What an attach and what follows it come to.
use Rattle.std.proofs.Common.{◌≡◌, ◌⊎◌, inl, inr, ◌∙◌, ℕ, ◌≤◌, Bool, true, List, [], ◌∷◌, length, Some, is_some, Result, Err, refl, sym, ap, subst, arith, None}
use Rattle.std.specs.Prelude.{IfErr, ◌≢◌}
use Rattle.std.specs.Result.{IsErrAnd}
use Rattle.disk_trait.specs.Drive.{Drive, Stays, KeepsLaws}
use Rattle.cell_format.specs.declared.cell.Cell.{Cell}
use Rattle.recovery.specs.Making.{Makes, IsSmall, KeepsSmall, RefusesInit}
use Rattle.log_state.specs.Recovers.{Recovers}
use Rattle.recovery.specs.Faults.{IsFault, RefusesRead}
use Rattle.zorder.specs.Width.{IsWidth}
use Rattle.recovery.specs.declared.seen.SeenLog.{SeenLog}
use Rattle.recovery.specs.Found.{IsFree, IsFound}
use Rattle.recovery.specs.Reading.{IsBehind, OnlyReads}
use Rattle.recovery.specs.declared.seen.Seen.{Seen}
use Rattle.recovery.specs.declared.seen.InitFault.{InitFault}
use Rattle.recovery.specs.declared.seen.InitFault.TheVariants as init_fault
use Rattle.recovery.specs.declared.seen.OpenFault.{OpenFault}
use Rattle.recovery.specs.declared.seen.OpenFault.TheVariants as open_fault
use Rattle.disk_trait.proofs.Calls.{still-made}
use Rattle.recovery.specs.Calls.{StopsAtFault}
use Rattle.recovery.proofs.CallLemmas.{stops-then, well-none}
use Rattle.recovery.proofs.Exclusive.{recovers_wanted}
use Rattle.recovery.proofs.OnlyReading.{rose-earlier, stays-trans}
use Rattle.recovery.proofs.OpeningLemmas.{leaves-trans, leaves-stays}
use Rattle.log_compact.proofs.OnWay.{failed-making}
use Rattle.run_ends.specs.declared.refusals.Refusal.{Refusal}
use Rattle.run_ends.specs.Limits.{most_inspected}
use Rattle.run_ends.specs.Attaching.{RefusesAttach}
use Rattle.run_ends.specs.LogFaults.{MayTell, log_refusal}
use Rattle.log_run.specs.Checking.{IsCheckingCause, IsDecidedBy}
use Rattle.log_run.specs.Making.{IsMakingCause, LeavesFile, making_refusal}
use Rattle.run_ends.specs.Status.{status_of}
use Rattle.run_ends.proofs.LogFaults.{reading-after, calm-free, calm-named}

pub makes-after : (w : ℕ) (a b c : Drive) → Stays a b → b.faults ≡ a.faults → Makes w b c → Makes w a c
makes-after w a b c stays calm makes =
    record { log = λ bytes told. makes.log bytes (stays.bytes ∙ told); same = makes.same ∙ calm; told = makes.told ∙ ap is_some stays.bytes; calls = still-made (true ∷ true ∷ []) a b c stays.calls makes.calls }

-- what the bytes don't decide stays so behind an earlier call
pub free-later : (a b c : Drive) (fault : OpenFault) → a.faults ≤ b.faults → IsFree b c fault → IsFree a c fault
free-later a b c fault later (inl memory) = inl memory
free-later a b c fault later (inr rose) = inr (rose-earlier a.faults b.faults c.faults later rose)

-- a log in which something is at fault
pub checking-after : (a b c : Drive) (result : Result SeenLog OpenFault) (fault : OpenFault) → result ≡ Err fault → Stays a b → a.faults ≤ b.faults
    → ((bytes : List ℕ) → b.bytes ≡ Some bytes → IsFault 1 None most_inspected bytes fault) → MayTell 1 None most_inspected fault → OnlyReads b c result → IsCheckingCause a c (log_refusal fault)
checking-after a b c result fault is stays later wrong may reads = reading-after 1 most_inspected a b c fault stays later wrong may (λ disk. reads.failed (is ∙ ap (λ (e : OpenFault). Err e) disk))

pub decided-err : (a b c : Drive) (why : OpenFault) → Stays a b → a.faults ≤ b.faults → RefusesRead 1 None most_inspected b c why → IsDecidedBy {T = SeenLog} most_inspected a c (Err (log_refusal why))
decided-err a b c why stays later refused = record {
  exact = λ bytes fault told shown wrong calm. calm-named a b c why fault later calm (refused.exact bytes fault (stays.bytes ∙ told) shown wrong);
  whole = λ bytes w cells told known text few calm. calm-free a b c why later calm (refused.whole w bytes cells known known (stays.bytes ∙ told) text (recovers_wanted w cells bytes text) few);
}

-- what an attach leaves of a file, and what the making behind it does
pub leaves-attached : (a b : Drive) → KeepsLaws a → Stays a b → a.faults ≤ b.faults → LeavesFile a b
leaves-attached a b laws stays later = record { small = λ now. leaves-stays a b IsSmall laws now stays; in_use = λ bytes told long. stays; later = later; calls = inl (well-none a b stays.calls) }

pub leaves-made : (a b c : Drive) → KeepsLaws a → Stays a b → a.faults ≤ b.faults → KeepsSmall b c → StopsAtFault b c → LeavesFile a c
leaves-made a b c laws stays later keeps calls = record {
  small = λ now. leaves-trans a b c IsSmall (leaves-stays a b IsSmall laws now stays) (keeps.small (λ bytes is. now bytes (stays.images bytes is)));
  in_use = λ bytes told long. stays-trans a b c stays (keeps.in_use bytes (stays.bytes ∙ told) long);
  later = omega (arith, later, keeps.later);
  calls = stops-then a b c (well-none a b stays.calls) calls;
}

-- the calls of a making that was refused
pub calls-unmade : (old new : Drive) (cause : InitFault) → RefusesInit old new cause → StopsAtFault old new
calls-unmade old new (init_fault.InUse len) refuses = inl (well-none old new refuses.2.calls)
calls-unmade old new init_fault.Disk fails = (failed-making old new fails).calls

-- why no log is made of the attached file
pub cause-made : (a b c : Drive) (cause : InitFault) → Stays a b → a.faults ≤ b.faults → RefusesInit b c cause → IsMakingCause a c (making_refusal cause)
cause-made a b c (init_fault.InUse len) stays later refuses = (refuses.0, (λ bytes told. refuses.1 bytes (stays.bytes ∙ told)), stays-trans a b c stays refuses.2)
cause-made a b c init_fault.Disk stays later fails = rose-earlier a.faults b.faults c.faults later fails.rose

pub calm-made : (a b c : Drive) (cause : InitFault) → b.faults ≡ a.faults → RefusesInit b c cause → status_of (making_refusal cause) ≢ 7 → c.faults ≡ a.faults
calm-made a b c (init_fault.InUse len) same refuses other = refuses.3 ∙ same
calm-made a b c init_fault.Disk same refuses other = absurd (other refl)

-- a file that isn't attached
module _ (name : List ℕ) (make : Bool) (a b : Drive) (why : Refusal) (refuses : RefusesAttach name make a b why) where
  pub cause-attached : IsMakingCause a b why
  cause-attached = elim refuses.cause [
    | inl disk ↦ subst (IsMakingCause a b) (sym disk.0) disk.1
    | inr memory ↦ subst (IsMakingCause a b) (sym memory) tt
  ]

  pub decided-attached : IsDecidedBy {T = SeenLog} most_inspected a b (Err why)
  decided-attached = elim refuses.cause [
    | inl disk ↦ record { exact = λ bytes what told shown wrong calm. absurd (calm disk.1); whole = λ bytes w cells told known text few calm. absurd (calm disk.1) }
    | inr memory ↦ record { exact = λ bytes what told shown wrong calm. inr memory; whole = λ bytes w cells told known text few calm. memory }
  ]

-- what was found behind an attach
pub found-after : (w most : ℕ) (a b : Drive) (seen : Seen) → Stays a b → IsFound 1 w most b seen → IsFound 1 w most a seen
found-after w most a b seen stays found =
    record { cells = found.cells; legal = found.legal; few = found.few; finds = found.finds; wanted = found.wanted; recovers = λ bytes told. found.recovers bytes (stays.bytes ∙ told); named = λ bytes told. found.named bytes (stays.bytes ∙ told) }

-- the count stays where the drive isn't told to have failed
pub calm-read : (a b c : ℕ) (fault : OpenFault) → b ≡ a → (fault ≢ open_fault.Disk → c ≡ b) → status_of (log_refusal fault) ≢ 7 → c ≡ a
calm-read a b c open_fault.NotLog same calm other = calm (λ e. cc e) ∙ same
calm-read a b c (open_fault.OldLog version width) same calm other = calm (λ e. cc e) ∙ same
calm-read a b c (open_fault.Damaged cell cause) same calm other = calm (λ e. cc e) ∙ same
calm-read a b c open_fault.Disk same calm other = absurd (other refl)
calm-read a b c open_fault.Memory same calm other = calm (λ e. cc e) ∙ same
calm-read a b c (open_fault.TooLong limit) same calm other = calm (λ e. cc e) ∙ same

-- what is told behind so many cells of a log may be
pub may-behind : (oldest most number : ℕ) (e : OpenFault) → IsBehind most number e → MayTell oldest None most e
may-behind oldest most number open_fault.NotLog behind = absurd behind
may-behind oldest most number (open_fault.OldLog version width) behind = absurd behind
may-behind oldest most number (open_fault.Damaged n why) behind = omega (arith, behind.0, behind.1)
may-behind oldest most number (open_fault.TooLong limit) behind = behind.0
may-behind oldest most number open_fault.Disk behind = tt
may-behind oldest most number open_fault.Memory behind = tt
