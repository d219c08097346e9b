-- A watch along the cells of a log.
use Rattle.std.proofs.Common.{◌≡◌, inl, inr, false, ℕ, ◌<◌, ◌≤◌, List, [], ◌∷◌, ◌++◌, length, map, Some, None, Result, Ok, Err, refl, sym, ◌∙◌, ap, subst, arith, length-append}
use Rattle.causes.specs.Causes.{Rose}
use Rattle.std.specs.Prelude.{MatchResult}
use Rattle.std.specs.Result.{IsErrAnd}
use Rattle.disk_trait.specs.Drive.{AttachedOne, Drive, Stays}
use Rattle.disk_trait.proofs.Calls.{attached-still}
use Rattle.cell_format.specs.declared.cell.Cell.{Cell}
use Rattle.log_state.specs.Recovers.{Recovers}
use Rattle.recovery.specs.declared.seen.OpenFault.{OpenFault}
use Rattle.recovery.specs.declared.seen.OpenFault.TheVariants as fault
use Rattle.recovery.specs.declared.walked.Walked.{Walked}
use Rattle.recovery.specs.Faults.{BeginsWith, IsFault}
use Rattle.recovery.specs.Found.{IsFree}
use Rattle.recovery.specs.Reading.{IsBehind, OnlyReads}
use Rattle.recovery.specs.Walks.{ComesTo, WalkView}
use Rattle.recovery.specs.Walked.{object_of}
use Rattle.recovery.specs.Widths.{IsWidthOf}
use Rattle.recovery.proofs.ReadingLemmas.{behind_cells}
use Rattle.recovery.proofs.Exclusive.{recovers_wanted, told_fault, told_free}
use Rattle.recovery.proofs.WidthLemmas.{fault_at, fault_seen, recovers_width, same_width}
use Rattle.recovery.proofs.OnlyReading.{stays-trans}
use Rattle.run_ends.specs.declared.refusals.Refusal.{Refusal}
use Rattle.run_ends.specs.Limits.{most_inspected, oldest_read}
use Rattle.run_ends.specs.Status.{status_of}
use Rattle.run_ends.proofs.AttachFacts.{attaches-one}
use Rattle.log_run.proofs.DriveSteps.{may-behind}
use Rattle.fence_watch.specs.declared.fences.Fence.{Fence}
use Rattle.fence_watch.specs.Crossings.{crossings}
use Rattle.fence_watch.specs.Alongs.{IsLed}
use Rattle.fence_watch.specs.Tallies.{IsPast, TalliesCells, TallyView, count_behind, events_told}
use Rattle.fence_watch.specs.Watches.{most_events}
use Rattle.fence_watch.proofs.Tallying.{tallies-step}
use Rattle.fence_watch.specs.declared.watch.WatchFault.{WatchFault}
use Rattle.fence_watch.specs.declared.watch.WatchFault.TheVariants as watch_fault
use Rattle.watch_run.specs.Watching.{IsCrowded, ShowsCrowd}
use Rattle.watch_run.specs.inside.Along.{FindsAlong, IsCalm, RefusesAttached, RefusesFile, RunsAlong, RunsFile, watch_refusal}
use Rattle.watch_run.proofs.Crowds.{crowd-damaged, crowd-long}
use Rattle.watch_run.proofs.Stops.{FailsAlong, calm-trans, refuses-crowd, refuses-later, refuses-memory}

-- A call that went well.
pub calm-reads : {T : Type 0} (old new : Drive) (x : T) → OnlyReads old new (Ok x) → IsCalm old new
calm-reads old new x reads = record { stays = reads.stays; same = reads.same; file = reads.file }

-- After these cells of a walk.
module _ {D : Type 0} (w : ℕ) (cells : List Cell) (drive : Drive) (walk : WalkView D) (came : ComesTo w most_inspected cells drive walk) where
  pub begins-there : (bytes : List ℕ) → drive.bytes ≡ Some bytes → (tail : List ℕ) × BeginsWith walk.reading.replay.version w cells tail bytes × (1 ≤ length tail)
  begins-there bytes told =
      let at = came.read.begins bytes told in
      let begins : BeginsWith walk.reading.replay.version w cells (walk.reading.rest ++ at.1) bytes = subst (λ u. BeginsWith walk.reading.replay.version u cells (walk.reading.rest ++ at.1) bytes) came.width at.2 in
      let some : 1 ≤ length (walk.reading.rest ++ at.1) = omega (arith, at.0, came.room, (behind_cells walk.reading.replay.version w cells (walk.reading.rest ++ at.1) bytes begins).1) in
      (walk.reading.rest ++ at.1, begins, some)

-- A watch that followed a log from its first cell on. `first` is the drive at the start, and `after` at the end.
module _ {D : Type 0} (w : ℕ) (fences : List Fence) (first after : Drive) (walk : WalkView D) (v : TallyView) (width : IsWidthOf first w) (few : length v.events ≤ most_events) where
  -- The cells have no more crossings than are kept.
  never : (cells : List Cell) → TalliesCells [] cells fences v → most_events < length (crossings cells fences) → ⊥
  never cells tallies over = omega (arith, few, over, ap length tallies.events)

  -- The end of the log.
  pub finds-all : IsLed w most_inspected [] [] [] fences first after walk v (Ok None) → FindsAlong fences first v
  finds-all led = record {
    width = w;
    cells = led.cells;
    found = record { known = width.known; legal = led.tells.0.legal; few = led.tells.0.few; recovers = led.tells.1 };
    tallies = led.tallies;
    under = few;
  }

  -- A fault in the log.
  module _ (e : OpenFault) (led : IsLed w most_inspected [] [] [] fences first after walk v (Err e)) (reads : OnlyReads {T = Unit {0}} first after (Err e)) where
    rose : e ≡ fault.Disk → Rose first.faults after.faults
    rose disk = reads.failed (ap (λ (f : OpenFault). Err f) disk)

    behind-free : (f : OpenFault) → e ≡ f → IsBehind most_inspected (length led.cells) f → (bytes : List ℕ) → first.bytes ≡ Some bytes → IsFault oldest_read (Some w) most_inspected bytes f → IsCrowded fences bytes → IsFree first after f
    behind-free fault.NotLog same behind bytes told is crowd = absurd behind
    behind-free (fault.OldLog version width) same behind bytes told is crowd = absurd behind
    behind-free (fault.Damaged n why) same behind bytes told is crowd =
        let at = begins-there w led.cells after walk led.tells.0 bytes (reads.stays.bytes ∙ told) in
        absurd (never led.cells led.tallies (crowd-damaged fences bytes crowd walk.reading.replay.version w led.cells at.0 n why at.1 behind.0 is))
    behind-free (fault.TooLong limit) same behind bytes told is crowd =
        let at = begins-there w led.cells after walk led.tells.0 bytes (reads.stays.bytes ∙ told) in
        absurd (never led.cells led.tallies (crowd-long fences bytes crowd walk.reading.replay.version w led.cells at.0 at.1 behind.1 is.1))
    behind-free fault.Disk same behind bytes told is crowd = inr (rose same)
    behind-free fault.Memory same behind bytes told is crowd = inl refl

    pub fails-led : FailsAlong fences first after e
    fails-led = record {
      may = may-behind oldest_read most_inspected (length led.cells) e led.tells.1;
      wrong = λ bytes told. fault_seen oldest_read most_inspected bytes w (width.named bytes told) e (led.tells.2 bytes told);
      crowd = λ bytes told crowd. behind-free e refl led.tells.1 bytes told (led.tells.2 bytes told) crowd;
      exact = λ bytes f told shown is.
          told_fault oldest_read w most_inspected (omega arith) bytes first after e f (led.tells.2 bytes told) rose shown (fault_at oldest_read most_inspected bytes w (width.named bytes told) f is);
      whole = λ bytes u cells told known recovers short.
          let same : u ≡ w = same_width u w bytes (recovers_width u cells bytes known recovers) (width.named bytes told) in
          told_free oldest_read w most_inspected (omega arith) bytes first after e cells (led.tells.2 bytes told) rose (subst (λ n. Recovers n cells bytes) same recovers) (recovers_wanted u cells bytes recovers) short;
      reads = reads;
    }

  -- A cell whose step the watch didn't make.
  module _ (walked : Walked) (led : IsLed w most_inspected [] [] [] fences first after walk v (Ok (Some walked))) (calm : IsCalm first after) where
    -- With this cell there are too many crossings.
    crowd-now : IsPast walked v → ShowsCrowd fences first
    crowd-now over bytes told =
        let at = begins-there w (led.cells ++ walked.cell ∷ []) after walk led.tells.0 bytes (calm.stays.bytes ∙ told) in
        let next : TallyView = record { counts = map (count_behind (object_of walked.cell) walked.before walked.after) v.counts; events = v.events ++ events_told walked v.counts } in
        let tallies : TalliesCells [] (led.cells ++ walked.cell ∷ []) fences next = tallies-step w [] led.cells fences walked v next led.tallies led.tells.1 (record { events = refl; counts = refl }) in
        record {
          version = walk.reading.replay.version;
          wanted = led.tells.0.wanted;
          width = w;
          known = width.known;
          cells = led.cells ++ walked.cell ∷ [];
          tail = at.0;
          begins = at.1;
          some = at.2;
          few = led.tells.0.few;
          over = omega (arith, over, ap length tallies.events, length-append v.events (events_told walked v.counts));
        }

    pub stops-led : (why : WatchFault) → (why ≡ watch_fault.TooMany → IsPast walked v) → RefusesAttached fences first after (watch_refusal why)
    stops-led watch_fault.TooMany over = record { refuses = refuses-crowd fences first after calm (crowd-now (over refl)); file = calm.file }
    stops-led watch_fault.Memory over = record { refuses = refuses-memory fences first after calm.stays calm.same; file = calm.file }

-- What holds of a drive that was only read before.
module _ (fences : List Fence) (a b c : Drive) (calm : IsCalm a b) where
  finds-later : (v : TallyView) → FindsAlong fences b v → FindsAlong fences a v
  finds-later v finds = record {
    width = finds.width;
    cells = finds.cells;
    found = record { known = finds.found.known; legal = finds.found.legal; few = finds.found.few; recovers = λ bytes told. finds.found.recovers bytes (calm.stays.bytes ∙ told) };
    tallies = finds.tallies;
    under = finds.under;
  }

  pub runs-later : (v : TallyView) → RunsAlong fences b c v → RunsAlong fences a c v
  runs-later v runs = record { finds = finds-later v runs.finds; calm = calm-trans a b c calm runs.calm }

  pub refused-later : (why : Refusal) → RefusesAttached fences b c why → RefusesAttached fences a c why
  refused-later why refused = record { refuses = refuses-later a b c calm.stays calm.same fences why refused.refuses; file = λ all told. calm.file all (refused.file all told) }

-- After the attach of a file.
module _ (fences : List Fence) (file : List ℕ) (a b c : Drive) (stays : Stays a b) (same : b.faults ≡ a.faults) (attached : AttachedOne file false a b) where
  pub runs-file : (v : TallyView) → RunsAlong fences b c v → RunsFile fences file a c v
  runs-file v runs =
      let finds = runs.finds in
      record {
        finds = record {
          width = finds.width;
          cells = finds.cells;
          found = record { known = finds.found.known; legal = finds.found.legal; few = finds.found.few; recovers = λ bytes told. finds.found.recovers bytes (stays.bytes ∙ told) };
          tallies = finds.tallies;
          under = finds.under;
        };
        read = record { attached = attached-still file false a b c attached runs.calm.file; calm = runs.calm.same ∙ same };
        stays = stays-trans a b c stays runs.calm.stays;
      }

  pub refused-file : (why : Refusal) → RefusesAttached fences b c why → RefusesFile fences file a c why
  refused-file why refused = record {
    refuses = refuses-later a b c stays same fences why refused.refuses;
    attached = attaches-one file false a c (status_of why) (attached-still file false a b c attached refused.file);
  }

-- The same for either result.
pub match-as : {T E : Type 0} {P Q : T → Type 0} {R S : E → Type 0} (result : Result T E) → ((x : T) → P x → Q x) → ((e : E) → R e → S e) → MatchResult result P R → MatchResult result Q S
match-as (Ok x) f g holds = f x holds
match-as (Err e) f g holds = g e holds

-- A refusal, passed on.
pub passed-on : {T : Type 0} (P : T → Type 0) (R : Refusal → Type 0) (result : Result T Refusal) (why : Refusal) → IsErrAnd result (λ other. other ≡ why) → R why → MatchResult result P R
passed-on P R (Ok x) why same holds = absurd same
passed-on P R (Err other) why same holds = subst R (sym same) holds
