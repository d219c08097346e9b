-- How a watch ends.
use Rattle.std.proofs.Common.{◌≡◌, ◌⊎◌, inl, inr, ⊎_elim, ◌∙◌, ℕ, false, List, [], length, Some, Result, Ok, Err, refl, sym, ap, subst, arith}
use Rattle.causes.specs.Causes.{Rose, Counts}
use Rattle.io_edge.specs.Puts.{Puts}
use Rattle.io_edge.specs.Streams.{Input, Output}
use Rattle.recovery.proofs.Exclusive.{recovers_no_fault, recovers_wanted}
use Rattle.recovery.proofs.WidthLemmas.{fault_at, recovers_width}
use Rattle.csv_rows.specs.declared.rows.RowsFault.{RowsFault}
use Rattle.run_ends.specs.declared.refusals.Refusal.{Refusal}
use Rattle.run_ends.specs.declared.refusals.Refusal.TheVariants as refusal
use Rattle.run_ends.specs.Limits.{most_inspected, oldest_read}
use Rattle.run_ends.specs.Ends.{Ends, Done, Targets}
use Rattle.run_ends.specs.LogFaults.{log_refusal}
use Rattle.run_ends.specs.Status.{status_of, written_status}
use Rattle.run_ends.specs.Taking.{Refuses}
use Rattle.run_ends.specs.Tables.{IsTableCause, judged_by}
use Rattle.run_ends.proofs.AttachFacts.{attaches-one, attaches-as}
use Rattle.log_run.proofs.MakingEnds.{ends-writing, whole-writing}
use Rattle.fence_watch.specs.declared.fences.Fence.{Fence}
use Rattle.watch_run.specs.FenceRows.{fences_of_text}
use Rattle.fence_watch.specs.Tallies.{TallyView}
use Rattle.watch_run.specs.WatchLines.{watched_text}
use Rattle.watch_run.specs.Watching.{EndsWatching, GoesAlong, IsDecidedAlong, Watches}
use Rattle.watch_run.specs.inside.Along.{RefusesFile, RunsFile}
use Rattle.watch_run.specs.inside.Lines.{view_text}
use Rattle.watch_run.proofs.Crowds.{crowd-recovers}
use Rattle.watch_run.proofs.Texts.{text-tallied}

-- All lines were written, or only some of them.
pub watched-all : {D T E : Type 0} (fences : List Fence) (file : List ℕ) (old new : Targets D) (v : TallyView) (wrote : Result T E) → RunsFile fences file old.drive new.drive v
    → Puts old.output.taken new.output.taken (view_text v) wrote → Counts old.output.faults new.output.faults wrote → EndsWatching fences file old new (written_status wrote)
watched-all {T = T} {E = E} fences file old new v wrote runs puts counts =
    let finds = runs.finds in
    let text : view_text v ≡ watched_text fences finds.width finds.cells = text-tallied finds.width finds.cells fences v finds.tallies in
    let told : Puts old.output.taken new.output.taken (watched_text fences finds.width finds.cells) wrote = subst (λ (l : List ℕ). Puts old.output.taken new.output.taken l wrote) text puts in
    record {
      ends = inl (finds.width, finds.cells, finds.found, ends-writing (watched_text fences finds.width finds.cells) old.output new.output wrote told counts);
      decided = record {
        over = λ bytes known crowd calm. absurd (omega (arith, finds.under, ap length finds.tallies.events, crowd-recovers fences bytes crowd finds.width finds.cells (finds.found.recovers bytes known) finds.found.few));
        exact = λ bytes fault known shown is none calm.
            let recovers = finds.found.recovers bytes known in
            absurd
            (recovers_no_fault oldest_read finds.width most_inspected (omega arith) bytes finds.cells fault recovers (recovers_wanted finds.width finds.cells bytes recovers) finds.found.few shown
            (fault_at oldest_read most_inspected bytes finds.width (recovers_width finds.width finds.cells bytes finds.found.known recovers) fault is));
        whole = λ bytes w cells known width recovers few under calm quiet. inl (whole-writing old.output.faults new.output.faults wrote counts quiet);
      };
      stays = runs.stays;
      calm = λ other. runs.read.calm;
      attached = attaches-one file false old.drive new.drive (written_status wrote) runs.read.attached;
    }

-- The line of a refusal, if it is another refusal or a lack of memory.
named : (why other : Refusal) (status : ℕ) (before after : Output) → Refuses why status before after → (why ≡ other) ⊎ (why ≡ refusal.Memory) → Refuses other status before after ⊎ (status ≡ 9)
named why other status before after refused = ⊎_elim (λ e. inl (subst (λ (r : Refusal). Refuses r status before after) e refused)) (λ e. inr (refused.status_is ∙ ap status_of e))

-- The line of why they weren't was written.
pub watched-none : {D : Type 0} (fences : List Fence) (file : List ℕ) (old new : Targets D) (why : Refusal) (status : ℕ) → RefusesFile fences file old.drive new.drive why → Refuses why status old.output new.output
    → EndsWatching fences file old new status
watched-none fences file old new why status none refused =
    let is = refused.status_is in
    let along = none.refuses in
    record {
      ends = inr (why, along.cause, refused);
      decided = record {
        over = λ bytes told crowd calm. named why refusal.LongEvents status old.output new.output refused (along.over bytes told crowd calm);
        exact = λ bytes fault told shown wrong free calm. named why (log_refusal fault) status old.output new.output refused (along.exact bytes fault told shown wrong free calm);
        whole = λ bytes w cells told known recovers few under calm quiet. inr (is ∙ ap status_of (along.whole bytes w cells told known recovers few under calm));
      };
      stays = along.stays;
      calm = λ seven. along.calm (λ e. seven (is ∙ e));
      attached = attaches-as file false old.drive new.drive status (status_of why) is none.attached;
    }

-- A fault in the bytes of a source is reported, if its fault count didn't rise and memory didn't run out.
module _ {T : Type 0} (read : List ℕ → Result T RowsFault) (before after : Input) (calm : Rose before.faults after.faults → ⊥) (bytes : List ℕ) (told : before.left ≡ Some bytes) (result : Result T Refusal) (judged : judged_by read bytes ≡ result) where
  abbrev IsIt : Refusal → Type 0
  IsIt why = (result ≡ Err why) ⊎ (why ≡ refusal.Memory)

  shown : (why : Refusal) → judged_by read bytes ≡ Err why → IsIt why
  shown why is = inl (sym judged ∙ is)

  table-named : (why : Refusal) → IsTableCause read before after why → IsIt why
  table-named refusal.Source cause = absurd (calm cause)
  table-named refusal.Memory cause = inr refl
  table-named refusal.Header cause = shown refusal.Header (cause bytes told)
  table-named (refusal.Csv row) cause = shown (refusal.Csv row) (cause bytes told)
  table-named (refusal.Field row column) cause = shown (refusal.Field row column) (cause bytes told)
  table-named refusal.LongInput cause = shown refusal.LongInput (cause bytes told)
  table-named refusal.ManyRows cause = shown refusal.ManyRows (cause bytes told)
  table-named refusal.Usage cause = absurd cause
  table-named refusal.NotLog cause = absurd cause
  table-named (refusal.OldLog version width) cause = absurd cause
  table-named (refusal.Damaged cell what) cause = absurd cause
  table-named (refusal.Disk cell) cause = absurd cause
  table-named refusal.LongLog cause = absurd cause
  table-named refusal.LongEvents cause = absurd cause
  table-named (refusal.Strange cell) cause = absurd cause
  table-named (refusal.InUse len) cause = absurd cause

ok-err : {T E : Type 0} (x : T) (e : E) → ◌≡◌ {A = Result T E} (Ok x) (Err e) → ⊥
ok-err x e is = cc is

same-err : {T E : Type 0} (e f : E) → ◌≡◌ {A = Result T E} (Err e) (Err f) → e ≡ f
same-err e f is = cc is

same-ok : {T E : Type 0} (x y : T) → ◌≡◌ {A = Result T E} (Ok x) (Ok y) → x ≡ y
same-ok x y is = cc is

-- A run of `watch` keeps its promise.
module _ {S D : Type 0} (file : List ℕ) (done : Done (Ends S D)) where
  bad-input : (bytes : List ℕ) (why : Refusal) → done.old.input.left ≡ Some bytes → judged_by fences_of_text bytes ≡ Err why → (Rose done.old.input.faults done.new.input.faults → ⊥) → GoesAlong file done.old.input done.new.input done.old.to done.new.to done.status
      → Refuses why done.status done.old.to.output done.new.to.output ⊎ (done.status ≡ 9)
  bad-input bytes why told judged calm (inr fenced) = absurd (ok-err fenced.fences why (sym (fenced.read.items_are bytes told) ∙ judged))
  bad-input bytes why told judged calm (inl unfenced) =
      let other = unfenced.refused.0 in
      named other why done.status done.old.to.output done.new.to.output unfenced.refused.2
      (⊎_elim (λ e. inl (sym (same-err why other e))) inr (table-named fences_of_text done.old.input done.new.input calm bytes told (Err why) judged other unfenced.refused.1))

  good-input : (bytes : List ℕ) (fences : List Fence) → done.old.input.left ≡ Some bytes → judged_by fences_of_text bytes ≡ Ok fences → (Rose done.old.input.faults done.new.input.faults → ⊥) → GoesAlong file done.old.input done.new.input done.old.to done.new.to done.status
      → IsDecidedAlong fences done.old.to.drive done.new.to.drive done.status done.old.to.output done.new.to.output
  good-input bytes fences told judged calm (inr fenced) =
      let same : fenced.fences ≡ fences = same-ok fenced.fences fences (sym (fenced.read.items_are bytes told) ∙ judged) in
      subst (λ (fs : List Fence). IsDecidedAlong fs done.old.to.drive done.new.to.drive done.status done.old.to.output done.new.to.output) same fenced.ends.decided
  good-input bytes fences told judged calm (inl unfenced) =
      let other = unfenced.refused.0 in
      let memory : other ≡ refusal.Memory = ⊎_elim (λ e. absurd (ok-err fences other e)) (λ e. e) (table-named fences_of_text done.old.input done.new.input calm bytes told (Ok fences) judged other unfenced.refused.1) in
      let nine : done.status ≡ 9 = unfenced.refused.2.status_is ∙ ap status_of memory in
      record {
        over = λ bytes told crowd steady. inr nine;
        exact = λ bytes fault told shown is none steady. inr nine;
        whole = λ bytes w cells told known recovers few under steady quiet. inr nine;
      }

  pub watches-of : GoesAlong file done.old.input done.new.input done.old.to done.new.to done.status → done.history ≡ [] → done.new.to.other ≡ done.old.to.other → Watches file done
  watches-of goes none other = record {
    goes = goes;
    none = none;
    other = other;
    input = λ bytes why told judged calm. bad-input bytes why told judged calm goes;
    log = λ bytes fences told judged calm. good-input bytes fences told judged calm goes;
  }
