-- How a making ends.
use Rattle.std.proofs.Common.{◌≡◌, ◌⊎◌, inl, inr, ◌∙◌, true, ℕ, ◌<◌, ◌≤◌, List, length, Some, None, Result, Ok, Err, refl, sym, subst, arith}
use Rattle.std.specs.Prelude.{◌≢◌}
use Rattle.causes.specs.Causes.{Rose, Counts}
use Rattle.io_edge.specs.Puts.{Puts}
use Rattle.io_edge.specs.Streams.{Output}
use Rattle.disk_trait.specs.Drive.{Drive, AttachedOne}
use Rattle.recovery.specs.Making.{Makes}
use Rattle.run_ends.specs.declared.refusals.Refusal.{Refusal}
use Rattle.run_ends.specs.declared.refusals.Refusal.TheVariants as refusal
use Rattle.run_ends.specs.LogLines.{made_line}
use Rattle.run_ends.specs.Ends.{Targets}
use Rattle.run_ends.specs.Ending.{EndsWriting}
use Rattle.run_ends.specs.Attaching.{AttachesOnce}
use Rattle.run_ends.proofs.AttachFacts.{attaches-one, attaches-as}
use Rattle.run_ends.proofs.Ends.{no-lines}
use Rattle.run_ends.specs.Status.{status_of, written_status}
use Rattle.run_ends.specs.Taking.{Refuses}
use Rattle.log_run.specs.Making.{IsMakingCause, LeavesFile, EndsMaking}

-- a line that was put, or couldn't be
pub ends-writing : {T E : Type 0} (text : List ℕ) (old new : Output) (wrote : Result T E) → Puts old.taken new.taken text wrote → Counts old.faults new.faults wrote → EndsWriting text (written_status wrote) old new
ends-writing text old new (Ok x) puts counts = inl (refl, puts, counts.same)
ends-writing text old new (Err e) puts counts = inr (refl, counts.failed, (puts.0, puts.2))

pub whole-writing : {T E : Type 0} (before now : ℕ) (wrote : Result T E) → Counts before now wrote → (Rose before now → ⊥) → written_status wrote ≡ 0
whole-writing before now (Ok x) counts calm = refl
whole-writing before now (Err e) counts calm = absurd (calm counts.failed)

pub not-ten : {T E : Type 0} (wrote : Result T E) → written_status wrote ≡ 10 → ⊥
not-ten (Ok x) ten = omega (arith, ten)
not-ten (Err e) ten = omega (arith, ten)

-- a log was made
pub ends-made : {D T E : Type 0} (file : List ℕ) (w : ℕ) (old new : Targets D) (wrote : Result T E) → Puts old.output.taken new.output.taken made_line wrote → Counts old.output.faults new.output.faults wrote
    → Makes w old.drive new.drive → AttachedOne file true old.drive new.drive → LeavesFile old.drive new.drive → EndsMaking file w old new (written_status wrote)
ends-made file w old new wrote puts counts made attached leaves = record {
  ends = inl (made, ends-writing made_line old.output new.output wrote puts counts);
  in_use = λ ten. absurd (not-ten wrote ten);
  exact = λ bytes told long calm. let small = (made.log bytes told).0 in absurd (omega (arith, small, long));
  whole = λ bytes told small calm quiet. inl (whole-writing old.output.faults new.output.faults wrote counts quiet);
  leaves = leaves;
  text = λ bytes told lines. (made.log bytes told).1;
  calm = λ other. made.same;
  attached = attaches-one file true old.drive new.drive (written_status wrote) attached;
}

-- what the bytes say of a refusal
pub record Bears (old new : Drive) (status : ℕ) : Type 0 where
  pub in_use : status ≡ 10 → (bytes : List ℕ) → old.bytes ≡ Some bytes → 17 < length bytes
  pub exact : (bytes : List ℕ) → old.bytes ≡ Some bytes → 17 < length bytes → (Rose old.faults new.faults → ⊥) → (status ≡ 10) ⊎ (status ≡ 9)
  pub whole : (bytes : List ℕ) → old.bytes ≡ Some bytes → length bytes ≤ 17 → (Rose old.faults new.faults → ⊥) → (status ≡ 0) ⊎ (status ≡ 9)

pub bears : (old new : Drive) (why : Refusal) → IsMakingCause old new why → Bears old new (status_of why)
bears old new refusal.Usage cause = absurd cause
bears old new refusal.Header cause = absurd cause
bears old new (refusal.Csv row) cause = absurd cause
bears old new (refusal.Field row column) cause = absurd cause
bears old new refusal.NotLog cause = absurd cause
bears old new (refusal.OldLog version width) cause = absurd cause
bears old new (refusal.Damaged cell what) cause = absurd cause
bears old new refusal.Source cause = absurd cause
bears old new (refusal.Disk (Some cell)) cause = absurd cause
bears old new (refusal.Disk None) rose = record { in_use = λ ten. absurd (omega (arith, ten)); exact = λ bytes told long calm. absurd (calm rose); whole = λ bytes told small calm. absurd (calm rose) }
bears old new refusal.LongInput cause = absurd cause
bears old new refusal.ManyRows cause = absurd cause
bears old new refusal.LongLog cause = absurd cause
bears old new refusal.LongEvents cause = absurd cause
bears old new refusal.Memory cause = record { in_use = λ ten. absurd (omega (arith, ten)); exact = λ bytes told long calm. inr refl; whole = λ bytes told small calm. inr refl }
bears old new (refusal.InUse len) cause = record {
  in_use = λ ten bytes told. subst (λ n. 17 < n) (cause.1 bytes told) cause.0;
  exact = λ bytes told long calm. inl refl;
  whole = λ bytes told small calm. let long : 17 < length bytes = subst (λ n. 17 < n) (cause.1 bytes told) cause.0 in absurd (omega (arith, long, small));
}
bears old new (refusal.Strange cell) cause = absurd cause

-- none was made
pub ends-unmade : {D : Type 0} (file : List ℕ) (w : ℕ) (old new : Targets D) (why : Refusal) (status : ℕ) → Refuses why status old.output new.output → IsMakingCause old.drive new.drive why
    → AttachesOnce file true old.drive new.drive (status_of why) → (status_of why ≢ 7 → new.drive.faults ≡ old.drive.faults) → LeavesFile old.drive new.drive → EndsMaking file w old new status
ends-unmade file w old new why status refuses cause attached calm leaves =
    let is = refuses.status_is in
    let it = bears old.drive new.drive why cause in
    record {
      ends = inr (why, cause, refuses);
      in_use = λ ten. it.in_use (sym is ∙ ten);
      exact = λ bytes told long steady. rw is (it.exact bytes told long steady);
      whole = λ bytes told small steady quiet. rw is (it.whole bytes told small steady);
      leaves = leaves;
      text = λ bytes told lines. absurd (no-lines why status is lines);
      calm = λ other. calm (λ e. other (is ∙ e));
      attached = attaches-as file true old.drive new.drive status (status_of why) is attached;
    }
