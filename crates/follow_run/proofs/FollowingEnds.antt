-- How a run of `follow` ends.
use Rattle.std.proofs.Common.{◌≡◌, ◌⊎◌, inl, inr, ⊎_elim, ◌∙◌, ℕ, ◌+◌, ◌<◌, ◌≤◌, Bool, false, List, length, Some, Result, Ok, Err, refl, sym, ap, subst}
use Rattle.std.specs.Prelude.{◌≢◌, if◌then◌else◌}
use Rattle.std.proofs.lemmas.Bool.{lt-ltb, le-ltb}
use Rattle.causes.specs.Causes.{Rose}
use Rattle.io_edge.specs.Reads.{ConsumesUpTo}
use Rattle.io_edge.specs.Streams.{Input}
use Rattle.cell_format.specs.declared.cell.Cell.{Cell}
use Rattle.csv_rows.specs.declared.rows.RowsFault.{RowsFault}
use Rattle.csv_rows.specs.declared.rows.RowsFault.TheVariants as rows_fault
use Rattle.follower.specs.declared.turns.Turn.{Turn}
use Rattle.follow_run.specs.TurnRows.{turns_of_text}
use Rattle.run_ends.specs.declared.refusals.Refusal.{Refusal}
use Rattle.run_ends.specs.declared.refusals.Refusal.TheVariants as refusal
use Rattle.run_ends.specs.Judged.{refusal_of}
use Rattle.run_ends.specs.Limits.{most_bytes}
use Rattle.run_ends.specs.Ends.{Targets}
use Rattle.run_ends.specs.Status.{status_of}
use Rattle.run_ends.specs.Tables.{or_refusal, IsTableCause, ReadsTable, HasBytes, IsBytesCause}
use Rattle.run_ends.specs.Taking.{Refuses}
use Rattle.run_ends.proofs.AttachFacts.{attaches-one, attaches-as}
use Rattle.follow_run.specs.Leading.{RecoversLeader, ReadsLeader, LosesLeader}
use Rattle.follow_run.specs.Replica.{EndsReplica}
use Rattle.follow_run.specs.Following.{judged_turns, AreDecided, EndsFollowing, GoesFollowing}

-- The leader's cells aren't read.
pub ends-lost : {D : Type 0} (file name : List ℕ) (turns : List Turn) (old new : Targets D) (why : Refusal) (status : ℕ) → LosesLeader file old.drive new.drive why → new.other ≡ old.other
    → Refuses why status old.output new.output → EndsFollowing file name turns old new status
ends-lost file name turns old new why status loses other refuses =
    let is = refuses.status_is in
    let nine : (v : ℕ) (all : List Cell) → RecoversLeader v all old.drive → (Rose old.drive.faults new.drive.faults → ⊥) → status ≡ 9 = λ v all recovers calm. is ∙ ap status_of (loses.whole v all recovers calm) in
    record {
      ends = inl (record { refused = (why, loses.cause, refuses); other = other });
      decided = record {
        exact = λ bytes e told shown wrong calm. ⊎_elim (λ same. inl (subst (λ (r : Refusal). Refuses r status old.output new.output) same refuses)) (λ memory. inr (is ∙ ap status_of memory)) (loses.exact bytes e told shown wrong calm);
        replica = λ v all bytes e recovers told long shown wrong calm. inr (nine v all recovers calm.leader);
        strange = λ v all bytes cell recovers told wrong calm. inr (nine v all recovers calm.leader);
        whole = λ v all bytes first recovers told taken calm quiet. inr (nine v all recovers calm.leader);
      };
      stays = loses.stays;
      calm = λ seven. loses.read.calm (λ e. seven (is ∙ e));
      attached = attaches-as file false old.drive new.drive status (status_of why) is loses.read.attached;
    }

-- The leader's cells are read, and were followed.
pub ends-read : {D : Type 0} (file name : List ℕ) (turns : List Turn) (old new : Targets D) (w : ℕ) (cells : List Cell) (status : ℕ) → ReadsLeader file w old.drive new.drive cells
    → EndsReplica w cells turns name old.other_drive new.other_drive status old.output new.output → EndsFollowing file name turns old new status
ends-read file name turns old new w cells status reads ends =
    let by : (v : ℕ) (all : List Cell) → RecoversLeader v all old.drive → EndsReplica v all turns name old.other_drive new.other_drive status old.output new.output =
    λ v all recovers. let only = reads.has.only v all recovers in
    subst (λ (u : ℕ). EndsReplica u all turns name old.other_drive new.other_drive status old.output new.output) only.0
    (subst (λ (l : List Cell). EndsReplica w l turns name old.other_drive new.other_drive status old.output new.output) only.1 ends) in
    record {
      ends = inr (record { width = w; cells = cells; found = reads.has.found; read = reads.read; ends = ends });
      decided = record {
        exact = λ bytes e told shown wrong calm. absurd (reads.has.sound bytes e told shown wrong);
        replica = λ v all bytes e recovers told long shown wrong calm. (by v all recovers).decided.exact bytes e told long shown wrong calm.replica;
        strange = λ v all bytes cell recovers told wrong calm. (by v all recovers).decided.strange bytes cell told wrong calm.replica;
        whole = λ v all bytes first recovers told taken calm quiet. (by v all recovers).decided.whole bytes first told taken calm.replica quiet;
      };
      stays = reads.stays;
      calm = λ seven. reads.read.calm;
      attached = attaches-one file false old.drive new.drive status reads.read.attached;
    }

-- The status for a lack of memory says nothing about the files.
undecided : {D : Type 0} (old new : Targets D) (status : ℕ) → status ≡ 9 → AreDecided old new status
undecided old new status nine = record {
  exact = λ bytes e told shown wrong calm. inr nine;
  replica = λ v all bytes e recovers told long shown wrong calm. inr nine;
  strange = λ v all bytes cell recovers told wrong calm. inr nine;
  whole = λ v all bytes first recovers told taken calm quiet. inr nine;
}

ok-err : {T : Type 0} (x : T) (why : Refusal) → ◌≡◌ {A = Result T Refusal} (Ok x) (Err why) → ⊥
ok-err x why same = cc same

err-same : {T : Type 0} (a b : Refusal) → ◌≡◌ {A = Result T Refusal} (Err a) (Err b) → a ≡ b
err-same a b same = cc same

-- What a cause says about known bytes: the source failed, memory ran out, or the bytes have this fault.
told-cause : (before after : Input) (why : Refusal) (bytes : List ℕ) → before.left ≡ Some bytes → IsTableCause turns_of_text before after why
    → (Rose before.faults after.faults ⊎ (why ≡ refusal.Memory)) ⊎ (judged_turns bytes ≡ Err why)
told-cause before after refusal.Usage bytes told is = absurd is
told-cause before after refusal.Header bytes told is = inr (is bytes told)
told-cause before after (refusal.Csv row) bytes told is = inr (is bytes told)
told-cause before after (refusal.Field row column) bytes told is = inr (is bytes told)
told-cause before after refusal.NotLog bytes told is = absurd is
told-cause before after (refusal.OldLog version width) bytes told is = absurd is
told-cause before after (refusal.Damaged cell cause) bytes told is = absurd is
told-cause before after (refusal.Strange cell) bytes told is = absurd is
told-cause before after refusal.Source bytes told is = inl (inl is)
told-cause before after (refusal.Disk cell) bytes told is = absurd is
told-cause before after refusal.LongInput bytes told is = inr (is bytes told)
told-cause before after refusal.ManyRows bytes told is = inr (is bytes told)
told-cause before after refusal.LongLog bytes told is = absurd is
told-cause before after refusal.LongEvents bytes told is = absurd is
told-cause before after refusal.Memory bytes told is = inl (inr refl)
told-cause before after (refusal.InUse len) bytes told is = absurd is

-- The source gave no turns.
pub goes-unread : {D : Type 0} (file name : List ℕ) (before after : Input) (old new : Targets D) (why : Refusal) (status : ℕ) → IsTableCause turns_of_text before after why
    → (why ≢ refusal.Source → after.faults ≡ before.faults) → ConsumesUpTo (most_bytes + 1) before.left after.left → new.disk ≡ old.disk → new.other ≡ old.other
    → Refuses why status old.output new.output → GoesFollowing file name before after old new status
goes-unread file name before after old new why status cause calm taken disk other refuses =
    let is = refuses.status_is in
    record {
      goes = inl (record {
        disk = disk;
        other = other;
        calm = λ five. calm (λ source. five (is ∙ ap status_of source));
        refused = (why, cause, refuses);
        taken = taken;
      });
      decided = record {
        wrong = λ bytes e told judged quiet.
            ⊎_elim (λ free. ⊎_elim (λ rose. absurd (quiet rose)) (λ memory. inr (is ∙ ap status_of memory)) free)
            (λ same. inl (subst (λ (r : Refusal). Refuses r status old.output new.output) (err-same {T = List Turn} why e (sym same ∙ judged)) refuses)) (told-cause before after why bytes told cause);
        turns = λ bytes turns told judged quiet.
            undecided old new status
            (⊎_elim (λ free. ⊎_elim (λ rose. absurd (quiet rose)) (λ memory. is ∙ ap status_of memory) free) (λ same. absurd (ok-err turns why (sym judged ∙ same))) (told-cause before after why bytes told cause));
      };
    }

-- The source gave turns.
pub goes-read : {D : Type 0} (file name : List ℕ) (before after : Input) (old new : Targets D) (turns : List Turn) (status : ℕ) → ReadsTable turns_of_text before after turns
    → EndsFollowing file name turns old new status → GoesFollowing file name before after old new status
goes-read file name before after old new turns status read ends = record {
  goes = inr (record { turns = turns; read = read; ends = ends });
  decided = record {
    wrong = λ bytes why told judged quiet. absurd (ok-err turns why (sym (read.items_are bytes told) ∙ judged));
    turns = λ bytes items told judged quiet. ends.decided;
  };
}

-- An input that is too long, and one that isn't.
judged-long : (bytes : List ℕ) → most_bytes < length bytes → judged_turns bytes ≡ Err refusal.LongInput
judged-long bytes long = ap (λ (b : Bool). if b then Err refusal.LongInput else or_refusal (turns_of_text bytes)) (lt-ltb most_bytes (length bytes) long)

judged-few : (bytes : List ℕ) → length bytes ≤ most_bytes → judged_turns bytes ≡ or_refusal (turns_of_text bytes)
judged-few bytes few = ap (λ (b : Bool). if b then Err refusal.LongInput else or_refusal (turns_of_text bytes)) (le-ltb most_bytes (length bytes) few)

-- What is wrong with the bytes of a source, and what they say.
module _ (before after : Input) where
  pub bytes-cause : (why : Refusal) → IsBytesCause before after why → IsTableCause turns_of_text before after why
  bytes-cause refusal.Usage is = absurd is
  bytes-cause refusal.Header is = absurd is
  bytes-cause (refusal.Csv row) is = absurd is
  bytes-cause (refusal.Field row column) is = absurd is
  bytes-cause refusal.NotLog is = absurd is
  bytes-cause (refusal.OldLog version width) is = absurd is
  bytes-cause (refusal.Damaged cell cause) is = absurd is
  bytes-cause (refusal.Strange cell) is = absurd is
  bytes-cause refusal.Source is = is
  bytes-cause (refusal.Disk cell) is = absurd is
  bytes-cause refusal.LongInput is = λ bytes told. judged-long bytes (is bytes told)
  bytes-cause refusal.ManyRows is = absurd is
  bytes-cause refusal.LongLog is = absurd is
  bytes-cause refusal.LongEvents is = absurd is
  bytes-cause refusal.Memory is = tt
  bytes-cause (refusal.InUse len) is = absurd is

  module _ (bytes : List ℕ) (has : HasBytes before after bytes) where
    judged-are : (xs : List ℕ) → before.left ≡ Some xs → judged_turns xs ≡ or_refusal (turns_of_text bytes)
    judged-are xs told = subst (λ (l : List ℕ). judged_turns l ≡ or_refusal (turns_of_text bytes)) (has.are xs told) (judged-few bytes has.few)

    pub reads-turns : (turns : List Turn) → turns_of_text bytes ≡ Ok turns → ReadsTable turns_of_text before after turns
    reads-turns turns is = record { items_are = λ xs told. judged-are xs told ∙ ap or_refusal is; all = has.all; calm = has.calm }

    pub turns-cause : (why : RowsFault) → (why ≢ rows_fault.Memory → turns_of_text bytes ≡ Err why) → IsTableCause turns_of_text before after (refusal_of why)
    turns-cause rows_fault.Header is = λ xs told. judged-are xs told ∙ ap or_refusal (is (λ e. cc e))
    turns-cause (rows_fault.Csv row) is = λ xs told. judged-are xs told ∙ ap or_refusal (is (λ e. cc e))
    turns-cause (rows_fault.Field row column) is = λ xs told. judged-are xs told ∙ ap or_refusal (is (λ e. cc e))
    turns-cause rows_fault.TooMany is = λ xs told. judged-are xs told ∙ ap or_refusal (is (λ e. cc e))
    turns-cause rows_fault.Memory is = tt
