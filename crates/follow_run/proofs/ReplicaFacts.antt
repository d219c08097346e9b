-- The second file: its attach, its opening, and the turns after it.
use Rattle.std.proofs.Common.{◌≡◌, ◌⊎◌, inl, inr, ⊎_elim, ◌∙◌, ℕ, ◌+◌, ◌*◌, ◌<◌, Bool, true, List, ◌++◌, length, replicate, take, drop, Some, None, is_some, Result, refl, sym, ap, subst, arith, append_assoc}
use Rattle.std.specs.Prelude.{if◌then◌else◌, nat_lt}
use Rattle.std.proofs.lemmas.Bool.{lt-ltb, le-ltb}
use Rattle.std.proofs.lemmas.List.{replicate-append-replicate}
use Rattle.causes.specs.Causes.{Rose, Counts}
use Rattle.io_edge.specs.Puts.{Puts}
use Rattle.io_edge.specs.Streams.{Output}
use Rattle.disk_trait.specs.Drive.{Drive, Made, MadeWell, KeepsLaws, Stays, AttachedOne}
use Rattle.disk_trait.proofs.Calls.{attached-still, made-then}
use Rattle.cell_format.specs.declared.cell.Cell.{Cell}
use Rattle.cell_format.specs.Spelling.{newest}
use Rattle.split_log.proofs.Commits.{joined}
use Rattle.log_state.specs.Recovers.{Recovers}
use Rattle.recovery.specs.declared.seen.OpenFault.{OpenFault}
use Rattle.recovery.specs.declared.seen.OpenFault.TheVariants as open_fault
use Rattle.recovery.specs.Faults.{IsFault, IsInBytes}
use Rattle.recovery.specs.Found.{IsNewest}
use Rattle.recovery.specs.Wanted.{MayTell}
use Rattle.recovery.specs.Making.{IsSmall}
use Rattle.recovery.specs.Opening.{IsUntouched}
use Rattle.recovery.proofs.CallLemmas.{well-none, stops-then}
use Rattle.recovery.proofs.OnlyReading.{rose-earlier}
use Rattle.recovery.proofs.OpeningLemmas.{leaves-trans, leaves-stays}
use Rattle.follower.specs.declared.faults.FollowFault.{FollowFault}
use Rattle.follower.specs.declared.faults.FollowFault.TheVariants as fault
use Rattle.follower.specs.declared.turns.Report.{Report}
use Rattle.follower.specs.declared.turns.Turn.{Turn}
use Rattle.follower.specs.Faults.{IsFree, is_drives}
use Rattle.follower.specs.Follow.{Following, opened_with, reports}
use Rattle.follower.specs.Holding.{FollowerView, RecoversFirst, IsUntold}
use Rattle.follower.specs.Opening.{CallsToFollow, IsStrange, IsTaken, IsOpenCause, Opens, RefusesOpen, KeepsTarget, most_held}
use Rattle.follower.proofs.OpenLemmas.{follow_before, stops_unfollowed}
use Rattle.follower.proofs.TurnLemmas.{told-before}
use Rattle.run_ends.specs.declared.refusals.Refusal.{Refusal}
use Rattle.run_ends.specs.declared.refusals.Refusal.TheVariants as refusal
use Rattle.run_ends.specs.Attaching.{RefusesAttach}
use Rattle.run_ends.specs.LogFaults.{log_refusal}
use Rattle.run_ends.specs.Status.{status_of, written_status}
use Rattle.run_ends.specs.Taking.{Refuses}
use Rattle.run_ends.proofs.AttachFacts.{attaches-one, attaches-as, only-memory}
use Rattle.log_run.proofs.MakingEnds.{ends-writing, whole-writing}
use Rattle.follow_run.specs.Lines.{reports_text}
use Rattle.follow_run.specs.Replica.{machine_at, calls_at, calls_to_open, IsReplicaCause, IsStop, OpensUntold, EndsTurns, EndsReplica, follow_refusal}
use Rattle.follow_run.specs.Playing.{OpensReplica, LosesReplica, PlaysAll, StopsPlaying, EndsPlaying}
use Rattle.follow_run.proofs.PlayFacts.{drives-told, none-before, well-more}

-- A result that the bytes don't decide is a lack of memory, if the fault count didn't rise.
free-memory : (a b : Drive) (why : FollowFault) → IsFree a b why → (Rose a.faults b.faults → ⊥) → follow_refusal why ≡ refusal.Memory
free-memory a b why (inl memory) calm = ap follow_refusal memory
free-memory a b why (inr (inl memory)) calm = ap follow_refusal memory
free-memory a b why (inr (inr rose)) calm = absurd (calm rose)

-- A file that was attached, and what was done to it afterwards.
module _ (w : ℕ) (cells : List Cell) (a b : Drive) (laws : KeepsLaws a) (stays : Stays a b) where
  untouched-after : (c : Drive) → IsUntouched b c → IsUntouched a c
  untouched-after c is = record {
    bytes = is.bytes ∙ stays.bytes;
    images = λ x left. stays.images x (is.images x left);
    since = λ t x le left. ⊎_elim (λ was. inl (stays.since t x was)) (λ now. inr (stays.images x now)) (is.since t x (omega (arith, le, stays.clock)) left);
  }

  untouched-attached : IsUntouched a b
  untouched-attached = record { bytes = stays.bytes; images = stays.images; since = λ t x le left. inl (stays.since t x left) }

  keeps-after : (c : Drive) → KeepsTarget w cells b c → KeepsTarget w cells a c
  keeps-after c keeps = record {
    small = λ bytes told now. leaves-trans a b c IsSmall (leaves-stays a b IsSmall laws now stays) (keeps.small bytes (stays.bytes ∙ told) (λ x is. now x (stays.images x is)));
    log = λ bytes own told long now. leaves-trans a b c (Recovers w own) (leaves-stays a b (Recovers w own) laws now stays) (keeps.log bytes own (stays.bytes ∙ told) long (λ x is. now x (stays.images x is)));
    newest = λ bytes told long now. leaves-trans a b c IsNewest (leaves-stays a b IsNewest laws now stays) (keeps.newest bytes (stays.bytes ∙ told) long (λ x is. now x (stays.images x is)));
    other = λ bytes told none. untouched-after c (keeps.other bytes (stays.bytes ∙ told) none);
  }

  keeps-attached : KeepsTarget w cells a b
  keeps-attached = record {
    small = λ bytes told now. leaves-stays a b IsSmall laws now stays;
    log = λ bytes own told long now. leaves-stays a b (Recovers w own) laws now stays;
    newest = λ bytes told long now. leaves-stays a b IsNewest laws now stays;
    other = λ bytes told none. untouched-attached;
  }

  -- The file wasn't attached.
  pub lost-attached : (name : List ℕ) (why : Refusal) → RefusesAttach name true a b why → LosesReplica w cells name a b why
  lost-attached name why refuses = record {
    cause =
        elim refuses.cause [
          | inl disk ↦ subst (IsReplicaCause w cells a b) (sym disk.0) disk.1
          | inr memory ↦ subst (IsReplicaCause w cells a b) (sym memory) tt
        ];
    untouched = λ other bytes told. untouched-attached;
    keeps = keeps-attached;
    exact = λ bytes what told long shown is calm. inr (only-memory name true a b why refuses calm);
    strange = λ bytes cell told is calm. inr (only-memory name true a b why refuses calm);
    whole = λ bytes first told taken calm. only-memory name true a b why refuses calm;
    calm = refuses.calm;
    calls = inl (well-none a b stays.calls);
    attached = refuses.attached;
  }

  module _ (name : List ℕ) (attached : AttachedOne name true a b) (same : b.faults ≡ a.faults) where
    -- A follower was opened.
    pub opened : {D : Type 0} (drive : D → Drive) (f : FollowerView D) → Opens drive w cells b f → KeepsTarget w cells b (drive f.disk)
        → ((bytes : List ℕ) (why : OpenFault) → b.bytes ≡ Some bytes → 17 < length bytes → IsInBytes why → IsFault newest (Some w) most_held bytes why → ⊥)
        → ((bytes : List ℕ) (cell : ℕ) → b.bytes ≡ Some bytes → IsStrange w cells bytes cell → ⊥) → OpensReplica drive w cells name a f
    opened drive f opens keeps sound own = record {
      state = opens.state;
      width = opens.width;
      holds = opens.holds;
      found = λ bytes told. opens.found bytes (stays.bytes ∙ told);
      told = opens.told ∙ ap is_some stays.bytes;
      calm = opens.calm ∙ same;
      calls = follow_before a b stays f.state.held (drive f.disk) opens.calls;
      keeps = keeps-after (drive f.disk) keeps;
      sound = λ bytes why told. sound bytes why (stays.bytes ∙ told);
      own = λ bytes cell told. own bytes cell (stays.bytes ∙ told);
      attached = attached-still name true a b (drive f.disk) attached opens.file;
    }

    module _ (c : Drive) (why : FollowFault) (refuses : RefusesOpen w cells b c why) where
      rose_since : Rose b.faults c.faults → Rose a.faults c.faults
      rose_since rose = rose-earlier a.faults b.faults c.faults (omega (arith, same)) rose

      open-cause : (e : FollowFault) → IsOpenCause w cells b c e → (is_drives e ≡ true → Rose b.faults c.faults) → ((f : OpenFault) → e ≡ fault.Log f → MayTell newest (Some w) most_held f) → IsReplicaCause w cells a c (follow_refusal e)
      open-cause (fault.Strange cell) is rose may = (is.0, λ bytes told. is.1 bytes (stays.bytes ∙ told))
      open-cause (fault.Log open_fault.NotLog) is rose may = λ bytes told. is bytes (stays.bytes ∙ told)
      open-cause (fault.Log (open_fault.OldLog version width)) is rose may = (may (open_fault.OldLog version width) refl, λ bytes told. is bytes (stays.bytes ∙ told))
      open-cause (fault.Log (open_fault.Damaged number cause)) is rose may = (may (open_fault.Damaged number cause) refl, λ bytes told. is bytes (stays.bytes ∙ told))
      open-cause (fault.Log open_fault.Disk) is rose may = rose_since (rose refl)
      open-cause (fault.Log open_fault.Memory) is rose may = tt
      open-cause (fault.Log (open_fault.TooLong limit)) is rose may = λ bytes told. let it = is bytes (stays.bytes ∙ told) in (it.0, (refl, it.1.1))
      open-cause (fault.Append cell) is rose may = absurd is
      open-cause fault.Disk is rose may = rose_since (rose refl)
      open-cause fault.Memory is rose may = tt

      memory : (Rose a.faults c.faults → ⊥) → IsFree b c why → follow_refusal why ≡ refusal.Memory
      memory calm free = free-memory b c why free (λ rose. calm (rose_since rose))

      -- No follower was opened.
      pub lost : ((bytes : List ℕ) (e : OpenFault) → b.bytes ≡ Some bytes → 17 < length bytes → IsInBytes e → IsFault newest (Some w) most_held bytes e → (why ≡ fault.Log e) ⊎ IsFree b c why)
          → ((bytes : List ℕ) (cell : ℕ) → b.bytes ≡ Some bytes → IsStrange w cells bytes cell → (why ≡ fault.Strange cell) ⊎ IsFree b c why)
          → ((bytes : List ℕ) (first : ℕ) → b.bytes ≡ Some bytes → IsTaken w cells bytes first → IsFree b c why) → KeepsTarget w cells b c → LosesReplica w cells name a c (follow_refusal why)
      lost exact strange whole keeps = record {
        cause = open-cause why refuses.cause refuses.rose refuses.may;
        untouched = λ other bytes told. untouched-after c (refuses.untouched (drives-told why other) bytes (stays.bytes ∙ told));
        keeps = keeps-after c keeps;
        exact = λ bytes e told long shown is calm. ⊎_elim (λ same. inl (ap follow_refusal same)) (λ free. inr (memory calm free)) (exact bytes e (stays.bytes ∙ told) long shown is);
        strange = λ bytes cell told is calm. ⊎_elim (λ same. inl (ap follow_refusal same)) (λ free. inr (memory calm free)) (strange bytes cell (stays.bytes ∙ told) is);
        whole = λ bytes first told taken calm. memory calm (whole bytes first (stays.bytes ∙ told) taken);
        calm = λ other. refuses.calm (drives-told why other) ∙ same;
        calls = stops-then a b c (well-none a b stays.calls) (stops_unfollowed why b c refuses.calls);
        attached = attaches-one name true a c (status_of (follow_refusal why)) (attached-still name true a b c attached refuses.file);
      }

-- The reports of all turns were written.
pub plays-told : {T E : Type 0} (w : ℕ) (cells : List Cell) (first : ℕ) (turns : List Turn) (old new : Drive) (before after : Output) (told : List Report) (wrote : Result T E) → PlaysAll w cells first turns old new told
    → Puts before.taken after.taken (reports_text told) wrote → Counts before.faults after.faults wrote → EndsPlaying w cells first turns old new (written_status wrote) before after
plays-told {T = T} {E = E} w cells first turns old new before after told wrote plays puts counts =
    let text : List ℕ = reports_text (reports (length cells) (opened_with first) turns) in
    record {
      made = length turns;
      part = omega arith;
      ends = inl (record {
        all = refl;
        wrote = ends-writing text before after wrote (subst (λ (l : List Report). Puts before.taken after.taken (reports_text l) wrote) plays.reports_are puts) counts;
        exactly = plays.exactly;
        log = plays.log;
        calls = λ bytes told. subst (λ (n : ℕ). MadeWell n old new) (none-before (calls_at (length cells) first turns (length turns))) (plays.calls bytes told);
      });
      sound = plays.sound;
      passes = plays.passes;
      whole = λ bytes told calm quiet. inl (whole-writing before.faults after.faults wrote counts quiet);
      calm = λ other. plays.calm;
      later = omega (arith, plays.calm);
      calls = inl plays.well;
      file = plays.file;
    }

-- The turns stopped.
pub plays-stopped : (w : ℕ) (cells : List Cell) (first : ℕ) (turns : List Turn) (old new : Drive) (before after : Output) (why : FollowFault) (status : ℕ) → StopsPlaying w cells first turns old new why
    → Refuses (follow_refusal why) status before after → EndsPlaying w cells first turns old new status before after
plays-stopped w cells first turns old new before after why status stops refuses = record {
  made = stops.made;
  part = stops.part;
  ends = inr (follow_refusal why, stops.stops, refuses);
  sound = stops.sound;
  passes = stops.passes;
  whole = λ bytes told calm quiet. inr (refuses.status_is ∙ ap status_of (free-memory old new why (stops.free bytes told) calm));
  calm = λ other. stops.calm (drives-told why (λ e. other (refuses.status_is ∙ e)));
  later = stops.later;
  calls = stops.calls;
  file = stops.file;
}

-- No follower was opened.
pub ends-unopened : (w : ℕ) (cells : List Cell) (turns : List Turn) (name : List ℕ) (old new : Drive) (before after : Output) (why : Refusal) (status : ℕ) → LosesReplica w cells name old new why → Refuses why status before after
    → EndsReplica w cells turns name old new status before after
ends-unopened w cells turns name old new before after why status loses refuses =
    let is = refuses.status_is in
    let named : (r : Refusal) → (why ≡ r) ⊎ (why ≡ refusal.Memory) → Refuses r status before after ⊎ (status ≡ 9) =
    λ r either. ⊎_elim (λ same. inl (subst (λ (e : Refusal). Refuses e status before after) same refuses)) (λ memory. inr (is ∙ ap status_of memory)) either in
    record {
      ends = inl (record { refused = (why, loses.cause, refuses); untouched = λ other. loses.untouched (λ e. other (is ∙ e)); keeps = loses.keeps });
      decided = record {
        exact = λ bytes e told long shown wrong calm. named (log_refusal e) (loses.exact bytes e told long shown wrong calm);
        strange = λ bytes cell told wrong calm. named (refusal.Strange cell) (loses.strange bytes cell told wrong calm);
        whole = λ bytes first told taken calm quiet. inr (is ∙ ap status_of (loses.whole bytes first told taken calm));
      };
      calm = λ other. loses.calm (λ e. other (is ∙ e));
      calls = loses.calls;
      attached = attaches-as name true old new status (status_of why) is loses.attached;
    }

-- Why turns stop, in terms of the drive as it was before.
module _ (w count : ℕ) (s : Following) (rest : List Turn) (a b new : Drive) (same : b.faults ≡ a.faults) (untold : IsUntold b → IsUntold a) where
  opens-before : OpensUntold rest b → OpensUntold rest a
  opens-before is = (is.0, untold is.1)

  rose-before : Rose b.faults new.faults → Rose a.faults new.faults
  rose-before rose = subst (λ (n : ℕ). Rose n new.faults) same rose

  stop-before : (why : Refusal) → IsStop w count s rest b new why → IsStop w count s rest a new why
  stop-before refusal.Usage is = absurd is
  stop-before refusal.Header is = absurd is
  stop-before (refusal.Csv row) is = absurd is
  stop-before (refusal.Field row column) is = absurd is
  stop-before refusal.NotLog is = opens-before is
  stop-before (refusal.OldLog version width) is = (opens-before is.0, is.1)
  stop-before (refusal.Damaged cell cause) is = (opens-before is.0, is.1)
  stop-before (refusal.Strange cell) is = (opens-before is.0, is.1)
  stop-before refusal.Source is = absurd is
  stop-before (refusal.Disk (Some cell)) is = (is.0, is.1, rose-before is.2)
  stop-before (refusal.Disk None) is = (is.0, rose-before is.1)
  stop-before refusal.LongInput is = absurd is
  stop-before refusal.ManyRows is = absurd is
  stop-before refusal.LongLog is = opens-before is
  stop-before refusal.LongEvents is = absurd is
  stop-before refusal.Memory is = tt
  stop-before (refusal.InUse len) is = absurd is

-- How many device calls opened the second file, as its bytes decide if they are known.
opening : (held : ℕ) (old new : Drive) → CallsToFollow held old new → (n : ℕ) × MadeWell n old new × ((bytes : List ℕ) → old.bytes ≡ Some bytes → n ≡ calls_to_open bytes held)
opening held old new (inl (short, none, made)) = (
  2,
  made,
  λ bytes told.
      let rest : ℕ = if nat_lt (17 + 32 * held) (length bytes) then 3 else 1 in
      sym (ap (λ (b : Bool). if b then rest else 2) (le-ltb 17 (length bytes) (short bytes told))),
)
opening held old new (inr (long, inl (there, made))) = (
  1,
  made,
  λ bytes told.
      let n : ℕ = length bytes in
      let rest : ℕ = if nat_lt (17 + 32 * held) n then 3 else 1 in
      sym
      (ap (λ (b : Bool). if b then rest else 2) (lt-ltb 17 n (long bytes told)) ∙ ap (λ (b : Bool). if b then 3 else 1) (le-ltb (17 + 32 * held) n (omega (arith, there bytes told)))),
)
opening held old new (inr (long, inr (beyond, made))) = (
  3,
  made,
  λ bytes told.
      let n : ℕ = length bytes in
      let rest : ℕ = if nat_lt (17 + 32 * held) n then 3 else 1 in
      sym (ap (λ (b : Bool). if b then rest else 2) (lt-ltb 17 n (long bytes told)) ∙ ap (λ (b : Bool). if b then 3 else 1) (lt-ltb (17 + 32 * held) n (beyond bytes told))),
)

-- A follower was opened, and turns were played.
module _ {D : Type 0} (drive : D → Drive) (w : ℕ) (cells : List Cell) (turns : List Turn) (name : List ℕ) (old new : Drive) (before after : Output) (f : FollowerView D) (status : ℕ)
    (opens : OpensReplica drive w cells name old f) (plays : EndsPlaying w cells f.state.held turns (drive f.disk) new status before after) where
  told_then : (bytes : List ℕ) → old.bytes ≡ Some bytes → (now : List ℕ) × ((drive f.disk).bytes ≡ Some now)
  told_then bytes told = told-before (drive f.disk).bytes old.bytes bytes (sym opens.told) told

  untold-then : IsUntold (drive f.disk) → IsUntold old
  untold-then untold bytes told = let now = told_then bytes told in untold now.0 now.1

  by : (n : ℕ) × MadeWell n old (drive f.disk) × ((bytes : List ℕ) → old.bytes ≡ Some bytes → n ≡ calls_to_open bytes f.state.held)
  by = opening f.state.held old (drive f.disk) opens.calls

  abbrev of_turns : ℕ
  of_turns = calls_at (length cells) f.state.held turns plays.made

  -- The calls of the turns, with the results of the last ones, after those of the opening.
  calls-then : (last : List Bool) → Made (replicate (0 + of_turns) true ++ last) (drive f.disk) new → Made (replicate (by.0 + of_turns) true ++ last) old new
  calls-then last calls =
      subst (λ (l : List Bool). Made l old new) (sym (append_assoc (replicate by.0 true) (replicate of_turns true) last) ∙ ap (λ (l : List Bool). l ++ last) (replicate-append-replicate by.0 of_turns true))
      (made-then (replicate by.0 true) (replicate of_turns true ++ last) old (drive f.disk) new by.1 (subst (λ (n : ℕ). Made (replicate n true ++ last) (drive f.disk) new) (sym (none-before of_turns)) calls))

  ends-then : EndsTurns w cells f.state.held turns plays.made 0 (drive f.disk) new status before after → EndsTurns w cells f.state.held turns plays.made by.0 old new status before after
  ends-then (inl tells) = inl (record {
    all = tells.all;
    wrote = tells.wrote;
    exactly = λ bytes told. let now = told_then bytes told in tells.exactly now.0 now.1;
    log = λ bytes told. let now = told_then bytes told in tells.log now.0 now.1;
    calls = λ bytes told. let now = told_then bytes told in well-more by.0 of_turns old (drive f.disk) new by.1 (subst (λ (n : ℕ). MadeWell n (drive f.disk) new) (sym (none-before of_turns)) (tells.calls now.0 now.1));
  })
  ends-then (inr (why, stops, refuses)) = inr (
    why,
    record {
      cause = stop-before w (length cells) (machine_at (length cells) f.state.held turns plays.made) (drop plays.made turns) old (drive f.disk) new opens.calm untold-then why stops.cause;
      leaves = λ bytes told. let now = told_then bytes told in stops.leaves now.0 now.1;
      log = λ bytes told other. let now = told_then bytes told in stops.log now.0 now.1 other;
      calls = λ bytes told. let now = told_then bytes told in let (last, are, calls) = stops.calls now.0 now.1 in (last, are, calls-then last calls);
    },
    refuses,
  )

  pub ends-played : EndsReplica w cells turns name old new status before after
  ends-played =
      let first : ℕ = f.state.held in
      let Prefix : List ℕ → Type 0 = RecoversFirst w cells first (length cells) in
      record {
        ends = inr (record {
          first = first;
          few = opens.holds.few;
          found = opens.found;
          made = plays.made;
          part = plays.part;
          opened = by.0;
          opened_is = by.2;
          ends = ends-then plays.ends;
          keeps = record {
            small = λ bytes told now. let here = told_then bytes told in
                joined old (drive f.disk) new IsSmall Prefix (λ image. IsSmall image ⊎ Prefix image) (λ c is. inl is) (λ c is. inr is) (opens.keeps.small bytes told now) (plays.passes here.0 here.1).whole;
            log = λ bytes told long now. let here = told_then bytes told in
                joined old (drive f.disk) new (Recovers w (take first cells)) Prefix (λ image. Recovers w (take first cells) image ⊎ Prefix image) (λ c is. inl is) (λ c is. inr is)
                (opens.keeps.log bytes (take first cells) told long now) (plays.passes here.0 here.1).whole;
            newest = λ bytes told long now. let here = told_then bytes told in
                joined old (drive f.disk) new IsNewest Prefix IsNewest (λ c is. is) (λ c is. is.version) (opens.keeps.newest bytes told long now) (plays.passes here.0 here.1).whole;
            from = λ bytes n told le. let here = told_then bytes told in (plays.passes here.0 here.1).from n le;
            sound = plays.sound;
          };
        });
        decided = record {
          exact = λ bytes e told long shown wrong calm. absurd (opens.sound bytes e told long shown wrong);
          strange = λ bytes cell told wrong calm. absurd (opens.own bytes cell told wrong);
          whole = λ bytes n told taken calm quiet. let here = told_then bytes told in plays.whole here.0 here.1 (λ rose. calm (subst (λ (k : ℕ). Rose k new.faults) opens.calm rose)) quiet;
        };
        calm = λ other. plays.calm other ∙ opens.calm;
        calls = stops-then old (drive f.disk) new (record { count = by.0; calls = by.1 }) plays.calls;
        attached = attaches-one name true old new status (attached-still name true old (drive f.disk) new opens.attached plays.file);
      }
