-- What the opening of a follower leads to.
use Rattle.std.proofs.Common.{◌≡◌, ℕ, ◌+◌, ◌*◌, ◌<◌, ◌≤◌, ◌⊎◌, inl, inr, ⊎_elim, Bool, true, false, ltb, List, [], ◌∷◌, length, replicate, take, Some, None, is_some, refl, sym, ◌∙◌, ap, subst, lit≤, arith, length-append}
use Rattle.std.specs.Prelude.{slice_index}
use Rattle.std.proofs.Math.Seq.{take-length}
use Rattle.std.proofs.lemmas.Bool.{true≢false, ltb-true, ltb-false}
use Rattle.std.proofs.lemmas.List.{length-take-le, take-take}
use Rattle.causes.specs.Causes.{Rose}
use Rattle.cell_format.specs.declared.cell.Cell.{Cell}
use Rattle.cell_format.specs.Spelling.{newest}
use Rattle.disk_trait.specs.Drive.{Drive, HasNoMore, MadeWell, StopsAfter, KeepsLaws, Stays, SameFile, IsSynced}
use Rattle.disk_trait.specs.Moments.{LeavesNow, LeavesOnly}
use Rattle.disk_trait.proofs.Calls.{still-made}
use Rattle.split_log.specs.LogText.{front_of, HoldsCells, IsLog, IsLogOf, IsLogText}
use Rattle.split_log.specs.LogView.{LogView}
use Rattle.split_log.proofs.Cells.{length-front_of}
use Rattle.split_log.proofs.Unique.{holds-same}
use Rattle.log_state.specs.Recovers.{Recovers}
use Rattle.recovery.specs.declared.seen.OpenFault.{OpenFault}
use Rattle.recovery.specs.declared.seen.OpenFault.TheVariants as open_fault
use Rattle.recovery.specs.declared.seen.InitFault.{InitFault}
use Rattle.recovery.specs.declared.seen.InitFault.TheVariants as init_fault
use Rattle.recovery.specs.Faults.{IsFault, IsInBytes}
use Rattle.recovery.specs.Found.{IsNewest, IsWanted, IsFree as IsFreeFault}
use Rattle.recovery.specs.Making.{IsSmall, Makes, RefusesInit, KeepsSmall}
use Rattle.recovery.specs.Opening.{CallsToOpen, KeepsCells, KeepsNewest, IsUntouched}
use Rattle.recovery.proofs.Exclusive.{recovers_no_fault, told_fault, told_free}
use Rattle.recovery.specs.Calls.{StopsAtFault}
use Rattle.recovery.specs.Wanted.{MayTell}
use Rattle.recovery.proofs.CallLemmas.{stops-refused, well-none}
use Rattle.recovery.proofs.OpeningLemmas.{leaves-trans, leaves-stays}
use Rattle.follower.specs.declared.faults.FollowFault.{FollowFault}
use Rattle.follower.specs.declared.faults.FollowFault.TheVariants.{Strange, Log, Append, Disk, Memory}
use Rattle.follower.specs.Comparing.{IsOnlyRead, Compares, RefusesCompare}
use Rattle.follower.specs.Faults.{is_drives, IsFree}
use Rattle.follower.specs.Holding.{FollowerView, AreLeading, IsUntold}
use Rattle.follower.specs.Opening.{most_held, IsOpenable, IsStrange, IsTaken, CallsToFollow, CallsNotToFollow, Opens, OpensLog, IsOpenCause, RefusesOpen, KeepsTarget}
use Rattle.follower.specs.Reopening.{CallsUnopened, Reopens, RefusesReopen}
use Rattle.follower.proofs.TurnLemmas.{told-before, quiet_log}

some_same : (a b : List ℕ) → Some a ≡ Some b → a ≡ b
some_same a b same = cc same

apart : (x y : ℕ) → (x < y) ⊎ (y ≤ x)
apart x y = of (ltb x y) refl
  where
    of : (b : Bool) → ltb x y ≡ b → (x < y) ⊎ (y ≤ x)
    of true is = inl (ltb-true x y is)
    of false is = inr (ltb-false x y is)

newest_wanted : IsWanted newest newest
newest_wanted = record { least = lit≤ tt; most = lit≤ tt }

-- A log has its cells, and a commit byte after them.
long_enough : (v w : ℕ) (own : List Cell) (bytes : List ℕ) → HoldsCells v w own bytes → 17 + 32 * length own ≤ length bytes
long_enough v w own bytes holds =
    omega (arith, ap length holds.parts, length-append holds.front holds.rest, ap length holds.text.text, length-append (front_of v w own) (holds.text.commit_byte ∷ []), length-front_of v w own)

module _ (w : ℕ) (bytes : List ℕ) where
  one_log : (a b : List Cell) → IsOpenable w a bytes → IsOpenable w b bytes → a ≡ b
  one_log a b x y = holds-same x.recovers.version y.recovers.version w a b bytes x.recovers.holds y.recovers.holds

  wanted : (own : List Cell) → IsOpenable w own bytes → IsWanted newest (slice_index bytes 8)
  wanted own log = subst (IsWanted newest) (sym log.version) newest_wanted

  no_fault : (own : List Cell) → IsOpenable w own bytes → (f : OpenFault) → IsInBytes f → IsFault newest (Some w) most_held bytes f → ⊥
  no_fault own log f shown is = recovers_no_fault newest w most_held (lit≤ tt) bytes own f log.recovers (wanted own log) log.few shown is

module _ (w : ℕ) (cells : List Cell) (bytes : List ℕ) where
  -- If more of the first cells are the same, fewer are too.
  fewer : (own : List Cell) (n m : ℕ) → n ≤ m → take m own ≡ take m cells → take n own ≡ take n cells
  fewer own n m le same = sym (take-take n m own le) ∙ ap (take n) same ∙ take-take n m cells le

  not_before : (n m : ℕ) → IsStrange w cells bytes n → IsStrange w cells bytes m → n < m → ⊥
  not_before n m a b lt =
      let one : a.own ≡ b.own = one_log w bytes a.own b.own a.openable b.openable in
      a.other (ap (take (n + 1)) one ∙ fewer b.own (n + 1) m (omega (arith, lt)) b.same)

  -- There is only one first cell that isn't the leader's.
  strange_once : (n m : ℕ) → IsStrange w cells bytes n → IsStrange w cells bytes m → n ≡ m
  strange_once n m a b = ⊎_elim (λ lt. absurd (not_before n m a b lt)) (λ le. ⊎_elim (λ gt. absurd (not_before m n b a gt)) (λ ge. omega (arith, le, ge)) (apart m n)) (apart n m)

  -- A file that is accepted has none.
  strange_taken : (n held : ℕ) → IsStrange w cells bytes n → IsTaken w cells bytes held → ⊥
  strange_taken n held s (inl small) = omega (arith, small.0, s.there, long_enough s.openable.recovers.version w s.own bytes s.openable.recovers.holds)
  strange_taken n held s (inr log) =
      let one : s.own ≡ take held cells = one_log w bytes s.own (take held cells) s.openable log.2 in
      s.other (ap (take (n + 1)) one ∙ take-take (n + 1) held cells (omega (arith, s.there, ap length one, length-take-le held cells log.1)))

  -- A file that is accepted has no fault.
  pub taken_no_fault : (held : ℕ) (f : OpenFault) → IsTaken w cells bytes held → 17 < length bytes → IsInBytes f → IsFault newest (Some w) most_held bytes f → ⊥
  taken_no_fault held f (inl small) long shown is = omega (arith, small.0, long)
  taken_no_fault held f (inr log) long shown is = no_fault w bytes (take held cells) log.2 f shown is

  pub taken_not_strange : (held n : ℕ) → IsTaken w cells bytes held → IsStrange w cells bytes n → ⊥
  taken_not_strange held n taken s = strange_taken n held s taken

  module _ (old new : Drive) (told : old.bytes ≡ Some bytes) where
    free_log : (e : OpenFault) → IsFreeFault old new e → IsFree old new (Log e)
    free_log e (inl memory) = inr (inl (ap (λ f. Log f) memory))
    free_log e (inr rose) = inr (inr rose)

    failed_log : (e : OpenFault) → RefusesOpen w cells old new (Log e) → e ≡ open_fault.Disk → Rose old.faults new.faults
    failed_log e refused is = refused.rose (ap (λ f. is_drives (Log f)) is)

    pub told_exact : (fault : FollowFault) (f : OpenFault) → RefusesOpen w cells old new fault → IsInBytes f → IsFault newest (Some w) most_held bytes f → (fault ≡ Log f) ⊎ IsFree old new fault
    told_exact (Strange n) f refused shown is = let s = refused.cause.1 bytes told in absurd (no_fault w bytes s.own s.openable f shown is)
    told_exact (Log e) f refused shown is =
        ⊎_elim (λ same. inl (ap (λ x. Log x) same)) (λ free. inr (free_log e free))
        (told_fault newest w most_held (lit≤ tt) bytes old new e f (refused.cause bytes told).1 (failed_log e refused) shown is)
    told_exact (Append n) f refused shown is = absurd refused.cause
    told_exact Disk f refused shown is = inr (inr (inr (refused.rose refl)))
    told_exact Memory f refused shown is = absurd refused.cause

    -- If the log may be opened and isn't, the result is free.
    open_free : (e : OpenFault) (own : List Cell) → RefusesOpen w cells old new (Log e) → IsOpenable w own bytes → IsFree old new (Log e)
    open_free e own refused log =
        free_log e (told_free newest w most_held (lit≤ tt) bytes old new e own (refused.cause bytes told).1 (failed_log e refused) log.recovers (wanted w bytes own log) log.few)

    pub told_strange : (fault : FollowFault) (n : ℕ) → RefusesOpen w cells old new fault → IsStrange w cells bytes n → (fault ≡ Strange n) ⊎ IsFree old new fault
    told_strange (Strange m) n refused s = inl (ap (λ x. Strange x) (strange_once m n (refused.cause.1 bytes told) s))
    told_strange (Log e) n refused s = inr (open_free e s.own refused s.openable)
    told_strange (Append m) n refused s = absurd refused.cause
    told_strange Disk n refused s = inr (inr (inr (refused.rose refl)))
    told_strange Memory n refused s = absurd refused.cause

    pub told_whole : (fault : FollowFault) (held : ℕ) → RefusesOpen w cells old new fault → IsTaken w cells bytes held → IsFree old new fault
    told_whole (Strange m) held refused taken = absurd (strange_taken m held (refused.cause.1 bytes told) taken)
    told_whole (Log e) held refused (inl small) = absurd (omega (arith, small.0, (refused.cause bytes told).0))
    told_whole (Log e) held refused (inr log) = open_free e (take held cells) refused log.2
    told_whole (Append m) held refused taken = absurd refused.cause
    told_whole Disk held refused taken = inr (inr (refused.rose refl))
    told_whole Memory held refused taken = absurd refused.cause

-- A follower over the log that was opened.
pub opens : {D : Type 0} (drive : D → Drive) (w : ℕ) (cells : List Cell) (old : Drive) (log : LogView D) (packets acks : List ℕ) → AreLeading w cells → OpensLog drive w cells old log → packets ≡ [] → acks ≡ []
    → Opens drive w cells old (record { disk = log.disk; width = w; state = record { held = log.cells; known = 0; packets = packets; acks = acks } })
opens {D = D} drive w cells old log packets acks leading is none_sent none_back =
    subst (λ (xs : List ℕ). Opens drive w cells old (view xs acks)) (sym none_sent) (subst (λ (ys : List ℕ). Opens drive w cells old (view [] ys)) (sym none_back) (record {
      state = refl;
      width = refl;
      holds = record {
        leading = leading;
        few = is.few;
        sound = record { known = omega arith; acks = tt };
        log = λ bytes told. let before = told-before old.bytes (drive log.disk).bytes bytes is.told told in (is.found before.0 before.1).1;
      };
      found = λ bytes told. (is.found bytes told).0;
      told = is.told;
      calm = is.calm;
      calls = is.calls;
      file = is.file;
    }))
  where
    view : List ℕ → List ℕ → FollowerView D
    view xs ys = record { disk = log.disk; width = w; state = record { held = log.cells; known = 0; packets = xs; acks = ys } }

-- What a call that only reads leaves.
pub untouched_read : (a b : Drive) → Stays a b → IsUntouched a b
untouched_read a b stays = record { bytes = stays.bytes; images = stays.images; since = λ t c le left. inl (stays.since t c left) }

untouched_before : (a b c : Drive) → Stays a b → IsUntouched b c → IsUntouched a c
untouched_before a b c stays un = record {
  bytes = un.bytes ∙ stays.bytes;
  images = λ x left. stays.images x (un.images x left);
  since = λ t x le left. ⊎_elim (λ before. inl (stays.since t x before)) (λ now. inr (stays.images x now)) (un.since t x (omega (arith, le, stays.clock)) left);
}

leaves_before : (a b c : Drive) (P : List ℕ → Type 0) → KeepsLaws a → Stays a b → LeavesNow a P → (LeavesNow b P → LeavesOnly b c P) → LeavesOnly a c P
leaves_before a b c P laws stays now later = leaves-trans a b c P (leaves-stays a b P laws now stays) (later (λ x left. now x (stays.images x left)))

-- The calls after a drive was only read are the calls since before that.
module _ (a b : Drive) (stays : Stays a b) where
  none_before : (c : Drive) → HasNoMore b.calls c.calls → HasNoMore a.calls c.calls
  none_before c none all told = stays.calls all (none all told)

  well_before : (n : ℕ) (c : Drive) → MadeWell n b c → MadeWell n a c
  well_before n c made = still-made (replicate n true) a b c stays.calls made

  stops_before : (most k : ℕ) (c : Drive) → StopsAfter most k b c → StopsAfter most k a c
  stops_before most k c stops = record { few = stops.few; calls = still-made _ a b c stays.calls stops.calls }

  open_before : (n : ℕ) (c : Drive) → CallsToOpen n b c → CallsToOpen n a c
  open_before n c (inl (there, made)) = inl (λ bytes told. there bytes (stays.bytes ∙ told), well_before 1 c made)
  open_before n c (inr (beyond, made)) = inr (λ bytes told. beyond bytes (stays.bytes ∙ told), well_before 3 c made)

  unopened_before : (fault : FollowFault) (c : Drive) → CallsUnopened fault b c → CallsUnopened fault a c
  unopened_before (Strange n) c made = ⊎_elim (λ one. inl (well_before 1 c one)) (λ three. inr (well_before 3 c three)) made
  unopened_before (Log e) c refused = record {
    other = λ other. well_before 1 c (refused.other other);
    disk = ⊎_elim (λ one. inl (well_before 1 c one)) (λ (k, stops). inr (k, stops_before 2 k c stops)) refused.disk;
  }
  unopened_before (Append n) c made = made
  unopened_before Disk c made = made
  unopened_before Memory c made = made

  pub follow_before : (held : ℕ) (c : Drive) → CallsToFollow held b c → CallsToFollow held a c
  follow_before held c (inl (short, none, made)) = inl (λ bytes told. short bytes (stays.bytes ∙ told), none, well_before 2 c made)
  follow_before held c (inr (long, made)) = inr (λ bytes told. long bytes (stays.bytes ∙ told), open_before held c made)

  not_before_read : (fault : FollowFault) (c : Drive) → CallsNotToFollow fault b c → CallsNotToFollow fault a c
  not_before_read (Strange n) c made =
      ⊎_elim (λ none. inl (none_before c none)) (λ (untold, more). inr (λ bytes told. untold bytes (stays.bytes ∙ told), unopened_before (Strange n) c more)) made
  not_before_read (Log e) c made = ⊎_elim (λ none. inl (none_before c none)) (λ refused. inr (unopened_before (Log e) c refused)) made
  not_before_read (Append n) c made = made
  not_before_read Disk c made = ⊎_elim (λ none. inl (none_before c none)) (λ (k, stops). inr (k, stops_before 1 k c stops)) made
  not_before_read Memory c made = made

-- No call follows one that failed in an opening that was refused, whatever its fault is.
pub stops_unfollowed : (fault : FollowFault) (old new : Drive) → CallsNotToFollow fault old new → StopsAtFault old new
stops_unfollowed (Strange n) old new made =
    ⊎_elim (λ none. inl (well-none old new none)) (λ more. ⊎_elim (λ one. inl (record { count = 1; calls = one })) (λ three. inl (record { count = 3; calls = three })) more.1) made
stops_unfollowed (Log e) old new made = ⊎_elim (λ none. inl (well-none old new none)) (λ refused. stops-refused e old new refused) made
stops_unfollowed (Append n) old new made = absurd made
stops_unfollowed Disk old new made = ⊎_elim (λ none. inl (well-none old new none)) (λ (k, stops). inr (record { went_well = k; calls = stops.calls })) made
stops_unfollowed Memory old new made = absurd made

module _ (w : ℕ) (cells : List Cell) (a b : Drive) (reads : IsOnlyRead a b) where
  pub opened_before : {D : Type 0} (drive : D → Drive) (log : LogView D) → OpensLog drive w cells b log → OpensLog drive w cells a log
  opened_before drive log is = record {
    sound = is.sound;
    few = is.few;
    found = λ bytes told. is.found bytes (reads.stays.bytes ∙ told);
    told = is.told ∙ ap is_some reads.stays.bytes;
    calm = is.calm ∙ reads.calm;
    calls = follow_before a b reads.stays log.cells (drive log.disk) is.calls;
    file = λ all told. reads.file all (is.file all told);
  }

  cause_before : (c : Drive) (fault : FollowFault) → IsOpenCause w cells b c fault → IsOpenCause w cells a c fault
  cause_before c (Strange n) is = (is.0, λ bytes told. is.1 bytes (reads.stays.bytes ∙ told))
  cause_before c (Log e) is = λ bytes told. is bytes (reads.stays.bytes ∙ told)
  cause_before c (Append n) is = is
  cause_before c Disk is = λ bytes told long. none_before a b reads.stays c (is bytes (reads.stays.bytes ∙ told) long)
  cause_before c Memory is = is

  pub refused_before : (c : Drive) (fault : FollowFault) → RefusesOpen w cells b c fault → RefusesOpen w cells a c fault
  refused_before c fault is = record {
    cause = cause_before c fault is.cause;
    may = is.may;
    told = is.told ∙ ap is_some reads.stays.bytes;
    rose = λ failed. omega (arith, reads.calm, is.rose failed);
    calm = λ quiet. is.calm quiet ∙ reads.calm;
    untouched = λ quiet bytes told. untouched_before a b c reads.stays (is.untouched quiet bytes (reads.stays.bytes ∙ told));
    later = omega (arith, reads.calm, is.later);
    calls = not_before_read a b reads.stays fault c is.calls;
    file = λ all told. reads.file all (is.file all told);
  }

  pub target_before : (c : Drive) → KeepsLaws a → KeepsTarget w cells b c → KeepsTarget w cells a c
  target_before c laws is = record {
    small = λ bytes told now. leaves_before a b c IsSmall laws reads.stays now (is.small bytes (reads.stays.bytes ∙ told));
    log = λ bytes own told long now. leaves_before a b c (Recovers w own) laws reads.stays now (is.log bytes own (reads.stays.bytes ∙ told) long);
    newest = λ bytes told long now. leaves_before a b c IsNewest laws reads.stays now (is.newest bytes (reads.stays.bytes ∙ told) long);
    other = λ bytes told none. untouched_before a b c reads.stays (is.other bytes (reads.stays.bytes ∙ told) none);
  }

-- A log that was created.
module _ {D : Type 0} (drive : D → Drive) (w : ℕ) (cells : List Cell) (old : Drive) (new : D) (makes : Makes w old (drive new)) where
  log_made : (bytes : List ℕ) → (drive new).bytes ≡ Some bytes → IsLog w [] (drive new)
  log_made bytes told = let before = told-before old.bytes (drive new).bytes bytes makes.told told in (makes.log before.0 before.1).1

  pub made_text : (xs : List ℕ) → (drive new).bytes ≡ Some xs → IsLogOf 0 xs
  made_text xs told =
      let log = log_made xs told in
      record { width = w; cells = []; count_is = refl; text = subst (IsLogText newest w []) (some_same log.bytes xs (sym log.told ∙ told)) log.text }

  pub made_synced : IsSynced (drive new)
  made_synced xs told c left = let log = log_made xs told in log.durable c left ∙ some_same log.bytes xs (sym log.told ∙ told)

  pub made_opened : SameFile old (drive new) → OpensLog drive w cells old (record { disk = new; cells = 0; failed = None })
  made_opened file = record {
    sound = refl;
    few = omega arith;
    found = λ bytes told. let made = makes.log bytes told in (inl (made.0, refl), made.1);
    told = makes.told;
    calm = makes.same;
    calls = inl (λ bytes told. (makes.log bytes told).0, refl, makes.calls);
    file = file;
  }

-- A file that is longer was only read.
pub read_in_use : (a b : Drive) (cause : InitFault) (len : ℕ) → RefusesInit a b cause → cause ≡ init_fault.InUse len → SameFile a b → IsOnlyRead a b
read_in_use a b cause len refused is file = let found = subst (RefusesInit a b) is refused in record { stays = found.2; calm = found.3; file = file }

-- No log was created, because the drive failed.
pub not_made : (w : ℕ) (cells : List Cell) (a b : Drive) (cause : InitFault) → RefusesInit a b cause → cause ≡ init_fault.Disk → KeepsSmall a b → RefusesOpen w cells a b Disk
not_made w cells a b cause refused is keeps =
    let fails = subst (RefusesInit a b) is refused in
    record {
      cause = λ bytes told long. (keeps.in_use bytes told long).calls;
      may = λ why told. absurd (cc told);
      told = fails.told;
      rose = λ failed. fails.rose;
      calm = λ quiet. absurd (true≢false quiet);
      untouched = λ quiet. absurd (true≢false quiet);
      later = keeps.later;
      calls = fails.calls;
      file = keeps.file;
    }

-- A file in which a log was created, or wasn't because of the drive.
pub target_made : (w : ℕ) (cells : List Cell) (a b : Drive) → KeepsLaws a → KeepsSmall a b → KeepsTarget w cells a b
target_made w cells a b laws keeps = record {
  small = λ bytes told now. keeps.small now;
  log = λ bytes own told long now. leaves-stays a b (Recovers w own) laws now (keeps.in_use bytes told long);
  newest = λ bytes told long now. leaves-stays a b IsNewest laws now (keeps.in_use bytes told long);
  other = λ bytes told none.
      ⊎_elim (λ long. untouched_read a b (keeps.in_use bytes told long)) (λ short. absurd (none 0 (inl (short, refl)))) (apart 17 (length bytes));
}

-- A log that was walked.
module _ (w : ℕ) (cells : List Cell) (a b : Drive) (long : (bytes : List ℕ) → a.bytes ≡ Some bytes → 17 < length bytes) where
  drives_log : (e : OpenFault) → is_drives (Log e) ≡ true → e ≡ open_fault.Disk
  drives_log open_fault.Disk is = refl
  drives_log open_fault.Memory is = absurd (true≢false (sym is))
  drives_log open_fault.NotLog is = absurd (true≢false (sym is))
  drives_log (open_fault.OldLog version width) is = absurd (true≢false (sym is))
  drives_log (open_fault.Damaged number why) is = absurd (true≢false (sym is))
  drives_log (open_fault.TooLong limit) is = absurd (true≢false (sym is))

  pub not_compared : (e : OpenFault) → RefusesCompare w a b e → RefusesOpen w cells a b (Log e)
  not_compared e is = record {
    cause = λ bytes told. (long bytes told, is.cause bytes told);
    may = λ why told. let same : e ≡ why = cc told in subst (MayTell newest (Some w) most_held) same is.may;
    told = ap is_some is.stays.bytes;
    rose = λ failed. is.rose (drives_log e failed);
    calm = λ quiet. is.calm (quiet_log e quiet);
    untouched = λ quiet bytes told. untouched_read a b is.stays;
    later = is.later;
    calls = inl is.stays.calls;
    file = is.file;
  }

  module _ (count same : ℕ) (is : Compares w cells a b count same) where
    pub strange_found : same < count → RefusesOpen w cells a b (Strange same)
    strange_found less = record {
      cause = (
        is.within,
        λ bytes told.
            let found = is.found bytes told in
            record { own = found.own; openable = found.openable; there = omega (arith, less, found.count_is); same = found.same_is; other = found.other less },
      );
      may = λ why told. absurd (cc told);
      told = ap is_some is.reads.stays.bytes;
      rose = λ failed. absurd (true≢false (sym failed));
      calm = λ quiet. is.reads.calm;
      untouched = λ quiet bytes told. untouched_read a b is.reads.stays;
      later = omega (arith, is.reads.calm);
      calls = inl is.reads.stays.calls;
      file = is.reads.file;
    }

    module _ (all : count ≤ same) where
      same_count : same ≡ count
      same_count = omega (arith, all, is.few)

      -- All of its cells are the leader's first ones.
      are_first : (bytes : List ℕ) → a.bytes ≡ Some bytes → IsOpenable w (take count cells) bytes
      are_first bytes told =
          let found = is.found bytes told in
          let whole : found.own ≡ take count cells =
          sym (take-length found.own) ∙ ap (λ (n : ℕ). take n found.own) (found.count_is ∙ sym same_count) ∙ found.same_is ∙ ap (λ (n : ℕ). take n cells) same_count in
          subst (λ (l : List Cell). IsOpenable w l bytes) whole found.openable

      few_cells : count ≤ length cells
      few_cells = omega (arith, same_count, is.within)

      taken : (bytes : List ℕ) → a.bytes ≡ Some bytes → IsTaken w cells bytes count
      taken bytes told = inr (long bytes told, few_cells, are_first bytes told)

      pub opened_again : {D : Type 0} (drive : D → Drive) (log : LogView D) → Reopens drive w count b log → OpensLog drive w cells a log
      opened_again drive log re = record {
        sound = re.sound;
        few = omega (arith, re.cells, few_cells);
        found = λ bytes told.
            let (own, own_count, recovers, text) = re.text bytes (is.reads.stays.bytes ∙ told) in
            let here = are_first bytes told in
            let one : own ≡ take count cells = holds-same recovers.version here.recovers.version w own (take count cells) bytes recovers.holds here.recovers.holds in (
              subst (IsTaken w cells bytes) (sym re.cells) (taken bytes told),
              subst (λ (n : ℕ). IsLog w (take n cells) (drive log.disk)) (sym re.cells) (subst (λ (l : List Cell). IsLog w l (drive log.disk)) one text),
            );
        told = re.told ∙ ap is_some is.reads.stays.bytes;
        calm = re.calm ∙ is.reads.calm;
        calls = inr (long, open_before a b is.reads.stays log.cells (drive log.disk) (subst (λ (n : ℕ). CallsToOpen n b (drive log.disk)) (sym re.cells) re.calls));
        file = λ names told. is.reads.file names (re.file names told);
      }

      -- A log whose bytes are known has as many cells as were counted.
      other_untold : (c : Drive) (n : ℕ) → RefusesReopen w count b c (Strange n) → IsUntold a
      other_untold c n re bytes told = let found = is.found bytes told in re.cause.1 bytes found.own (is.reads.stays.bytes ∙ told) found.openable.recovers found.count_is

      again_cause : (c : Drive) (fault : FollowFault) → RefusesReopen w count b c fault → IsOpenCause w cells a c fault
      again_cause c (Strange n) re = (omega (arith, re.cause.0.2, few_cells), λ bytes told. absurd (other_untold c n re bytes told))
      again_cause c (Log e) re = λ bytes told. (long bytes told, re.cause bytes (is.reads.stays.bytes ∙ told))
      again_cause c (Append n) re = re.cause
      again_cause c Disk re = absurd re.cause
      again_cause c Memory re = re.cause

      again_untouched : (c : Drive) (fault : FollowFault) → RefusesReopen w count b c fault → is_drives fault ≡ false → (bytes : List ℕ) → a.bytes ≡ Some bytes → IsUntouched a c
      again_untouched c (Strange n) re quiet bytes told = absurd (other_untold c n re bytes told)
      again_untouched c (Log e) re quiet bytes told = untouched_before a b c is.reads.stays (re.untouched e refl (quiet_log e quiet))
      again_untouched c (Append n) re quiet bytes told = absurd re.cause
      again_untouched c Disk re quiet bytes told = absurd re.cause
      again_untouched c Memory re quiet bytes told = absurd re.cause

      again_calls : (c : Drive) (fault : FollowFault) → RefusesReopen w count b c fault → CallsNotToFollow fault a c
      again_calls c (Strange n) re = inr (other_untold c n re, unopened_before a b is.reads.stays (Strange n) c re.calls)
      again_calls c (Log e) re = inr (unopened_before a b is.reads.stays (Log e) c re.calls)
      again_calls c (Append n) re = re.cause
      again_calls c Disk re = absurd re.cause
      again_calls c Memory re = re.cause

      pub refused_again : (c : Drive) (fault : FollowFault) → RefusesReopen w count b c fault → RefusesOpen w cells a c fault
      refused_again c fault re = record {
        cause = again_cause c fault re;
        may = re.may;
        told = re.told ∙ ap is_some is.reads.stays.bytes;
        rose = λ failed. omega (arith, is.reads.calm, re.rose failed);
        calm = λ quiet. re.calm quiet ∙ is.reads.calm;
        untouched = again_untouched c fault re;
        later = omega (arith, is.reads.calm, re.later);
        calls = again_calls c fault re;
        file = λ names told. is.reads.file names (re.file names told);
      }

      pub target_again : (c : Drive) → KeepsLaws a → KeepsCells w b c → KeepsNewest b c → KeepsTarget w cells a c
      target_again c laws keeps version = record {
        small = λ bytes told now. absurd (omega (arith, long bytes told, now bytes (laws.held bytes told)));
        log = λ bytes own told over now. leaves_before a b c (Recovers w own) laws is.reads.stays now (keeps bytes own (is.reads.stays.bytes ∙ told));
        newest = λ bytes told over now. leaves_before a b c IsNewest laws is.reads.stays now version;
        other = λ bytes told none. absurd (none count (taken bytes told));
      }
