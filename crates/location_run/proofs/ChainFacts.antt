-- What a run leaves is what the next one asks for.
use Rattle.std.proofs.Common.{◌≡◌, ◌≢◌, ◌⊎◌, inl, inr, ⊎_elim, ◌∙◌, ℕ, ◌<◌, ◌≤◌, List, [], ◌++◌, length, take, Some, None, refl, sym, ap, subst, arith}
use Rattle.std.specs.Prelude.{slice_index}
use Rattle.std.proofs.lemmas.List.{append-nil}
use Rattle.std.proofs.lemmas.Option.{same_Some}
use Rattle.cell_format.specs.declared.cell.Cell.{Cell}
use Rattle.cell_format.specs.Spelling.{newest}
use Rattle.plain_list.specs.declared.entries.Entry.{Entry}
use Rattle.disk_trait.specs.Drive.{Drive, KeepsLaws, Stays, IsSynced}
use Rattle.disk_trait.specs.Moments.{LeavesNow}
use Rattle.disk_trait.proofs.Told.{told_before}
use Rattle.io_edge.specs.Streams.{Output}
use Rattle.log_state.specs.Recovers.{IsLegalCells, Recovers, state_of}
use Rattle.log_state.specs.Changes.{cells_of}
use Rattle.recovery.specs.LogText.{IsLog}
use Rattle.recovery.specs.Found.{IsNewest}
use Rattle.recovery.specs.Making.{IsSmall}
use Rattle.zorder.specs.Width.{IsWidth}
use Rattle.recovery.proofs.Exclusive.{one_recovery}
use Rattle.recovery.proofs.WidthLemmas.{recovers_width, same_width}
use Rattle.command_words.specs.Words.{Command, Init, Check, Play, Show, Trial, Compact, Watch, Follow, AsksFor}
use Rattle.command_words.proofs.WordsFacts.{init-width, one-command}
use Rattle.csv_rows.specs.declared.rows.InRow.{InRow}
use Rattle.make_moves.specs.Moves.{made_rows}
use Rattle.command_words.specs.declared.trials.Made.{Made}
use Rattle.run_ends.specs.declared.refusals.Refusal.TheVariants as refusal
use Rattle.run_ends.specs.Ends.{Ends, Done, Targets}
use Rattle.run_ends.specs.Limits.{trial_bucket}
use Rattle.run_ends.specs.Status.{status_of, WritesLines}
use Rattle.run_ends.proofs.Ends.{no-lines}
use Rattle.log_run.specs.Making.{MakesOrRefuses}
use Rattle.log_run.specs.Compacting.{EndsAnew, RefusesFile, WritesAnew, WritesOrRefuses, anew}
use Rattle.play_run.specs.Crash.{KeepsAll}
use Rattle.play_run.specs.Origin.{Origin, IsFoundOrigin, origin_of}
use Rattle.play_run.specs.Playing.{IsAnswered, IsLogUnopened, PlaysRows, Goes}
use Rattle.play_run.specs.Trying.{PlaysMade}
use Rattle.play_run.specs.Standing.{IsStanding, HoldsLog}
use Rattle.play_run.proofs.StandingFacts.{holds-same, holds-text, one-width, one-list}
use Rattle.follower.specs.Holding.{RecoversFirst}
use Rattle.follower.specs.Opening.{IsOpenable, IsTaken}
use Rattle.follower.specs.declared.turns.Turn.{Turn}
use Rattle.follower.proofs.Prefixes.{legal-take}
use Rattle.follow_run.specs.Replica.{EndsTurns, IsUnopened, PlaysTurns, machine_at}
use Rattle.follow_run.specs.Following.{GivesNoTurns, GivesTurns, RefusesLeader, FollowsLeader}
use Rattle.watch_run.specs.Watching.{GoesAlong}
use Rattle.location_run.specs.Run.{Keeps}
use Rattle.location_run.specs.Chain.{GoesOn, CopiesFirst, OnlyReads, PlaysOn, WritesFresh, WritesNew, FollowsNew, Leaves, MeetsNext, Chains, ChainsAsked}

-- a drive that was only read
stands-still : (a b : Drive) → KeepsLaws b → Stays a b → OnlyReads a b
stands-still a b laws stays =
    let now : (c : List ℕ) → b.since a.clock c → a.images c =
    λ c left. stays.images c (laws.only_now c (subst (λ (t : ℕ). b.since t c) (sym stays.clock) left)) in
    record {
      bytes = λ xs holds. record {
        any_moment = λ c left. holds.durable c (now c left);
        holds = record { told = stays.bytes ∙ holds.told; durable = λ c left. holds.durable c (stays.images c left) };
      };
      log = λ w cells holds. record {
        any_moment = λ c left. subst (IsStanding w cells) (sym (holds.durable c (now c left))) holds.standing;
        stands = holds-same w cells a b stays.bytes stays.images holds;
      };
    }

-- one that is the value that it was
same-still : (a b : Drive) → KeepsLaws b → b ≡ a → OnlyReads a b
same-still a b laws same =
    let now = (subst KeepsLaws same laws).only_now in
    subst (λ (d : Drive). OnlyReads a d) (sym same) (record {
      bytes = λ xs holds. record { any_moment = λ c left. holds.durable c (now c left); holds = holds };
      log = λ w cells holds. record {
        any_moment = λ c left. subst (IsStanding w cells) (sym (holds.durable c (now c left))) holds.standing;
        stands = holds;
      };
    })

-- a run without a history
goes-still : (a b : Drive) (status : ℕ) (h : List Entry) (w : ℕ) (cells : List Cell) → KeepsLaws b → a.clock ≤ b.clock → h ≡ []
    → ((image : List ℕ) → b.since a.clock image → IsStanding w cells image) → (status ≢ 7 → HoldsLog w cells b) → (xs : List ℕ) → b.bytes ≡ Some xs → GoesOn w cells a b status h
goes-still a b status h w cells laws later none moments stands xs told =
    let same : cells ++ [] ≡ cells = append-nil cells in
    subst (λ (l : List Entry). GoesOn w cells a b status l) (sym none) (record {
      any_moment = λ c left. (0, subst (λ (l : List Cell). IsStanding w l c) (sym same) (moments c left));
      stands = λ other. subst (λ (l : List Cell). HoldsLog w l b) (sym same) (stands other);
      held = (xs, told, inl (subst (λ (l : List Cell). Recovers w l xs) (sym same) (moments xs (laws.counts_now a.clock xs later (laws.held xs told))).recovers));
    })

-- there was no book for the rows
goes-unopened : {D : Type 0} (file : List ℕ) (old new : Targets D) (status : ℕ) (h : List Entry) → KeepsLaws new.drive → IsLogUnopened (Some file) old new status h
    → PlaysOn old.drive new.drive status h
goes-unopened file old new status h laws unopened w cells holds =
    let (why, unread, refuses) = unopened.refused in
    let now : LeavesNow old.drive (Recovers w cells) = λ c left. subst (Recovers w cells) (sym (holds.durable c left)) holds.standing.recovers in
    let version : LeavesNow old.drive IsNewest = λ c left. subst IsNewest (sym (holds.durable c left)) holds.standing.version in
    let has = recovers_width w cells holds.bytes holds.standing.known holds.standing.recovers in
    let (xs, told) = told_before new.drive.bytes old.drive.bytes holds.bytes (sym unread.told) holds.told in
    goes-still old.drive new.drive status h w cells laws (unread.newest version).later unopened.none
    (λ c left. record {
      known = holds.standing.known;
      recovers = (unread.keeps w holds.bytes holds.told has holds.bytes cells holds.told now).each c left;
      version = (unread.newest version).each c left;
    })
    (λ other. unread.stands (λ disk. other (refuses.status_is ∙ ap status_of disk)) w cells holds) xs told

-- the origin of rows over a log that stands
begins-there : (a : Drive) (w : ℕ) (cells : List Cell) → HoldsLog w cells a → (from : Origin) → IsFoundOrigin a from → from ≡ origin_of w cells
begins-there a w cells holds from found =
    let recovers = found.recovers holds.bytes holds.told in
    found.origin_is
    ∙ ap (λ (v : ℕ). origin_of v found.first) (one-width found.width w found.first cells holds.bytes found.known recovers holds.standing)
    ∙ ap (origin_of w) (one-list found.width w found.first cells holds.bytes found.known recovers holds.standing)

-- rows were answered
goes-answered : {D : Type 0} (report : _) (file : List ℕ) (size : ℕ) (rows : List InRow) (old new : Targets D) (status : ℕ) (h : List Entry) → KeepsLaws new.drive
    → IsAnswered report (Some file) size rows old new status h → PlaysOn old.drive new.drive status h
goes-answered report file size rows old new status h laws answered w cells holds =
    let from : answered.from ≡ origin_of w cells = begins-there old.drive w cells holds answered.from answered.begins in
    let first : answered.from.first ≡ Some cells = ap (λ (o : Origin). o.first) from in
    let settled : IsSynced old.drive = λ xs told c left. holds.durable c left ∙ same_Some holds.bytes xs (sym holds.told ∙ told) in
    let kept : KeepsAll w cells (state_of w cells).world h old.drive new.drive status =
    subst (λ (o : Origin). KeepsAll o.width cells o.state.world h old.drive new.drive status) from (answered.crash holds.bytes cells holds.told first settled) in
    let (xs, told) = told_before new.drive.bytes old.drive.bytes holds.bytes (sym answered.told) holds.told in
    let text : status ≢ 7 → IsLog w (cells ++ cells_of (state_of w cells).world h) new.drive =
    λ other. subst (λ (o : Origin). IsLog o.width (cells ++ cells_of o.state.world h) new.drive) from (answered.text holds.bytes cells holds.told first other) in
    record {
      any_moment = λ c left. let (m, to) = kept.any_moment c left in (m, record { known = holds.standing.known; recovers = to.recovers; version = to.version });
      stands = λ other.
          let log = text other in
          holds-text w (cells ++ cells_of (state_of w cells).world h) new.drive holds.standing.known
          (kept.all other log.bytes (laws.held log.bytes log.told)).legal log;
      held = (xs, told, kept.at_end xs (laws.held xs told));
    }

goes-rows : {D : Type 0} (report : _) (file : List ℕ) (size : ℕ) (rows : List InRow) (old new : Targets D) (status : ℕ) (h : List Entry) → KeepsLaws new.drive
    → PlaysRows report (Some file) size rows old new status h → PlaysOn old.drive new.drive status h
goes-rows report file size rows old new status h laws (inl unopened) = goes-unopened file old new status h laws unopened
goes-rows report file size rows old new status h laws (inr answered) = goes-answered report file size rows old new status h laws answered

-- a drive tells the log of one width and one list of cells
told-width : (v w : ℕ) (own cells : List Cell) (bytes : List ℕ) → IsWidth v → Recovers v own bytes → IsWidth w → Recovers w cells bytes → v ≡ w
told-width v w own cells bytes known recovers also is = same_width v w bytes (recovers_width v own bytes known recovers) (recovers_width w cells bytes also is)

told-list : (v w : ℕ) (own cells : List Cell) (bytes : List ℕ) → IsWidth v → Recovers v own bytes → IsWidth w → Recovers w cells bytes → own ≡ cells
told-list v w own cells bytes known recovers also is =
    one_recovery w own cells bytes (subst (λ (u : ℕ). Recovers u own bytes) (told-width v w own cells bytes known recovers also is) recovers) is

-- nothing was done to the second file, and no lines were written
copies-none : (w : ℕ) (cells : List Cell) (a b : Drive) (status : ℕ) → KeepsLaws b → b ≡ a → (WritesLines status → ⊥) → CopiesFirst w cells a b status
copies-none w cells a b status laws same none =
    let now = (subst KeepsLaws same laws).only_now in
    subst (λ (d : Drive). CopiesFirst w cells a d status) (sym same) (record {
      small = λ small c left. inl (small c (now c left));
      stood = λ v own there long c left. inl (subst (IsStanding v own) (sym (there.durable c (now c left))) there.standing);
      stands = λ writes. absurd (none writes);
      stays = λ other. inr (record { bytes = refl; images = λ c left. left; since = λ t c le left. inl left });
    })

-- two widths are the same, or they aren't
same-width-or : (v w : ℕ) → IsWidth v → IsWidth w → (v ≡ w) ⊎ (v ≢ w)
same-width-or v w (inl a) (inl b) = inl (a ∙ sym b)
same-width-or v w (inl a) (inr b) = inr (λ e. omega (arith, a, b, e))
same-width-or v w (inr a) (inl b) = inr (λ e. omega (arith, a, b, e))
same-width-or v w (inr a) (inr b) = inl (a ∙ sym b)

-- a leader's cells, and the second file, whose bytes were known
module _ (w : ℕ) (cells : List Cell) (known : IsWidth w) (legal : IsLegalCells w cells) (a b : Drive) (status : ℕ) (before after : Output)
    (bytes : List ℕ) (told : a.bytes ≡ Some bytes) (laws : KeepsLaws a) where
  first-stands : (c : List ℕ) (least most : ℕ) → RecoversFirst w cells least most c → (m : ℕ) × IsStanding w (take m cells) c
  first-stands c least most first = (first.count, record { known = known; recovers = first.recovers; version = first.version })

  text-stands : (n : ℕ) → IsLog w (take n cells) b → HoldsLog w (take n cells) b
  text-stands n log = holds-text w (take n cells) b known (legal-take w cells legal n) log

  turns-stand : (turns : List Turn) (first made opened : ℕ) → EndsTurns w cells first turns made opened a b status before after → status ≢ 7
      → (m : ℕ) × HoldsLog w (take m cells) b
  turns-stand turns first made opened (inl all) other =
      let held = (machine_at (length cells) first turns made).held in
      (held, text-stands held (all.log bytes told))
  turns-stand turns first made opened (inr (why, stops, refuses)) other =
      let held = (machine_at (length cells) first turns made).held in
      (held, text-stands held (stops.log bytes told (λ disk. other (refuses.status_is ∙ disk))))

  -- what stood there were its first cells
  took-first : (turns : List Turn) (plays : PlaysTurns w cells turns a b status before after) (v : ℕ) (own : List Cell) (there : HoldsLog v own a) → 17 < length there.bytes
      → IsTaken w cells there.bytes plays.first → (c : List ℕ) → b.since a.clock c → (m : ℕ) × IsStanding w (take m cells) c
  took-first turns plays v own there long (inl (small, none)) c left = absurd (omega (arith, long, small))
  took-first turns plays v own there long (inr (more, within, openable)) c left =
      let now : LeavesNow a (Recovers w (take plays.first cells)) = λ d is. subst (Recovers w (take plays.first cells)) (sym (there.durable d is)) openable.recovers in
      let version : LeavesNow a IsNewest = λ d is. subst IsNewest (sym (there.durable d is)) there.standing.version in
      ⊎_elim
      (λ recovers. (plays.first, record { known = known; recovers = recovers; version = (plays.keeps.newest there.bytes there.told long version).each c left }))
      (first-stands c plays.first (length cells))
      ((plays.keeps.log there.bytes there.told long now).each c left)

  copies-turns : (turns : List Turn) → PlaysTurns w cells turns a b status before after → CopiesFirst w cells a b status
  copies-turns turns plays = record {
    small = λ small c left. ⊎_elim (λ is. inl is) (λ first. inr (first-stands c plays.first (length cells) first)) ((plays.keeps.small bytes told small).each c left);
    stood = λ v own there long c left. inr (took-first turns plays v own there long (plays.found there.bytes there.told) c left);
    stands = λ writes. turns-stand turns plays.first plays.made plays.opened plays.ends (λ disk. no-lines (refusal.Disk None) status disk writes);
    stays = λ other. inl (turns-stand turns plays.first plays.made plays.opened plays.ends other);
  }

  module _ (unopened : IsUnopened w cells a b status before after) where
    -- a log of the leader's width
    left-same : (own : List Cell) (there : HoldsLog w own a) → 17 < length there.bytes → (c : List ℕ) → b.since a.clock c → IsStanding w own c
    left-same own there long c left =
        let now : LeavesNow a (Recovers w own) = λ d is. subst (Recovers w own) (sym (there.durable d is)) there.standing.recovers in
        let version : LeavesNow a IsNewest = λ d is. subst IsNewest (sym (there.durable d is)) there.standing.version in
        record {
          known = known;
          recovers = (unopened.keeps.log there.bytes own there.told long now).each c left;
          version = (unopened.keeps.newest there.bytes there.told long version).each c left;
        }

    -- one of the other width, which no follower takes
    not-taken : (v : ℕ) (own : List Cell) (xs : List ℕ) → IsStanding v own xs → 17 < length xs → v ≢ w → (held : ℕ) → IsTaken w cells xs held → ⊥
    not-taken v own xs stands long other held (inl (small, none)) = omega (arith, long, small)
    not-taken v own xs stands long other held (inr (more, within, openable)) = other (sym (one-width w v (take held cells) own xs known openable.recovers stands))

    left-other : (v : ℕ) (own : List Cell) (there : HoldsLog v own a) → 17 < length there.bytes → v ≢ w → (c : List ℕ) → b.since a.clock c → IsStanding v own c
    left-other v own there long other c left =
        let untouched = unopened.keeps.other there.bytes there.told (not-taken v own there.bytes there.standing long other) in
        let now : a.images c = ⊎_elim (laws.only_now c) (λ is. is) (untouched.since a.clock c (omega arith) left) in
        subst (IsStanding v own) (sym (there.durable c now)) there.standing

    left-standing : (v : ℕ) (own : List Cell) (there : HoldsLog v own a) → 17 < length there.bytes → (v ≡ w) ⊎ (v ≢ w) → (c : List ℕ) → b.since a.clock c → IsStanding v own c
    left-standing v own there long (inl same) =
        subst (λ (u : ℕ). (holds : HoldsLog u own a) → 17 < length holds.bytes → (c : List ℕ) → b.since a.clock c → IsStanding u own c) (sym same) (left-same own) there long
    left-standing v own there long (inr other) = left-other v own there long other

    copies-unopened : CopiesFirst w cells a b status
    copies-unopened =
        let (why, cause, refuses) = unopened.refused in
        record {
          small = λ small c left. inl ((unopened.keeps.small bytes told small).each c left);
          stood = λ v own there long c left. inl (left-standing v own there long (same-width-or v w there.standing.known known) c left);
          stands = λ writes. absurd (no-lines why status refuses.status_is writes);
          stays = λ other. inr (unopened.untouched other bytes told);
        }

  copies-ends : (turns : List Turn) → IsUnopened w cells a b status before after ⊎ PlaysTurns w cells turns a b status before after → CopiesFirst w cells a b status
  copies-ends turns (inl unopened) = copies-unopened unopened
  copies-ends turns (inr plays) = copies-turns turns plays

-- what is left of cells, written anew
abbrev fresh-of : ℕ → List Cell → List Cell
fresh-of w cells = anew w (state_of w cells).world (state_of w cells).leaves

-- an image on the way
way-stands : (w : ℕ) (fresh : List Cell) → IsWidth w → (c : List ℕ)
    → IsSmall c ⊎ (Recovers w [] c × IsNewest c) ⊎ (Recovers w fresh c × IsNewest c) → IsSmall c ⊎ IsStanding w [] c ⊎ IsStanding w fresh c
way-stands w fresh known c (inl small) = inl small
way-stands w fresh known c (inr (inl (recovers, version))) = inr (inl (record { known = known; recovers = recovers; version = version }))
way-stands w fresh known c (inr (inr (recovers, version))) = inr (inr (record { known = known; recovers = recovers; version = version }))

-- a command's ends, where a drive that is the value that it was is seen as it was
module _ {S D : Type 0} (done : Done (Ends S D)) (same : done.new.to.disk ≡ done.old.to.disk → done.new.to.drive ≡ done.old.to.drive)
    (same-other : done.new.to.other ≡ done.old.to.other → done.new.to.other_drive ≡ done.old.to.other_drive)
    (laws : KeepsLaws done.new.to.drive) (laws-other : KeepsLaws done.new.to.other_drive) (laws-before : KeepsLaws done.old.to.other_drive) where
  abbrev old : Targets D
  old = done.old.to

  abbrev new : Targets D
  new = done.new.to

  back-still : new.disk ≡ old.disk → OnlyReads old.drive new.drive
  back-still back = same-still old.drive new.drive laws (same back)

  back-goes : done.history ≡ [] → new.disk ≡ old.disk → PlaysOn old.drive new.drive done.status done.history
  back-goes none back w cells holds =
      let still = (back-still back).log w cells holds in
      goes-still old.drive new.drive done.status done.history w cells laws (omega (arith, ap (λ (d : Drive). d.clock) (same back))) none still.any_moment (λ other. still.stands) still.stands.bytes still.stands.told

  none-rows : (report : _) (size : ℕ) (rows : List InRow) → PlaysRows report None size rows old new done.status done.history → OnlyReads old.drive new.drive
  none-rows report size rows (inl unopened) = let (why, (memory, back), refuses) = unopened.refused in back-still back
  none-rows report size rows (inr answered) = back-still answered.book

  none-played : (size : ℕ) → Goes None size done.old.input done.new.input old new done.status done.history → OnlyReads old.drive new.drive
  none-played size (inl unread) = back-still unread.disk
  none-played size (inr read) = none-rows _ size read.rows read.plays

  log-played : (file : List ℕ) (size : ℕ) → Goes (Some file) size done.old.input done.new.input old new done.status done.history → PlaysOn old.drive new.drive done.status done.history
  log-played file size (inl unread) = back-goes unread.none unread.disk
  log-played file size (inr read) = goes-rows _ file size read.rows old new done.status done.history laws read.plays

  none-tried : (made : Made) → PlaysMade None made old new done.status done.history → OnlyReads old.drive new.drive
  none-tried made (inl unmade) = back-still unmade.disk
  none-tried made (inr plays) = none-rows _ trial_bucket (made_rows made.rows made.seed) plays

  log-tried : (file : List ℕ) (made : Made) → PlaysMade (Some file) made old new done.status done.history → PlaysOn old.drive new.drive done.status done.history
  log-tried file made (inl unmade) = back-goes unmade.none unmade.disk
  log-tried file made (inr plays) = goes-rows _ file trial_bucket (made_rows made.rows made.seed) old new done.status done.history laws plays

  log-watched : (file : List ℕ) → GoesAlong file done.old.input done.new.input old new done.status → OnlyReads old.drive new.drive
  log-watched file (inl unfenced) = back-still unfenced.disk
  log-watched file (inr fenced) = stands-still old.drive new.drive laws fenced.ends.stays

  log-followed : (file name : List ℕ) → GivesNoTurns done.old.input done.new.input old new done.status ⊎ GivesTurns file name done.old.input done.new.input old new done.status → OnlyReads old.drive new.drive
  log-followed file name (inl none) = back-still none.disk
  log-followed file name (inr turns) = stands-still old.drive new.drive laws turns.ends.stays

  other-still : (why : _) → done.status ≡ status_of why → new.other ≡ old.other → FollowsNew old new done.status
  other-still why is back w cells bytes holds told =
      copies-none w cells old.other_drive new.other_drive done.status laws-other (same-other back) (no-lines why done.status is)

  new-followed : (file name : List ℕ) (turns : List Turn) → RefusesLeader old new done.status ⊎ FollowsLeader file name turns old new done.status → FollowsNew old new done.status
  new-followed file name turns (inl refuses) w cells bytes holds told =
      let (why, cause, line) = refuses.refused in
      other-still why line.status_is refuses.other w cells bytes holds told
  new-followed file name turns (inr follows) w cells bytes holds told =
      let v : ℕ = follows.width in
      let own : List Cell = follows.cells in
      let leading = follows.found.leading in
      let recovers = follows.found.recovers holds.bytes holds.told in
      subst (λ (l : List Cell). CopiesFirst w l old.other_drive new.other_drive done.status) (told-list v w own cells holds.bytes leading.known recovers holds.known holds.recovers)
      (subst (λ (u : ℕ). CopiesFirst u own old.other_drive new.other_drive done.status) (told-width v w own cells holds.bytes leading.known recovers holds.known holds.recovers)
      (copies-ends v own leading.known leading.legal old.other_drive new.other_drive done.status old.output new.output bytes told laws-before turns follows.ends.ends))

  turns-followed : (file name : List ℕ) → GivesNoTurns done.old.input done.new.input old new done.status ⊎ GivesTurns file name done.old.input done.new.input old new done.status → FollowsNew old new done.status
  turns-followed file name (inl none) = let (why, cause, line) = none.refused in other-still why line.status_is none.other
  turns-followed file name (inr turns) = new-followed file name turns.turns turns.ends.ends

  log-made : (w : ℕ) → IsWidth w → MakesOrRefuses w old.drive new.drive done.status old.output new.output → WritesLines done.status → (bytes : List ℕ) → old.drive.bytes ≡ Some bytes → HoldsLog w [] new.drive
  log-made w known (inl (made, wrote)) writes bytes told = holds-text w [] new.drive known refl (made.log bytes told).1
  log-made w known (inr (why, cause, refuses)) writes bytes told = absurd (no-lines why done.status refuses.status_is writes)

  fresh-stands : (v : ℕ) (own : List Cell) (bytes : List ℕ) → IsWidth v → old.other_drive.bytes ≡ Some bytes
      → WritesOrRefuses v (state_of v own).world (state_of v own).leaves old.other_drive new.other_drive done.status old.output new.output
      → WritesLines done.status → HoldsLog v (fresh-of v own) new.other_drive
  fresh-stands v own bytes known told (inl (made, wrote)) writes =
      holds-text v (fresh-of v own) new.other_drive known made.state.legal (made.made.log bytes told).1
  fresh-stands v own bytes known told (inr (why, cause, refuses)) writes = absurd (no-lines why done.status refuses.status_is writes)

  fresh-ends : (name : List ℕ) (v : ℕ) (own : List Cell) (bytes : List ℕ) → IsWidth v → old.other_drive.bytes ≡ Some bytes
      → EndsAnew v (state_of v own).world (state_of v own).leaves name old.other_drive new.other_drive done.status old.output new.output
      → WritesFresh v (fresh-of v own) old.other_drive new.other_drive done.status
  fresh-ends name v own bytes known told ends = record {
    small = λ small c left. way-stands v (fresh-of v own) known c ((ends.keeps.on_way bytes told small).each c left);
    in_use = λ xs is long. stands-still old.other_drive new.other_drive laws-other (ends.keeps.in_use xs is long);
    stands = fresh-stands v own bytes known told ends.ends;
  }

  log-compacted : (file name : List ℕ) → RefusesFile old new done.status ⊎ WritesAnew file name old new done.status → WritesNew old new done.status
  log-compacted file name (inl refuses) w cells bytes holds told =
      let (why, cause, line) = refuses.refused in
      let back : new.other_drive ≡ old.other_drive = same-other refuses.other in
      record {
        small = λ small c left. inl (small c ((subst KeepsLaws back laws-other).only_now c (subst (λ (d : Drive). d.since old.other_drive.clock c) back left)));
        in_use = λ xs is long. same-still old.other_drive new.other_drive laws-other back;
        stands = λ writes. absurd (no-lines why done.status line.status_is writes);
      }
  log-compacted file name (inr wrote) w cells bytes holds told =
      let v : ℕ = wrote.width in
      let own : List Cell = wrote.cells in
      let known = wrote.found.known in
      let recovers = wrote.found.recovers holds.bytes holds.told in
      subst (λ (l : List Cell). WritesFresh w (fresh-of w l) old.other_drive new.other_drive done.status) (told-list v w own cells holds.bytes known recovers holds.known holds.recovers)
      (subst (λ (u : ℕ). WritesFresh u (fresh-of u own) old.other_drive new.other_drive done.status) (told-width v w own cells holds.bytes known recovers holds.known holds.recovers)
      (fresh-ends name v own bytes known told wrote.ends))

  leaves-next : (words : List (List ℕ)) (c : Command) → AsksFor words c → Keeps c done → Leaves c old new done.status done.history
  leaves-next words (Init file width) asks keeps =
      let makes = keeps.did.ends in
      record { any_moment = λ small. (makes.leaves.small small).each; in_use = λ xs is long. stands-still old.drive new.drive laws (makes.leaves.in_use xs is long); stands = log-made width (init-width words file width asks) makes.ends }
  leaves-next words (Check file) asks keeps = stands-still old.drive new.drive laws keeps.did.ends.stays
  leaves-next words (Show file region) asks keeps = stands-still old.drive new.drive laws keeps.did.ends.stays
  leaves-next words (Play None size) asks keeps = none-played size keeps.goes
  leaves-next words (Play (Some file) size) asks keeps = log-played file size keeps.goes
  leaves-next words (Trial None made) asks keeps = none-tried made keeps.did.goes
  leaves-next words (Trial (Some file) made) asks keeps = log-tried file made keeps.did.goes
  leaves-next words (Compact file name) asks keeps = (stands-still old.drive new.drive laws keeps.did.ends.stays, log-compacted file name keeps.did.ends.ends)
  leaves-next words (Watch file) asks keeps = log-watched file keeps.goes
  leaves-next words (Follow file name) asks keeps = (log-followed file name keeps.goes.goes, turns-followed file name keeps.goes.goes)

-- where a log stands, the clauses of a run speak of its cells
pub meets-next : (a b : Drive) → MeetsNext a b
meets-next a b w cells holds =
    let stands = holds.standing in
    let is : (xs : List ℕ) → a.bytes ≡ Some xs → holds.bytes ≡ xs = λ xs told. same_Some holds.bytes xs (sym holds.told ∙ told) in
    record {
      settled = λ xs told c left. holds.durable c left ∙ is xs told;
      begins = begins-there a w cells holds;
      good = λ few calm. record { bytes = holds.bytes; told = holds.told; width = w; known = stands.known; first = cells; recovers = stands.recovers; version = stands.version; few = few; calm = calm };
      finds = λ v own found.
          let recovers = found.recovers holds.bytes holds.told in
          (one-width v w own cells holds.bytes found.known recovers stands, one-list v w own cells holds.bytes found.known recovers stands);
      few = λ few. record { width = w; known = stands.known; bytes = holds.bytes; told = holds.told; recovers = stands.recovers; few = few };
      leads = λ v own found.
          let recovers = found.recovers holds.bytes holds.told in
          (one-width v w own cells holds.bytes found.leading.known recovers stands, one-list v w own cells holds.bytes found.leading.known recovers stands);
      leading = λ few. record { known = stands.known; bytes = holds.bytes; told = holds.told; recovers = stands.recovers; few = few };
      taken = λ all xs told long few within same. inr (
        long,
        within,
        subst (λ (l : List Cell). IsOpenable w l xs) same (record {
          recovers = subst (Recovers w cells) (is xs told) stands.recovers;
          version = subst (λ (l : List ℕ). slice_index l 8 ≡ newest) (is xs told) stands.version;
          few = few;
        }),
      );
    }

pub chains-asked : {S D : Type 0} (words : List (List ℕ)) (a : Command) (done : Done (Ends S D)) → (done.new.to.disk ≡ done.old.to.disk → done.new.to.drive ≡ done.old.to.drive)
    → (done.new.to.other ≡ done.old.to.other → done.new.to.other_drive ≡ done.old.to.other_drive) → KeepsLaws done.new.to.drive → KeepsLaws done.new.to.other_drive
    → KeepsLaws done.old.to.other_drive → AsksFor words a → Keeps a done → ChainsAsked words done
chains-asked words a done same same-other laws laws-other laws-before asks keeps c asked = subst (λ (k : Command). Chains k done.old.to done.new.to done.status done.history) (one-command words a c asks asked) (record {
  leaves = leaves-next done same same-other laws laws-other laws-before words a asks keeps;
  meets = meets-next done.old.to.drive done.new.to.drive;
  meets_other = meets-next done.old.to.other_drive done.new.to.other_drive;
})
