-- What calls on a reading say about the log: about the next cell, and about all cells.
use Rattle.std.proofs.Common.{◌≡◌, ℕ, ◌≤◌, List, [], ◌∷◌, ◌++◌, length, Option, Some, None, sym, ◌∙◌, ap, subst, arith, length-append, lit≤}
use Rattle.std.specs.Prelude.{Result, Ok, Err}
use Rattle.cell_format.specs.Spelling.{IsVersion}
use Rattle.cell_format.specs.declared.cell.Cell.{Cell}
use Rattle.disk_trait.specs.Drive.{Drive, SameFile, Stays}
use Rattle.split_log.specs.LogText.{HoldsCells}
use Rattle.log_state.specs.Recovers.{IsLegalCells, Recovers, state_of}
use Rattle.recovery.specs.declared.seen.OpenFault.{OpenFault}
use Rattle.recovery.specs.declared.seen.OpenFault.TheVariants as fault
use Rattle.recovery.specs.declared.seen.Seen.{Seen}
use Rattle.recovery.specs.declared.walked.Walked.{Walked}
use Rattle.recovery.specs.Faults.{BeginsWith, IsFault, IsInBytes, IsOfHead}
use Rattle.recovery.specs.Found.{Shows, IsWanted}
use Rattle.recovery.specs.Reading.{ReadingView, HasRead, IsBehind, FailsOn, Starts, SameLog, Advances, ReadsAll, IsOnWay, IsSeenOf, OnlyReads, IsFoundIn}
use Rattle.recovery.specs.Walked.{IsNextWalked}
use Rattle.recovery.specs.Headers.{HasHeader}
use Rattle.recovery.specs.Walks.{WalkView, ComesTo, TellsWalked, TellsFault, TellsAll}
use Rattle.recovery.proofs.Exclusive.{known_version, behind_header, header_is_new, recovers_no_fault, recovers_wanted, told_fault, told_free, one_recovery}
use Rattle.recovery.proofs.HeadLemmas.{index_version, header_is_log}
use Rattle.recovery.proofs.OnlyReading.{stays-trans}
use Rattle.recovery.proofs.ReadingLemmas.{has_read-stays, same_log-trans}

-- All cells of a log, one after the other.
module _ (before now after : Drive) (first r new : ReadingView) (way : IsOnWay before now first r) (stays : Stays now after) (file : SameFile now after) where
  pub way_on : (walked : Walked) → Advances now r new (Ok (Some walked)) → after.faults ≡ now.faults → IsOnWay before after first new
  way_on walked adv calm = record {
    same = same_log-trans first r new way.same adv.same;
    stays = stays-trans before now after way.stays stays;
    calm = calm ∙ way.calm;
    file = λ all told. way.file all (file all told);
    reads = λ cells read.
        let so_far = way.reads cells read in
        let next = adv.tells so_far.0 (has_read-stays so_far.0 before now r way.stays.bytes so_far.1) in
        (so_far.0 ++ walked.cell ∷ [], has_read-stays (so_far.0 ++ walked.cell ∷ []) now before new (sym way.stays.bytes) next.0);
  }

  pub way_ends : Advances now r new (Ok None) → ReadsAll before first new
  way_ends adv = record {
    same = same_log-trans first r new way.same adv.same;
    reads = λ cells read.
        let so_far = way.reads cells read in
        let end = adv.tells so_far.0 (has_read-stays so_far.0 before now r way.stays.bytes so_far.1) in (
          so_far.0,
          has_read-stays so_far.0 now before new (sym way.stays.bytes) end.0,
          λ xs told. subst (λ v. HoldsCells v first.replay.width so_far.0 xs) way.same.version (subst (λ n. HoldsCells r.replay.version n so_far.0 xs) way.same.width (end.1 xs (way.stays.bytes ∙ told))),
        );
  }

  pub way_fails : (e : OpenFault) → Advances now r new (Err e) → FailsOn before first e
  way_fails e adv = record {
    fails = λ cells read xs told oldest wanted.
        let so_far = way.reads cells read in
        let fails = (adv.tells so_far.0 (has_read-stays so_far.0 before now r way.stays.bytes so_far.1)).2 in
        subst (λ m. IsFault oldest (Some first.replay.width) m xs e) way.same.most
        (subst (λ n. IsFault oldest (Some n) r.most xs e) way.same.width (fails xs (way.stays.bytes ∙ told) oldest (subst (IsWanted oldest) (sym way.same.version) wanted)));
    behind = λ cells read.
        let so_far = way.reads cells read in
        (length so_far.0, subst (λ m. IsBehind m (length so_far.0) e) way.same.most (adv.tells so_far.0 (has_read-stays so_far.0 before now r way.stays.bytes so_far.1)).1);
  }

-- What is found in a log that was read to its end.
pub found_read : (oldest w most len : ℕ) (a b : Drive) (first r : ReadingView) (seen : Seen) → Starts oldest w most a first → b.bytes ≡ a.bytes → ReadsAll b first r → IsSeenOf r seen → len ≡ r.len → IsFoundIn oldest w most a seen len
found_read oldest w most len a b first r seen starts kept all shown whole =
    let read = all.reads [] (has_read-stays [] a b first kept starts.read) in
    let cells : List Cell = read.0 in
    let width : r.replay.width ≡ w = all.same.width ∙ starts.width in
    let version : seen.version ≡ first.replay.version = shown.version ∙ all.same.version in
    let holds : (xs : List ℕ) → a.bytes ≡ Some xs → HoldsCells first.replay.version w cells xs = λ xs told. subst (λ n. HoldsCells first.replay.version n cells xs) starts.width (read.2 xs (kept ∙ told)) in
    let legal : IsLegalCells w cells = subst (λ n. IsLegalCells n cells) width read.1.legal in
    record {
      found = record {
        cells = cells;
        legal = legal;
        few = omega (arith, read.1.count, shown.few, all.same.most, starts.most_is);
        finds = subst (λ n. Shows (state_of w cells) n seen) (sym read.1.count)
            (subst (λ n. Shows (state_of n cells) r.number seen) width (subst (λ s. Shows s r.number seen) read.1.state shown.shows));
        wanted = subst (IsWanted oldest) (sym version) starts.wanted;
        recovers = λ xs told. record {
          version = first.replay.version;
          known = subst (λ v. IsVersion v) all.same.version shown.known;
          holds = holds xs told;
          legal = legal;
        };
        named = λ xs told. version ∙ sym (index_version first.replay.version w cells xs (holds xs told));
      };
      room = omega (arith, shown.room, shown.shows.count, whole);
      whole = λ xs told. (read.1.begins xs (kept ∙ told)).0 ∙ sym whole;
    }

-- A call of a walk.
module _ {D : Type 0} (w most : ℕ) (cells : List Cell) (old new : Drive) (walk next : WalkView D) (come : ComesTo w most cells old walk) (kept : new.bytes ≡ old.bytes) where
  comes_on : (all : List Cell) → HasRead all old next.reading → SameLog walk.reading next.reading → length all ≤ most → ComesTo w most all new next
  comes_on all read same few = record {
    legal = subst (λ n. IsLegalCells n all) (same.width ∙ come.width) read.legal;
    few = few;
    wanted = subst (IsWanted 1) (sym same.version) come.wanted;
    width = same.width ∙ come.width;
    most_is = same.most ∙ come.most_is;
    room = read.room;
    read = has_read-stays all old new next.reading kept read;
  }

  pub tells : (result : Result (Option Walked) OpenFault) → Advances old walk.reading next.reading result → TellsWalked w most cells old new next result
  tells (Ok (Some walked)) adv =
      let told = adv.tells cells come.read in (
        comes_on (cells ++ walked.cell ∷ []) told.0 adv.same (omega (arith, adv.fewer.0, come.read.count, come.most_is, length-append cells (walked.cell ∷ []))),
        subst (λ n. IsNextWalked n cells walked) come.width told.1,
      )
  tells (Ok None) adv =
      let told = adv.tells cells come.read in (
        comes_on cells told.0 adv.same come.few,
        λ xs is. record {
          version = walk.reading.replay.version;
          known = known_version 1 walk.reading.replay.version (lit≤ tt) come.wanted;
          holds = subst (λ n. HoldsCells walk.reading.replay.version n cells xs) come.width (told.1 xs is);
          legal = come.legal;
        },
      )
  tells (Err e) adv =
      let told = adv.tells cells come.read in (
        comes_on cells told.0 adv.same come.few,
        subst (λ m. IsBehind m (length cells) e) come.most_is told.1,
        λ xs is. subst (λ m. IsFault 1 (Some w) m xs e) come.most_is (subst (λ n. IsFault 1 (Some n) walk.reading.most xs e) come.width (told.2 xs is 1 come.wanted)),
      )

-- The fault that the bytes show is the one that is returned.
module _ {D : Type 0} (w most : ℕ) (cells : List Cell) (old new : Drive) (next : WalkView D) (bytes : List ℕ) (known : old.bytes ≡ Some bytes) where
  pub tells_fault : (f : OpenFault) (result : Result (Option Walked) OpenFault) → length cells ≤ most → IsInBytes f → IsFault 1 (Some w) most bytes f → OnlyReads old new result → TellsWalked w most cells old new next result → TellsFault f old new result
  tells_fault f (Ok (Some walked)) few shown is reads told = tt
  tells_fault f (Ok None) few shown is reads told =
      let recovers = told.1 bytes known in
      recovers_no_fault 1 w most (lit≤ tt) bytes cells f recovers (recovers_wanted w cells bytes recovers) few shown is
  tells_fault f (Err e) few shown is reads told =
      told_fault 1 w most (lit≤ tt) bytes old new e f (told.2 bytes known) (λ disk. reads.failed (ap (λ x. Err x) disk)) shown is

  pub tells_all : (all : List Cell) (result : Result (Option Walked) OpenFault) → Recovers w all bytes → length all ≤ most → OnlyReads old new result → TellsWalked w most cells old new next result → TellsAll all cells old new result
  tells_all all (Ok (Some walked)) recovers few reads told = tt
  tells_all all (Ok None) recovers few reads told = one_recovery w cells all bytes (told.1 bytes known) recovers
  tells_all all (Err e) recovers few reads told =
      told_free 1 w most (lit≤ tt) bytes old new e all (told.2 bytes known) (λ disk. reads.failed (ap (λ x. Err x) disk)) recovers (recovers_wanted w all bytes recovers) few

-- A log whose reading began has a head.
pub first_header : (oldest w most : ℕ) (drive : Drive) (r : ReadingView) (bytes : List ℕ) → Starts oldest w most drive r → drive.bytes ≡ Some bytes → HasHeader r.replay.version w bytes
first_header oldest w most drive r bytes starts known =
    let at = starts.read.begins bytes known in
    record {
      rest = r.rest ++ at.1;
      parts = behind_header r.replay.version w [] (r.rest ++ at.1) bytes (subst (λ n. BeginsWith r.replay.version n [] (r.rest ++ at.1) bytes) starts.width at.2);
      long = omega (arith, starts.long, at.0);
    }

-- The head of such a log has no fault.
pub head_is_good : (w most : ℕ) (drive : Drive) (r : ReadingView) (bytes : List ℕ) (f : OpenFault) → Starts 1 w most drive r → drive.bytes ≡ Some bytes → IsInBytes f → IsOfHead f → IsFault 1 (Some w) most bytes f → ⊥
head_is_good w most drive r bytes f starts known shown head is = by_fault f shown head is
  where
    has : HasHeader r.replay.version w bytes
    has = first_header 1 w most drive r bytes starts known

    by_fault : (f : OpenFault) → IsInBytes f → IsOfHead f → IsFault 1 (Some w) most bytes f → ⊥
    by_fault fault.NotLog shown head is = header_is_log r.replay.version w bytes has is
    by_fault (fault.OldLog version width) shown head is = header_is_new 1 r.replay.version w bytes version width starts.wanted has is
    by_fault (fault.Damaged number why) shown head is = head
    by_fault (fault.TooLong limit) shown head is = head
    by_fault fault.Disk shown head is = shown
    by_fault fault.Memory shown head is = shown
