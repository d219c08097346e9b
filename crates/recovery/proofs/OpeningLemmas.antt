-- What a crash leaves while a log is opened.
use Rattle.std.proofs.Common.{◌≡◌, ◌≢◌, ◌⊎◌, ℕ, ◌+◌, ◌*◌, ◌<◌, ◌≤◌, inl, inr, ⊎_elim, true, false, List, [], ◌∷◌, ◌++◌, length, take, drop, get_or, Option, Some, None, is_some, refl, sym, ◌∙◌, ap, subst, lit≤, arith, length-append}
use Rattle.std.specs.Prelude.{Result, Ok, Err, IfOk}
use Rattle.std.specs.Result.{IsErrAnd}
use Rattle.causes.specs.Causes.{Rose}
use Rattle.std.proofs.lemmas.List.{take_at, take-append-drop, get_or-take}
use Rattle.cell_format.specs.declared.cell.Cell.{Cell}
use Rattle.disk_trait.specs.declared.disk.DiskFault.{DiskFault}
use Rattle.disk_trait.specs.Drive.{Drive, HasNoMore, Made, MadeWell, SameFile, KeepsLaws, Stays, Shortened, Cuts, Syncs, Only, CountsFaults}
use Rattle.disk_trait.specs.Moments.{LeavesNow, LeavesOnly}
use Rattle.disk_trait.proofs.Calls.{made-then, made-still, still-made}
use Rattle.disk_trait.proofs.Stretches.{started, goes_on}
use Rattle.cell_format.specs.Spelling.{newest}
use Rattle.split_log.specs.LogText.{front_of, IsLogText, HoldsCells}
use Rattle.split_log.proofs.Cells.{length-front_of}
use Rattle.split_log.proofs.Unique.{holds-same}
use Rattle.recovery.specs.declared.seen.Seen.{Seen}
use Rattle.log_state.specs.Recovers.{Recovers}
use Rattle.recovery.specs.declared.seen.OpenFault.{OpenFault}
use Rattle.recovery.specs.declared.seen.OpenFault.TheVariants.{Disk}
use Rattle.recovery.specs.Found.{IsWanted, IsNewest}
use Rattle.recovery.specs.Opening.{CallsToCut, CallsToOpen, CallsRefused, HasNoLog, HasNoLogFor, LeavesUnopened, IsReady, IsUntouched, KeepsStanding, KeepsNewest}
use Rattle.recovery.specs.Reading.{IsFoundIn, IsFoundFor}
use Rattle.recovery.specs.Wanted.{IsWidthFor}
use Rattle.recovery.specs.Widths.{IsWidthOf}
use Rattle.recovery.proofs.HeadLemmas.{index_version, index_width}

-- One stretch after another.
pub leaves-trans : (a b c : Drive) (P : List ℕ → Type 0) → LeavesOnly a b P → LeavesOnly b c P → LeavesOnly a c P
leaves-trans a b c P first second = record {
  later = omega (arith, first.later, second.later);
  each = λ x left. ⊎_elim (λ before. first.each x before) (λ holds. holds) (second.before a.clock x first.later left);
  before = λ t x le left. ⊎_elim (λ before. first.before t x le before) (λ holds. inr holds) (second.before t x (omega (arith, le, first.later)) left);
}

-- A call that only reads.
pub leaves-stays : (a b : Drive) (P : List ℕ → Type 0) → KeepsLaws a → LeavesNow a P → Stays a b → LeavesOnly a b P
leaves-stays a b P laws now stays = record {
  later = omega (arith, stays.clock);
  each = λ x left. now x (laws.only_now x (stays.since a.clock x left));
  before = λ t x le left. inl (stays.since t x left);
}

-- A sync.
pub leaves-sync : {T : Type 0} (a b : Drive) (P : List ℕ → Type 0) (result : Result T DiskFault) → KeepsLaws a → LeavesNow a P → Syncs a b result → LeavesOnly a b P
leaves-sync a b P result laws now syncs = goes_on a a b P (started a P laws now) syncs.time (λ x left. now x (syncs.crash x left))

-- A sync, and then calls that only read, keep the cells.
pub keeps_sync : {T : Type 0} (a b : Drive) (result : Result T DiskFault) → KeepsLaws a → Syncs a b result → a.faults ≤ b.faults → KeepsStanding a b
keeps_sync a b result laws syncs later = record { cells = λ w bytes cells told now. leaves-sync a b (Recovers w cells) result laws now syncs; later = later }

pub keeps_stays : (a b c : Drive) → KeepsLaws b → b.bytes ≡ a.bytes → ((x : List ℕ) → b.images x → a.images x) → KeepsStanding a b → Stays b c → b.faults ≤ c.faults → KeepsStanding a c
keeps_stays a b c laws bytes_kept images_kept synced stays later = record {
  cells = λ w bytes cells told now. leaves-trans a b c (Recovers w cells) (synced.cells w bytes cells told now) (leaves-stays b c (Recovers w cells) laws (λ x left. now x (images_kept x left)) stays);
  later = omega (arith, synced.later, later);
}

-- The only version from the newest on is the newest.
pub newest_is : (v : ℕ) → IsWanted newest v → v ≡ newest
newest_is v wanted = omega (arith, wanted.least, wanted.most)

-- The text of the cells ends here.
module _ (w : ℕ) (cells : List Cell) (end : ℕ) (at_end : end ≡ 17 + 32 * length cells) where
  front_long : (v : ℕ) (bytes : List ℕ) (holds : HoldsCells v w cells bytes) → length holds.front ≡ end
  front_long v bytes holds =
      omega (arith, at_end, ap length holds.text.text, length-append (front_of v w cells) (holds.text.commit_byte ∷ []), length-front_of v w cells)

  pub front_is : (v : ℕ) (bytes : List ℕ) (holds : HoldsCells v w cells bytes) → take end bytes ≡ holds.front
  front_is v bytes holds = ap (take end) holds.parts ∙ take_at holds.front holds.rest end (front_long v bytes holds)

  -- Bytes that recover to the cells still do so when they are cut there, wholly or partly.
  pub recovers-shortened : (old new : List ℕ) → Recovers w cells old → Shortened end old new → Recovers w cells new
  recovers-shortened old new recovers cut =
      let front : take end new ≡ recovers.holds.front = cut.before ∙ front_is recovers.version old recovers.holds in
      record {
        version = recovers.version;
        known = recovers.known;
        holds = record {
          front = recovers.holds.front;
          rest = drop end new;
          parts = sym (take-append-drop end new) ∙ ap (λ (l : List ℕ). l ++ drop end new) front;
          text = recovers.holds.text;
        };
        legal = recovers.legal;
      }

  pub leaves-cut : {T : Type 0} (a b : Drive) (result : Result T DiskFault) → KeepsLaws a → LeavesNow a (Recovers w cells) → Cuts a b end result
      → LeavesOnly a b (Recovers w cells) × LeavesNow b (Recovers w cells)
  leaves-cut a b result laws now cuts =
      let here : LeavesNow b (Recovers w cells) = λ x left. let (d, before, cut) = cuts.crash x left in recovers-shortened d x (now d before) cut in
      (goes_on a a b (Recovers w cells) (started a (Recovers w cells) laws now) cuts.time here, here)

-- A cut after the header keeps the version.
shortened-newest : (end : ℕ) (old new : List ℕ) → 9 ≤ end → Shortened end old new → IsNewest old → IsNewest new
shortened-newest end old new long cut is =
    let within : 8 < end = omega (arith, long) in
    sym (get_or-take end new 8 0 within) ∙ ap (λ (l : List ℕ). get_or l 8 0) cut.before ∙ get_or-take end old 8 0 within ∙ is

pub newest-cut : {T : Type 0} (end : ℕ) (a b : Drive) (result : Result T DiskFault) → 9 ≤ end → KeepsLaws a → Cuts a b end result → LeavesNow a IsNewest → LeavesOnly a b IsNewest × LeavesNow b IsNewest
newest-cut end a b result long laws cuts now =
    let here : LeavesNow b IsNewest = λ x left. let (d, before, cut) = cuts.crash x left in shortened-newest end d x long cut (now d before) in
    (goes_on a a b IsNewest (started a IsNewest laws now) cuts.time here, here)

-- A sync, calls that only read, and what follows them.
pub newest-read : {T : Type 0} (a b c : Drive) (result : Result T DiskFault) → KeepsLaws a → KeepsLaws b → Syncs a b result → Stays b c → KeepsNewest a c
newest-read a b c result before after syncs stays now =
    leaves-trans a b c IsNewest (leaves-sync a b IsNewest result before now syncs) (leaves-stays b c IsNewest after (λ x left. now x (syncs.crash x left)) stays)

pub newest-last : {T : Type 0} (a b c d : Drive) (result : Result T DiskFault) → KeepsLaws a → KeepsLaws b → Syncs a b result → Stays b c → KeepsNewest c d → KeepsNewest a d
newest-last a b c d result before after syncs stays last now =
    leaves-trans a c d IsNewest (newest-read a b c result before after syncs stays now) (last (λ x left. now x (syncs.crash x (stays.images x left))))

module _ (w most len : ℕ) (d0 d1 d2 : Drive) (seen : Seen) (laws0 : KeepsLaws d0) (laws1 : KeepsLaws d1) (bytes_kept : d1.bytes ≡ d0.bytes) (images_kept : (c : List ℕ) → d1.images c → d0.images c)
    (in_file : IsFoundIn newest w most d1 seen len) (stays : Stays d1 d2) where
  -- The cells that were found are those that a crash leaves.
  found_cells : (v : ℕ) (bytes : List ℕ) (cells : List Cell) → IsWidthOf d1 w → d0.bytes ≡ Some bytes → LeavesNow d0 (Recovers v cells) → 17 + 32 * seen.cells ≡ 17 + 32 * length cells
  found_cells v bytes cells width told now =
      let recovers = now bytes (laws0.held bytes told) in
      let found = in_file.found.recovers bytes (bytes_kept ∙ told) in
      let one : v ≡ w = sym (index_width recovers.version v cells bytes recovers.holds) ∙ sym (width.named bytes (bytes_kept ∙ told)).named in
      let same : cells ≡ in_file.found.cells = holds-same recovers.version found.version w cells in_file.found.cells bytes (subst (λ u. HoldsCells recovers.version u cells bytes) one recovers.holds) found.holds in
      omega (arith, ap length same, in_file.found.finds.count)

  pub keeps_log : (d3 : Drive) → IsWidthOf d1 w → KeepsStanding d0 d1 → d1.faults ≤ d2.faults → d2.faults ≤ d3.faults
      → ((v : ℕ) (cells : List Cell) → 17 + 32 * seen.cells ≡ 17 + 32 * length cells → LeavesNow d2 (Recovers v cells) → LeavesOnly d2 d3 (Recovers v cells)) → KeepsStanding d0 d3
  keeps_log d3 width synced read_later cut_later cut = record {
    cells = λ v bytes cells told now.
        let now1 : LeavesNow d1 (Recovers v cells) = λ x left. now x (images_kept x left) in
        let second : LeavesOnly d1 d2 (Recovers v cells) = leaves-stays d1 d2 (Recovers v cells) laws1 now1 stays in
        let now2 : LeavesNow d2 (Recovers v cells) = λ x left. now1 x (stays.images x left) in
        leaves-trans d0 d2 d3 (Recovers v cells) (leaves-trans d0 d1 d2 (Recovers v cells) (synced.cells v bytes cells told now) second) (cut v cells (found_cells v bytes cells width told now) now2);
    later = omega (arith, synced.later, read_later, cut_later);
  }

  -- The calls that opened the log, after the sync and the calls that only read.
  pub calls_open : (d3 : Drive) → MadeWell 1 d0 d1 → ((len ≡ 17 + 32 * seen.cells) × HasNoMore d2.calls d3.calls) ⊎ ((17 + 32 * seen.cells < len) × MadeWell 2 d2 d3) → CallsToOpen seen.cells d0 d3
  calls_open d3 first (inl (at_end, none)) =
      inl (λ bytes told. in_file.whole bytes (bytes_kept ∙ told) ∙ at_end, made-still (true ∷ []) d0 d1 d3 first (λ all told. stays.calls all (none all told)))
  calls_open d3 first (inr (longer, more)) =
      inr (λ bytes told. omega (arith, longer, in_file.whole bytes (bytes_kept ∙ told)), made-then (true ∷ []) (true ∷ true ∷ []) d0 d1 d3 first (still-made (true ∷ true ∷ []) d1 d2 d3 stays.calls more))

  -- After a cut at the end of the cells, the file is their log.
  pub is_ready : (d3 : Drive) → KeepsNewest d0 d3 → d3.faults ≡ d0.faults → SameFile d0 d3 → CallsToOpen seen.cells d0 d3 → ((bytes : List ℕ) → d0.bytes ≡ Some bytes → Only bytes d1.images) → is_some d3.bytes ≡ is_some d2.bytes
      → ((xs : List ℕ) → d2.bytes ≡ Some xs → Only xs d2.images → (d3.bytes ≡ Some (take (17 + 32 * seen.cells) xs)) × Only (take (17 + 32 * seen.cells) xs) d3.images) → IsReady w seen d0 d3
  is_ready d3 kept_newest same file calls only told_kept cut = record {
    newest = kept_newest;
    same = same;
    file = file;
    calls = calls;
    told = told_kept ∙ ap is_some (stays.bytes ∙ bytes_kept);
    log = λ bytes told.
        let recovers = in_file.found.recovers bytes (bytes_kept ∙ told) in
        let version : recovers.version ≡ newest =
        sym (index_version recovers.version w in_file.found.cells bytes recovers.holds) ∙ sym (in_file.found.named bytes (bytes_kept ∙ told)) ∙ newest_is seen.version in_file.found.wanted in
        let left = cut bytes (stays.bytes ∙ bytes_kept ∙ told) (λ c image. only bytes told c (stays.images c image)) in
        let end : 17 + 32 * seen.cells ≡ 17 + 32 * length in_file.found.cells = omega (arith, in_file.found.finds.count) in (
          in_file.found.cells,
          sym in_file.found.finds.count,
          recovers,
          record {
            bytes = take (17 + 32 * seen.cells) bytes;
            told = left.0;
            text = subst (IsLogText newest w in_file.found.cells) (sym (front_is w in_file.found.cells (17 + 32 * seen.cells) end recovers.version bytes recovers.holds))
                (subst (λ v. IsLogText v w in_file.found.cells recovers.holds.front) version recovers.holds.text);
            durable = left.1;
          },
        );
  }

-- After a fault the claim about a success holds trivially.
pub not_ok : {T E : Type 0} (result : Result T E) (fault : E) (P : T → Type 0) → IsErrAnd result (λ e. e ≡ fault) → IfOk result P
not_ok (Ok x) fault P same = absurd same
not_ok (Err e) fault P same = tt

-- A count that rose later has risen.
pub rose-later : (a b c : ℕ) → a ≤ b → Rose b c → Rose a c
rose-later a b c le rose = omega (arith, le, rose)

-- A sync, and then calls that only read, leave the file unchanged.
untouched-sync : {T : Type 0} (a b : Drive) (result : Result T DiskFault) → Syncs a b result → IsUntouched a b
untouched-sync a b result syncs = record {
  bytes = syncs.bytes;
  images = syncs.crash;
  since = λ t x le left. ⊎_elim (λ before. inl before) (λ image. inr (syncs.crash x image)) (syncs.time.nothing_else t x le left);
}

untouched-stays : (a b c : Drive) → IsUntouched a b → Stays b c → IsUntouched a c
untouched-stays a b c first stays = record {
  bytes = stays.bytes ∙ first.bytes;
  images = λ x left. first.images x (stays.images x left);
  since = λ t x le left. first.since t x le (stays.since t x left);
}

-- The calls up to a fault of the sync, of a read, of the cut, or of the sync after the cut.
sync_refused : (a b : Drive) → Made (false ∷ []) a b → CallsRefused Disk a b
sync_refused a b made = record { other = λ other. absurd (other refl); disk = inr (0, record { few = lit≤ tt; calls = made }) }

read_refused : (a b c : Drive) (why : OpenFault) → MadeWell 1 a b → HasNoMore b.calls c.calls → CallsRefused why a c
read_refused a b c why first still = record { other = λ other. made-still (true ∷ []) a b c first still; disk = inl (made-still (true ∷ []) a b c first still) }

cut_refused : (a b c d : Drive) → MadeWell 1 a b → HasNoMore b.calls c.calls → Made (false ∷ []) c d ⊎ Made (true ∷ false ∷ []) c d → CallsRefused Disk a d
cut_refused a b c d first still (inl at_cut) =
    record { other = λ other. absurd (other refl); disk = inr (1, record { few = lit≤ tt; calls = made-then (true ∷ []) (false ∷ []) a b d first (still-made (false ∷ []) b c d still at_cut) }) }
cut_refused a b c d first still (inr at_sync) =
    record { other = λ other. absurd (other refl); disk = inr (2, record { few = lit≤ tt; calls = made-then (true ∷ []) (true ∷ false ∷ []) a b d first (still-made (true ∷ false ∷ []) b c d still at_sync) }) }

-- An opening that is refused at its sync, at what was read, or at the cut.
pub refused_sync : {T : Type 0} (wanted : Option ℕ) (most : ℕ) (a b : Drive) (result : Result T DiskFault) → KeepsNewest a b → Syncs a b result → Made (false ∷ []) a b → SameFile a b → LeavesUnopened wanted most a b Disk
refused_sync wanted most a b result kept_newest syncs made file = record {
  newest = kept_newest;
  unfailed = λ other. absurd (other refl);
  calm = λ other. absurd (other refl);
  no_log = λ bytes told none. untouched-sync a b result syncs;
  told = ap is_some syncs.bytes;
  calls = sync_refused a b made;
  file = file;
}

pub refused_read : {T : Type 0} (wanted : Option ℕ) (most : ℕ) (a b c : Drive) (result : Result T DiskFault) (fault : OpenFault) → KeepsNewest a c → Syncs a b result → MadeWell 1 a b → Stays b c → b.faults ≡ a.faults → (fault ≢ Disk → c.faults ≡ b.faults) → SameFile a c → LeavesUnopened wanted most a c fault
refused_read wanted most a b c result fault kept_newest syncs made stays same calm file = record {
  newest = kept_newest;
  unfailed = λ other. untouched-stays a b c (untouched-sync a b result syncs) stays;
  calm = λ other. calm other ∙ same;
  no_log = λ bytes told none. untouched-stays a b c (untouched-sync a b result syncs) stays;
  told = ap is_some (stays.bytes ∙ syncs.bytes);
  calls = read_refused a b c fault made stays.calls;
  file = file;
}

-- A log that was found is one that might be opened.
log_stands : (wanted : Option ℕ) (w most len : ℕ) (drive : Drive) (seen : Seen) (bytes : List ℕ) → drive.bytes ≡ Some bytes → IsFoundFor newest wanted most drive w seen len → HasNoLogFor wanted most bytes → ⊥
log_stands wanted w most len drive seen bytes told at none =
    let found = at.within.found in
    no_log wanted at.log.fits none found.cells (found.recovers bytes told) (sym (found.named bytes told) ∙ newest_is seen.version found.wanted) found.few
  where
    no_log : (wanted : Option ℕ) → IsWidthFor wanted w → HasNoLogFor wanted most bytes → HasNoLog w most bytes
    no_log (Some v) same none = subst (λ u. HasNoLog u most bytes) same none
    no_log None known none = none w known

pub refused_cut : (wanted : Option ℕ) (w most len : ℕ) (a b c d : Drive) (seen : Seen) → KeepsNewest a d → b.bytes ≡ a.bytes → IsFoundFor newest wanted most b w seen len → MadeWell 1 a b → Stays b c → is_some d.bytes ≡ is_some c.bytes → Made (false ∷ []) c d ⊎ Made (true ∷ false ∷ []) c d → SameFile a d → LeavesUnopened wanted most a d Disk
refused_cut wanted w most len a b c d seen kept_newest kept at made stays cut failed file = record {
  newest = kept_newest;
  unfailed = λ other. absurd (other refl);
  calm = λ other. absurd (other refl);
  no_log = λ bytes told none. absurd (log_stands wanted w most len b seen bytes (kept ∙ told) at none);
  told = cut ∙ ap is_some (stays.bytes ∙ kept);
  calls = cut_refused a b c d made stays.calls failed;
  file = file;
}

-- The calls of a cut that failed, passed on.
pub cut_failed : {T : Type 0} (end len : ℕ) (a b : Drive) (result : Result T DiskFault) (fault : DiskFault) → IsErrAnd result (λ e. e ≡ fault) → Made (false ∷ []) a b ⊎ Made (true ∷ false ∷ []) a b → CallsToCut end len a b result
cut_failed end len a b (Ok x) fault same calls = absurd same
cut_failed end len a b (Err e) fault same calls = calls

-- A fault of a device call, passed on.
pub counts_on : {T : Type 0} (a b : Drive) (result : Result T DiskFault) (fault : DiskFault) → IsErrAnd result (λ e. e ≡ fault) → a.faults ≤ b.faults → Rose a.faults b.faults → SameFile a b → CountsFaults a b result
counts_on a b (Ok x) fault same later rose file = absurd same
counts_on a b (Err e) fault same later rose file = record { later = later; same = tt; failed = rose; file = file }
