-- What the opening of a log comes to.
use Rattle.std.proofs.Common.{◌≡◌, ◌⊎◌, inl, inr, ⊎_elim, ◌∙◌, ℕ, ◌≤◌, false, List, Some, is_some, refl, sym, ap, subst, arith, None}
use Rattle.std.specs.Prelude.{slice_index}
use Rattle.disk_trait.specs.Drive.{Drive, AttachedOne, KeepsLaws, Stays}
use Rattle.disk_trait.proofs.Calls.{attached-still}
use Rattle.cell_format.specs.declared.cell.Cell.{Cell}
use Rattle.cell_format.specs.Spelling.{newest}
use Rattle.log_state.specs.Recovers.{Recovers}
use Rattle.recovery.specs.Found.{IsFound, IsNewest}
use Rattle.recovery.specs.Widths.{HasWidth}
use Rattle.recovery.specs.Opening.{KeepsCells, KeepsNewest, HasNoLog, IsUntouched, KeepsStanding, RefusesWanted}
use Rattle.recovery.specs.LogText.{IsLog}
use Rattle.recovery.specs.declared.seen.Seen.{Seen}
use Rattle.recovery.specs.declared.seen.OpenFault.{OpenFault}
use Rattle.recovery.proofs.CallLemmas.{well-none, well-then, stops-then, stops-refused}
use Rattle.recovery.proofs.OpeningLemmas.{leaves-trans, leaves-stays}
use Rattle.recovery.proofs.WantedLemmas.{newest_wanted}
use Rattle.recovery.proofs.WidthLemmas.{recovers_width, same_width}
use Rattle.run_ends.specs.declared.refusals.Refusal.{Refusal}
use Rattle.run_ends.specs.declared.refusals.Refusal.TheVariants as refusal
use Rattle.run_ends.specs.Attaching.{Attaches, RefusesAttach}
use Rattle.run_ends.specs.LogFaults.{log_refusal}
use Rattle.run_ends.specs.Limits.{oldest_played, most_played}
use Rattle.run_ends.specs.Status.{status_of}
use Rattle.run_ends.proofs.AttachFacts.{attaches-one, reading-unattached}
use Rattle.run_ends.proofs.LogFaults.{calm-free, calm-named, reading-after}
use Rattle.play_run.specs.Playing.{IsNotOpened}
use Rattle.play_run.specs.Standing.{HoldsLog}
use Rattle.play_run.specs.inside.Books.{OpensFile}
use Rattle.play_run.proofs.StandingFacts.{holds-same, holds-text, one-width, one-list}

pub keeps-cells-after : (w : ℕ) (a b c : Drive) → KeepsLaws a → Stays a b → KeepsCells w b c → KeepsCells w a c
keeps-cells-after w a b c laws stays keeps bytes cells told now =
    leaves-trans a b c (Recovers w cells) (leaves-stays a b (Recovers w cells) laws now stays)
    (keeps bytes cells (stays.bytes ∙ told) (λ x left. now x (stays.images x left)))

keeps-newest-after : (a b c : Drive) → KeepsLaws a → Stays a b → KeepsNewest b c → KeepsNewest a c
keeps-newest-after a b c laws stays keeps now =
    leaves-trans a b c IsNewest (leaves-stays a b IsNewest laws now stays) (keeps (λ x left. now x (stays.images x left)))

untouched-after : (a b c : Drive) → Stays a b → IsUntouched b c → IsUntouched a c
untouched-after a b c stays left = record {
  bytes = left.bytes ∙ stays.bytes;
  images = λ x now. stays.images x (left.images x now);
  since = λ t x le now. by_moment t x (left.since t x (subst (λ (m : ℕ). t ≤ m) (sym stays.clock) le) now);
}
  where
    by_moment : (t : ℕ) (x : List ℕ) → b.since t x ⊎ b.images x → a.since t x ⊎ a.images x
    by_moment t x (inl was) = inl (stays.since t x was)
    by_moment t x (inr now) = inr (stays.images x now)

-- a log that was found is of the newest version
pub named-newest : (w : ℕ) (drive : Drive) (seen : Seen) (bytes : List ℕ) → IsFound oldest_played w most_played drive seen → drive.bytes ≡ Some bytes → slice_index bytes 8 ≡ newest
named-newest w drive seen bytes found told =
    let version : seen.version ≡ newest = omega (arith, found.wanted.least, found.wanted.most) in
    sym (found.named bytes told) ∙ version

-- a log isn't opened whose file was attached
pub log-refused : (file : List ℕ) (a b c : Drive) (why : OpenFault) → KeepsLaws a → Attaches file false a b → RefusesWanted None most_played b c why → KeepsStanding b c → IsNotOpened file a c (log_refusal why)
log-refused file a b c why laws at refused keeps =
    let stays = at.stays in
    let later : a.faults ≤ b.faults = omega (arith, at.calm) in
    let leaves = refused.leaves in
    record {
      cause = reading-after oldest_played most_played a b c why stays later refused.fault.shows refused.fault.may refused.fault.rose;
      exact = λ bytes fault told shown is calm. calm-named a b c why fault later calm (refused.fault.exact bytes fault (stays.bytes ∙ told) shown is);
      whole = λ good. calm-free a b c why later good.calm (refused.fault.whole good.width good.bytes good.first good.known good.known (stays.bytes ∙ good.told) good.recovers (newest_wanted _ good.version) good.few);
      keeps = λ w bytes told has. keeps-cells-after w a b c laws stays (keeps.cells w);
      untouched = λ bytes told none. untouched-after a b c stays (leaves.no_log bytes (stays.bytes ∙ told) none);
      stands = λ other w cells. let left = untouched-after a b c stays (leaves.unfailed (λ disk. other (ap log_refusal disk))) in holds-same w cells a c left.bytes left.images;
      newest = keeps-newest-after a b c laws stays leaves.newest;
      told = leaves.told ∙ ap is_some stays.bytes;
      calm = λ other. leaves.calm (λ disk. other (ap log_refusal disk)) ∙ at.calm;
      calls = stops-then a b c (well-none a b stays.calls) (stops-refused why b c leaves.calls);
      attached = attaches-one file false a c (status_of (log_refusal why)) (attached-still file false a b c at.named leaves.file);
    }

-- a file that isn't attached is left as it was
untouched-stays : (a b : Drive) → Stays a b → IsUntouched a b
untouched-stays a b stays = record { bytes = stays.bytes; images = stays.images; since = λ t x le left. inl (stays.since t x left) }

pub attach-refused : (file : List ℕ) (a b : Drive) (why : Refusal) → KeepsLaws a → RefusesAttach file false a b why → IsNotOpened file a b why
attach-refused file a b why laws refused = record {
  cause = reading-unattached file false a b oldest_played most_played why refused;
  exact = λ bytes fault told shown is calm. ⊎_elim (λ disk. absurd (calm disk.1)) inr refused.cause;
  whole = λ good. ⊎_elim (λ disk. absurd (good.calm disk.1)) (λ memory. memory) refused.cause;
  keeps = λ w bytes told has text cells known now. leaves-stays a b (Recovers w cells) laws now refused.stays;
  untouched = λ bytes told none. untouched-stays a b refused.stays;
  stands = λ other w cells. holds-same w cells a b refused.stays.bytes refused.stays.images;
  newest = λ now. leaves-stays a b IsNewest laws now refused.stays;
  told = ap is_some refused.stays.bytes;
  calm = λ other. ⊎_elim (λ disk. absurd (other disk.0)) (λ memory. refused.calm (λ seven. omega (arith, seven, ap status_of memory))) refused.cause;
  calls = inl (well-none a b refused.stays.calls);
  attached = refused.attached;
}

-- a log that stood there is the one that was opened
stands-opened : (file : List ℕ) (a start now : Drive) (w : ℕ) (seen : Seen) → OpensFile file a start now w seen → (v : ℕ) (cells : List Cell) → HoldsLog v cells a → HoldsLog v cells now
stands-opened file a start now w seen opens v cells holds =
    let (own, recovers, log) = opens.ready.log holds.bytes (opens.stays.bytes ∙ holds.told) in
    let width : w ≡ v = one-width w v own cells holds.bytes opens.known recovers holds.standing in
    let same : own ≡ cells = one-list w v own cells holds.bytes opens.known recovers holds.standing in
    holds-text v cells now holds.standing.known holds.standing.recovers.legal (subst (λ u. IsLog u cells now) width (subst (λ (l : List Cell). IsLog w l now) same log))

-- memory ran out once the log was open
pub memory-refused : (file : List ℕ) (a start now c : Drive) (w : ℕ) (seen : Seen) (why : Refusal) → KeepsLaws a → OpensFile file a start now w seen → c ≡ now → why ≡ refusal.Memory → IsNotOpened file a c why
memory-refused file a start now c w seen why laws opens back memory =
    let file_still : AttachedOne file false a now = attached-still file false a start now opens.attached opens.ready.file in
    let found = opens.found in
    let has : (bytes : List ℕ) → a.bytes ≡ Some bytes → HasWidth w bytes = λ bytes told. recovers_width w found.cells bytes opens.known (found.recovers bytes (opens.stays.bytes ∙ told)) in
    let log : (bytes : List ℕ) → a.bytes ≡ Some bytes → HasNoLog w most_played bytes → ⊥ =
    λ bytes told none. let here = opens.stays.bytes ∙ told in none found.cells (found.recovers bytes here) (named-newest w start seen bytes found here) found.few in
    subst (λ d. IsNotOpened file a d why) (sym back) (subst (IsNotOpened file a now) (sym memory) (record {
      cause = tt;
      exact = λ bytes fault told shown at calm. inr refl;
      whole = λ good. refl;
      keeps = λ v bytes told also. subst (λ u. KeepsCells u a now) (same_width w v bytes (has bytes told) also) opens.keeps;
      untouched = λ bytes told none. absurd (log bytes told (none w opens.known));
      stands = λ other. stands-opened file a start now w seen opens;
      newest = keeps-newest-after a start now laws opens.stays opens.ready.newest;
      told = opens.ready.told ∙ ap is_some opens.stays.bytes;
      calm = λ other. opens.ready.same ∙ opens.calm;
      calls = inl (well-then a start now (well-none a start opens.stays.calls) opens.ready.calls);
      attached = attaches-one file false a now 9 file_still;
    }))
