-- A file that is attached and opened, after a log was created in it if it was small.
use Rattle.std.proofs.Common.{◌≡◌, ◌⊎◌, inl, inr, ⊎_elim, ◌∙◌, ℕ, ◌<◌, ◌≤◌, true, false, Bool, List, [], length, Some, is_some, refl, sym, ap, subst, lit≤, arith}
use Rattle.std.specs.Prelude.{Err, nat_lt}
use Rattle.std.proofs.lemmas.List.{append-nil}
use Rattle.std.proofs.lemmas.Bool.{ltb-true, ltb-false}
use Rattle.causes.specs.Causes.{Rose}
use Rattle.cell_format.specs.declared.cell.Cell.{Cell}
use Rattle.cell_format.specs.Spelling.{newest}
use Rattle.disk_trait.specs.declared.disk.AttachFault.{AttachFault}
use Rattle.disk_trait.specs.declared.disk.AttachFault.TheVariants as attach
use Rattle.disk_trait.specs.Drive.{Drive, AttachedOne, CountsAttach, KeepsLaws, Stays}
use Rattle.disk_trait.specs.Moments.{LeavesOnly}
use Rattle.disk_trait.proofs.Calls.{attached-still}
use Rattle.split_log.specs.LogText.{IsLog}
use Rattle.split_log.specs.LogView.{most_cells}
use Rattle.log_state.specs.Recovers.{Recovers}
use Rattle.recovery.specs.declared.seen.OpenFault.{OpenFault}
use Rattle.recovery.specs.declared.seen.OpenFault.TheVariants as log
use Rattle.recovery.specs.declared.seen.InitFault.TheVariants as init
use Rattle.recovery.specs.declared.seen.Seen.{Seen}
use Rattle.recovery.specs.Faults.{IsFault, IsInBytes}
use Rattle.recovery.specs.Found.{IsFound, IsFree, IsNewest}
use Rattle.recovery.specs.Making.{IsSmall, Makes, RefusesInit, FailsToMake, KeepsSmall}
use Rattle.recovery.specs.Opening.{IsUntouched, KeepsCells, LeavesUnopened, RefusesWanted}
use Rattle.recovery.specs.Wanted.{MayTell}
use Rattle.recovery.proofs.CallLemmas.{well-none, well-then, stops-then, stops-refused, well-opened}
use Rattle.recovery.proofs.Exclusive.{recovers_no_fault}
use Rattle.recovery.proofs.HeadLemmas.{index_version}
use Rattle.recovery.proofs.OnlyReading.{rose-earlier, stays-trans}
use Rattle.recovery.proofs.OpeningLemmas.{leaves-trans, leaves-stays, newest_is}
use Rattle.recovery.proofs.WantedLemmas.{newest_wanted}
use Rattle.zorder.specs.Width.{IsWidth}
use Rattle.kept_log.proofs.Starting.{leaves-log}
use Rattle.store_file.specs.declared.faults.OpenCause.TheVariants.{Disk, Log, Memory}
use Rattle.store_file.specs.Causes.{attach_cause, open_cause}
use Rattle.store_file.specs.Files.{IsUnmade, KeepsFile, ReadiesLog, OpensFile, CanOpen}
use Rattle.store_file.specs.Refused.{IsFreeCause, IsOfDrive, IsShown, IsCause, IsAttached, NotOpens}

pub small-or-long : (bytes : List ℕ) → (17 < length bytes) ⊎ IsSmall bytes
small-or-long bytes = by_test (nat_lt 17 (length bytes)) refl
  where
    by_test : (b : Bool) → nat_lt 17 (length bytes) ≡ b → (17 < length bytes) ⊎ IsSmall bytes
    by_test true is = inl (ltb-true 17 (length bytes) is)
    by_test false is = inr (ltb-false 17 (length bytes) is)

pub weaker : (a b : Drive) (P Q : List ℕ → Type 0) → ((c : List ℕ) → P c → Q c) → LeavesOnly a b P → LeavesOnly a b Q
weaker a b P Q all only = record {
  later = only.later;
  each = λ c left. all c (only.each c left);
  before = λ t c le left. ⊎_elim (λ was. inl was) (λ now. inr (all c now)) (only.before t c le left);
}

-- If a log has no cells, a crash leaves none.
no-cells : (w : ℕ) (drive : Drive) → IsLog w [] drive → (c : List ℕ) → drive.images c → Recovers w [] c
no-cells w drive log c left = record { version = newest; known = inr refl; holds = leaves-log w [] drive log c left; legal = refl }

pub no-cells-told : (w : ℕ) (drive : Drive) (log : IsLog w [] drive) → Recovers w [] log.bytes
no-cells-told w drive log = record {
  version = newest;
  known = inr refl;
  holds = record { front = log.bytes; rest = []; parts = sym (append-nil log.bytes); text = log.text };
  legal = refl;
}

no-cells-newest : (w : ℕ) (drive : Drive) (log : IsLog w [] drive) → IsNewest log.bytes
no-cells-newest w drive log = index_version newest w [] log.bytes (record { front = log.bytes; rest = []; parts = sym (append-nil log.bytes); text = log.text })

-- Calls that leave the file unchanged.
module _ (w : ℕ) (a b : Drive) (laws : KeepsLaws a) (stays : Stays a b) where
  pub file-stays : KeepsFile w a b
  file-stays = record {
    in_use = λ bytes told long text cells known now. leaves-stays a b (Recovers w cells) laws now stays;
    small = λ bytes told now. leaves-stays a b (IsUnmade w) laws (λ c left. inl (now c left)) stays;
  }

  pub untouched-stays : IsUntouched a b
  untouched-stays = record { bytes = stays.bytes; images = stays.images; since = λ t x le left. inl (stays.since t x left) }

  cells-behind : (c : Drive) → KeepsCells w b c → KeepsCells w a c
  cells-behind c keeps bytes cells told now =
      leaves-trans a b c (Recovers w cells) (leaves-stays a b (Recovers w cells) laws now stays)
      (keeps bytes cells (stays.bytes ∙ told) (λ x left. now x (stays.images x left)))

  untouched-behind : (c : Drive) → IsUntouched b c → IsUntouched a c
  untouched-behind c left = record {
    bytes = left.bytes ∙ stays.bytes;
    images = λ x now. stays.images x (left.images x now);
    since = λ t x le now. by_moment t x (left.since t x (subst (λ (m : ℕ). t ≤ m) (sym stays.clock) le) now);
  }
    where
      by_moment : (t : ℕ) (x : List ℕ) → b.since t x ⊎ b.images x → a.since t x ⊎ a.images x
      by_moment t x (inl was) = inl (stays.since t x was)
      by_moment t x (inr now) = inr (stays.images x now)

  -- After these calls a log is created, or the drive fails while it is created.
  file-small : (c : Drive) → KeepsSmall b c → KeepsFile w a c
  file-small c keeps = record {
    in_use = λ bytes told long. by_use c bytes (keeps.in_use bytes (stays.bytes ∙ told) long);
    small = λ bytes told now.
        weaker a c IsSmall (IsUnmade w) (λ x is. inl is)
        (leaves-trans a b c IsSmall (leaves-stays a b IsSmall laws now stays) (keeps.small (λ x left. now x (stays.images x left))));
  }
    where
      by_use : (c : Drive) (bytes : List ℕ) → Stays b c → KeepsCells w a c
      by_use c bytes also text cells known now = leaves-stays a c (Recovers w cells) laws now (stays-trans a b c stays also)

-- A file that wasn't attached.
pub attach-refused : {T : Type 0} (w : ℕ) (file : List ℕ) (a b : Drive) (fault : AttachFault) → KeepsLaws a → Stays a b → CountsAttach {T = T} file true a b (Err fault) → NotOpens w file a b (attach_cause fault)
attach-refused w file a b attach.Disk laws stays counts = record {
  why = counts.failed refl;
  keeps = file-stays w a b laws stays;
  untouched = λ bytes told long none. untouched-stays w a b laws stays;
  calm = λ other. absurd (other tt);
  later = counts.later;
  told = ap is_some stays.bytes;
  calls = inl (well-none a b stays.calls);
  attached = (counts.kept, stays);
}
attach-refused w file a b attach.Memory laws stays counts = record {
  why = tt;
  keeps = file-stays w a b laws stays;
  untouched = λ bytes told long none. untouched-stays w a b laws stays;
  calm = λ other. counts.memory refl;
  later = counts.later;
  told = ap is_some stays.bytes;
  calls = inl (well-none a b stays.calls);
  attached = inr counts.kept;
}

pub attach-free : {T : Type 0} (file : List ℕ) (a b : Drive) (fault : AttachFault) → CountsAttach {T = T} file true a b (Err fault) → IsFreeCause a b (attach_cause fault)
attach-free file a b attach.Disk counts = inr (counts.failed refl)
attach-free file a b attach.Memory counts = inl refl

-- A file that was attached. Its log is looked at, and created if the file is small.
module _ (w : ℕ) (file : List ℕ) (a b c : Drive) (laws : KeepsLaws a) (stays : Stays a b) (calm : b.faults ≡ a.faults) (one : AttachedOne file true a b) (small : KeepsSmall b c) where
  still : AttachedOne file true a c
  still = attached-still file true a b c one small.file

  pub ready-made : Makes w b c → ReadiesLog w file a c
  ready-made makes = record {
    attached = still;
    calm = makes.same ∙ calm;
    told = makes.told ∙ ap is_some stays.bytes;
    calls = well-then a b c (well-none a b stays.calls) (record { count = 2; calls = makes.calls });
    in_use = λ bytes told long. let is = (makes.log bytes (stays.bytes ∙ told)).0 in absurd (omega (arith, is, long));
    small = λ bytes told is. (makes.log bytes (stays.bytes ∙ told)).1;
    keeps = file-small w a b laws stays c small;
  }

  pub ready-in-use : (len : ℕ) → RefusesInit b c (init.InUse len) → ReadiesLog w file a c
  ready-in-use len refused =
      let (long, told_len, also, same) = refused in
      let both : Stays a c = stays-trans a b c stays also in
      record {
        attached = still;
        calm = same ∙ calm;
        told = ap is_some both.bytes;
        calls = well-none a c both.calls;
        in_use = λ bytes told more. both;
        small = λ bytes told is. absurd (omega (arith, is, told_len bytes (stays.bytes ∙ told), long));
        keeps = file-small w a b laws stays c small;
      }

  pub init-failed : FailsToMake b c → NotOpens w file a c Disk
  init-failed fails =
      let up : a.faults ≤ b.faults = omega (arith, calm) in
      record {
        why = rose-earlier a.faults b.faults c.faults up fails.rose;
        keeps = file-small w a b laws stays c small;
        untouched = λ bytes told long none. untouched-stays w a c laws (stays-trans a b c stays (small.in_use bytes (stays.bytes ∙ told) long));
        calm = λ other. absurd (other tt);
        later = omega (arith, up, small.later);
        told = fails.told ∙ ap is_some stays.bytes;
        calls = stops-then a b c (well-none a b stays.calls) (⊎_elim (λ none. inl (well-none b c none)) (λ stops. inr (record { went_well = stops.0; calls = stops.1.calls })) fails.calls);
        attached = still;
      }

  pub init-rose : FailsToMake b c → Rose a.faults c.faults
  init-rose fails = rose-earlier a.faults b.faults c.faults (omega (arith, calm)) fails.rose

-- The file was attached, but its log wasn't opened.
open-attached : (file : List ℕ) (a c : Drive) (why : OpenFault) → AttachedOne file true a c → IsAttached file a c (open_cause why)
open-attached file a c log.NotLog one = one
open-attached file a c (log.OldLog version width) one = one
open-attached file a c (log.Damaged cell cause) one = one
open-attached file a c (log.TooLong most) one = one
open-attached file a c log.Disk one = one
open-attached file a c log.Memory one = inl one

-- If the bytes recover to cells of the newest version, and these aren't too many, the bytes don't decide the fault.
pub opened-free : (w : ℕ) (b c : Drive) (why : OpenFault) → IsWidth w → RefusesWanted (Some w) most_cells b c why
    → (bytes : List ℕ) (cells : List Cell) → b.bytes ≡ Some bytes → Recovers w cells bytes → IsNewest bytes → length cells ≤ most_cells → IsFree b c why
opened-free w b c why known refused bytes cells told recovers named few = refused.fault.whole w bytes cells refl known told recovers (newest_wanted _ named) few

-- What the opening after that leaves.
module _ (w : ℕ) (file : List ℕ) (a b c : Drive) (laws : KeepsLaws a) (readies : ReadiesLog w file a b) where
  up : a.faults ≤ b.faults
  up = omega (arith, readies.calm)

  pub file-then : KeepsCells w b c → KeepsFile w a c
  file-then keeps = record {
    in_use = λ bytes told long. cells-behind w a b laws (readies.in_use bytes told long) c keeps;
    small = λ bytes told now.
        let made = readies.small bytes told (now bytes (laws.held bytes told)) in
        leaves-trans a b c (IsUnmade w) (readies.keeps.small bytes told now)
        (weaker b c (Recovers w []) (IsUnmade w) (λ x is. inr is) (keeps made.bytes [] made.told (no-cells w b made)));
  }

  -- If the file can be opened, so can its log.
  module _ (why : OpenFault) (whole : (bytes : List ℕ) (cells : List Cell) → b.bytes ≡ Some bytes → Recovers w cells bytes → IsNewest bytes → length cells ≤ most_cells → IsFree b c why) where
    small-free : (bytes : List ℕ) → a.bytes ≡ Some bytes → IsSmall bytes → IsFree b c why
    small-free bytes told is =
        let made = readies.small bytes told is in
        whole made.bytes [] made.told (no-cells-told w b made) (no-cells-newest w b made) (lit≤ tt)

    pub good-free : CanOpen w a → IsFree b c why
    good-free good = ⊎_elim (small-free good.bytes good.told) (λ is. ⊎_elim (λ (long : 17 < length good.bytes).
        let same = (readies.in_use good.bytes good.told long).bytes ∙ good.told in
        whole good.bytes is.0 same is.1 is.2 is.3) (small-free good.bytes good.told) (small-or-long good.bytes)) good.good

    module _ (leaves : LeavesUnopened (Some w) most_cells b c why) where
      -- A log of no cells shows no fault.
      small-shows : IsInBytes why → ((bytes : List ℕ) → b.bytes ≡ Some bytes → IsFault newest (Some w) most_cells bytes why) → (bytes : List ℕ) → a.bytes ≡ Some bytes → IsSmall bytes → ⊥
      small-shows in_bytes fault bytes told is =
          let made = readies.small bytes told is in
          let named = no-cells-newest w b made in
          recovers_no_fault newest w most_cells (lit≤ tt) made.bytes [] why (no-cells-told w b made) (record { least = omega (arith, named); most = omega (arith, named) }) (lit≤ tt) in_bytes (fault made.bytes made.told)

      shown : IsInBytes why → MayTell newest (Some w) most_cells why → ((bytes : List ℕ) → b.bytes ≡ Some bytes → IsFault newest (Some w) most_cells bytes why) → IsShown w a why
      shown in_bytes may fault = record {
        in_bytes = in_bytes;
        may = may;
        shows = λ bytes told. ⊎_elim
            (λ (long : 17 < length bytes). (long, fault bytes ((readies.in_use bytes told long).bytes ∙ told)))
            (λ is. absurd (small-shows in_bytes fault bytes told is)) (small-or-long bytes);
      }

      cause-of : MayTell newest (Some w) most_cells why → ((bytes : List ℕ) → b.bytes ≡ Some bytes → IsFault newest (Some w) most_cells bytes why) → (why ≡ log.Disk → Rose b.faults c.faults)
          → (e : OpenFault) → why ≡ e → IsCause w a c (open_cause e)
      cause-of may fault rose log.Disk is = rose-earlier a.faults b.faults c.faults up (rose is)
      cause-of may fault rose log.Memory is = tt
      cause-of may fault rose log.NotLog is = subst (IsShown w a) is (shown (subst IsInBytes (sym is) tt) may fault)
      cause-of may fault rose (log.OldLog version width) is = subst (IsShown w a) is (shown (subst IsInBytes (sym is) tt) may fault)
      cause-of may fault rose (log.Damaged cell cause) is = subst (IsShown w a) is (shown (subst IsInBytes (sym is) tt) may fault)
      cause-of may fault rose (log.TooLong most) is = subst (IsShown w a) is (shown (subst IsInBytes (sym is) tt) may fault)

      pub open-refused : MayTell newest (Some w) most_cells why → ((bytes : List ℕ) → b.bytes ≡ Some bytes → IsFault newest (Some w) most_cells bytes why) → (why ≡ log.Disk → Rose b.faults c.faults)
          → KeepsCells w b c → b.faults ≤ c.faults → NotOpens w file a c (open_cause why)
      open-refused may fault rose keeps later = record {
        why = cause-of may fault rose why refl;
        keeps = file-then keeps;
        untouched = λ bytes told long none.
            let stays = readies.in_use bytes told long in
            untouched-behind w a b laws stays c (leaves.no_log bytes (stays.bytes ∙ told) none);
        calm = λ other. leaves.calm (λ disk. other (subst (λ (e : OpenFault). IsOfDrive (open_cause e)) (sym disk) tt)) ∙ readies.calm;
        later = omega (arith, up, later);
        told = leaves.told ∙ readies.told;
        calls = stops-then a b c readies.calls (stops-refused why b c leaves.calls);
        attached = open-attached file a c why (attached-still file true a b c readies.attached leaves.file);
      }

  -- If the bytes don't decide the fault of the log, they don't decide the cause for the file.
  pub free-cause : (why : OpenFault) → IsFree b c why → IsFreeCause a c (open_cause why)
  free-cause why (inl memory) = inl (ap open_cause memory)
  free-cause why (inr rose) = inr (rose-earlier a.faults b.faults c.faults up rose)

  -- A fault that the bytes show is reported unchanged.
  pub told-as : (fault : OpenFault) → IsInBytes fault → open_cause fault ≡ Log fault
  told-as log.NotLog in_bytes = refl
  told-as (log.OldLog version width) in_bytes = refl
  told-as (log.Damaged cell cause) in_bytes = refl
  told-as (log.TooLong most) in_bytes = refl
  told-as log.Disk in_bytes = absurd in_bytes
  told-as log.Memory in_bytes = absurd in_bytes

  pub exact-cause : (why fault : OpenFault) → IsInBytes fault → (why ≡ fault) ⊎ IsFree b c why → (open_cause why ≡ Log fault) ⊎ IsFreeCause a c (open_cause why)
  exact-cause why fault in_bytes (inl same) = inl (ap open_cause same ∙ told-as fault in_bytes)
  exact-cause why fault in_bytes (inr free) = inr (free-cause why free)

-- Memory ran out after the log was opened.
pub memory-refused : (w : ℕ) (file : List ℕ) (a start now : Drive) (seen : Seen) → KeepsLaws a → OpensFile w file a start now seen → NotOpens w file a now Memory
memory-refused w file a start now seen laws opens =
    let readies = opens.readies in
    let found = opens.found in
    record {
      why = tt;
      keeps = file-then w file a start now laws readies opens.keeps;
      untouched = λ bytes told long none.
          let here = (readies.in_use bytes told long).bytes ∙ told in
          absurd (none found.cells (found.recovers bytes here) (newest-found w start seen found bytes here) found.few);
      calm = λ other. opens.ready.same ∙ readies.calm;
      later = omega (arith, opens.ready.same, readies.calm);
      told = opens.ready.told ∙ readies.told;
      calls = inl (well-then a start now readies.calls (well-opened seen.cells start now opens.ready.calls));
      attached = inl (attached-still file true a start now readies.attached opens.ready.file);
    }
  where
    newest-found : (w : ℕ) (drive : Drive) (seen : Seen) → IsFound newest w most_cells drive seen → (bytes : List ℕ) → drive.bytes ≡ Some bytes → IsNewest bytes
    newest-found w drive seen found bytes told = sym (found.named bytes told) ∙ newest_is seen.version found.wanted
