-- From a file that was opened to a store over it, and back to its log.
use Rattle.std.proofs.Common.{◌≡◌, inl, inr, ⊎_elim, ◌∙◌, ℕ, ◌<◌, Bool, true, false, List, [], length, Option, Some, None, is_some, refl, sym, ap, subst}
use mathlib.Core.Bool.{true≢false}
use Rattle.std.proofs.lemmas.Option.{same_Some}
use Rattle.std.specs.Prelude.{⊤}
use Rattle.std.specs.Option.{option_map}
use Rattle.atomic_table.specs.Seated.{TableId}
use Rattle.cell_format.specs.Spelling.{newest}
use Rattle.disk_trait.specs.Drive.{Drive}
use Rattle.plain_list.specs.World.{IsWorld}
use Rattle.plain_list.specs.declared.entries.Entry.{Entry}
use Rattle.plain_list.specs.State.{State, IsLegal}
use Rattle.split_log.specs.LogView.{LogView, most_cells}
use Rattle.split_log.proofs.Unique.{holds-same}
use Rattle.recovery.specs.declared.seen.Seen.{Seen}
use Rattle.recovery.specs.Found.{IsFound}
use Rattle.recovery.specs.Making.{IsSmall}
use Rattle.recovery.proofs.OpeningLemmas.{newest_is}
use Rattle.kept_log.specs.KeptView.{KeptView}
use Rattle.kept_log.specs.Kept.{found_state}
use Rattle.kept_log.specs.Journal.{KeepsIn, KeepsLog, written_in, disk_in}
use Rattle.kept_log.proofs.Waiting.{keeps-at-once}
use Rattle.kept_log.proofs.Moving.{unmoved-keeps}
use Rattle.kept_log.proofs.Starting.{opened-found}
use Rattle.book_lock.specs.Own.{times, once_below}
use Rattle.book_lock.specs.Pass.{Known}
use Rattle.book_lock.specs.declared.origin.Origin.{Origin}
use Rattle.commit_book.specs.BookView.{BookView}
use Rattle.commit_book.specs.IsBook.{IsBook}
use Rattle.commit_book.specs.OpenedLog.{IsOpenedLog}
use Rattle.sessions.specs.Shared.{StartsAs, origin_of, start_in, start_of}
use Rattle.store_file.specs.declared.faults.OpenCause.{OpenCause}
use Rattle.store_file.specs.declared.faults.OpenCause.TheVariants as cause
use Rattle.store_file.specs.Files.{OpensFile, FindsCells}
use Rattle.store_file.specs.Refused.{NotOpens, RefusesStore, is_bucket}
use Rattle.store_file.specs.Opened.{OpensStore, BeginsOver, IsFirst, FindsLog, first_pass, found_origin, cells_origin}
use Rattle.store_file.specs.Objects.{IsLatest}
use Rattle.store_file.specs.Closed.{ClosesStore}
use Rattle.store_file.proofs.FileFacts.{small-or-long, no-cells-told}

-- A book over a log has a drive.
module _ {D : Type 0} where
  pub has-drive : (log : Option (KeptView D)) → is_some log ≡ true → is_some (disk_in log) ≡ true
  has-drive None is = absurd (true≢false (sym is))
  has-drive (Some log) is = refl

  pub has-log : (drive : D → Drive) (unlogged : Type 0) (Is : Drive → Bool → Bool → Type 0) (log : Option (KeptView D)) → (unlogged → ⊥) → StartsAs drive unlogged Is log → is_some log ≡ true
  has-log drive unlogged Is None logged starts = absurd (logged starts)
  has-log drive unlogged Is (Some log) logged starts = refl

-- What a closed book leaves.
module _ {D : Type 0} (drive : D → Drive) (w : ℕ) (unlogged : Type 0) (Is : Drive → Bool → Bool → Type 0) (b : BookView D) (pass : Known) (disk : D) (is_book : IsBook drive w b)
    (value : (b.entries ≡ pass.seen) × (origin_of drive b ≡ pass.origin)) (own : (p : ℕ) → times p pass.own ≡ once_below p (length pass.seen)) (logged : unlogged → ⊥) (once : (start : D) (waits moves : Bool) → Is (drive start) waits moves → (waits ≡ false) × (moves ≡ false)) (starts : StartsAs drive unlogged Is b.log)
    (disk_is : disk_in b.log ≡ Some disk) where
  began-at : b.opening ≡ start_of pass.origin
  began-at = (λ i. record { world = b.opening.world; leaves = b.opening.leaves; splits = is_book.opening.rests i; begun = b.opening.begun }) ∙ ap start_of value.1

  -- The log has the same number of cells.
  cells-by-log : (log : Option (KeptView D)) → b.log ≡ log → (closed : ClosesStore drive w (λ start. Is start false false) pass disk) × (closed.log.cells ≡ written_in log)
  cells-by-log None is = absurd (logged (subst (StartsAs drive unlogged Is) is starts))
  cells-by-log (Some log) is = (
    record {
      own = own;
      legal = subst (λ (s : State). IsLegal w s pass.seen) began-at (subst (λ (h : List Entry). IsLegal w b.opening h) value.0 is_book.legal);
      log = log;
      disk_is = same_Some log.disk disk (sym (ap disk_in is) ∙ disk_is);
      began = sym (ap (λ (o : Origin). o.log) value.1) ∙ ap (λ (l : Option (KeptView D)). option_map (start_in drive) l) is;
      still = held.1;
      starts = subst (λ (moves : Bool). Is (drive log.start) false moves) held.1 (subst (λ (waits : Bool). Is (drive log.start) waits log.moves) held.0 (subst (StartsAs drive unlogged Is) is starts));
      keeps = subst (λ (s : State). KeepsLog drive w s pass.seen log) began-at
          (subst (λ (h : List Entry). KeepsLog drive w b.opening h log) value.0
          (keeps-at-once drive w b.opening b.entries log
          (unmoved-keeps drive w b.opening b.entries log held.1 (subst (λ (l : Option (KeptView D)). KeepsIn drive w b.opening b.entries l) is is_book.on_log)) held.0));
    },
    refl,
  )
    where
      held : (log.at_sync ≡ false) × (log.moves ≡ false)
      held = once log.start log.at_sync log.moves (subst (StartsAs drive unlogged Is) is starts)

  pub closes-counted : (closed : ClosesStore drive w (λ start. Is start false false) pass disk) × (closed.log.cells ≡ written_in b.log)
  closes-counted = cells-by-log b.log refl

  pub closes-store : ClosesStore drive w (λ start. Is start false false) pass disk
  closes-store = closes-counted.0

-- Nothing need be known of the drive at the opening.
pub closes-any : {D : Type 0} (drive : D → Drive) (w : ℕ) (Is : Drive → Type 0) (pass : Known) (disk : D) → ClosesStore drive w Is pass disk → ClosesStore drive w (λ start. ⊤) pass disk
closes-any drive w Is pass disk closed = record {
  own = closed.own;
  legal = closed.legal;
  log = closed.log;
  disk_is = closed.disk_is;
  began = closed.began;
  still = closed.still;
  starts = tt;
  keeps = closed.keeps;
}

pub any-counted : {D : Type 0} (drive : D → Drive) (w : ℕ) (Is : Drive → Type 0) (pass : Known) (disk : D) (count : ℕ) → (closed : ClosesStore drive w Is pass disk) × (closed.log.cells ≡ count)
    → (closed : ClosesStore drive w (λ start. ⊤) pass disk) × (closed.log.cells ≡ count)
unfolding closes-any
any-counted drive w Is pass disk count ends = (closes-any drive w Is pass disk ends.0, ends.1)

-- A book over what was found begins with it.
module _ {D : Type 0} (drive : D → Drive) (kept : Bool) (bucket : ℕ) (seen : Seen) (b : BookView D) (log : KeptView D) (opening : b.opening ≡ found_state seen) (kind : b.kept ≡ kept) (sized : b.bucket ≡ bucket) (log_is : b.log ≡ Some log) where
  pub found-world : IsWorld seen.world → IsWorld b.opening.world
  found-world is = subst IsWorld (sym (ap (λ (s : State). s.world) opening)) is

  pub found-starts : (unlogged : Type 0) (Is : Drive → Bool → Bool → Type 0) → Is (drive log.start) log.at_sync log.moves → StartsAs drive unlogged Is b.log
  found-starts unlogged Is is = subst (StartsAs drive unlogged Is) (sym log_is) is

  pub found-disk : (disk : D) → disk_in b.log ≡ Some disk → disk ≡ log.disk
  found-disk disk is = same_Some disk log.disk (sym is ∙ ap disk_in log_is)

  pub found-origin : log.first ≡ seen.cells → log.at_sync ≡ false → log.moves ≡ false → origin_of drive b ≡ found_origin kept bucket seen (drive log.start)
  found-origin first once still = λ i. record {
    world = (opening i).world;
    leaves = (opening i).leaves;
    begun = (opening i).begun;
    log = (ap (λ (l : Option (KeptView D)). option_map (start_in drive) l) log_is
        ∙ (λ j. Some (record { cells = first j; bytes = (drive log.start).bytes; clock = (drive log.start).clock; faults = (drive log.start).faults; at_sync = once j; moves = still j }))) i;
    bucket = sized i;
    kept = kind i;
  }

-- What was found is what the cells of the log leave.
pub cells-found : (kept : Bool) (w bucket : ℕ) (old start : Drive) (seen : Seen) (found : IsFound newest w most_cells old seen) → found_origin kept bucket seen start ≡ cells_origin kept w bucket found.cells start
cells-found kept w bucket old start seen found = λ i. record {
  world = found.finds.world i;
  leaves = found.finds.leaves i;
  begun = found.finds.begun i;
  log = Some (record { cells = found.finds.count i; bytes = start.bytes; clock = start.clock; faults = start.faults; at_sync = false; moves = false });
  bucket = bucket;
  kept = kept;
}

-- A store over a file that was opened.
module _ {D : Type 0} (drive : D → Drive) (w bucket : ℕ) (file : List ℕ) (old : Drive) (start : D) (now : Drive) (seen : Seen) (opens : OpensFile w file old (drive start) now seen) where
  pub in-old : (bytes : List ℕ) → old.bytes ≡ Some bytes → FindsCells w opens.found.cells bytes
  in-old bytes told = ⊎_elim
      (λ (long : 17 < length bytes). inr (long, opens.found.recovers bytes ((opens.readies.in_use bytes told long).bytes ∙ told)))
      (λ (small : IsSmall bytes).
      let made = opens.readies.small bytes told small in
      let there = opens.found.recovers made.bytes made.told in
      let none = no-cells-told w (drive start) made in
      inl (small, holds-same there.version none.version w opens.found.cells [] made.bytes there.holds none.holds)) (small-or-long bytes)

  pub finds-log : FindsLog w opens.found.cells old (drive start)
  finds-log = record {
    legal = opens.found.legal;
    few = opens.found.few;
    finds = in-old;
    recovers = opens.found.recovers;
    newest = λ bytes told. sym (opens.found.named bytes told) ∙ newest_is seen.version opens.found.wanted;
  }

  unfoldable pub opens-store : (lock : TableId) (pass : Known) (points : ℕ) (latest : Option ℕ) (records : ℕ) → BeginsOver drive bucket seen start lock pass points latest records → OpensStore drive w bucket file old lock pass points latest records
  opens-store lock pass points latest records begins =
      let world : seen.world ≡ pass.origin.world = sym (ap (λ (k : Known). k.origin.world) begins.pass_is) in
      record {
        start = start;
        readies = opens.readies;
        cells = opens.found.cells;
        found = finds-log;
        pass_is = begins.pass_is ∙ ap (first_pass lock) (cells-found false w bucket (drive start) (drive start) seen opens.found);
        world = subst IsWorld world begins.world;
        points_are = begins.points_are ∙ ap length world;
        latest_is = subst (λ l. IsLatest l latest) world begins.latest_is;
        records_are = begins.records_are ∙ opens.found.finds.count;
      }

-- A book may continue with its log.
pub opened-log : {D : Type 0} (drive : D → Drive) (w : ℕ) (file : List ℕ) (old : Drive) (start : D) (seen : Seen) (log : LogView D) → OpensFile w file old (drive start) (drive log.disk) seen
    → (log.cells ≡ seen.cells) × (log.failed ≡ None) → IsOpenedLog drive w seen start log
opened-log drive w file old start seen log opens (counts, good) = record {
  counts = counts;
  good = good;
  found = opens.found;
  ready = opened-found w most_cells (drive start) (drive log.disk) seen opens.found opens.ready opens.keeps;
}

-- Such a pass may call, and may close the store.
pub is-first : (lock : TableId) (origin : Origin) (pass : Known) → pass ≡ first_pass lock origin → IsFirst lock pass
is-first lock origin pass is = record { lock_is = ap (λ (k : Known). k.lock) is; off = ap (λ (k : Known). k.holds) is; parts = ap (λ (k : Known). k.parts) is }

-- If a bucket may have this size, a refusal of the file is a refusal of the store.
pub refuses-store : {D : Type 0} (drive : D → Drive) (w bucket : ℕ) (file : List ℕ) (disk back : D) (c : OpenCause) → is_bucket bucket ≡ true → NotOpens w file (drive disk) (drive back) c → RefusesStore drive w bucket file disk back c
refuses-store drive w bucket file disk back cause.Bucket is not = absurd not.why
refuses-store drive w bucket file disk back cause.Attach is not = (is, not)
refuses-store drive w bucket file disk back cause.Disk is not = (is, not)
refuses-store drive w bucket file disk back (cause.Log fault) is not = (is, not)
refuses-store drive w bucket file disk back cause.Memory is not = (is, not)
