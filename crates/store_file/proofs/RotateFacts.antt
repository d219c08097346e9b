-- A store that continues over a second file.
use Rattle.std.proofs.Common.{◌≡◌, ◌∙◌, ℕ, ◌≤◌, false, Bool, List, [], length, Option, Some, None, is_some, refl, sym, ap, subst}
use Rattle.std.specs.Prelude.{⊤}
use Rattle.std.specs.Option.{option_map}
use mathlib.Core.Bool.{true≢false}
use Rattle.std.proofs.lemmas.Option.{same_Some}
use Rattle.atomic_table.specs.Seated.{TableId}
use Rattle.cell_format.specs.declared.cell.Cell.{Cell}
use Rattle.disk_trait.specs.Drive.{Drive, KeepsLaws}
use Rattle.disk_trait.proofs.Stretches.{started}
use Rattle.index_layer.specs.Leaves.{Leaf}
use Rattle.plain_list.specs.declared.entries.Entry.{Entry}
use Rattle.plain_list.specs.World.{World, IsWorld}
use Rattle.plain_list.specs.History.{world_after, failed_cell}
use Rattle.plain_list.specs.State.{at_rest, state_after}
use Rattle.point_table.specs.Sized.{StandsBySize}
use Rattle.split_log.specs.LogView.{LogView, most_cells}
use Rattle.split_log.proofs.Unique.{holds-same}
use Rattle.log_state.specs.Recovers.{Recovers, state_of}
use Rattle.log_compact.specs.Beginning.{IsFresh, StandsFound}
use Rattle.recovery.specs.declared.seen.Seen.{Seen}
use Rattle.recovery.specs.Found.{Finds, IsNewest}
use Rattle.recovery.proofs.CallLemmas.{well-none}
use Rattle.recovery.specs.Opening.{KeepsCells}
use Rattle.kept_log.specs.KeptView.{KeptView}
use Rattle.kept_log.specs.Journal.{written_in, disk_in, log_in}
use Rattle.kept_log.specs.Kept.{IsOpened, found_state}
use Rattle.book_lock.specs.Pass.{Known}
use Rattle.book_lock.specs.declared.origin.Origin.{Origin}
use Rattle.commit_book.specs.BookView.{BookView, first_log}
use Rattle.commit_book.specs.IsBook.{IsBook}
use Rattle.commit_book.specs.Rotation.{HasContent, HasContentAnew, rotated}
use Rattle.sessions.specs.Shared.{HasWorld, StartsAs, origin_of, start_of}
use Rattle.log_compact.specs.Compacting.{IsCompacted, KeepsOnWay}
use Rattle.log_compact.specs.Fresh.{fresh_cells}
use Rattle.log_compact.specs.State.{IsStateOf}
use Rattle.store_file.specs.declared.rotating.BeginCause.{BeginCause}
use Rattle.store_file.specs.declared.rotating.BeginCause.TheVariants as none_begun
use Rattle.store_file.specs.declared.rotating.NotRotated.{NotRotated}
use Rattle.store_file.specs.declared.rotating.NotRotated.TheVariants as back
use Rattle.log_compact.specs.Clearing.{Clears, FailsToClear}
use Rattle.store_file.specs.Closed.{ClosesStore}
use Rattle.store_file.specs.Opened.{first_pass, found_origin}
use Rattle.store_file.specs.Rotated.{world_left, leaves_left, cells_left, RotatesTo, LeavesOf, IsRotated, IsRotatedAlone, IsClosedBook, NotBegins, ComesBack, IsNotRotated}
use Rattle.store_file.specs.Rotated.{BeginsFresh, BeginsOf, BeginsLeft, BeginsAnew, GoesOn, GoesAlone, GoesNot, LeavesView, Finishes, FinishesAlone, FinishesNot}
use Rattle.store_file.proofs.StoreFacts as stores

-- If no call is made, the cells are kept.
pub keeps-here : (w : ℕ) (drive : Drive) → KeepsLaws drive → KeepsCells w drive drive
keeps-here w drive laws bytes cells told now = started drive (Recovers w cells) laws now

-- A log that an opening would find counts as opened, without any call.
pub opened-here : (w : ℕ) (drive : Drive) (seen : Seen) → KeepsLaws drive → StandsFound w seen drive → IsOpened w (found_state seen) drive drive
opened-here w drive seen laws stands = record {
  state = λ bytes first told recovers.
      let there = stands.found.recovers bytes told in
      let same : first ≡ stands.found.cells = holds-same recovers.version there.version w first stands.found.cells bytes recovers.holds there.holds in
      ap (λ (cells : List Cell). at_rest (state_of w cells)) same
      ∙ (λ i. record { world = sym stands.found.finds.world i; leaves = sym stands.found.finds.leaves i; splits = []; begun = sym stands.found.finds.begun i });
  log = λ bytes told. let (cells, count, recovers, log) = stands.log bytes told in (cells, recovers, log);
  any_moment = keeps-here w drive laws;
  newest = λ now. started drive IsNewest laws now;
  calls = well-none drive drive (λ all told. told);
  same = refl;
  file = λ all told. told;
  told = refl;
}

-- A fresh log was begun.
module _ {D : Type 0} (drive : D → Drive) (laws : (d : D) → KeepsLaws (drive d)) (width w : ℕ) (width_is : width ≡ w) (spare : D) (seen found : Seen) (fresh : IsFresh width seen) (same : found ≡ seen) (start : D)
    (log : LogView D) (at : start ≡ log.disk) (counts : log.cells ≡ found.cells) (failed : log.failed ≡ None) (stands : StandsFound width found (drive log.disk))
    (compacted : IsCompacted width (fresh_cells width seen.world seen.leaves) (drive spare) (drive log.disk))
    (on_way : KeepsOnWay width (fresh_cells width seen.world seen.leaves) (drive spare) (drive log.disk))
    (state : IsStateOf width (fresh_cells width seen.world seen.leaves) seen.world seen.leaves) where
  stands-seen : StandsFound width seen (drive log.disk)
  stands-seen = subst (λ (s : Seen). StandsFound width s (drive log.disk)) same stands

  begins-at : BeginsFresh drive width spare seen log.disk log
  begins-at = record {
    finds = fresh.finds;
    few = fresh.few;
    state = state;
    opened = record {
      counts = counts ∙ ap (λ (s : Seen). s.cells) same;
      good = failed;
      found = stands-seen.found;
      ready = opened-here width (drive log.disk) seen (laws log.disk) stands-seen;
    };
    compacted = compacted;
    on_way = on_way;
  }

  pub begins-fresh : BeginsFresh drive w spare found start log
  begins-fresh =
      subst (λ (d : D). BeginsFresh drive w spare found d log) (sym at)
      (subst (λ (s : Seen). BeginsFresh drive w spare s log.disk log) (sym same)
      (subst (λ (n : ℕ). BeginsFresh drive n spare seen log.disk log) width_is begins-at))

-- The view of a kept log has its drive and its number of cells.
module _ {D : Type 0} where
  pub drive-in : (log : Option (KeptView D)) (view : LogView D) → log_in log ≡ Some view → disk_in log ≡ Some view.disk
  drive-in None view is = absurd (true≢false (sym (ap is_some is)))
  drive-in (Some log) view is = ap (λ (v : Option (LogView D)). option_map (λ (l : LogView D). l.disk) v) is

  pub count-in : (log : Option (KeptView D)) (view : LogView D) → log_in log ≡ Some view → view.cells ≡ written_in log
  count-in None view is = absurd (true≢false (sym (ap is_some is)))
  count-in (Some log) view is = ap (λ (v : LogView D). v.cells) (sym (same_Some _ _ is))

-- A book over another log writes each record at once if that log does.
pub starts-over : {D : Type 0} (drive : D → Drive) (new b : BookView D) → new ≡ b → StartsAs drive ⊥ (λ start waits moves. (waits ≡ false) × (moves ≡ false)) b.log → StartsAs drive ⊥ (λ start waits moves. (waits ≡ false) × (moves ≡ false)) new.log
starts-over {D = D} drive new b is starts = subst (λ (v : BookView D). StartsAs drive ⊥ (λ start waits moves. (waits ≡ false) × (moves ≡ false)) v.log) (sym is) starts

-- A book continues over another log.
module _ {D : Type 0} (drive : D → Drive) (b new : BookView D) (seen : Seen) (log : LogView D) (start : D) (is : new ≡ rotated seen log start b) (counts : log.cells ≡ seen.cells) where
  pub new-origin : origin_of drive new ≡ found_origin b.kept b.bucket seen (drive start)
  new-origin = ap (origin_of drive) is ∙ stores.found-origin drive b.kept b.bucket seen (rotated seen log start b) (first_log log start) refl refl refl refl counts refl refl

  pub new-none : new.entries ≡ []
  new-none = ap (λ (v : BookView D). v.entries) is

  pub new-starts : StartsAs drive ⊥ (λ start waits moves. (waits ≡ false) × (moves ≡ false)) new.log
  new-starts = starts-over drive new (rotated seen log start b) is (refl, refl)

  pub new-opening : seen.world ≡ world_after b.opening.world b.entries → HasWorld b → IsWorld new.opening.world
  new-opening world has = subst IsWorld (sym (ap (λ (v : BookView D). v.opening.world) is ∙ world)) has.world

  pub new-has : seen.world ≡ world_after b.opening.world b.entries → HasWorld b → HasWorld new
  new-has world has = record { world = subst (λ (h : List Entry). IsWorld (world_after new.opening.world h)) (sym new-none) (new-opening world has) }

-- What happens to that book when its old log is emptied. It has its old leaves, or new ones.
module _ {D : Type 0} (drive : D → Drive) (old new : BookView D) (leaves : List Leaf) (seen : Seen) (log : LogView D) (start : D) (is : new ≡ rotated seen log start (record old { leaves = leaves }))
    (counts : log.cells ≡ seen.cells) (world : seen.world ≡ world_after old.opening.world old.entries) (has : HasWorld old) (out : Option (LogView D)) (out_is : out ≡ log_in old.log) where
  abbrev begun : BookView D
  begun = record old { leaves = leaves }

  leaves-of : (Came : ℕ → Drive → Drive → Type 0) (left : D) → LeavesView drive Came out left → LeavesOf drive Came old left
  leaves-of Came left leaves = record {
    last = leaves.view.disk;
    last_is = drive-in old.log leaves.view (sym out_is ∙ leaves.view_is);
    leaves = record {
      came = subst (λ (n : ℕ). Came n (drive leaves.view.disk) (drive left)) (count-in old.log leaves.view (sym out_is ∙ leaves.view_is)) leaves.came;
      keeps = leaves.keeps;
    };
  }

  origin-now : origin_of drive new ≡ found_origin old.kept old.bucket seen (drive start)
  origin-now = new-origin drive begun new seen log start is counts

  pub goes-on : (lock : TableId) (pass : Known) (left : D) → Finishes drive new out lock pass left → GoesOn drive old seen start lock pass left
  goes-on lock pass left on = record {
    pass_is = on.pass_is ∙ ap (first_pass lock) origin-now;
    leaves = leaves-of Clears left on.leaves;
  }

  alone-now : (Came : ℕ → Drive → Drive → Type 0) (it : BookView D) (left : D) → FinishesAlone drive Came new out it left → GoesAlone drive Came old seen start it left
  alone-now Came it left on = record {
    origin_is = ap (origin_of drive) on.book_is ∙ origin-now;
    none = ap (λ (v : BookView D). v.entries) on.book_is ∙ new-none drive begun new seen log start is counts;
    has = subst HasWorld (sym on.book_is) (new-has drive begun new seen log start is counts world (record { world = has.world }));
    starts = starts-over drive it new on.book_is (new-starts drive begun new seen log start is counts);
    leaves = leaves-of Came left on.leaves;
  }

  pub goes-not : {I P : Type 0} (e : NotRotated I D P) → FinishesNot drive new out e → GoesNot drive old seen start e
  goes-not (back.Kept store pass left c) on = absurd on
  goes-not (back.Unsure disk left) on = absurd on
  goes-not (back.Uncleared book left) on = alone-now (λ count. FailsToClear) book left on
  goes-not (back.Memory book left) on = alone-now Clears book left on

-- A store doesn't continue over the second drive, on which no log was begun.
pub comes-back : {I D P : Type 0} (drive : D → Drive) (w : ℕ) (Are : List (List Bool) → Type 0) (old now : Known) (spare left : D) (c : BeginCause) (e : NotRotated I D P) → now ≡ old
    → NotBegins drive w Are (failed_cell old.seen) (world_left old.origin old.seen) spare left c → ComesBack drive w now left c e → IsNotRotated drive w Are old spare e
comes-back {I = I} {D = D} {P = P} drive w Are old now spare left (none_begun.Refused c) e same not is =
    subst (λ (x : NotRotated I D P). IsNotRotated drive w Are old spare x) (sym is) (ap (λ (k : Known). k.lock) same, same, not)
comes-back {I = I} {D = D} {P = P} drive w Are old now spare left none_begun.Unsure e same not is =
    subst (λ (x : NotRotated I D P). IsNotRotated drive w Are old spare x) (sym is.1) (subst (λ (k : Known). ClosesStore drive w (λ start. ⊤) k is.0) same is.2, not)

-- The book of a store that was closed with this pass. Its log has all that the pass has seen.
pub record IsEnded {D : Type 0} (drive : D → Drive) (w : ℕ) (pass : Known) (b : BookView D) : Type 0 where
  pub book : IsBook drive w b
  pub value : (b.entries ≡ pass.seen) × (origin_of drive b ≡ pass.origin)
  pub has : HasWorld b
  pub ends : (last : D) → disk_in b.log ≡ Some last → (closed : ClosesStore drive w (λ start. ⊤) pass last) × (closed.log.cells ≡ written_in b.log)

-- So it is if the log gets each record at once.
pub is-ended : {D : Type 0} (drive : D → Drive) (w : ℕ) (b : BookView D) (old pass : Known) → pass ≡ old → IsClosedBook drive w pass b → IsEnded drive w old b
is-ended drive w b old pass same is =
    subst (λ (k : Known). IsEnded drive w k b) same
    (record {
      book = is.book;
      value = is.value;
      has = is.has;
      ends = λ last last_is. stores.any-counted drive w _ pass last (written_in b.log)
          (stores.closes-counted drive w ⊥ (λ start waits moves. (waits ≡ false) × (moves ≡ false)) b pass last is.book is.value is.own (λ none. none) (λ start waits moves is. is) is.starts last_is);
    })

-- A fresh log of a store was begun, and the store was closed.
module _ {D : Type 0} (drive : D → Drive) (w : ℕ) (b : BookView D) (old : Known) (closed : IsEnded drive w old b) where
  opening-is : b.opening ≡ start_of old.origin
  opening-is = (λ i. record { world = b.opening.world; leaves = b.opening.leaves; splits = closed.book.opening.rests i; begun = b.opening.begun }) ∙ ap start_of closed.value.1

  world-as : world_after b.opening.world b.entries ≡ world_left old.origin old.seen
  world-as = λ i. world_after (opening-is i).world (closed.value.0 i)

  leaves-as : (state_after w b.opening b.entries).leaves ≡ leaves_left w old.origin old.seen
  leaves-as = λ i. (state_after w (opening-is i) (closed.value.0 i)).leaves

  bucket-as : b.bucket ≡ old.origin.bucket
  bucket-as = ap (λ (o : Origin). o.bucket) closed.value.1

  kept-as : b.kept ≡ old.origin.kept
  kept-as = ap (λ (o : Origin). o.kept) closed.value.1

  -- No log was begun on the second drive, because of what the book has.
  pub not-begun : (spare left : D) (c : BeginCause)
      → NotBegins drive w (λ leaves. leaves ≡ (state_after w b.opening b.entries).leaves) None (world_after b.opening.world b.entries) spare left c
      → NotBegins drive w (λ leaves. leaves ≡ leaves_left w old.origin old.seen) None (world_left old.origin old.seen) spare left c
  not-begun spare left c on =
      subst (λ (l : World). NotBegins drive w (λ leaves. leaves ≡ leaves_left w old.origin old.seen) None l spare left c) world-as
      (subst (λ (l : List (List Bool)). NotBegins drive w (λ leaves. leaves ≡ l) None (world_after b.opening.world b.entries) spare left c) leaves-as on)

  module _ (spare start : D) (seen : Seen) (log : LogView D) where
    pub begins-left : failed_cell old.seen ≡ None → BeginsFresh drive w spare seen start log → HasContent w b seen → BeginsLeft drive w old spare seen start log
    begins-left good begun content = record { good = good; world = content.world ∙ world-as; leaves_are = content.leaves ∙ leaves-as; begins = begun }

    -- The log has the content of the book.
    pub content-left : BeginsLeft drive w old spare seen start log → HasContent w b seen
    content-left on = record { world = on.world ∙ sym world-as; leaves = on.leaves_are ∙ sym leaves-as }

    pub content-anew : (leaves : List Leaf) → BeginsAnew drive w old spare leaves seen start log → HasContentAnew w b leaves seen
    content-anew leaves on = record {
      world = on.begins.world ∙ sym world-as;
      leaves_are = on.names;
      stands = subst (λ (n : ℕ). StandsBySize w n (world_after b.opening.world b.entries) leaves) (sym bucket-as)
          (subst (λ (l : World). StandsBySize w old.origin.bucket l leaves) (sym world-as) on.stands);
    }

    module _ (Are : List (List Bool) → Type 0) (begun : BeginsOf drive w Are old spare seen start log) where
      rotates-to : (last : D) (origin : Origin) → disk_in b.log ≡ Some last → origin ≡ found_origin b.kept b.bucket seen (drive start) → RotatesTo drive w Are old last spare origin (written_in b.log)
      rotates-to last origin last_is from =
          let world : origin.world ≡ seen.world = ap (λ (o : Origin). o.world) from in
          let leaves : seen.leaves ≡ origin.leaves = sym (ap (λ (o : Origin). o.leaves) from) in
          let cells : fresh_cells w seen.world seen.leaves ≡ cells_left w old.origin old.seen origin.leaves = λ i. fresh_cells w (begun.world i) (leaves i) in
          let finds : Finds w (cells_left w old.origin old.seen origin.leaves) seen = subst (λ (l : List Cell). Finds w l seen) cells begun.begins.finds in
          let ends = closed.ends last last_is in
          record {
            closed = ends.0;
            counted = ends.1;
            good = begun.good;
            start = start;
            compacted = subst (λ (l : List Cell). IsCompacted w l (drive spare) (drive start)) cells begun.begins.compacted;
            on_way = subst (λ (l : List Cell). KeepsOnWay w l (drive spare) (drive start)) cells begun.begins.on_way;
            state = subst (λ (l : List (List Bool)). IsStateOf w (fresh_cells w (world_left old.origin old.seen) l) (world_left old.origin old.seen) l) leaves
                (subst (λ l. IsStateOf w (fresh_cells w l seen.leaves) l seen.leaves) begun.world begun.begins.state);
            few = subst (λ (l : List Cell). length l ≤ most_cells) cells begun.begins.few;
            origin_is = from ∙ (λ i. record {
              world = finds.world i;
              leaves = finds.leaves i;
              begun = finds.begun i;
              log = Some (record { cells = finds.count i; bytes = (drive start).bytes; clock = (drive start).clock; faults = (drive start).faults; at_sync = false; moves = false });
              bucket = bucket-as i;
              kept = kept-as i;
            });
            world_is = world ∙ begun.world;
            leaves_are = subst Are leaves begun.leaves_are;
            world = subst IsWorld (sym (world ∙ begun.world ∙ sym world-as)) closed.has.world;
          }

      pub is-rotated : (lock : TableId) (pass : Known) (left : D) → GoesOn drive b seen start lock pass left → IsRotated drive w Are old spare lock pass left
      is-rotated lock pass left on =
          let origin : pass.origin ≡ found_origin b.kept b.bucket seen (drive start) = ap (λ (k : Known). k.origin) on.pass_is in
          record {
            last = on.leaves.last;
            count = written_in b.log;
            to = rotates-to on.leaves.last pass.origin on.leaves.last_is origin;
            pass_is = on.pass_is ∙ ap (first_pass lock) (sym origin);
            leaves = on.leaves.leaves;
          }

      alone : (Came : ℕ → Drive → Drive → Type 0) (new : BookView D) (left : D) → GoesAlone drive Came b seen start new left → IsRotatedAlone drive w Are Came old spare new left
      alone Came new left on = record {
        last = on.leaves.last;
        count = written_in b.log;
        to = rotates-to on.leaves.last (origin_of drive new) on.leaves.last_is on.origin_is;
        none = on.none;
        has = on.has;
        starts = on.starts;
        leaves = on.leaves.leaves;
      }

      pub not-rotated : {I P : Type 0} (e : NotRotated I D P) → GoesNot drive b seen start e → IsNotRotated drive w Are old spare e
      not-rotated (back.Kept store pass left c) on = absurd on
      not-rotated (back.Unsure disk left) on = absurd on
      not-rotated (back.Uncleared book left) on = alone (λ count. FailsToClear) book left on
      not-rotated (back.Memory book left) on = alone Clears book left on
