-- A store whose records waited, and which ended to continue over a second file.
use Rattle.std.proofs.Common.{◌≡◌, ◌∙◌, false, ℕ, length, Option, Some, None, Ok, refl, sym, subst}
use Rattle.atomic_table.specs.Seated.{TableId}
use Rattle.disk_trait.specs.Drive.{Drive}
use Rattle.plain_list.specs.World.{IsWorld}
use Rattle.plain_list.specs.History.{world_after, failed_cell}
use Rattle.plain_list.specs.State.{state_after}
use Rattle.recovery.specs.declared.seen.Seen.{Seen}
use Rattle.split_log.specs.LogView.{LogView}
use Rattle.kept_log.specs.Journal.{disk_in, log_in}
use Rattle.book_lock.specs.Own.{times, once_below}
use Rattle.book_lock.specs.Pass.{Known}
use Rattle.commit_book.specs.BookView.{BookView}
use Rattle.commit_book.specs.IsBook.{AreBooks, IsBook}
use Rattle.commit_book.specs.Refusals.{IsMemoryOrDisk, IsRefusedBy, call_refusal}
use Rattle.commit_book.specs.Rotation.{HasContent, rotated}
use Rattle.commit_book.specs.Syncs.{Syncs}
use Rattle.sessions.specs.Shared.{HasWorld, moves_of, origin_of}
use Rattle.sessions.proofs.Origins.{same-origin}
use Rattle.store_file.specs.declared.rotating.BeginCause.{BeginCause}
use Rattle.store_file.specs.declared.rotating.BeginCause.TheVariants as none_begun
use Rattle.store_file.specs.declared.rotating.NotRotated.TheVariants as back
use Rattle.store_file.specs.declared.rotating_at_sync.EndCause.{EndCause}
use Rattle.store_file.specs.declared.rotating_at_sync.EndCause.TheVariants as end
use Rattle.log_compact.specs.Clearing.{Clears, FailsToClear}
use Rattle.store_file.specs.Ended.{EndsAt, EndsBy, EndsRotation, FinishesAtSync, IsMoved, ended_by}
use Rattle.store_file.specs.Opened.{first_pass}
use Rattle.store_file.specs.Rotated.{AreLeft, BeginsFresh, BeginsLeft, IsRotated, NotBegins}
use Rattle.store_file.specs.Waiting.{IsAtSync}
use Rattle.store_file.proofs.RotateFacts.{IsEnded, begins-left, goes-not, goes-on, is-rotated, not-begun, not-rotated}
use Rattle.store_file.proofs.WaitingFacts.{done, synced-counted}

-- The book of a store that was closed, and synced then.
module _ {D : Type 0} (drive : D → Drive) (w : ℕ) (pass : Known) (old new : BookView D) (books : AreBooks drive w old new) (value : (old.entries ≡ pass.seen) × (origin_of drive old ≡ pass.origin))
    (own : (p : ℕ) → times p pass.own ≡ once_below p (length pass.seen)) (fixed : moves_of pass.origin ≡ false) (has : HasWorld old) (place : ℕ) (synced : Syncs old new place) (refused : IsRefusedBy IsMemoryOrDisk (call_refusal old.kept old.entries) (Ok place)) where
  pub good-seen : failed_cell pass.seen ≡ None
  good-seen = done drive w pass old new books value own fixed place refused

  pub synced-ended : IsEnded drive w pass new
  synced-ended = record {
    book = books.after;
    value = (synced.entries ∙ value.0, same-origin drive old new books.origin ∙ value.1);
    has = record { world = subst IsWorld (sym (λ i. world_after (books.origin.opening i).world (synced.entries i))) has.world };
    ends = λ last last_is. synced-counted drive w pass old new books value own fixed last last_is place synced good-seen;
  }

-- What happens after a fresh log was begun with the content of this book.
module _ {D : Type 0} (drive : D → Drive) (w : ℕ) (old : Known) (b : BookView D) (ended : IsEnded drive w old b) (good : failed_cell old.seen ≡ None) (spare start : D) (seen : Seen) (log : LogView D)
    (begun : BeginsFresh drive w spare seen start log) (content : HasContent w b seen) (new : BookView D) (new_is : new ≡ rotated seen log start b) (out : Option (LogView D)) (out_is : out ≡ log_in b.log) where
  left : BeginsLeft drive w old spare seen start log
  left = begins-left drive w b old ended spare start seen log good begun content

  pub rotates-at-sync : (lock : TableId) (pass : Known) (first : D) → FinishesAtSync drive new out lock pass first
      → IsAtSync (λ k. IsRotated drive w (AreLeft w old.origin old.seen) old spare lock k first) pass
  rotates-at-sync lock pass first on = record {
    first = first_pass lock (origin_of drive new);
    of = is-rotated drive w b old ended spare start seen log (AreLeft w old.origin old.seen) left lock (first_pass lock (origin_of drive new)) first
        (goes-on drive b new b.leaves seen log start new_is begun.opened.counts content.world ended.has out out_is lock (first_pass lock (origin_of drive new)) first (record { pass_is = refl; leaves = on.leaves }));
    pass_is = on.pass_is;
  }

  moved-uncleared : (first second : D) → IsBook drive w new → EndsAt drive (λ count. FailsToClear) new out first second → IsMoved drive w (AreLeft w old.origin old.seen) (λ count. FailsToClear) old spare first second
  moved-uncleared first second is_book on = record {
    book = new;
    is_book = is_book;
    alone = not-rotated drive w b old ended spare start seen log (AreLeft w old.origin old.seen) left {I = Unit {0}} {P = Unit {0}} (back.Uncleared new first)
        (goes-not drive b new b.leaves seen log start new_is begun.opened.counts content.world ended.has out out_is {I = Unit {0}} {P = Unit {0}} (back.Uncleared new first) (record { book_is = refl; leaves = on.leaves }));
    disk_is = on.disk_is;
  }

  moved-cleared : (first second : D) → IsBook drive w new → EndsAt drive Clears new out first second → IsMoved drive w (AreLeft w old.origin old.seen) Clears old spare first second
  moved-cleared first second is_book on = record {
    book = new;
    is_book = is_book;
    alone = not-rotated drive w b old ended spare start seen log (AreLeft w old.origin old.seen) left {I = Unit {0}} {P = Unit {0}} (back.Memory new first)
        (goes-not drive b new b.leaves seen log start new_is begun.opened.counts content.world ended.has out out_is {I = Unit {0}} {P = Unit {0}} (back.Memory new first) (record { book_is = refl; leaves = on.leaves }));
    disk_is = on.disk_is;
  }

  pub ends-moved : (first second : D) (c : EndCause) → IsBook drive w new → EndsBy drive new out first second c → EndsRotation drive w (AreLeft w old.origin old.seen) old spare first second c
  ends-moved first second (end.Unsynced c) is_book on = absurd on
  ends-moved first second (end.Refused c) is_book on = absurd on
  ends-moved first second end.Unsure is_book on = absurd on
  ends-moved first second end.Uncleared is_book on = moved-uncleared first second is_book on
  ends-moved first second end.Memory is_book on = moved-cleared first second is_book on

-- No log was begun on the second drive.
pub ends-unbegun : {D : Type 0} (drive : D → Drive) (w : ℕ) (old : Known) (b : BookView D) (ended : IsEnded drive w old b) (good : failed_cell old.seen ≡ None) (spare first second : D) (first_is : disk_in b.log ≡ Some first) (c : BeginCause)
    → NotBegins drive w (λ leaves. leaves ≡ (state_after w b.opening b.entries).leaves) None (world_after b.opening.world b.entries) spare second c
    → EndsRotation drive w (AreLeft w old.origin old.seen) old spare first second (ended_by c)
ends-unbegun drive w old b ended good spare first second first_is (none_begun.Refused c) on = ((ended.ends first first_is).0, good, not-begun drive w b old ended spare second (none_begun.Refused c) on)
ends-unbegun drive w old b ended good spare first second first_is none_begun.Unsure on = ((ended.ends first first_is).0, good, not-begun drive w b old ended spare second none_begun.Unsure on)
