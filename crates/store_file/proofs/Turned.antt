-- A pass after its store has continued over the second file, or has not.
use Rattle.std.proofs.Common.{ℕ, Result, Ok, Err}
use Rattle.plain_list.specs.declared.entries.Entry.TheVariants.{Fail}
use Rattle.disk_trait.specs.Drive.{Drive}
use Rattle.commit_book.specs.Moves.{lost_stop}
use Rattle.commit_book.specs.declared.faults.BookFault.TheVariants.{Disk}
use Rattle.book_lock.specs.Pass.{Known}
use Rattle.sessions.specs.Runs.{HasLooked}
use Rattle.sessions.specs.Splits.{SamePass}
use Rattle.sessions.proofs.StepLemmas.{same-added, same-seen}
use Rattle.sessions.proofs.SyncLemmas.{sync-same}
use Rattle.store_file.specs.declared.moving.Rotation.{Rotation}
use Rattle.store_file.specs.declared.moving.Rotation.TheVariants.{Enough, NoSpare, Done}
use Rattle.store_file.specs.declared.moving.NotRotatedOver.{NotRotatedOver}
use Rattle.store_file.specs.declared.moving.NotRotatedOver.TheVariants.{Stays, Unsynced, SpareFailed, FirstFailed}
use Rattle.store_file.specs.Moving.{RotatesAbove}

looked-same : (old new : Known) → HasLooked old new → SamePass old new
looked-same old new looked = same-seen old new new.seen looked.later looked.pass_is

-- The pass has the same lock, parts and origin, and has seen no less.
pub rotates-same : {D : Type 0} (drive : D → Drive) (w records : ℕ) (old new : Known) (result : Result Rotation NotRotatedOver) → RotatesAbove drive w records old new result → SamePass old new
rotates-same drive w records old new (Ok Enough) is = looked-same old new is.looked
rotates-same drive w records old new (Ok NoSpare) is = looked-same old new is.looked
rotates-same drive w records old new (Ok Done) is = looked-same old new is.looked
rotates-same drive w records old new (Err (Stays cause)) is = looked-same old new is.looked
rotates-same drive w records old new (Err Unsynced) is = sync-same old new (Err (Disk is.cell)) is.syncs
rotates-same drive w records old new (Err SpareFailed) is = same-added old new is.before.entries (Fail is.cell lost_stop) is.later is.added
rotates-same drive w records old new (Err FirstFailed) is = same-added old new is.before.entries (Fail is.cell lost_stop) is.later is.added
