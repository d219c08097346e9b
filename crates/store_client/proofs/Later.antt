-- What a client has seen after a verb begins with what it had seen before.
use Rattle.std.proofs.Common.{◌∙◌, sym, ℕ, List, [], ◌∷◌, Ok, Err, Result, inl, inr, subst}
use Rattle.std.proofs.lemmas.List.{append-nil}
use mathlib.Core.List.{IsPrefix}
use Rattle.zorder.specs.declared.points.Point.{Point}
use Rattle.plain_list.specs.declared.world.Stamped.{Stamped}
use Rattle.plain_list.specs.declared.ops.Op.{Op}
use Rattle.plain_list.specs.declared.ops.Op.TheVariants.{Put, Move}
use Rattle.plain_list.specs.declared.ops.Answer.{Answer}
use Rattle.sessions.specs.declared.faults.CallFault.{CallFault}
use Rattle.commit_book.specs.declared.faults.BookFault.{BookFault}
use Rattle.sessions.specs.Syncs.{SyncsPass}
use Rattle.sessions.proofs.StepLemmas.{prefix-later}
use Rattle.sessions.proofs.SyncLemmas.{sync-same}
use Rattle.disk_trait.specs.Drive.{Drive}
use Rattle.store_file.specs.declared.moving.Rotation.{Rotation}
use Rattle.store_file.specs.declared.moving.NotRotatedOver.{NotRotatedOver}
use Rattle.store_file.specs.Moving.{RotatesAbove}
use Rattle.store_file.proofs.Turned.{rotates-same}
use Rattle.book_lock.specs.Pass.{Known}
use Rattle.store_client.specs.Caller.{Caller, Keeps}
use Rattle.store_client.specs.Pools.{IsGuest}
use Rattle.store_client.specs.Verbs.{AskedAs, put_answer, move_answer, Moves, PutsBehind, MissesAll, ReportEnds, Reports}
use Rattle.store_client.specs.declared.answers.PutReply.{PutReply}
use Rattle.store_client.specs.declared.answers.PutReply.TheVariants as put
use Rattle.store_client.specs.declared.answers.MoveReply.{MoveReply}
use Rattle.store_client.specs.declared.answers.MoveReply.TheVariants as move
use Rattle.store_client.specs.declared.answers.Report.{Report}
use Rattle.store_client.specs.declared.answers.Report.TheVariants as report

abbrev Later : Caller → Caller → Type 0
Later old new = IsPrefix old.pass.seen new.pass.seen

after : (old mid new : Caller) → Later old mid → Later mid new → Later old new
after old mid new one two = prefix-later old.pass.seen mid.pass.seen new.pass.seen one two

pub asked-later : {A : Type 0} (tell : A → Answer) (w : ℕ) (op : Op) (old new : Caller) (result : Result A CallFault) → AskedAs tell w op old new result → Later old new
asked-later tell w op old new (Ok x) (place, split, asked) = asked.same.0
asked-later tell w op old new (Err fault) asked = asked.same.0

module _ (w id : ℕ) (at : Point) (moment : ℕ) where
  move-later : (old new : Caller) (result : Result MoveReply CallFault) → Moves w id at moment old new result → Later old new
  move-later old new result moves = asked-later move_answer w (Move id at moment) old new result moves

  behind-later : (old new : Caller) (result : Result PutReply CallFault) → PutsBehind w id at moment old new result → Later old new
  behind-later old new result (between, moves, puts) = after old between new (move-later old between (Ok move.Absent) moves) (asked-later put_answer w (Put id at moment) between new result puts)

  misses-later : (missed : List Stamped) (old new : Caller) → MissesAll w id at moment missed old new → Later old new
  misses-later [] old new same = subst (λ (c : Caller). Later old c) (sym same) ([], append-nil old.pass.seen)
  misses-later (kept ∷ more) old new (mid, misses, puts) = after old mid new (misses-later more old mid misses) (behind-later mid new (Ok (put.Present kept)) puts)

  ends-later : (old new : Caller) (result : Result Report CallFault) → ReportEnds w id at moment old new result → Later old new
  ends-later old new (Ok (report.From from)) moves = move-later old new (Ok (move.From from)) moves
  ends-later old new (Ok (report.Stale kept)) moves = move-later old new (Ok (move.Stale kept)) moves
  ends-later old new (Ok report.New) puts = behind-later old new (Ok put.Done) puts
  ends-later old new (Ok report.Full) puts = behind-later old new (Ok put.Full) puts
  ends-later old new (Err fault) (inl moves) = move-later old new (Err fault) moves
  ends-later old new (Err fault) (inr puts) = behind-later old new (Err fault) puts

  pub report-later : (old new : Caller) (result : Result Report CallFault) → Reports w id at moment old new result → Later old new
  report-later old new result reports = after old reports.mid new (misses-later reports.missed old reports.mid reports.misses) (ends-later reports.mid new result reports.ends)

pub sync-later : (old new : Caller) (result : Result ℕ BookFault) → SyncsPass old.pass new.pass result → Later old new
sync-later old new result syncs = (sync-same old.pass new.pass result syncs).0

pub rotate-later : {D : Type 0} (drive : D → Drive) (w records : ℕ) (old new : Caller) (result : Result Rotation NotRotatedOver) → RotatesAbove drive w records old.pass new.pass result → Later old new
rotate-later drive w records old new result rotates = (rotates-same drive w records old.pass new.pass result rotates).0

-- a client that makes a call stays a guest
pub stays-guest : (lender : Known) (old new : Caller) → IsGuest lender old → Keeps old new → Later old new → IsGuest lender new
stays-guest lender old new guest keeps later = record {
  lock_is = keeps.0 ∙ guest.lock_is;
  origin_is = keeps.3 ∙ guest.origin_is;
  one_part = keeps.1 ∙ guest.one_part;
  later = prefix-later lender.seen old.pass.seen new.pass.seen guest.later later;
}
