-- What a report of a store answers, from its move and its put.
use Rattle.std.proofs.Common.{◌≡◌, ◌∙◌, ℕ, Bool, true, false, [], Option, Some, None, Result, Ok, Err, cond, refl, sym, subst, ap, inl, inr}
use Rattle.std.specs.Prelude.{nat_lt}
use Rattle.std.specs.Option.{option_map_or}
use Rattle.zorder.specs.declared.points.Point.{Point}
use Rattle.plain_list.specs.declared.world.Stamped.{Stamped}
use Rattle.plain_list.specs.declared.ops.Op.{Op}
use Rattle.plain_list.specs.declared.ops.Op.TheVariants.{Put, Move}
use Rattle.plain_list.specs.declared.ops.Answer.{Answer}
use Rattle.plain_list.specs.declared.ops.Answer.TheVariants as answer
use Rattle.plain_list.specs.Answer.{answer_of, after_of, changed, is_change, moved_or_stale}
use Rattle.plain_list.specs.World.{World, is_full, position_of}
use Rattle.sessions.specs.declared.faults.CallFault.{CallFault}
use Rattle.store_client.specs.Caller.{Caller, world_seen}
use Rattle.store_client.specs.Verbs.{Moves, Puts, PutsBehind, ReportEnds, Reports, move_answer, put_answer}
use Rattle.store_client.specs.declared.answers.MoveReply.{MoveReply}
use Rattle.store_client.specs.declared.answers.MoveReply.TheVariants as move
use Rattle.store_client.specs.declared.answers.PutReply.{PutReply}
use Rattle.store_client.specs.declared.answers.PutReply.TheVariants as put
use Rattle.store_client.specs.declared.answers.Report.{Report}
use Rattle.store_client.specs.declared.answers.Report.TheVariants as report
use Rattle.pisrakun.specs.Now.{DoesNow, move_or_put, report_answer, report_op}

-- an object that isn't there for a move isn't there for a put
absent-of : (is_late : Bool) (kept : Stamped) → answer.Absent ≡ cond is_late (answer.Stale kept) (answer.Moved kept) → ⊥
absent-of true kept is = cc is
absent-of false kept is = cc is

present-of : (is_all : Bool) (kept : Stamped) → answer.Present kept ≡ cond is_all answer.Full answer.Done → ⊥
present-of true kept is = cc is
present-of false kept is = cc is

not-both : (moment : ℕ) (is_all : Bool) (kept : Stamped) (there : Option Stamped) → answer.Absent ≡ option_map_or (moved_or_stale moment) there answer.Absent → answer.Present kept ≡ option_map_or answer.Present there (cond is_all answer.Full answer.Done) → ⊥
not-both moment is_all kept None absent present = present-of is_all kept present
not-both moment is_all kept (Some old) absent present = absent-of (nat_lt moment old.moment) old absent

-- an operation that finds no object changes none
absent-keeps : (world : World) (op : Op) → answer.Absent ≡ answer_of world op → after_of world op ≡ world
absent-keeps world op is = subst (λ (a : Answer). cond (is_change a) (changed world op) world ≡ world) is refl

module _ (id : ℕ) (at : Point) (moment : ℕ) (old new : Caller) where
  -- the operation of a report whose move has this answer
  by-move : (a : Answer) (op : Op) → a ≡ answer_of (world_seen old.pass) (Move id at moment) → op ≡ move_or_put id at moment a → op ≡ report_op id at moment (world_seen old.pass)
  by-move a op is one = one ∙ ap (move_or_put id at moment) is

  by-op : (op : Op) (told : Report) → op ≡ report_op id at moment (world_seen old.pass) → DoesNow report_answer op old new (Ok told) → DoesNow report_answer (report_op id at moment (world_seen old.pass)) old new (Ok told)
  by-op op told is does = subst (λ (o : Op). DoesNow report_answer o old new (Ok told)) is does

  pub now-moved : (from : Stamped) → DoesNow move_answer (Move id at moment) old new (Ok (move.From from)) → DoesNow report_answer (report_op id at moment (world_seen old.pass)) old new (Ok (report.From from))
  now-moved from does = by-op (Move id at moment) (report.From from) (by-move (answer.Moved from) (Move id at moment) does.0 refl) does

  pub now-stale : (kept : Stamped) → DoesNow move_answer (Move id at moment) old new (Ok (move.Stale kept)) → DoesNow report_answer (report_op id at moment (world_seen old.pass)) old new (Ok (report.Stale kept))
  now-stale kept does = by-op (Move id at moment) (report.Stale kept) (by-move (answer.Stale kept) (Move id at moment) does.0 refl) does

  module _ (mid : Caller) (absent : DoesNow move_answer (Move id at moment) old mid (Ok move.Absent)) where
    same : world_seen mid.pass ≡ world_seen old.pass
    same = absent.1 ∙ absent-keeps (world_seen old.pass) (Move id at moment) absent.0

    now-put : (told : Report) → (report_answer told ≡ answer_of (world_seen mid.pass) (Put id at moment)) × (world_seen new.pass ≡ after_of (world_seen mid.pass) (Put id at moment))
        → DoesNow report_answer (report_op id at moment (world_seen old.pass)) old new (Ok told)
    now-put told does =
        by-op (Put id at moment) told (by-move answer.Absent (Put id at moment) absent.0 refl)
        (subst (λ (w : World). (report_answer told ≡ answer_of w (Put id at moment)) × (world_seen new.pass ≡ after_of w (Put id at moment))) same does)

    pub now-new : DoesNow put_answer (Put id at moment) mid new (Ok put.Done) → DoesNow report_answer (report_op id at moment (world_seen old.pass)) old new (Ok report.New)
    now-new does = now-put report.New does

    pub now-full : DoesNow put_answer (Put id at moment) mid new (Ok put.Full) → DoesNow report_answer (report_op id at moment (world_seen old.pass)) old new (Ok report.Full)
    now-full does = now-put report.Full does

    pub now-refused : world_seen new.pass ≡ world_seen mid.pass → world_seen new.pass ≡ world_seen old.pass
    now-refused is = is ∙ same

    pub never-present : (kept : Stamped) → DoesNow put_answer (Put id at moment) mid new (Ok (put.Present kept)) → ⊥
    never-present kept does =
        not-both moment (is_full (world_seen old.pass)) kept (position_of (world_seen old.pass) id) absent.0
        (subst (λ (w : World). answer.Present kept ≡ answer_of w (Put id at moment)) same does.0)

-- a report whose first try ended it
pub reports-once : (w id : ℕ) (at : Point) (moment : ℕ) (old new : Caller) (result : Result Report CallFault) → ReportEnds w id at moment old new result → Reports w id at moment old new result
reports-once w id at moment old new result ends = record { missed = []; mid = old; misses = refl; ends = ends }
