-- What a call of a store answers, and what it leaves. Nobody else calls the store at that time, so both are exact.
use Rattle.std.specs.Prelude.{◌≡◌, ℕ, List, Result, Ok, Err}
use Rattle.zorder.specs.declared.points.Point.{Point}
use Rattle.plain_list.specs.World.{World}
use Rattle.plain_list.specs.declared.ops.Op.{Op}
use Rattle.plain_list.specs.declared.ops.Op.TheVariants.{Put, Move}
use Rattle.plain_list.specs.declared.ops.Answer.{Answer}
use Rattle.plain_list.specs.declared.ops.Answer.TheVariants as answer
use Rattle.plain_list.specs.Answer.{answer_of, after_of}
use Rattle.plain_list.specs.Batch.{answers_to, after_all}
use Rattle.sessions.specs.Steps.{all_parts}
use Rattle.sessions.specs.declared.faults.CallFault.{CallFault}
use Rattle.store_client.specs.Caller.{Caller, world_seen}
use Rattle.store_client.specs.declared.answers.Report.{Report}
use Rattle.store_client.specs.declared.answers.Report.TheVariants as report
use Rattle.store_client.specs.declared.batches.Replies.{Replies}

-- the store has all parts of its pass
abbrev pub IsWhole : Caller → Type 0
IsWhole store = store.pass.parts ≡ all_parts

-- The answer is that of the plain list of the objects as they were before the call, and the objects are that list's after it. A call that
-- is refused leaves the objects unchanged.
abbrev pub DoesNow : {A : Type 0} → (A → Answer) → Op → Caller → Caller → Result A CallFault → Type 0
DoesNow tell op old new (Ok value) = (tell value ≡ answer_of (world_seen old.pass) op) × (world_seen new.pass ≡ after_of (world_seen old.pass) op)
DoesNow tell op old new (Err fault) = world_seen new.pass ≡ world_seen old.pass

-- What a report does to the plain list: it moves the object, or puts it if the answer to the move is that there is no such object.
abbrev pub move_or_put : ℕ → Point → ℕ → Answer → Op
move_or_put id at moment answer.Absent = Put id at moment
move_or_put id at moment _ = Move id at moment

abbrev pub report_op : ℕ → Point → ℕ → World → Op
report_op id at moment world = move_or_put id at moment (answer_of world (Move id at moment))

-- The plain list's answer to that operation, for each answer of a report.
abbrev pub report_answer : Report → Answer
report_answer report.New = answer.Done
report_answer (report.From from) = answer.Moved from
report_answer (report.Stale kept) = answer.Stale kept
report_answer report.Full = answer.Full

-- The same of a batch: each answer is that of the plain list after the operations before it, and the objects are that list's after all of
-- them. A batch that is refused leaves the objects unchanged.
abbrev pub DoesAllNow : List Op → Caller → Caller → Result Replies CallFault → Type 0
DoesAllNow ops old new (Ok replies) = (replies.answers.items ≡ answers_to (world_seen old.pass) ops) × (world_seen new.pass ≡ after_all (world_seen old.pass) ops)
DoesAllNow ops old new (Err fault) = world_seen new.pass ≡ world_seen old.pass
