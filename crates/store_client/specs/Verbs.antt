-- The answers of each verb, and what it promises.
use Rattle.std.specs.Prelude.{◌≡◌, ◌⊎◌, ℕ, List, [], ◌∷◌, Option, Some, None, Result, Ok, Err, ⊤}
use Rattle.zorder.specs.declared.points.Point.{Point}
use Rattle.zorder.specs.declared.points.Placed.{Placed}
use Rattle.plain_list.specs.declared.world.Stamped.{Stamped}
use Rattle.plain_list.specs.declared.ops.Op.{Op}
use Rattle.plain_list.specs.declared.ops.Op.TheVariants.{Put, Move}
use Rattle.plain_list.specs.declared.ops.Answer.{Answer}
use Rattle.plain_list.specs.declared.ops.Answer.TheVariants as answer
use Rattle.sessions.specs.declared.faults.CallFault.{CallFault}
use Rattle.sessions.specs.declared.faults.Split.{Split}
use Rattle.store_client.specs.Caller.{Caller}
use Rattle.store_client.specs.Asked.{Asked}
use Rattle.store_client.specs.declared.answers.PutReply.{PutReply}
use Rattle.store_client.specs.declared.answers.PutReply.TheVariants as put
use Rattle.store_client.specs.declared.answers.MoveReply.{MoveReply}
use Rattle.store_client.specs.declared.answers.MoveReply.TheVariants as move
use Rattle.store_client.specs.declared.answers.Listed.{Listed}
use Rattle.store_client.specs.declared.answers.Listed.TheVariants as listed
use Rattle.store_client.specs.declared.answers.Report.{Report}
use Rattle.store_client.specs.declared.answers.Report.TheVariants as report

-- The plain list's answer for each answer of a verb.
abbrev pub put_answer : PutReply → Answer
put_answer put.Done = answer.Done
put_answer (put.Present kept) = answer.Present kept
put_answer put.Full = answer.Full

abbrev pub move_answer : MoveReply → Answer
move_answer (move.From from) = answer.Moved from
move_answer (move.Stale kept) = answer.Stale kept
move_answer move.Absent = answer.Absent

abbrev pub gone_answer : Option Stamped → Answer
gone_answer (Some from) = answer.Gone from
gone_answer None = answer.Absent

abbrev pub at_answer : Option Stamped → Answer
at_answer (Some kept) = answer.At kept
at_answer None = answer.Absent

abbrev pub listed_answer : Listed → Answer
listed_answer (listed.All objects) = answer.Found objects
listed_answer (listed.Many n) = answer.Many n

abbrev pub nearest_answer : List Placed → Answer
nearest_answer objects = answer.Found objects

-- The answers that each operation may have.
abbrev pub IsOfPut : Answer → Type 0
IsOfPut answer.Done = ⊤
IsOfPut (answer.Present kept) = ⊤
IsOfPut answer.Full = ⊤
IsOfPut _ = ⊥

abbrev pub IsOfMove : Answer → Type 0
IsOfMove (answer.Moved from) = ⊤
IsOfMove (answer.Stale kept) = ⊤
IsOfMove answer.Absent = ⊤
IsOfMove _ = ⊥

abbrev pub IsOfRemove : Answer → Type 0
IsOfRemove (answer.Gone from) = ⊤
IsOfRemove answer.Absent = ⊤
IsOfRemove _ = ⊥

abbrev pub IsOfFind : Answer → Type 0
IsOfFind (answer.At kept) = ⊤
IsOfFind answer.Absent = ⊤
IsOfFind _ = ⊥

abbrev pub IsOfWithin : Answer → Type 0
IsOfWithin (answer.Found objects) = ⊤
IsOfWithin (answer.Many n) = ⊤
IsOfWithin _ = ⊥

abbrev pub IsOfNear : Answer → Type 0
IsOfNear (answer.Found objects) = ⊤
IsOfNear _ = ⊥

-- A verb is a call of a client, and its answer is the plain list's.
abbrev pub AskedAs : {A : Type 0} → (A → Answer) → ℕ → Op → Caller → Caller → Result A CallFault → Type 0
AskedAs tell w op old new (Ok x) = (place : ℕ) × (split : Option Split) × Asked w op old new (Ok (record { place = place; answer = tell x; split = split }))
AskedAs tell w op old new (Err fault) = Asked w op old new (Err fault)

module _ (w id : ℕ) (at : Point) (moment : ℕ) where
  -- A move, and a put.
  abbrev pub Moves : Caller → Caller → Result MoveReply CallFault → Type 0
  Moves old new result = AskedAs move_answer w (Move id at moment) old new result

  abbrev pub Puts : Caller → Caller → Result PutReply CallFault → Type 0
  Puts old new result = AskedAs put_answer w (Put id at moment) old new result

  -- A put of an object that was not there for the move before.
  abbrev pub PutsBehind : Caller → Caller → Result PutReply CallFault → Type 0
  PutsBehind old new result = (between : Caller) × Moves old between (Ok move.Absent) × Puts between new result

  -- The object was not there for a move, but it was there for the put after it.
  abbrev pub Misses : Caller → Caller → Type 0
  Misses old new = (kept : Stamped) × PutsBehind old new (Ok (put.Present kept))

  abbrev pub MissesAll : List Stamped → Caller → Caller → Type 0
  MissesAll [] old new = new ≡ old
  MissesAll (kept ∷ more) old new = (mid : Caller) × MissesAll more old mid × PutsBehind mid new (Ok (put.Present kept))

  -- How a report ends: by a move, or by a put after one.
  abbrev pub ReportEnds : Caller → Caller → Result Report CallFault → Type 0
  ReportEnds old new (Ok (report.From from)) = Moves old new (Ok (move.From from))
  ReportEnds old new (Ok (report.Stale kept)) = Moves old new (Ok (move.Stale kept))
  ReportEnds old new (Ok report.New) = PutsBehind old new (Ok put.Done)
  ReportEnds old new (Ok report.Full) = PutsBehind old new (Ok put.Full)
  ReportEnds old new (Err fault) = Moves old new (Err fault) ⊎ PutsBehind old new (Err fault)

  -- One try ends the report, or it misses.
  abbrev pub TriesOnce : Caller → Caller → Result (Option Report) CallFault → Type 0
  TriesOnce old new (Ok (Some told)) = ReportEnds old new (Ok told)
  TriesOnce old new (Ok None) = Misses old new
  TriesOnce old new (Err fault) = ReportEnds old new (Err fault)

  -- These tries have missed so far.
  pub record Missing (old new : Caller) : Type 0 where
    pub missed : List Stamped
    pub misses : MissesAll missed old new

  -- A report: the tries that missed, the newest first, and the try that ended it.
  pub record Reports (old new : Caller) (result : Result Report CallFault) : Type 0 where
    pub missed : List Stamped
    pub mid : Caller
    pub misses : MissesAll missed old mid
    pub ends : ReportEnds mid new result

-- What a try returns for the answer to its put.
abbrev pub put_report : Result PutReply CallFault → Result (Option Report) CallFault
put_report (Ok put.Done) = Ok (Some report.New)
put_report (Ok put.Full) = Ok (Some report.Full)
put_report (Ok (put.Present kept)) = Ok None
put_report (Err fault) = Err fault
