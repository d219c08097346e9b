-- Batches: why they are refused, and what their step makes of a book.
use Rattle.std.proofs.Common.{◌≡◌, ℕ, ◌+◌, ◌≤◌, Bool, true, false, cond, List, ◌++◌, length, map, Option, Some, None, Ok, Err, refl, sym, ap, subst, ◌∙◌, arith}
use Rattle.std.specs.Prelude.{nat_lt}
use Rattle.std.specs.List.{list_any}
use Rattle.std.proofs.lemmas.Bool.Decides.{nat_tests}
use Rattle.std.proofs.lemmas.List.{length-map}
use Rattle.cell_format.specs.declared.cell.Cell.{Cell}
use Rattle.plain_list.specs.declared.ops.Op.{Op}
use Rattle.plain_list.specs.declared.entries.Entry.{Entry}
use Rattle.plain_list.specs.World.{World}
use Rattle.plain_list.specs.Answer.{is_change}
use Rattle.plain_list.specs.Batch.{answers_to, batch_calls, batch_fails}
use Rattle.plain_list.specs.History.{world_after, failed_cell}
use Rattle.plain_list.specs.State.{State, OpenSplit}
use Rattle.plain_list.proofs.Batches.{answers_to-length, batch_fails-of}
use Rattle.plain_list.proofs.Histories.{state_after-world}
use Rattle.disk_trait.specs.Drive.{Drive, KeepsLaws}
use Rattle.log_state.specs.Changes.{cells_of}
use Rattle.kept_log.specs.KeptView.{KeptView}
use Rattle.kept_log.specs.Journal.{KeepsIn, IsSinceIn, RoseIn, LeavesAllOrNone, cells_in, written_in}
use Rattle.kept_log.specs.Steps.{AreNext}
use Rattle.kept_log.specs.declared.faults.AppendAllLost.TheVariants.{Disk, Memory}
use Rattle.kept_log.proofs.Waiting.{in-failed}
use Rattle.point_table.specs.Drafts.{DraftView}
use Rattle.point_table.specs.TableView.{TableView}
use Rattle.commit_book.specs.BatchSteps.{Plans, CanStepAll, Adds, flagged_cells}
use Rattle.commit_book.specs.Batches.{batch_refusal, entries_refusal, records_refusal, most_changes}
use Rattle.commit_book.specs.BookInside.{IsInside}
use Rattle.commit_book.specs.BookView.{BookView}
use Rattle.commit_book.specs.IsBook.{most_events}
use Rattle.commit_book.specs.Refusals.{closed_refusal, first_of, most_cells}
use Rattle.commit_book.specs.declared.book.Book.TheInside.{Inside}
use Rattle.commit_book.specs.declared.faults.BookFault.{BookFault}
use Rattle.commit_book.specs.declared.faults.BookFault.TheVariants.{HistoryFull, LogFull}
use Rattle.commit_book.proofs.BatchLemmas.{flagged_cells-calls, flagged_cells-few, batch_fails-cells, batch_fails-any}
use Rattle.commit_book.proofs.BatchStates.{calls_next, in-calls}
use Rattle.commit_book.proofs.EarlyReturns.{since-same}
use Rattle.kept_log.proofs.InJournal.{leaves-still}
use Rattle.commit_book.proofs.RefusalLemmas.{neither, going_on}

-- what lets a batch be made
pub record MayBatch {D : Type 0} (b : BookView D) (ops : List Op) : Type 0 where
  pub going : failed_cell b.entries ≡ None
  pub few : length b.entries + length ops ≤ most_events b.kept
  pub room : cells_in b.log + most_changes ops ≤ most_cells

pub may_batch : {D : Type 0} (b : BookView D) (ops : List Op) → batch_refusal b ops ≡ None → MayBatch b ops
may_batch b ops none =
    let both = neither (closed_refusal b.entries) (first_of (entries_refusal b.kept (length ops) b.entries) (records_refusal (most_changes ops) (cells_in b.log))) none in
    let rest = neither (entries_refusal b.kept (length ops) b.entries) (records_refusal (most_changes ops) (cells_in b.log)) both.1 in
    record {
      going = going_on b.entries both.0;
      few = within (most_events b.kept) (length b.entries + length ops) HistoryFull rest.0;
      room = within most_cells (cells_in b.log + most_changes ops) LogFull rest.1;
    }
  where
    not_less : (m n : ℕ) → nat_lt m n ≡ false → n ≤ m
    not_less m n e = grind (arith, nat_tests)

    within : (m n : ℕ) (fault : BookFault) → cond (nat_lt m n) (Some fault) None ≡ None → n ≤ m
    within m n fault none = by_test (nat_lt m n) refl none
      where
        by_test : (b : Bool) → nat_lt m n ≡ b → cond b (Some fault) None ≡ None → n ≤ m
        by_test true is e = cc e
        by_test false is e = not_less m n is

-- a plan with equal splits and records is one too
pub planned : {splits : List OpenSplit} (others : List OpenSplit) {table : TableView} {ops : List Op} {draft : DraftView} {changes : List Bool} {cells : List Cell} (same : List Cell)
    → Plans splits table ops draft changes cells → splits ≡ others → same ≡ cells → Plans others table ops draft changes same
planned others {table = table} {ops = ops} {draft = draft} {changes = changes} same plan is cells_is =
    subst (λ (os : List OpenSplit). Plans os table ops draft changes same) is (record { drafts = plan.drafts; changes_are = plan.changes_are; cells_are = cells_is ∙ plan.cells_are })

module _ {I D P : Type 0} (drive : D → Drive) (w : ℕ) (o : State) (old : Inside I D P) (inside : IsInside drive w o old) (going : failed_cell old.history.entries ≡ None)
    (splits : List OpenSplit) (ops : List Op) (draft : DraftView) (changes : List Bool) (cells : List Cell) (plan : Plans splits old.table ops draft changes cells) where
  abbrev pub h : List Entry
  h = old.history.entries

  -- the world before the batch
  abbrev pub before : World
  before = world_after o.world h

  pub same_world : old.table.world ≡ before
  same_world = inside.world ∙ state_after-world w o h

  pub planned_answers : draft.answers ≡ answers_to before ops
  planned_answers = plan.drafts.answers ∙ ap (λ (ms : World). answers_to ms ops) same_world

  pub planned_changes : changes ≡ map is_change (answers_to before ops)
  planned_changes = plan.changes_are ∙ ap (map is_change) planned_answers

  pub planned_any : list_any is_change draft.answers ≡ list_any is_change (answers_to before ops)
  planned_any = ap (list_any is_change) planned_answers

  pub planned_length : length changes ≡ length ops
  planned_length = ap length planned_changes ∙ length-map (answers_to before ops) is_change ∙ answers_to-length before ops

  pub planned_cells : (session row : ℕ) → cells ≡ cells_of before (batch_calls session row ops)
  planned_cells session row = plan.cells_are ∙ ap (λ (bs : List Bool). flagged_cells bs ops) planned_changes ∙ flagged_cells-calls before session row ops

  -- the records may be added
  pub can_add : cells_in old.journal + most_changes ops ≤ most_cells → CanStepAll cells old.journal
  can_add room = record {
    going = in-failed drive w o h old.journal inside.on_log ∙ going;
    room = omega (arith, room, ap length plan.cells_are, flagged_cells-few changes ops);
  }

  next : (session row : ℕ) → AreNext w o h (batch_calls session row ops) cells
  next session row = calls_next w o h session row ops cells inside.legal going (planned_cells session row)

  -- a batch that was made
  pub record Made (session row : ℕ) (log : Option (KeptView D)) : Type 0 where
    pub keeps : KeepsIn drive w o (h ++ batch_calls session row ops) log
    pub since : IsSinceIn old.journal log
    pub moments : LeavesAllOrNone drive w o h (batch_calls session row ops) old.journal log

  pub made : {A : Type 0} → ((d : D) → KeepsLaws (drive d)) → (session row : ℕ) (change : Bool) (log : Option (KeptView D)) (answers : A) → list_any is_change (answers_to before ops) ≡ change
      → Adds drive cells change old.journal log (Ok answers) → Made session row log
  made laws session row true log answers is adds = record {
    keeps = adds.added.keeps w o h (batch_calls session row ops) (next session row) inside.on_log;
    since = adds.since;
    moments = adds.any_moment w o h (batch_calls session row ops) (next session row) inside.on_log;
  }
  made laws session row false log answers is same = subst (λ (l : Option (KeptView D)). Made session row l) (sym same) (record {
    keeps = in-calls drive w o h session row ops old.journal inside.legal going is inside.on_log;
    since = since-same old.journal;
    moments = leaves-still drive w o h (batch_calls session row ops) old.journal laws inside.on_log going;
  })

  -- a batch whose append failed
  pub record Missed (session row cell : ℕ) (log : Option (KeptView D)) : Type 0 where
    pub change : list_any is_change (answers_to before ops) ≡ true
    pub cell_is : cell ≡ written_in old.journal
    pub keeps : KeepsIn drive w o (h ++ batch_fails cell before session row ops) log
    pub since : IsSinceIn old.journal log
    pub moments : LeavesAllOrNone drive w o h (batch_calls session row ops) old.journal log
    pub rose : RoseIn drive old.journal log

  pub missed : (A : Type 0) (session row cell : ℕ) (change : Bool) (log : Option (KeptView D)) → list_any is_change (answers_to before ops) ≡ change
      → Adds {A = A} drive cells change old.journal log (Err (Disk cell)) → Missed session row cell log
  missed A session row cell true log is adds = record {
    change = is;
    cell_is = adds.missed.named;
    keeps = adds.missed.keeps w o h (batch_calls session row ops) (batch_fails cell before session row ops) (next session row) (batch_fails-of cell before session row ops)
        (batch_fails-any cell before session row ops is) (batch_fails-cells cell before session row ops ∙ sym (planned_cells session row)) inside.on_log;
    since = adds.since;
    moments = adds.any_moment w o h (batch_calls session row ops) (next session row) inside.on_log;
    rose = adds.missed.rose;
  }
  missed A session row cell false log is adds = absurd adds

-- without memory the log is the same
pub adds-memory : {D : Type 0} (A : Type 0) (drive : D → Drive) (cells : List Cell) (change : Bool) (old new : Option (KeptView D)) → Adds {A = A} drive cells change old new (Err Memory) → new ≡ old
adds-memory A drive cells true old new same = same
adds-memory A drive cells false old new none = absurd none
