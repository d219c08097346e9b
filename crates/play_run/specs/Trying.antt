-- The command `trial`.
use Rattle.std.specs.Prelude.{◌≡◌, ◌⊎◌, ℕ, List, [], Option}
use Rattle.causes.specs.Causes.{Rose}
use Rattle.plain_list.specs.declared.entries.Entry.{Entry}
use Rattle.make_moves.specs.Moves.{made_rows}
use Rattle.command_words.specs.declared.trials.Made.{Made}
use Rattle.run_ends.specs.declared.refusals.Refusal.TheVariants as refusal
use Rattle.play_run.specs.declared.reports.Report.TheVariants as reports
use Rattle.run_ends.specs.Limits.{trial_bucket}
use Rattle.run_ends.specs.Ends.{Ends, Done, Targets, IsUnread}
use Rattle.run_ends.specs.Taking.{Refuses}
use Rattle.play_run.specs.Playing.{PlaysRows, FollowsLog, IsGood}

-- memory ran out before the rows were made, so no row was called and the drive is unchanged
pub record IsUnmade {D : Type 0} (old new : Targets D) (status : ℕ) (h : List Entry) : Type 0 where
  pub none : h ≡ []
  pub disk : new.disk ≡ old.disk
  pub refused : Refuses refusal.Memory status old.output new.output

-- what a trial does: its rows aren't made, or they are played and three numbers are written
abbrev pub PlaysMade : {D : Type 0} → Option (List ℕ) → Made → Targets D → Targets D → ℕ → List Entry → Type 0
PlaysMade log made old new status h = IsUnmade old new status h ⊎ PlaysRows reports.Summary log trial_bucket (made_rows made.rows made.seed) old new status h

-- A fault of the log's bytes gives its status, unless the drive failed or memory ran out. If there was no fault, and
-- the log is good or there is none, all lines are written, unless memory ran out. The second drive is unchanged.
pub record TriesRows {D : Type 0} (log : Option (List ℕ)) (made : Made) (done : Done (Targets D)) : Type 0 where
  pub goes : PlaysMade log made done.old done.new done.status done.history
  pub follows : FollowsLog log done.old.drive done.new.drive done.status
  pub complete : (Rose done.old.output.faults done.new.output.faults → ⊥) → IsGood log done.old.drive done.new.drive → (done.status ≡ 0) ⊎ (done.status ≡ 9)
  pub other : done.new.other ≡ done.old.other

-- What `trial` promises. The source is unread.
abbrev pub Tries : {S D : Type 0} → Option (List ℕ) → Made → Done (Ends S D) → Type 0
Tries log made done = IsUnread (TriesRows log made) done
