-- No play tells that its words aren't accepted.
use Rattle.std.proofs.Common.{◌≡◌, inl, inr, ℕ, List, Option, Some, None, arith}
use Rattle.plain_list.specs.declared.entries.Entry.{Entry}
use Rattle.csv_rows.specs.declared.rows.InRow.{InRow}
use Rattle.io_edge.specs.Streams.{Input}
use Rattle.make_moves.specs.Moves.{made_rows}
use Rattle.command_words.specs.declared.trials.Made.{Made}
use Rattle.run_ends.specs.declared.refusals.Refusal.TheVariants as refusal
use Rattle.play_run.specs.declared.reports.Report.{Report}
use Rattle.play_run.specs.declared.reports.Report.TheVariants as reports
use Rattle.run_ends.specs.Limits.{trial_bucket}
use Rattle.run_ends.specs.Ends.{Targets}
use Rattle.run_ends.specs.Inputs.{IsInputCause}
use Rattle.run_ends.proofs.Ends.{not-usage}
use Rattle.play_run.specs.Playing.{HasNoBook, IsStop, EndsRows, PlaysRows, Goes}
use Rattle.play_run.specs.Trying.{PlaysMade}

no-book : {D : Type 0} (log : Option (List ℕ)) (old new : Targets D) → HasNoBook log old new refusal.Usage → ⊥
no-book None old new (memory, same) = absurd (cc memory)
no-book (Some file) old new not = not.cause

accepted-rows : {D : Type 0} (report : Report) (log : Option (List ℕ)) (size : ℕ) (rows : List InRow) (old new : Targets D) (status : ℕ) (h : List Entry) → PlaysRows report log size rows old new status h → status ≡ 2 → ⊥
accepted-rows report log size rows old new status h (inl unopened) two = not-usage (HasNoBook log old new) status old.output new.output (no-book log old new) unopened.refused two
accepted-rows report log size rows old new status h (inr answered) two = by_status answered.ends
  where
    by_status : EndsRows (IsStop log answered.from rows old.drive new.drive h) status old.output new.output → ⊥
    by_status (inl (e, same)) = omega (arith, e, two)
    by_status (inr (inl (e, rose))) = omega (arith, e, two)
    by_status (inr (inr refused)) = not-usage (IsStop log answered.from rows old.drive new.drive h) status old.output new.output (λ c. c) refused two

pub not-played : {D : Type 0} (log : Option (List ℕ)) (size : ℕ) (before after : Input) (old new : Targets D) (status : ℕ) (h : List Entry) → Goes log size before after old new status h → status ≡ 2 → ⊥
not-played log size before after old new status h (inl unread) two = not-usage (IsInputCause before after) status old.output new.output (λ c. c) unread.refused two
not-played log size before after old new status h (inr read) two = accepted-rows reports.Lines log size read.rows old new status h read.plays two

pub not-tried : {D : Type 0} (log : Option (List ℕ)) (made : Made) (old new : Targets D) (status : ℕ) (h : List Entry) → PlaysMade log made old new status h → status ≡ 2 → ⊥
not-tried log made old new status h (inl unmade) two = omega (arith, unmade.refused.status_is, two)
not-tried log made old new status h (inr plays) two = accepted-rows reports.Summary log trial_bucket (made_rows made.rows made.seed) old new status h plays two
