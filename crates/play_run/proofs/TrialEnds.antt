-- What is promised of a trial.
use Rattle.std.proofs.Common.{◌≡◌, ◌⊎◌, inl, inr, ℕ, List, Option}
use Rattle.causes.specs.Causes.{Rose}
use Rattle.make_moves.specs.Moves.{made_rows}
use Rattle.command_words.specs.declared.trials.Made.{Made}
use Rattle.play_run.specs.declared.reports.Report.TheVariants as reports
use Rattle.run_ends.specs.Limits.{trial_bucket}
use Rattle.run_ends.specs.Ends.{Done, Targets}
use Rattle.play_run.specs.Playing.{FollowsLog, IsGood}
use Rattle.play_run.specs.Trying.{PlaysMade, TriesRows}
use Rattle.play_run.proofs.PlayFacts.{rows-done, rows-log, nine-log}

pub tries-of : {D : Type 0} (log : Option (List ℕ)) (made : Made) (done : Done (Targets D)) → done.new.other ≡ done.old.other → PlaysMade log made done.old done.new done.status done.history → TriesRows log made done
tries-of log made done other goes = record { goes = goes; follows = followed goes; complete = all_lines goes; other = other }
  where
    followed : PlaysMade log made done.old done.new done.status done.history → FollowsLog log done.old.drive done.new.drive done.status
    followed (inl unmade) = nine-log log done.old.drive done.new.drive done.status unmade.refused.status_is
    followed (inr plays) = rows-log reports.Summary trial_bucket (made_rows made.rows made.seed) done.old done.new done.status done.history log plays

    all_lines : PlaysMade log made done.old done.new done.status done.history → (Rose done.old.output.faults done.new.output.faults → ⊥) → IsGood log done.old.drive done.new.drive → (done.status ≡ 0) ⊎ (done.status ≡ 9)
    all_lines (inl unmade) quiet good = inr unmade.refused.status_is
    all_lines (inr plays) quiet good = rows-done reports.Summary trial_bucket (made_rows made.rows made.seed) done.old done.new done.status done.history log plays quiet good
