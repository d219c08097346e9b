-- How a program ends.
use Rattle.std.specs.Prelude.{ℕ, List}
use Rattle.plain_list.specs.declared.entries.Entry.{Entry}
use Rattle.run_ends.specs.declared.ended.Drives.{Drives}
use Rattle.run_ends.specs.Ends.{Ends}
use Rattle.location_run.specs.Run.{AnswersUsage, KeepsAsked}
use Rattle.location_run.specs.Chain.{ChainsAsked}

-- A run with these words ended with this status. It kept its promises, also for the next run, for some drives that it left and
-- some history.
pub record EndsRun {S D : Type 0} (words : List (List ℕ)) (old : Ends S D) (new : Drives D → Ends S D) (status : ℕ) : Type 0 where
  pub drives : Drives D
  pub history : List Entry
  pub usage : AnswersUsage words (record { old = old; new = new drives; status = status; history = history })
  pub keeps : KeepsAsked words (record { old = old; new = new drives; status = status; history = history })
  pub chain : ChainsAsked words (record { old = old; new = new drives; status = status; history = history })
