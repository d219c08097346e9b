-- What a run of the program promises: the definitions that the clauses of `run` name.
use Rattle.std.specs.Prelude.{◌≡◌, ◌↔◌, ℕ, List}
use Rattle.command_words.specs.Words.{Command, Init, Check, Play, Show, Trial, Compact, Watch, Follow, AsksFor, IsAccepted}
use Rattle.io_edge.specs.Streams.{Input, Output}
use Rattle.disk_trait.specs.Drive.{Drive}
use Rattle.run_ends.specs.declared.refusals.Refusal.TheVariants as refusal
use Rattle.run_ends.specs.Ends.{Ends, Done, Targets, IsQuiet, IsUnread, ends}
use Rattle.run_ends.specs.Taking.{Refuses}
use Rattle.log_run.specs.Making.{Inits}
use Rattle.log_run.specs.Checking.{Checks}
use Rattle.play_run.specs.Playing.{Plays}
use Rattle.log_run.specs.Showing.{Shows}
use Rattle.log_run.specs.Compacting.{Compacts}
use Rattle.play_run.specs.Trying.{Tries}
use Rattle.watch_run.specs.Watching.{Watches}
use Rattle.follow_run.specs.Following.{Follows}
use Rattle.location_run.specs.declared.outcome.Outcome.{Outcome}

-- what a run did: its source, sink and drives before and after, its status, and the history of its rows
abbrev pub run_by : {S K D : Type 0} → (S → Input) → (K → Output) → (D → Drive) → S → K → D → D → S → K → Outcome D → Done (Ends S D)
run_by input output drive source sink disk other left after outcome = record {
  old = ends input output drive source sink (record { disk = disk; other = other });
  new = ends input output drive left after (record { disk = outcome.disk; other = outcome.other });
  status = outcome.status;
  history = outcome.events;
}

-- the promise of each command about what the run did
abbrev pub Keeps : {S D : Type 0} → Command → Done (Ends S D) → Type 0
Keeps (Init file width) done = Inits file width done
Keeps (Check file) done = Checks file done
Keeps (Play log size) done = Plays log size done
Keeps (Show file region) done = Shows file region done
Keeps (Trial log made) done = Tries log made done
Keeps (Compact file name) done = Compacts file name done
Keeps (Watch file) done = Watches file done
Keeps (Follow file name) done = Follows file name done

-- the command that the words mean keeps its promise
abbrev pub KeepsAsked : {S D : Type 0} → List (List ℕ) → Done (Ends S D) → Type 0
KeepsAsked words done = (c : Command) → AsksFor words c → Keeps c done

-- the run wrote the line for words that are no command, and the first drive is unchanged
pub record RefusesUsage {D : Type 0} (old new : Targets D) (status : ℕ) : Type 0 where
  pub refused : Refuses refusal.Usage status old.output new.output
  pub disk : new.disk ≡ old.disk

-- the same, and the source and the second drive are unchanged, and no row was called
abbrev pub RefusesWords : {S D : Type 0} → Done (Ends S D) → Type 0
RefusesWords done = IsUnread (IsQuiet RefusesUsage) done

-- the status is 2 if and only if the words are not accepted
pub record AnswersUsage {S D : Type 0} (words : List (List ℕ)) (done : Done (Ends S D)) : Type 0 where
  pub exact : (done.status ≡ 2) ↔ (IsAccepted words → ⊥)
  pub refused : done.status ≡ 2 → RefusesWords done
