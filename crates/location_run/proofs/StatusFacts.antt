-- What the status of a command tells.
use Rattle.std.proofs.Common.{◌≡◌, ℕ, List}
use Rattle.run_ends.specs.Ends.{Ends, Done}
use Rattle.command_words.specs.Words.{Command, Init, Check, Play, Show, Trial, Compact, Watch, Follow, AsksFor}
use Rattle.log_run.proofs.StatusFacts.{not-told, not-made, not-compacted}
use Rattle.play_run.proofs.StatusFacts.{not-played, not-tried}
use Rattle.watch_run.proofs.StatusFacts.{not-watched}
use Rattle.follow_run.proofs.StatusFacts.{not-followed}
use Rattle.location_run.specs.Run.{Keeps, AnswersUsage}

-- no command gives status 2
accepted : {S D : Type 0} (c : Command) (done : Done (Ends S D)) → Keeps c done → done.status ≡ 2 → ⊥
accepted (Init file width) done keeps = not-made file width done.old.to done.new.to done.status keeps.did.ends
accepted (Check file) done keeps = not-told _ file done.old.to.drive done.new.to.drive done.status done.old.to.output done.new.to.output keeps.did.ends
accepted (Show file region) done keeps = not-told _ file done.old.to.drive done.new.to.drive done.status done.old.to.output done.new.to.output keeps.did.ends
accepted (Play log size) done keeps = not-played log size done.old.input done.new.input done.old.to done.new.to done.status done.history keeps.goes
accepted (Trial log made) done keeps = not-tried log made done.old.to done.new.to done.status done.history keeps.did.goes
accepted (Compact file name) done keeps = not-compacted file name done.old.to done.new.to done.status keeps.did.ends
accepted (Watch file) done keeps = not-watched file done.old.input done.new.input done.old.to done.new.to done.status keeps.goes
accepted (Follow file name) done keeps = not-followed file name done keeps

-- words that ask for a command aren't answered as if they asked for none
pub usage-accepted : {S D : Type 0} (words : List (List ℕ)) (a : Command) (done : Done (Ends S D)) → AsksFor words a → Keeps a done → AnswersUsage words done
usage-accepted words a done asks keeps =
    record { exact = (λ two. absurd (accepted a done keeps two), λ none. absurd (none (a, asks))); refused = λ two. absurd (accepted a done keeps two) }
