-- What is promised of the command that words ask for.
use Rattle.std.proofs.Common.{ℕ, List, subst}
use Rattle.command_words.specs.Words.{Command, AsksFor}
use Rattle.command_words.proofs.WordsFacts.{one-command}
use Rattle.run_ends.specs.Ends.{Ends, Done}
use Rattle.location_run.specs.Run.{Keeps, KeepsAsked}

-- the command that was asked for keeps its promise
pub keeps-asked : {S D : Type 0} (words : List (List ℕ)) (a : Command) (done : Done (Ends S D)) → AsksFor words a → Keeps a done → KeepsAsked words done
keeps-asked words a done asks keeps c asked = subst (λ (k : Command). Keeps k done) (one-command words a c asks asked) keeps
