use Rattle.command_words.proofs.TrialFacts.{not-tried}
use Rattle.command_words.proofs.parsing.trial_in.Goals as goal

pub returns-in_default : goal.returns-in_default
returns-in_default c = not-tried _ c.in_default.ensures
