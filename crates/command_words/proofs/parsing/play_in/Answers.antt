use Rattle.command_words.proofs.WordsFacts.{not-played}
use Rattle.command_words.proofs.parsing.play_in.Goals as goal

pub returns-in_default : goal.returns-in_default
returns-in_default c = not-played _ c.in_default.ensures
