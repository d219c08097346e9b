use Rattle.command_words.proofs.WordsFacts.{not-shown}
use Rattle.command_words.proofs.parsing.show_in.Goals as goal

pub returns-in_default : goal.returns-in_default
returns-in_default c = not-shown _ c.in_default.ensures
