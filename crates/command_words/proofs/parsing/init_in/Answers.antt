use Rattle.command_words.proofs.WordsFacts.{not-made}
use Rattle.command_words.proofs.parsing.init_in.Goals as goal

pub returns-in_default : goal.returns-in_default
returns-in_default c = not-made _ c.in_default.ensures
