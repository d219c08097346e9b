use Rattle.std.proofs.Common.{rules}
use Rattle.command_words.proofs.files.is_file_name.Goals as goal

pub returns-in-len1-up : goal.returns-in-len1-up
returns-in-len1-up c = search rules
