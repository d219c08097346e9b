-- The command that a value of the enum represents.
use Rattle.std.specs.Prelude.{ℕ, List, Option, Some, None}
use Rattle.command_words.specs.Words as words
use Rattle.command_words.specs.declared.parsing.Command.{Command}
use Rattle.command_words.specs.declared.parsing.Command.TheVariants.{Init, Check, Play, Show, Trial, Compact, Watch, Follow}

-- the file of the log over which rows are played
abbrev pub file_of : Command → Option (List ℕ)
file_of (Play (Some log) size) = Some log.now
file_of (Trial (Some log) made) = Some log.now
file_of _ = None

-- the command that the value represents
abbrev pub command_of : Command → words.Command
command_of (Init file width) = words.Init file.now width
command_of (Check file) = words.Check file.now
command_of (Play log size) = words.Play (file_of (Play log size)) size
command_of (Show file region) = words.Show file.now region
command_of (Trial log made) = words.Trial (file_of (Trial log made)) made
command_of (Compact file new) = words.Compact file.now new.now
command_of (Watch file) = words.Watch file.now
command_of (Follow file new) = words.Follow file.now new.now
