use Rattle.std.proofs.Common.{map}
use Rattle.std.specs.String.{string_bytes}
use Rattle.command_words.proofs.WordsFacts.{none-asked, none-weaker}
use Rattle.command_words.proofs.parsing.command_in.Goals as goal

pub returns : goal.returns
returns c =
    none-weaker _ c.play_in.result
    (none-asked (map string_bytes c.args.words.now) c.in_default.ensures c.in_default-file_after.ensures c.in_default-show_in.ensures c.in_default-trial_in.ensures c.in_default-pair_after.ensures c.in_default-file_after-2.ensures c.in_default-pair_after-2.ensures) c.play_in.ensures
