use Rattle.std.proofs.Common.{length, sym, ◌∙◌, ap}
use Rattle.split_log.proofs.Waitings.{length-spelled}
use Rattle.split_log.proofs.waiting.Waiting.len.Goals as goal

pub returns-clause-len : goal.returns-clause-len
returns-clause-len c = sym (length-spelled c.self.inside.cells c.self.inside.text.items) ∙ ap length c.self.view_is
