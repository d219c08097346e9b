use Rattle.std.proofs.Common.{◌∙◌}
use Rattle.thread_tests.proofs.versions.puts.Goals as goal

pub put-requires-2 : goal.put-requires-2
put-requires-2 g c = (c.put.ensures.0 ∙ c.requires.0, c.put.ensures.1 ∙ c.requires.1)

pub returns : goal.returns
returns g c = (c.put-2.ensures.0 ∙ c.put.ensures.0, c.put-2.ensures.1 ∙ c.put.ensures.1, c.put-2.ensures.2 ∙ c.put.ensures.2)
