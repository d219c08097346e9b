use Rattle.std.proofs.Common.{◌∙◌}
use Rattle.point_table.proofs.SplitLemmas.{is_splitting-splits_of}
use Rattle.point_table.proofs.crowded.is_among.Goals as goal

pub returns : goal.returns
returns c = c.has_name.ensures ∙ is_splitting-splits_of c.args.name.now c.args.begun.now
