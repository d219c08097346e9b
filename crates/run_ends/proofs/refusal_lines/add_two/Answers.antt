use Rattle.std.proofs.Common.{refl}
use Rattle.run_ends.proofs.LinesFacts.{two_counted}
use Rattle.run_ends.proofs.refusal_lines.add_two.Goals as goal

pub returns-clause-bytes : goal.returns-clause-bytes
returns-clause-bytes c = two_counted c.args.piece.now.items c.args.first.now c.args.second.now refl refl c.add_counted.ensures.bytes c.add_counted-2.ensures.bytes
