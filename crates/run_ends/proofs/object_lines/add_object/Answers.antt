use Rattle.run_ends.proofs.LinesFacts.{pushed-object}
use Rattle.run_ends.proofs.object_lines.add_object.Goals as goal

pub returns : goal.returns
returns c = record {
  bytes = rw (c.push_str-2.ensures.bytes, c.add_pair-2.ensures.bytes, c.push_str.ensures.bytes, c.add_pair.ensures.bytes, c.from.ensures, c.from-2.ensures) (pushed-object _ _ _ _ _);
}
