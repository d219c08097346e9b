use Rattle.prefix_names.proofs.KeyBits.{masked}
use Rattle.prefix_names.proofs.key_boxes.evens.Goals as goal

pub returns : goal.returns
returns c = masked c.args.key c.ranges.key.fits
