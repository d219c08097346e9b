use Rattle.std.specs.Arc.{arc_value}
use Rattle.bit_trie.specs.Tries.{tip}
use Rattle.kd_trie.specs.Nodes.{seen}
use Rattle.kd_trie.specs.Wholes.{whole}
use Rattle.kd_trie.proofs.Opened.{opened, graft-made}
use Rattle.kd_trie.proofs.stem.Stemmed.put.Goals as goal

pub graft-done-requires-clause-fits : goal.graft-done-requires-clause-fits
graft-done-requires-clause-fits g c =
    let o = opened c.open_to.new.self c.args.key c.len-left.result (whole c.args.self.now) c.in_ok-open_to.ensures.whole c.in_ok-open_to.ensures.under c.len-left.ensures.len c.requires.height in
    o.fits

pub returns-clause-ok : goal.returns-clause-ok
returns-clause-ok g c =
    let o = opened c.open_to.new.self c.args.key c.len-left.result (whole c.args.self.now) c.in_ok-open_to.ensures.whole c.in_ok-open_to.ensures.under c.len-left.ensures.len c.requires.height in
    graft-made o c.graft-done.result (tip (arc_value c.args.bucket)) (seen c.graft-done.new.node) (whole c.wind.new.self) c.wind.ensures c.graft-done.ensures.ok
