use Rattle.std.proofs.Common.{◌≡◌, OnOk, subst}
use Rattle.zorder.specs.Bits.{low_bits}
use Rattle.bit_trie.specs.Tries.{Trie, graft}
use Rattle.kd_trie.specs.Nodes.{seen}
use Rattle.kd_trie.specs.Wholes.{whole}
use Rattle.kd_trie.proofs.Opened.{opened, graft-made}
use Rattle.kd_trie.proofs.stem.Stemmed.divide.Goals as goal

pub graft-done-requires-clause-fits : goal.graft-done-requires-clause-fits
graft-done-requires-clause-fits g c =
    let o = opened c.open_to.new.self c.args.key c.len-left.result (whole c.args.self.now) c.in_ok-open_to.ensures.whole c.in_ok-open_to.ensures.under c.len-left.ensures.len c.requires.height in
    o.fits

pub returns-clause-ok : goal.returns-clause-ok
returns-clause-ok g c =
    let o = opened c.open_to.new.self c.args.key c.len-left.result (whole c.args.self.now) c.in_ok-open_to.ensures.whole c.in_ok-open_to.ensures.under c.len-left.ensures.len c.requires.height in
    subst (λ (u : Trie). OnOk c.graft-done.result (whole c.wind.new.self ≡ graft (low_bits 64 c.args.key) u (whole c.args.self.now))) c.in_ok-children.ensures.0
    (graft-made o c.graft-done.result (seen c.in_ok-children.children) (seen c.graft-done.new.node) (whole c.wind.new.self) c.wind.ensures c.graft-done.ensures.ok)
