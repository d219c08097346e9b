use Rattle.std.proofs.Common.{true, refl}
use Rattle.bucket_versions.specs.Rows.{after_gone}
use Rattle.kd_trie.specs.Nodes.{seen}
use Rattle.kd_trie.specs.Wholes.{whole}
use Rattle.kd_trie.proofs.Opened.{opened, changed-made, row-there}
use Rattle.kd_trie.proofs.stem.Stemmed.take_row.Goals as goal

pub take_row-requires-clause-fits : goal.take_row-requires-clause-fits
take_row-requires-clause-fits g c =
    let o = opened c.open_to.new.self c.args.change.now.row.key c.len-left.result (whole c.args.self.now) c.in_ok-open_to.ensures.whole c.in_ok-open_to.ensures.under c.len-left.ensures.len c.requires.height in
    o.fits

pub take_row-requires-clause-present : goal.take_row-requires-clause-present
take_row-requires-clause-present g c =
    let o = opened c.open_to.new.self c.args.change.now.row.key c.len-left.result (whole c.args.self.now) c.in_ok-open_to.ensures.whole c.in_ok-open_to.ensures.under c.len-left.ensures.len c.requires.height in
    row-there o c.args.change.now.row true (λ t. t) (λ t. t) refl c.requires.present

pub returns-clause-ok : goal.returns-clause-ok
returns-clause-ok g c =
    let o = opened c.open_to.new.self c.args.change.now.row.key c.len-left.result (whole c.args.self.now) c.in_ok-open_to.ensures.whole c.in_ok-open_to.ensures.under c.len-left.ensures.len c.requires.height in
    changed-made o c.take_row.new.from.ended (after_gone c.args.change.now) (seen c.take_row.new.node) (whole c.wind.new.self) c.wind.ensures c.take_row.ensures.ok
