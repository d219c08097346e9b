use Rattle.std.proofs.Common.{false, refl}
use Rattle.bucket_versions.specs.Rows.{after_put}
use Rattle.kd_trie.specs.Nodes.{seen}
use Rattle.kd_trie.specs.Wholes.{whole}
use Rattle.kd_trie.proofs.Opened.{opened, changed-made, counted, row-there}
use Rattle.kd_trie.proofs.stem.Stemmed.put_row.Goals as goal

pub put_row-requires-clause-fits : goal.put_row-requires-clause-fits
put_row-requires-clause-fits g c =
    let o = opened c.open_to.new.self c.args.change.now.row.key c.len-left.result (whole c.args.self.now) c.in_ok-open_to.ensures.whole c.in_ok-open_to.ensures.under c.len-left.ensures.len c.requires.height in
    o.fits

pub put_row-requires-clause-absent : goal.put_row-requires-clause-absent
put_row-requires-clause-absent g c =
    let o = opened c.open_to.new.self c.args.change.now.row.key c.len-left.result (whole c.args.self.now) c.in_ok-open_to.ensures.whole c.in_ok-open_to.ensures.under c.len-left.ensures.len c.requires.height in
    row-there o c.args.change.now.row false (λ t. t) (λ t. t) refl c.requires.absent

pub returns-clause-ok : goal.returns-clause-ok
returns-clause-ok g c =
    let o = opened c.open_to.new.self c.args.change.now.row.key c.len-left.result (whole c.args.self.now) c.in_ok-open_to.ensures.whole c.in_ok-open_to.ensures.under c.len-left.ensures.len c.requires.height in
    changed-made o c.put_row.new.to.ended (after_put c.args.change.now) (seen c.put_row.new.node) (whole c.wind.new.self) c.wind.ensures c.put_row.ensures.ok

pub returns-clause-count : goal.returns-clause-count
returns-clause-count g c =
    let o = opened c.open_to.new.self c.args.change.now.row.key c.len-left.result (whole c.args.self.now) c.in_ok-open_to.ensures.whole c.in_ok-open_to.ensures.under c.len-left.ensures.len c.requires.height in
    counted o c.put_row.new.to.ended (seen c.put_row.new.node) (whole c.wind.new.self) c.wind.ensures c.put_row.ensures.count
