use Rattle.std.proofs.Common.{◌-◌, ◌∙◌, refl, ap}
use Rattle.std.proofs.lemmas.Result.{on_ok_weaker, on_err_weaker}
use Rattle.bucket_versions.specs.Rows.{after_put, after_gone}
use Rattle.bit_trie.specs.Ways.{gone_under, put_under}
use Rattle.quad_trie.specs.Nodes.{seen}
use Rattle.quad_trie.proofs.Steps.{}
use Rattle.quad_trie.proofs.Across.{apart, far-kept, moves-across, changed-across, kept-across, counted-across}
use Rattle.quad_trie.proofs.rows.pass_across.Goals as goal

pub pass_row-requires-clause-rows : goal.pass_row-requires-clause-rows
pass_row-requires-clause-rows g c =
    let s = apart {q = c.args.quad.now} c.requires.fits c.requires.apart c.next_bit-high.ensures c.next_bit-low.ensures c.next_bit-to_high.ensures c.next_bit-to_low.ensures in
    let far = c.quarter_mut-other.ensures.quarter ∙ far-kept s _ c.in-Ok.third c.replace_quarter-aside.ensures.new in
    moves-across c.args.from.now c.args.to.now.change s (seen c.replace_quarter-aside.result) (seen c.quarter_mut-other.result.now) c.replace_quarter-aside.ensures.old far c.requires.rows

pub returns-clause-ok : goal.returns-clause-ok
returns-clause-ok g c =
    let s = apart {q = c.args.quad.now} c.requires.fits c.requires.apart c.next_bit-high.ensures c.next_bit-low.ensures c.next_bit-to_high.ensures c.next_bit-to_low.ensures in
    let far = c.quarter_mut-other.ensures.quarter ∙ far-kept s _ c.in-Ok.third c.replace_quarter-aside.ensures.new in
    on_ok_weaker c.pass_row.new.to.ended (λ e. changed-across s (after_gone c.args.from.now) (after_put c.args.to.now.change) _ _ _ c.in-Ok.third c.pass_row.new.other c.pass_row.new.node c.replace_quarter-aside.ensures.new refl c.replace_quarter.ensures.new (e.0 ∙ ap (gone_under (c.args.left - 2) c.args.from.now) c.replace_quarter-aside.ensures.old) (e.1 ∙ ap (put_under (c.args.left - 2) c.args.to.now.change) far)) c.pass_row.ensures.ok

pub returns-clause-count : goal.returns-clause-count
returns-clause-count g c =
    let s = apart {q = c.args.quad.now} c.requires.fits c.requires.apart c.next_bit-high.ensures c.next_bit-low.ensures c.next_bit-to_high.ensures c.next_bit-to_low.ensures in
    counted-across s c.pass_row.new.to.ended c.args.to.now.change.row refl _ _ _ c.in-Ok.third c.pass_row.new.other c.pass_row.new.node c.replace_quarter-aside.ensures.new refl c.replace_quarter.ensures.new c.pass_row.ensures.count

pub returns-clause-err : goal.returns-clause-err
returns-clause-err g c =
    let s = apart {q = c.args.quad.now} c.requires.fits c.requires.apart c.next_bit-high.ensures c.next_bit-low.ensures c.next_bit-to_high.ensures c.next_bit-to_low.ensures in
    let far = c.quarter_mut-other.ensures.quarter ∙ far-kept s _ c.in-Ok.third c.replace_quarter-aside.ensures.new in
    on_err_weaker c.pass_row.new.to.ended (λ e. kept-across s _ _ _ c.in-Ok.third c.pass_row.new.other c.pass_row.new.node c.replace_quarter-aside.ensures.new refl c.replace_quarter.ensures.new (e.0 ∙ c.replace_quarter-aside.ensures.old) (e.1 ∙ far)) c.pass_row.ensures.err
