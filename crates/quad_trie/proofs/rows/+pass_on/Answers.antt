use Rattle.std.proofs.Common.{◌∙◌, refl, sym, ap, rules}
use Rattle.bit_trie.proofs.Outcomes.{held}
use Rattle.std.proofs.lemmas.Result.{on_ok_weaker, on_err_weaker}
use Rattle.bucket_versions.specs.Rows.{has_row, after_put}
use Rattle.quad_trie.specs.Nodes.{seen}
use Rattle.bit_trie.specs.Tries.{tip}
use Rattle.bit_trie.specs.Ways.{has_under, put_under}
use Rattle.quad_trie.proofs.Steps.{own-step, changed-step, kept-step, counted-step, rows-step, kept-default}
use Rattle.quad_trie.proofs.rows.+pass_on.Goals as goal

pub returns-in-Ok-clause-ok : goal.returns-in-Ok-clause-ok
returns-in-Ok-clause-ok g t c =
    let s = own-step {key = c.args.to.now.change.row.key} c.requires.fits (ap seen c.in-Inner.is) c.in-Ok.ensures.value c.next_bit-high.ensures c.next_bit-low.ensures c.quarter_mut-quarter.ensures.quarter in
    on_ok_weaker c.pass_on.new.to.ended (λ e. (e.0, changed-step s (after_put c.args.to.now.change) c.pass_on.new.node _ (c.own.follows.holds _ (held c.own.result c.in-Ok.is)) e.1)) c.pass_on.ensures.ok

pub returns-in-Ok-clause-count : goal.returns-in-Ok-clause-count
returns-in-Ok-clause-count g t c =
    let s = own-step {key = c.args.to.now.change.row.key} c.requires.fits (ap seen c.in-Inner.is) c.in-Ok.ensures.value c.next_bit-high.ensures c.next_bit-low.ensures c.quarter_mut-quarter.ensures.quarter in
    counted-step c.pass_on.new.to.ended c.args.to.now.change.row s c.pass_on.new.node _ (c.own.follows.holds _ (held c.own.result c.in-Ok.is)) c.pass_on.ensures.count

pub returns-in-Ok-clause-err : goal.returns-in-Ok-clause-err
returns-in-Ok-clause-err g t c =
    let s = own-step {key = c.args.to.now.change.row.key} c.requires.fits (ap seen c.in-Inner.is) c.in-Ok.ensures.value c.next_bit-high.ensures c.next_bit-low.ensures c.quarter_mut-quarter.ensures.quarter in
    on_err_weaker c.pass_on.new.to.ended (λ e. (e.0, kept-step s c.pass_on.new.node _ (c.own.follows.holds _ (held c.own.result c.in-Ok.is)) e.1)) c.pass_on.ensures.err

pub pass_there-requires-clause-rows : goal.pass_there-requires-clause-rows
pass_there-requires-clause-rows g t c = (c.requires.rows.0, ap (λ n. has_under c.args.left c.args.to.now.change.row (seen n)) (sym c.in-Leaf.is) ∙ c.requires.rows.1)

pub returns-in-Leaf-clause-ok : goal.returns-in-Leaf-clause-ok
returns-in-Leaf-clause-ok g t c = on_ok_weaker c.pass_there.new.to.ended (λ e. (e.0, ap tip e.1 ∙ ap (λ n. put_under c.args.left c.args.to.now.change (seen n)) (sym c.in-Leaf.is))) c.pass_there.ensures.ok

pub returns-in-Leaf-clause-count : goal.returns-in-Leaf-clause-count
returns-in-Leaf-clause-count g t c = c.pass_there.ensures.count

pub returns-in-Leaf-clause-err : goal.returns-in-Leaf-clause-err
returns-in-Leaf-clause-err g t c = on_err_weaker c.pass_there.new.to.ended (λ e. (e.0, ap tip e.1 ∙ ap seen (sym c.in-Leaf.is))) c.pass_there.ensures.err

pub returns-in_default-clause-err : goal.returns-in_default-clause-err
returns-in_default-clause-err g t c = (refl, kept-default c.in-Inner.quad.value _ c.own.result c.in_default.is (ap seen c.in-Inner.is) c.own.follows.holds-at-none)

pub pass_on-requires : goal.pass_on-requires
pass_on-requires g t c κs within =
    let s = own-step {key = c.args.to.now.change.row.key} c.requires.fits (ap seen c.in-Inner.is) c.in-Ok.ensures.value c.next_bit-high.ensures c.next_bit-low.ensures c.quarter_mut-quarter.ensures.quarter in
    (search rules, (search rules, (c.requires.can, (s.fits, (c.requires.rows.0, ap (has_row c.args.to.now.change.row) (sym (rows-step s)) ∙ c.requires.rows.1)))))
