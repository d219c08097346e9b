use Rattle.std.proofs.Common.{◌∙◌, refl, sym, ap, rules}
use Rattle.bit_trie.proofs.Outcomes.{held}
use Rattle.std.proofs.lemmas.Result.{on_ok_weaker, on_err_weaker}
use Rattle.bucket_versions.specs.Rows.{has_row, after_gone}
use Rattle.quad_trie.specs.Nodes.{seen}
use Rattle.bit_trie.specs.Tries.{tip}
use Rattle.bit_trie.specs.Ways.{has_under, gone_under}
use Rattle.quad_trie.proofs.Steps.{own-step, changed-step, kept-step, rows-step, kept-default}
use Rattle.quad_trie.proofs.rows.+pass_row.Goals as goal

pub returns-in-Ok-clause-ok : goal.returns-in-Ok-clause-ok
returns-in-Ok-clause-ok g t c =
    let s = own-step {key = c.args.from.now.row.key} c.requires.fits.0 (ap seen c.in-Inner.is) c.in-Ok.ensures.value c.next_bit-high.ensures c.next_bit-low.ensures c.quarter_mut-quarter.ensures.quarter in
    on_ok_weaker c.pass_row.new.to.ended (λ e. (changed-step s (after_gone c.args.from.now) c.pass_row.new.node _ (c.own.follows.holds _ (held c.own.result c.in-Ok.is)) e.0, e.1)) c.pass_row.ensures.ok

pub returns-in-Ok-clause-count : goal.returns-in-Ok-clause-count
returns-in-Ok-clause-count g t c = c.pass_row.ensures.count

pub returns-in-Ok-clause-err : goal.returns-in-Ok-clause-err
returns-in-Ok-clause-err g t c =
    let s = own-step {key = c.args.from.now.row.key} c.requires.fits.0 (ap seen c.in-Inner.is) c.in-Ok.ensures.value c.next_bit-high.ensures c.next_bit-low.ensures c.quarter_mut-quarter.ensures.quarter in
    on_err_weaker c.pass_row.new.to.ended (λ e. (kept-step s c.pass_row.new.node _ (c.own.follows.holds _ (held c.own.result c.in-Ok.is)) e.0, e.1)) c.pass_row.ensures.err

pub pass_on-requires-clause-fits : goal.pass_on-requires-clause-fits
pass_on-requires-clause-fits g t c = c.requires.fits.1

pub pass_on-requires-clause-rows : goal.pass_on-requires-clause-rows
pass_on-requires-clause-rows g t c = (ap (λ n. has_under c.args.left c.args.from.now.row (seen n)) (sym c.in-Leaf.is) ∙ c.requires.rows.present, c.requires.rows.absent)

pub returns-in-Leaf-clause-ok : goal.returns-in-Leaf-clause-ok
returns-in-Leaf-clause-ok g t c = on_ok_weaker c.pass_on.new.to.ended (λ e. (ap tip e.0 ∙ ap (λ n. gone_under c.args.left c.args.from.now (seen n)) (sym c.in-Leaf.is), e.1)) c.pass_on.ensures.ok

pub returns-in-Leaf-clause-count : goal.returns-in-Leaf-clause-count
returns-in-Leaf-clause-count g t c = c.pass_on.ensures.count

pub returns-in-Leaf-clause-err : goal.returns-in-Leaf-clause-err
returns-in-Leaf-clause-err g t c = on_err_weaker c.pass_on.new.to.ended (λ e. (ap tip e.0 ∙ ap seen (sym c.in-Leaf.is), e.1)) c.pass_on.ensures.err

pub returns-in_default-clause-err : goal.returns-in_default-clause-err
returns-in_default-clause-err g t c = (kept-default c.in-Inner.quad.value _ c.own.result c.in_default.is (ap seen c.in-Inner.is) c.own.follows.holds-at-none, refl)

pub pass_row-requires : goal.pass_row-requires
pass_row-requires g t c κs within =
    let s = own-step {key = c.args.from.now.row.key} c.requires.fits.0 (ap seen c.in-Inner.is) c.in-Ok.ensures.value c.next_bit-high.ensures c.next_bit-low.ensures c.quarter_mut-quarter.ensures.quarter in
    (search rules, (search rules, (c.requires.can, ((s.fits, c.requires.fits.1), record { present = ap (has_row c.args.from.now.row) (sym (rows-step s)) ∙ c.requires.rows.present; absent = c.requires.rows.absent }))))
