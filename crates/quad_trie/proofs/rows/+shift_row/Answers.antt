use Rattle.std.proofs.Common.{◌∙◌, sym, ap, subst, rules}
use Rattle.bit_trie.proofs.Outcomes.{held}
use Rattle.std.proofs.lemmas.Result.{on_ok_weaker, on_err_weaker}
use Rattle.zorder.specs.Bits.{low_bits}
use Rattle.bucket_versions.specs.Rows.{has_row, after_put, after_gone}
use Rattle.bit_trie.specs.Tries.{Trie, tip, rows_at}
use Rattle.bit_trie.specs.Ways.{Fits, MayMove, has_under, gone_under, put_under}
use Rattle.quad_trie.specs.Nodes.{seen, four}
use Rattle.quad_trie.proofs.Steps.{owned, own-step, same-step, moves-step, changed-twice, counted-step, counted-same, kept-step, kept-default}
use Rattle.quad_trie.proofs.rows.+shift_row.Goals as goal

pub returns-then-go_together-clause-ok : goal.returns-then-go_together-clause-ok
returns-then-go_together-clause-ok g t c =
    let s = own-step {key = c.args.from.now.row.key} c.requires.fits (ap seen c.in-Inner.is) c.in-Ok.ensures.value c.next_bit-high.ensures c.next_bit-low.ensures c.quarter_mut.ensures.quarter in
    let o = same-step s c.args.to.now.change.row.key (sym c.go_together.ensures ∙ c.if-go_together.true) c.next_bit-high.ensures c.next_bit-low.ensures in
    on_ok_weaker c.shift_row.new.to.ended (changed-twice s o (after_gone c.args.from.now) (after_put c.args.to.now.change) c.shift_row.new.node _ (c.own.follows.holds _ (held c.own.result c.in-Ok.is))) c.shift_row.ensures.ok

pub returns-then-go_together-clause-err : goal.returns-then-go_together-clause-err
returns-then-go_together-clause-err g t c =
    let s = own-step {key = c.args.from.now.row.key} c.requires.fits (ap seen c.in-Inner.is) c.in-Ok.ensures.value c.next_bit-high.ensures c.next_bit-low.ensures c.quarter_mut.ensures.quarter in
    on_err_weaker c.shift_row.new.to.ended (kept-step s c.shift_row.new.node _ (c.own.follows.holds _ (held c.own.result c.in-Ok.is))) c.shift_row.ensures.err

pub returns-then-go_together-clause-count : goal.returns-then-go_together-clause-count
returns-then-go_together-clause-count g t c =
    let s = own-step {key = c.args.from.now.row.key} c.requires.fits (ap seen c.in-Inner.is) c.in-Ok.ensures.value c.next_bit-high.ensures c.next_bit-low.ensures c.quarter_mut.ensures.quarter in
    let o = same-step s c.args.to.now.change.row.key (sym c.go_together.ensures ∙ c.if-go_together.true) c.next_bit-high.ensures c.next_bit-low.ensures in
    counted-step c.shift_row.new.to.ended c.args.to.now.change.row o c.shift_row.new.node _ (c.own.follows.holds _ (held c.own.result c.in-Ok.is)) c.shift_row.ensures.count

pub shift_there-requires-clause-present : goal.shift_there-requires-clause-present
shift_there-requires-clause-present g t c = ap (λ n. has_row c.args.from.now.row (rows_at (low_bits c.args.left c.args.from.now.row.key) (seen n))) (sym c.in-Leaf.is) ∙ c.requires.rows.present

pub shift_there-requires-clause-absent : goal.shift_there-requires-clause-absent
shift_there-requires-clause-absent g t c = ap (λ n. has_under c.args.left c.args.to.now.change.row (gone_under c.args.left c.args.from.now (seen n))) (sym c.in-Leaf.is) ∙ c.requires.rows.absent

pub returns-in-Leaf-clause-ok : goal.returns-in-Leaf-clause-ok
returns-in-Leaf-clause-ok g t c = on_ok_weaker c.shift_there.new.to.ended (λ e. ap tip e ∙ ap (λ n. put_under c.args.left c.args.to.now.change (gone_under c.args.left c.args.from.now (seen n))) (sym c.in-Leaf.is)) c.shift_there.ensures.ok

pub returns-in-Leaf-clause-count : goal.returns-in-Leaf-clause-count
returns-in-Leaf-clause-count g t c = c.shift_there.ensures.count

pub returns-in-Leaf-clause-err : goal.returns-in-Leaf-clause-err
returns-in-Leaf-clause-err g t c = on_err_weaker c.shift_there.new.to.ended (λ e. ap tip e ∙ ap seen (sym c.in-Leaf.is)) c.shift_there.ensures.err

pub returns-in_default-clause-err : goal.returns-in_default-clause-err
returns-in_default-clause-err g t c = kept-default c.in-Inner.quad.value _ c.own.result c.in_default.is (ap seen c.in-Inner.is) c.own.follows.holds-at-none

pub shift_row-requires : goal.shift_row-requires
shift_row-requires g t c κs within =
    let s = own-step {key = c.args.from.now.row.key} c.requires.fits (ap seen c.in-Inner.is) c.in-Ok.ensures.value c.next_bit-high.ensures c.next_bit-low.ensures c.quarter_mut.ensures.quarter in
    let o = same-step s c.args.to.now.change.row.key (sym c.go_together.ensures ∙ c.if-go_together.true) c.next_bit-high.ensures c.next_bit-low.ensures in
    (search rules, (search rules, (c.requires.can, (s.fits, moves-step c.args.from.now c.args.to.now.change s o c.requires.rows))))

pub pass_across-requires-clause-fits : goal.pass_across-requires-clause-fits
pass_across-requires-clause-fits g t c =
    let same = owned _ c.in-Ok.quad.now (ap seen c.in-Inner.is) c.in-Ok.ensures.value in
    subst (Fits c.args.left) same c.requires.fits

pub pass_across-requires-clause-rows : goal.pass_across-requires-clause-rows
pass_across-requires-clause-rows g t c =
    let same = owned _ c.in-Ok.quad.now (ap seen c.in-Inner.is) c.in-Ok.ensures.value in
    subst (λ (u : Trie). MayMove c.args.left c.args.from.now c.args.left c.args.to.now.change u (gone_under c.args.left c.args.from.now u)) same c.requires.rows

pub returns-else-go_together-clause-ok : goal.returns-else-go_together-clause-ok
returns-else-go_together-clause-ok g t c =
    let same = owned _ c.in-Ok.quad.now (ap seen c.in-Inner.is) c.in-Ok.ensures.value in
    let made = ap four (c.own.follows.holds _ (held c.own.result c.in-Ok.is)) in
    on_ok_weaker c.pass_across.new.to.ended (λ e. made ∙ e ∙ ap (λ (u : Trie). put_under c.args.left c.args.to.now.change (gone_under c.args.left c.args.from.now u)) (sym same)) c.pass_across.ensures.ok

pub returns-else-go_together-clause-count : goal.returns-else-go_together-clause-count
returns-else-go_together-clause-count g t c =
    let made = ap four (c.own.follows.holds _ (held c.own.result c.in-Ok.is)) in
    counted-same c.args.left c.pass_across.new.to.ended c.args.to.now.change.row _ _ made c.pass_across.ensures.count

pub returns-else-go_together-clause-err : goal.returns-else-go_together-clause-err
returns-else-go_together-clause-err g t c =
    let same = owned _ c.in-Ok.quad.now (ap seen c.in-Inner.is) c.in-Ok.ensures.value in
    let made = ap four (c.own.follows.holds _ (held c.own.result c.in-Ok.is)) in
    on_err_weaker c.pass_across.new.to.ended (λ e. made ∙ e ∙ sym same) c.pass_across.ensures.err
