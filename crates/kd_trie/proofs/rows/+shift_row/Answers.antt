use Rattle.std.proofs.Common.{◌∙◌, refl, sym, ap, rules}
use Rattle.bit_trie.proofs.Outcomes.{held}
use Rattle.std.specs.Cmp.{booleans_Decides}
use Rattle.std.proofs.lemmas.Result.{on_ok_weaker}
use Rattle.bucket_versions.specs.Rows.{has_row, after_put, after_gone}
use Rattle.kd_trie.specs.declared.node.Pair.{Pair}
use Rattle.kd_trie.specs.Nodes.{seen, is_counted}
use Rattle.kd_trie.specs.Halves.{half_of, with_half}
use Rattle.kd_trie.proofs.Steps.{step, made_of, moves-step, changed-twice, counted-step, parts-one, parts-zero, changed-parts-one, changed-parts-zero, counted-zero, counted-one, unlike-one, unlike-zero}
use Rattle.kd_trie.proofs.Counting.{half-counts, counts-owned}
use Rattle.kd_trie.proofs.rows.+shift_row.Goals as goal

pub returns-then-bit-next_bit-clause-ok : goal.returns-then-bit-next_bit-clause-ok
returns-then-bit-next_bit-clause-ok g t c =
    let s = step {key = c.args.from.now.row.key} c.requires.fits (ap seen c.in-Inner.is) c.in-Ok.ensures.value c.next_bit-bit.ensures c.half.ensures.half in
    let h : Pair = with_half c.in-Ok.pair.now c.next_bit-bit.result c.shift_row.new.node in
    let made = made_of (c.own.follows.holds h (held c.own.result c.in-Ok.is)) in
    let goes = (booleans_Decides c.next_bit-bit.result c.next_bit.result).0 c.if-bit-next_bit.true ∙ c.next_bit.ensures in
    on_ok_weaker c.shift_row.new.to.ended (changed-twice s c.args.to.now.change.row.key (after_gone c.args.from.now) (after_put c.args.to.now.change) goes c.shift_row.new.node (c.own.follows.lender h).value made) c.shift_row.ensures.ok

pub returns-then-bit-next_bit-clause-count : goal.returns-then-bit-next_bit-clause-count
returns-then-bit-next_bit-clause-count g t c =
    let goes = (booleans_Decides c.next_bit-bit.result c.next_bit.result).0 c.if-bit-next_bit.true ∙ c.next_bit.ensures in
    let s = step {key = c.args.to.now.change.row.key} c.requires.fits (ap seen c.in-Inner.is) c.in-Ok.ensures.value goes c.half.ensures.half in
    let h : Pair = with_half c.in-Ok.pair.now c.next_bit-bit.result c.shift_row.new.node in
    let made = made_of (c.own.follows.holds h (held c.own.result c.in-Ok.is)) in
    counted-step c.shift_row.new.to.ended c.args.to.now.change.row s c.shift_row.new.node (c.own.follows.lender h).value made c.shift_row.ensures.count

pub shift_row-requires : goal.shift_row-requires
shift_row-requires g t c κs within =
    let s = step {key = c.args.from.now.row.key} c.requires.fits (ap seen c.in-Inner.is) c.in-Ok.ensures.value c.next_bit-bit.ensures c.half.ensures.half in
    let goes = (booleans_Decides c.next_bit-bit.result c.next_bit.result).0 c.if-bit-next_bit.true ∙ c.next_bit.ensures in
    let counted = c.half.ensures.counted ∙ half-counts c.in-Ok.pair.now c.next_bit-bit.result (counts-owned c.in-Ok.ensures.value (ap is_counted (sym c.in-Inner.is) ∙ c.requires.counted)) in
    (search rules, (search rules, (c.requires.can, (s.fits, (moves-step c.args.from.now c.args.to.now.change s goes c.requires.rows, counted)))))

pub pass_row-requires-clause-rows : goal.pass_row-requires-clause-rows
pass_row-requires-clause-rows g t c =
    let s = step {key = c.args.from.now.row.key} {u = half_of c.in-Ok.pair.now c.next_bit-bit.result} c.requires.fits (ap seen c.in-Inner.is) c.in-Ok.ensures.value c.next_bit-bit.ensures refl in
    let q = parts-one c.requires.fits s c.args.to.now.change.row.key c.next_bit.result c.if-bit.true c.if-bit-next_bit.false c.next_bit.ensures in
    record { present = ap (has_row c.args.from.now.row) (sym q.rows_near) ∙ c.requires.rows.present; absent = ap (has_row c.args.to.now.change.row) (sym (q.rows_far (after_gone c.args.from.now))) ∙ c.requires.rows.absent }

pub returns-then-bit-clause-ok : goal.returns-then-bit-clause-ok
returns-then-bit-clause-ok g t c =
    let s = step {key = c.args.from.now.row.key} {u = half_of c.in-Ok.pair.now c.next_bit-bit.result} c.requires.fits (ap seen c.in-Inner.is) c.in-Ok.ensures.value c.next_bit-bit.ensures refl in
    let h : Pair = record { zero = c.pass_row.new.other; one = c.pass_row.new.node; count = c.in-Ok.pair.now.count } in
    let made = made_of (c.own.follows.holds h (held c.own.result c.in-Ok.is)) in
    on_ok_weaker c.pass_row.new.to.ended (λ e. changed-parts-one s c.args.to.now.change.row.key c.next_bit.result (after_gone c.args.from.now) (after_put c.args.to.now.change) c.if-bit.true c.if-bit-next_bit.false c.next_bit.ensures c.pass_row.new.node c.pass_row.new.other (c.own.follows.lender h).value made e.0 e.1) c.pass_row.ensures.ok

pub returns-then-bit-clause-count : goal.returns-then-bit-clause-count
returns-then-bit-clause-count g t c =
    let s = step {key = c.args.from.now.row.key} {u = half_of c.in-Ok.pair.now c.next_bit-bit.result} c.requires.fits (ap seen c.in-Inner.is) c.in-Ok.ensures.value c.next_bit-bit.ensures refl in
    let h : Pair = record { zero = c.pass_row.new.other; one = c.pass_row.new.node; count = c.in-Ok.pair.now.count } in
    let made = made_of (c.own.follows.holds h (held c.own.result c.in-Ok.is)) in
    counted-zero c.pass_row.new.to.ended c.args.to.now.change.row c.pass_row.new.other c.pass_row.new.node (c.own.follows.lender h).value s.some (sym c.next_bit.ensures ∙ unlike-one c.next_bit-bit.result c.next_bit.result c.if-bit.true c.if-bit-next_bit.false) made c.pass_row.ensures.count

pub pass_row-requires-else-bit-clause-rows : goal.pass_row-requires-else-bit-clause-rows
pass_row-requires-else-bit-clause-rows g t c =
    let s = step {key = c.args.from.now.row.key} {u = half_of c.in-Ok.pair.now c.next_bit-bit.result} c.requires.fits (ap seen c.in-Inner.is) c.in-Ok.ensures.value c.next_bit-bit.ensures refl in
    let q = parts-zero c.requires.fits s c.args.to.now.change.row.key c.next_bit.result c.if-bit.false c.if-bit-next_bit.false c.next_bit.ensures in
    record { present = ap (has_row c.args.from.now.row) (sym q.rows_near) ∙ c.requires.rows.present; absent = ap (has_row c.args.to.now.change.row) (sym (q.rows_far (after_gone c.args.from.now))) ∙ c.requires.rows.absent }

pub returns-else-bit-clause-ok : goal.returns-else-bit-clause-ok
returns-else-bit-clause-ok g t c =
    let s = step {key = c.args.from.now.row.key} {u = half_of c.in-Ok.pair.now c.next_bit-bit.result} c.requires.fits (ap seen c.in-Inner.is) c.in-Ok.ensures.value c.next_bit-bit.ensures refl in
    let h : Pair = record { zero = c.pass_row-else-bit.new.node; one = c.pass_row-else-bit.new.other; count = c.in-Ok.pair.now.count } in
    let made = made_of (c.own.follows.holds h (held c.own.result c.in-Ok.is)) in
    on_ok_weaker c.pass_row-else-bit.new.to.ended (λ e. changed-parts-zero s c.args.to.now.change.row.key c.next_bit.result (after_gone c.args.from.now) (after_put c.args.to.now.change) c.if-bit.false c.if-bit-next_bit.false c.next_bit.ensures c.pass_row-else-bit.new.node c.pass_row-else-bit.new.other (c.own.follows.lender h).value made e.0 e.1) c.pass_row-else-bit.ensures.ok

pub returns-else-bit-clause-count : goal.returns-else-bit-clause-count
returns-else-bit-clause-count g t c =
    let s = step {key = c.args.from.now.row.key} {u = half_of c.in-Ok.pair.now c.next_bit-bit.result} c.requires.fits (ap seen c.in-Inner.is) c.in-Ok.ensures.value c.next_bit-bit.ensures refl in
    let h : Pair = record { zero = c.pass_row-else-bit.new.node; one = c.pass_row-else-bit.new.other; count = c.in-Ok.pair.now.count } in
    let made = made_of (c.own.follows.holds h (held c.own.result c.in-Ok.is)) in
    counted-one c.pass_row-else-bit.new.to.ended c.args.to.now.change.row c.pass_row-else-bit.new.node c.pass_row-else-bit.new.other (c.own.follows.lender h).value s.some (sym c.next_bit.ensures ∙ unlike-zero c.next_bit-bit.result c.next_bit.result c.if-bit.false c.if-bit-next_bit.false) made c.pass_row-else-bit.ensures.count
