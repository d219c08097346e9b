-- Each prefix is one of the names or isn't. After the last prefix no name is left.
use Rattle.std.proofs.Common.{◌<◌, ◌≤◌, length, sym, ◌∙◌, ap, arith, take}
use Rattle.zorder.specs.Key.{key_bits}
use Rattle.log_compact.proofs.Lefts.{is-next, not-aligned, not-first, left_at-none}
use Rattle.log_compact.proofs.names.next_at.Goals as goal
use Rattle.log_compact.proofs.names.next_at.Goals.{else-len-width-eq0-via-then-len-width-eq0+else-bits, else-len-width-eq0-via-else-len-width-eq0}

pub returns-then-bits : goal.returns-then-bits
returns-then-bits c =
    let short : length c.args.leaf.now ≤ 64 = c.len-len-end.ensures.most in
    c.loop-len.invariant
    ∙ is-next c.args.width c.args.leaf.now c.first_bits-name.result c.loop-len.len short (omega (arith, c.len-len-end.ensures.len, c.loop-len-test.true))
    (c.first_bits-name.ensures ∙ ap (λ k. take c.loop-len.len (key_bits k)) c.bits.ensures)
    c.if-len-width-eq0.true
    (sym c.bits-then-len-width-eq0.ensures ∙ c.if-bits.true ∙ c.bits-then-len-width-eq0-2.ensures)

pub loop-len-preserved : goal.loop-len-preserved
loop-len-preserved c =
    let short : length c.args.leaf.now ≤ 64 = c.len-len-end.ensures.most in
    let within : c.loop-len.len < length c.args.leaf.now = omega (arith, c.len-len-end.ensures.len, c.loop-len-test.true) in
    let is = c.first_bits-name.ensures ∙ ap (λ k. take c.loop-len.len (key_bits k)) c.bits.ensures in
    c.loop-len.invariant
    ∙ (elim c.else-len-width-eq0.branch [
      | else-len-width-eq0-via-then-len-width-eq0+else-bits w ↦
          not-first c.args.width c.args.leaf.now c.first_bits-name.result c.loop-len.len short within is
          w.if-len-width-eq0.true (λ same. w.if-bits.false (w.bits-then-len-width-eq0.ensures ∙ same ∙ sym w.bits-then-len-width-eq0-2.ensures))
      | else-len-width-eq0-via-else-len-width-eq0 w ↦
          not-aligned c.args.width c.args.leaf.now c.first_bits-name.result c.loop-len.len short within is w.if-len-width-eq0.false
    ])

pub returns : goal.returns
returns c = c.loop-len.invariant ∙ left_at-none c.args.width c.args.leaf.now c.loop-len.len (omega (arith, c.len-len-end.ensures.len, c.loop-len-test.false))
