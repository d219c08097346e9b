use Rattle.std.proofs.Common.{◌%◌, ◌∙◌, ℕ, List, [], length, get_or, cond, ap, sym, subst, arith}
use Rattle.std.specs.List.{list_any}
use Rattle.disk_mem.specs.declared.touches.Touch.{Touch}
use Rattle.disk_mem.specs.Pending.{is_in, Picks}
use Rattle.disk_mem.specs.Recorded.{ranges_of}
use Rattle.disk_mem.specs.Scans.{file_by}
use Rattle.disk_mem.proofs.ImageLemmas.{take-whole, cut-stable, picks}
use Rattle.disk_mem.proofs.images.image_of.Goals as goal

pub unpainted-requires-clause-within : goal.unpainted-requires-clause-within
unpainted-requires-clause-within c =
    cut-stable c.args.first.now c.args.pieces.now c.args.touches.now c.of-scan.result c.deref.result.now (c.of-scan.ensures.scan c.args.pieces.now c.requires.stored) (c.deref.ensures.value ∙ c.in_ok-stable.ensures ∙ ap (λ (ts : List Touch). (file_by c.args.first.now c.args.pieces.now ts).held) c.split_at.ensures.front)

pub returns : goal.returns
returns c =
    let first = c.args.first.now in
    let pieces = c.args.pieces.now in
    let touches = c.args.touches.now in
    let base = c.deref_mut.result.now in
    let items = c.in_ok-image.image.items in
    let painted = c.paint_touched.new.image in
    let whole = take-whole c.in_ok-image.image.len painted items (c.paint_touched.auto.image ∙ ap length c.deref_mut.ensures.value) (omega arith) in
    let stable_is = c.deref.ensures.value ∙ c.in_ok-stable.ensures ∙ ap (λ (ts : List Touch). (file_by first pieces ts).held) c.split_at.ensures.front in
    let long = ap length c.deref_mut.ensures.value ∙ c.in_ok-image.ensures.long in
    subst (Picks (file_by first pieces touches).pending c.args.len c.args.fill.now) (sym whole)
    (picks first pieces touches c.of-scan.result c.args.len c.args.fill.now c.deref.result.now base painted
    (c.of-scan.ensures.scan pieces c.requires.stored)
    stable_is
    (omega (arith, long))
    (λ i lt. ap (λ (xs : List ℕ). get_or xs i 0) c.deref_mut.ensures.value ∙ c.in_ok-image.ensures.bytes i (omega (arith, lt)))
    c.paint_touched.auto.image
    (λ i lt. c.paint_touched.ensures i lt ∙ ap (λ (ts : List Touch). cond (list_any (is_in i) (ranges_of [] ts)) (get_or c.args.fill.now (i % length c.args.fill.now) 0) (get_or base i 0)) c.split_at.ensures.back))
