use Rattle.std.proofs.Common.{◌∙◌, List, take, drop, ap}
use Rattle.std.specs.Simd.Lanes.{mask_l}
use Rattle.fence_watch.specs.declared.slabs.Span.{Span}
use Rattle.fence_watch.specs.Slabs.{row_at}
use Rattle.fence_watch.proofs.MarkLemmas.{row-words}
use Rattle.fence_watch.proofs.slabs.row_of.Goals as goal

pub returns : goal.returns
returns c =
    let word = λ (l : List Span). mask_l (row_at c.args.at l) in
    let first = c.of_one_word.ensures.back in
    let second = c.of_one_word-2.ensures.back ∙ ap (λ (l : List Span). drop 64 l) first in
    let third = c.of_one_word-3.ensures.back ∙ ap (λ (l : List Span). drop 64 l) second in
    row-words c.args.at c.word_of.result c.word_of-2.result c.word_of-3.result c.word_of-4.result c.args.spans.now
    (c.word_of.ensures ∙ ap word c.of_one_word.ensures.front)
    (c.word_of-2.ensures ∙ ap word (c.of_one_word-2.ensures.front ∙ ap (λ (l : List Span). take 64 l) first))
    (c.word_of-3.ensures ∙ ap word (c.of_one_word-3.ensures.front ∙ ap (λ (l : List Span). take 64 l) second))
    (c.word_of-4.ensures ∙ ap word (c.of_one_word-4.ensures.front ∙ ap (λ (l : List Span). take 64 l) third))
