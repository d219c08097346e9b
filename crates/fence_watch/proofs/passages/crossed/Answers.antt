use Rattle.std.proofs.Common.{get_or, ap, arith}
use Rattle.fence_watch.specs.declared.passages.Pair.{Pair}
use Rattle.fence_watch.specs.Passages.{turns_of, count_turns}
use Rattle.fence_watch.proofs.MarkLemmas.{four, count-words}
use Rattle.fence_watch.proofs.passages.crossed.Goals as goal

pub returns-clause-count : goal.returns-clause-count
returns-clause-count c =
    let all = c.args.passage.now in
    let o : Pair = record { was = 0; is = 0 } in
    let words = count-words (get_or all 0 o) (get_or all 1 o) (get_or all 2 o) (get_or all 3 o) in
    let same = ap (λ l. count_turns (turns_of l)) (four all o c.told-passage) in
    omega (arith, c.crossed.ensures.count, c.crossed-2.ensures.count, c.crossed-3.ensures.count, c.crossed-4.ensures.count, words, same)
