use Rattle.std.proofs.Common.{◌≡◌, ◌∙◌, List, map, take, ap}
use Rattle.std.proofs.lemmas.List.{take_all}
use Rattle.fence_watch.specs.declared.fences.Fence.{Fence}
use Rattle.fence_watch.specs.Passages.{column_of, line_of}
use Rattle.fence_watch.proofs.passages.Chart.new.Goals as goal

pub returns : goal.returns
returns c =
    let whole : take c.loop-fence.fence-index c.args.fences.now ≡ c.args.fences.now = take_all c.loop-fence.fence-index c.args.fences.now c.loop-fence-test.false in
    record {
      columns = c.in_ok-new.ensures ∙ c.loop-fence.invariant.columns ∙ ap (λ (l : List Fence). map column_of l) whole;
      lines = c.in_ok-new-2.ensures ∙ c.loop-fence.invariant.lines ∙ ap (λ (l : List Fence). map line_of l) whole;
    }
