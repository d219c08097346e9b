use Rattle.std.proofs.Common.{◌≡◌, ◌++◌, ◌∙◌, ℕ, List, [], refl, ap, append-nil}
use Rattle.std.specs.List.{flat_map}
use Rattle.fence_watch.specs.declared.fences.Event.{Event}
use Rattle.fence_watch.specs.declared.counts.FenceCount.{FenceCount}
use Rattle.fence_watch.specs.Tallies.{TallyView}
use Rattle.csv_rows.proofs.PiecesFacts.{counts-lost, moves-more, moves-trans, puts-fault, puts-is, puts-last}
use Rattle.watch_run.specs.WatchLines.{event_line, watch_title}
use Rattle.watch_run.specs.inside.Lines.{counted_line, view_text}
use Rattle.watch_run.proofs.lines.write_watch.Goals as goal

-- The three parts of the text.
parts : (v : TallyView) (empty front : List ℕ) (events : List Event) (counts : List FenceCount) → empty ≡ [] → front ≡ empty ++ watch_title → events ≡ v.events → counts ≡ v.counts
    → (front ++ flat_map event_line events) ++ flat_map counted_line counts ≡ view_text v
parts v empty front events counts none e is are =
    ap (λ (l : List ℕ). (l ++ flat_map event_line events) ++ flat_map counted_line counts) (e ∙ ap (λ l. l ++ watch_title) none)
    ∙ (λ i. (watch_title ++ flat_map event_line (is i)) ++ flat_map counted_line (are i))

pub returns-in_err-add_events-clause-bytes : goal.returns-in_err-add_events-clause-bytes
returns-in_err-add_events-clause-bytes g c =
    let lost = c.in_err-add_events.ensures.bytes in
    puts-is _ _ _ _ c.from_residual.result (parts c.args.watch.now c.new-piece.result.items c.push_str.new.piece.items c.events.result.now c.args.watch.now.counts c.new-piece.ensures c.push_str.ensures.bytes c.events.ensures.events refl)
    (puts-fault _ _ _ lost.0 (flat_map counted_line c.args.watch.now.counts) c.from_residual.result c.from_residual.ensures.0 lost.1)

pub returns-in_err-add_ends-clause-bytes : goal.returns-in_err-add_ends-clause-bytes
returns-in_err-add_ends-clause-bytes g c =
    let lost = c.in_err-add_ends.ensures.bytes in
    let more = flat_map counted_line c.counts.result.now in
    let moved = moves-trans _ _ _ _ _ lost.0 (moves-more _ _ _ _ more c.in_ok-add_events.ensures.bytes) lost.1 in
    puts-is _ _ _ _ c.from_residual-in_err-add_ends.result
    (append-nil _ ∙ parts c.args.watch.now c.new-piece.result.items c.push_str.new.piece.items c.events.result.now c.counts.result.now c.new-piece.ensures c.push_str.ensures.bytes c.events.ensures.events c.counts.ensures.counts)
    (puts-fault _ _ _ lost.0 [] c.from_residual-in_err-add_ends.result c.from_residual-in_err-add_ends.ensures.0 moved)

pub returns-in_err-add_ends-clause-cause : goal.returns-in_err-add_ends-clause-cause
returns-in_err-add_ends-clause-cause g c =
    counts-lost _ _ _ c.from_residual-in_err-add_ends.result c.from_residual-in_err-add_ends.ensures.0 c.in_ok-add_events.ensures.cause.same c.in_err-add_ends.ensures.cause.later c.in_err-add_ends.ensures.cause.failed

pub returns-clause-bytes : goal.returns-clause-bytes
returns-clause-bytes g c =
    let more = flat_map counted_line c.counts.result.now in
    let moved = moves-trans _ _ _ _ _ _ (moves-more _ _ _ _ more c.in_ok-add_events.ensures.bytes) c.in_ok-add_ends.ensures.bytes in
    puts-is _ _ _ _ c.put.result (parts c.args.watch.now c.new-piece.result.items c.push_str.new.piece.items c.events.result.now c.counts.result.now c.new-piece.ensures c.push_str.ensures.bytes c.events.ensures.events c.counts.ensures.counts)
    (puts-last _ _ _ _ _ c.put.result moved (puts-is _ _ c.as_slice.result.now _ c.put.result (c.as_slice.ensures.value) c.put.ensures.bytes))
