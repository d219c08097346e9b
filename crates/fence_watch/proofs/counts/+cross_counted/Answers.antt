use Rattle.std.proofs.Common.{◌∙◌, ◌++◌, ◌<◌, List, length, sym, ap, arith, append-nil, length-append, append_assoc}
use Rattle.fence_watch.specs.declared.fences.Event.{Event}
use Rattle.fence_watch.specs.Counts.{count_by, counted_by, said_by, said_in}
use Rattle.fence_watch.specs.Passages.{turns_in, turns_of}
use Rattle.fence_watch.proofs.AlongParts.{no-items, near-turns, far-turns, along-nil, none-said, counted-word, said-word, said-both, length-both, along-both}
use Rattle.fence_watch.proofs.counts.+cross_counted.Goals as goal

pub returns-in_default-clause-counts : goal.returns-in_default-clause-counts
returns-in_default-clause-counts t c = sym (ap (counted_by c.args.counts.now) (no-items c.args.passage.now c.in_default.ensures.cases) ∙ along-nil count_by c.args.counts.now)

pub returns-in_default-clause-events : goal.returns-in_default-clause-events
returns-in_default-clause-events t c =
    let none = ap (said_by c.args.step c.args.counts.now) (no-items c.args.passage.now c.in_default.ensures.cases) ∙ none-said c.args.step.at c.args.step.id c.args.counts.now in
    sym (append-nil c.args.events.now.items) ∙ ap (λ (l : List Event). c.args.events.now.items ++ l) (sym none)

pub cross_word-requires : goal.cross_word-requires
cross_word-requires t c =
    let same = said-word c.args.step c.args.counts.now c.in-Some.pair.now c.in-Some.passage.now c.args.passage.now c.in-Some.ensures.cases.0 (omega (arith, c.if-counts-le64.true)) in
    omega (arith, ap length same, c.requires)

pub returns-then-counts-le64-clause-counts : goal.returns-then-counts-le64-clause-counts
returns-then-counts-le64-clause-counts t c =
    c.cross_word.ensures.counts ∙ counted-word c.args.counts.now c.in-Some.pair.now c.in-Some.passage.now c.args.passage.now c.in-Some.ensures.cases.0 (omega (arith, c.if-counts-le64.true))

pub returns-then-counts-le64-clause-events : goal.returns-then-counts-le64-clause-events
returns-then-counts-le64-clause-events t c =
    c.cross_word.ensures.events
    ∙ ap (λ (l : List Event). c.args.events.now.items ++ l) (said-word c.args.step c.args.counts.now c.in-Some.pair.now c.in-Some.passage.now c.args.passage.now c.in-Some.ensures.cases.0 (omega (arith, c.if-counts-le64.true)))

pub cross_word-requires-2 : goal.cross_word-requires-2
cross_word-requires-2 t c =
    let cut = c.split_at_mut-these in
    let both = length-both c.args.step.at c.args.step.id 64 c.args.counts.now cut.result.0.now cut.result.1.now (turns_of c.args.passage.now) (turns_in (length cut.result.0.now) c.in-Some.pair.now) (turns_of c.in-Some.passage.now)
    cut.ensures.value cut.ensures.front_len (near-turns (length cut.result.0.now) c.in-Some.pair.now c.in-Some.passage.now c.args.passage.now c.in-Some.ensures.cases.0 cut.ensures.front_len) (far-turns c.in-Some.pair.now c.in-Some.passage.now c.args.passage.now c.in-Some.ensures.cases.0) in
    omega (arith, both, c.requires)

pub cross_counted-requires : goal.cross_counted-requires
cross_counted-requires t c =
    let cut = c.split_at_mut-these in
    let less : length cut.result.1.now < length c.args.counts.now =
    omega (arith, ap length cut.ensures.value, length-append cut.result.0.now cut.result.1.now, cut.ensures.front_len) in
    let both = length-both c.args.step.at c.args.step.id 64 c.args.counts.now cut.result.0.now cut.result.1.now (turns_of c.args.passage.now) (turns_in (length cut.result.0.now) c.in-Some.pair.now) (turns_of c.in-Some.passage.now)
    cut.ensures.value cut.ensures.front_len (near-turns (length cut.result.0.now) c.in-Some.pair.now c.in-Some.passage.now c.args.passage.now c.in-Some.ensures.cases.0 cut.ensures.front_len) (far-turns c.in-Some.pair.now c.in-Some.passage.now c.args.passage.now c.in-Some.ensures.cases.0) in
    (omega (arith, less, c.decreases), omega (arith, both, c.requires, c.cross_word-2.ensures.len, c.cross_word-2.ensures.capacity))

pub returns-clause-counts : goal.returns-clause-counts
returns-clause-counts t c =
    let cut = c.split_at_mut-these in
    (λ i. c.cross_word-2.ensures.counts i ++ c.cross_counted.ensures.counts i)
    ∙ along-both count_by 64 c.args.counts.now cut.result.0.now cut.result.1.now (turns_of c.args.passage.now) (turns_in (length cut.result.0.now) c.in-Some.pair.now) (turns_of c.in-Some.passage.now)
    cut.ensures.value cut.ensures.front_len (near-turns (length cut.result.0.now) c.in-Some.pair.now c.in-Some.passage.now c.args.passage.now c.in-Some.ensures.cases.0 cut.ensures.front_len) (far-turns c.in-Some.pair.now c.in-Some.passage.now c.args.passage.now c.in-Some.ensures.cases.0)

pub returns-clause-events : goal.returns-clause-events
returns-clause-events t c =
    let cut = c.split_at_mut-these in
    let near = said_in c.args.step cut.result.0.now c.in-Some.pair.now in
    let far = said_by c.args.step cut.result.1.now c.in-Some.passage.now in
    c.cross_counted.ensures.events ∙ ap (λ (l : List Event). l ++ far) c.cross_word-2.ensures.events ∙ append_assoc c.args.events.now.items near far
    ∙ ap (λ (l : List Event). c.args.events.now.items ++ l)
    (said-both c.args.step.at c.args.step.id 64 c.args.counts.now cut.result.0.now cut.result.1.now (turns_of c.args.passage.now) (turns_in (length cut.result.0.now) c.in-Some.pair.now) (turns_of c.in-Some.passage.now)
    cut.ensures.value cut.ensures.front_len (near-turns (length cut.result.0.now) c.in-Some.pair.now c.in-Some.passage.now c.args.passage.now c.in-Some.ensures.cases.0 cut.ensures.front_len) (far-turns c.in-Some.pair.now c.in-Some.passage.now c.args.passage.now c.in-Some.ensures.cases.0))
