use Rattle.std.proofs.Common.{◌∙◌, List, sym, ap, ltb}
use Rattle.std.specs.List.{filter}
use Rattle.bucket_versions.specs.declared.row.Row.{Row}
use Rattle.bucket_versions.proofs.RowSets.{filtered_parts}
use Rattle.bucket_versions.proofs.walk.BucketRows.pass_key.Goals as goal

pub returns-then-are_above-2 : goal.returns-then-are_above-2
returns-then-are_above-2 c =
    let base = c.self.inside.base.now in
    let delta = c.self.inside.delta.now in
    sym c.self.view_is
    ∙ filtered_parts (λ r. ltb c.args.key r.key) base delta base delta c.self.invariant (sym (c.are_above.ensures c.if-are_above.true)) (sym (c.are_above-then-are_above.ensures c.if-are_above-2.true))
    ∙ ap (λ (l : List Row). filter (λ r. ltb c.args.key r.key) l) c.self.view_is

pub returns : goal.returns
returns c =
    filtered_parts (λ r. ltb c.args.key r.key) c.self.inside.base.now c.self.inside.delta.now c.above_key-self-inside.result.now c.above_key-self-inside-2.result.now
    c.self.invariant c.above_key-self-inside.ensures.rows c.above_key-self-inside-2.ensures.rows
    ∙ ap (λ (l : List Row). filter (λ r. ltb c.args.key r.key) l) c.self.view_is
