use Rattle.std.proofs.Common.{◌≡◌, ◌∙◌, ◌-◌, ◌++◌, List, length, take, drop, true, false, sym, ap, subst, rules}
use Rattle.std.specs.List.{insert, remove}
use Rattle.std.proofs.lemmas.List.{take_at}
use Rattle.bucket_versions.specs.declared.row.Row.{Row}
use Rattle.bucket_versions.specs.Rows.{IsRows, has_row, row_place}
use Rattle.bucket_versions.specs.Delta.{turn}
use Rattle.bucket_versions.proofs.RowMoves.{moved_turns}
use Rattle.bucket_versions.proofs.own_rows.turn_both.Goals as goal

moved : (c : goal.After-rows-1) → (c.move_within.new.rows ≡ turn c.args.second (turn c.args.first c.args.rows.now.items)) × IsRows c.move_within.new.rows
moved c =
    let old : List Row = c.args.rows.now.items in
    let has : has_row c.args.first old ≡ true = search rules in
    let none : has_row c.args.second old ≡ false = search rules in
    let at : c.in-Ok-Err.old ≡ row_place c.args.first old = search rules in
    let to_at : c.in-Ok-Err.new ≡ row_place c.args.second old = search rules in
    let same : c.deref_mut.result.now ≡ old = c.deref_mut.ensures.value in
    moved_turns old c.move_within.new.rows c.args.first c.args.second c.in-Ok-Err.old c.in-Ok-Err.new c.requires.in_order has none at to_at
    (λ lt. c.move_within.ensures.later lt ∙ ap (λ (l : List Row). insert (remove l c.in-Ok-Err.old) (c.in-Ok-Err.new - 1) c.args.second) same)
    (λ le. c.move_within.ensures.sooner le ∙ ap (λ (l : List Row). insert (remove l c.in-Ok-Err.old) c.in-Ok-Err.new c.args.second) same)

whole : (c : goal.After-rows-1) → take c.args.rows.now.len (c.move_within.new.rows ++ drop (length c.move_within.new.rows) c.args.rows.now.items) ≡ c.move_within.new.rows
whole c = take_at c.move_within.new.rows (drop (length c.move_within.new.rows) c.args.rows.now.items) c.args.rows.now.len (c.move_within.ensures.len ∙ c.deref_mut.ensures.len)

pub returns-in-Ok-Err-clause-rows : goal.returns-in-Ok-Err-clause-rows
returns-in-Ok-Err-clause-rows c = whole c ∙ (moved c).0

pub returns-in-Ok-Err-clause-in_order : goal.returns-in-Ok-Err-clause-in_order
returns-in-Ok-Err-clause-in_order c = subst IsRows (sym (whole c)) (moved c).1
