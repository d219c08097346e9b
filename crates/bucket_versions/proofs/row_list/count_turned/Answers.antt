use Rattle.std.proofs.Common.{◌≡◌, ◌∙◌, ◌+◌, List, length, sym, arith}
use Rattle.bucket_versions.specs.declared.row.Row.{Row}
use Rattle.bucket_versions.specs.Delta.{difference, turn}
use Rattle.bucket_versions.proofs.RowSets.{IsRows-difference}
use Rattle.bucket_versions.proofs.RowLists.{length-turn_absent, length-turn_present}
use Rattle.bucket_versions.proofs.row_list.count_turned.Goals as goal

pub overflow_sub-result : goal.overflow_sub-result
overflow_sub-result c =
    let rows : List Row = difference c.args.base.now c.args.delta.now in
    let less : length (turn c.args.row.now rows) + 1 ≡ length rows =
    length-turn_present c.args.row.now rows (IsRows-difference c.args.base.now c.args.delta.now c.requires.parts.base c.requires.parts.delta) (sym c.holds.ensures ∙ c.if-holds.true) in
    omega (arith, less, c.requires.count)

pub returns-then-holds : goal.returns-then-holds
returns-then-holds c =
    let rows : List Row = difference c.args.base.now c.args.delta.now in
    let less : length (turn c.args.row.now rows) + 1 ≡ length rows =
    length-turn_present c.args.row.now rows (IsRows-difference c.args.base.now c.args.delta.now c.requires.parts.base c.requires.parts.delta) (sym c.holds.ensures ∙ c.if-holds.true) in
    omega (arith, less, c.requires.count)

pub returns-else-holds : goal.returns-else-holds
returns-else-holds c =
    let rows : List Row = difference c.args.base.now c.args.delta.now in
    let more : length (turn c.args.row.now rows) ≡ length rows + 1 = length-turn_absent c.args.row.now rows (sym c.holds.ensures ∙ c.if-holds.false) in
    omega (arith, more, c.requires.count)
