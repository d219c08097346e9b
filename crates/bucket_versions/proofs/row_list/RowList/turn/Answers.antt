use Rattle.std.proofs.Common.{◌∙◌, ◌≤◌, ◌<◌, ◌^◌, ◌+◌, List, length, ap, sym, subst, arith}
use Rattle.bucket_versions.specs.declared.row.Row.{Row}
use Rattle.bucket_versions.specs.Delta.{difference, turn}
use Rattle.bucket_versions.specs.RowList.{rows_under, IsCounted}
use Rattle.bucket_versions.proofs.RowSets.{difference-turn}
use Rattle.bucket_versions.proofs.RowLists.{length-turn, under-small, MayHave-fewer, IsListed-turn}
use Rattle.bucket_versions.proofs.row_list.RowList.turn.Goals as goal

pub count_turned-requires-clause-fits : goal.count_turned-requires-clause-fits
count_turned-requires-clause-fits c =
    let old = c.args.self.now in
    let is = c.requires.is.0 in
    let long = old.list.ok.0 in
    let within = old.list.ok.1 in
    let cap = old.list.small in
    let small : length old.list.items < 2 ^ 63 = omega (arith, long, within, cap) in
    let both = under-small old.under (length old.list.items) is.short is.few small in
    let same = ap length c.deref.ensures.value in
    omega (arith, both, same)

pub returns-clause-rows : goal.returns-clause-rows
returns-clause-rows c =
    let old = c.args.self.now in
    let is = c.requires.is.0 in
    (λ i. difference (c.count_turned.ensures.under i) (c.turn_within.ensures.rows i)) ∙ difference-turn c.args.row (rows_under old.under) old.list.items is.under is.list

pub returns-clause-is : goal.returns-clause-is
returns-clause-is c =
    let old = c.args.self.now in
    let is = c.requires.is.0 in
    let rows : List Row = old.list.items in
    let turned : List Row = c.turn_within.new.rows.items in
    let more : length turned ≤ length rows + 1 =
    (let most = length-turn c.args.row rows is.list in let same = ap length c.turn_within.ensures.rows in omega (arith, most, same)) in
    let counted : IsCounted c.count_turned.new.self turned =
    subst (IsCounted c.count_turned.new.self) (ap (turn c.args.row) c.deref.ensures.value ∙ sym c.turn_within.ensures.rows) c.count_turned.ensures.counted in
    IsListed-turn old.under c.count_turned.new.self rows turned c.args.row is c.requires.is.1 c.count_turned.ensures.under c.turn_within.ensures.rows counted
    (MayHave-fewer c.count_turned.new.self (length turned) (length rows + 1) more (c.count_turned.ensures.may (length rows + 1) c.requires.is.1))

pub returns-clause-room : goal.returns-clause-room
returns-clause-room c room =
    let rows : List Row = c.args.self.now.list.items in
    let turned : List Row = c.turn_within.new.rows.items in
    let more : length turned + 1 ≤ length rows + 2 =
    (let most = length-turn c.args.row rows c.requires.is.0.list in let same = ap length c.turn_within.ensures.rows in omega (arith, most, same)) in
    MayHave-fewer c.count_turned.new.self (length turned + 1) (length rows + 2) more (c.count_turned.ensures.may (length rows + 2) room)
