use Rattle.std.proofs.Common.{◌∙◌, ◌+◌, ℕ, [], ◌∷◌, ◌++◌, Vec, Global, get_or, ap}
use Rattle.csv_rows.specs.declared.rows.InRow.{InRow}
use Rattle.plain_list.specs.declared.ops.Op.{Op}
use Rattle.plain_list.specs.declared.ops.Op.TheVariants.{Put}
use Rattle.play_run.proofs.LineOrder.{row-in}
use Rattle.play_run.proofs.Parting.{parted-more}
use Rattle.play_run.proofs.lanes.part_rows.Goals as goal

abbrev blank : InRow
blank = record { session = 0; op = Put 0 (record { x = 0; y = 0 }) 0 }

pub loop-i-preserved : goal.loop-i-preserved
loop-i-preserved c =
    let rows = c.args.rows.now in
    let i = c.loop-i.i in
    let row = row-in rows c.requires.each i blank c.loop-i-test.true in
    parted-more (λ v. v.items) rows i blank c.loop-i.own.items c.push.new.self _ c.loop-i.invariant c.loop-i-test.true row.first row.last
    (c.in-Ok.ensures.items ∙ ap (λ (v : Vec (ℕ × Op) Global). v.items ++ (i + 1, (get_or rows i blank).op) ∷ []) c.index_mut.ensures.value)
