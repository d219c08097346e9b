use Rattle.point_table.proofs.table.move_row.Goals as goal

pub move_row-requires-clause-can : goal.move_row-requires-clause-can
move_row-requires-clause-can g c = c.requires.can

pub returns-clause-told : goal.returns-clause-told
returns-clause-told g c = c.move_row.ensures.told
