use Rattle.point_table.proofs.table.PointTable.index_anew.Given as goal

abbrev pub ghosts-rows : goal.ghosts-rows
ghosts-rows g a = record { name = a.blank.name; parts = a.blank.parts }
