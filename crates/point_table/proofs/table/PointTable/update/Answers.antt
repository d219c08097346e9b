use Rattle.std.proofs.Common.{rules}
use Rattle.point_table.proofs.table.PointTable.update.Goals as goal

pub put-requires : goal.put-requires
put-requires g c = search rules

pub relocate-requires : goal.relocate-requires
relocate-requires g c = search rules

pub remove-requires : goal.remove-requires
remove-requires g c = search rules

pub returns-in-Put-clause-ok : goal.returns-in-Put-clause-ok
returns-in-Put-clause-ok g c = search rules

pub returns-in-Put-clause-err : goal.returns-in-Put-clause-err
returns-in-Put-clause-err g c = search rules

pub returns-in-Put-clause-told : goal.returns-in-Put-clause-told
returns-in-Put-clause-told g c = search rules

pub returns-in-Move-clause-ok : goal.returns-in-Move-clause-ok
returns-in-Move-clause-ok g c = search rules

pub returns-in-Move-clause-err : goal.returns-in-Move-clause-err
returns-in-Move-clause-err g c = search rules

pub returns-in-Move-clause-told : goal.returns-in-Move-clause-told
returns-in-Move-clause-told g c = search rules

pub returns-in-Remove-clause-ok : goal.returns-in-Remove-clause-ok
returns-in-Remove-clause-ok g c = search rules

pub returns-in-Remove-clause-err : goal.returns-in-Remove-clause-err
returns-in-Remove-clause-err g c = search rules

pub returns-in-Remove-clause-told : goal.returns-in-Remove-clause-told
returns-in-Remove-clause-told g c = search rules

pub returns-in-Find-clause-err : goal.returns-in-Find-clause-err
returns-in-Find-clause-err g c = search rules

pub returns-in-Find-clause-told : goal.returns-in-Find-clause-told
returns-in-Find-clause-told g c = search rules
