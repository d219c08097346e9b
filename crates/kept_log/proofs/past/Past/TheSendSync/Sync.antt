-- The entries that only contracts see own nothing, so any thread may share them.
use denote.Param.Send.{IsSync, part_keyless}
use Rattle.kept_log.specs.contracts.past.Past.{the_row}
use Rattle.kept_log.proofs.past.Past.TheSendSync.Send.{send}

pub sync : IsSync the_row
sync = record { shared = λ d b o κ q. part_keyless the_row send q d b o }
