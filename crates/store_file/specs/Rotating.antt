-- A store whose log a fresh one may replace, any number of times: how it begins, and what its close leaves.
use Rattle.std.specs.Prelude.{◌≡◌, ℕ, length, [], true, None, Some}
use Rattle.std.specs.Option.{option_map}
use Rattle.disk_trait.specs.Drive.{Drive}
use Rattle.plain_list.specs.State.{IsLegal}
use Rattle.kept_log.specs.KeptView.{KeptView}
use Rattle.kept_log.specs.Journal.{KeepsIn, failed_cell}
use Rattle.book_lock.specs.Own.{times, once_below}
use Rattle.book_lock.specs.Pass.{Known}
use Rattle.book_lock.specs.declared.origin.Origin.{Origin}
use Rattle.book_lock.specs.declared.origin.LogStart.{LogStart}
use Rattle.sessions.specs.Shared.{start_in, start_of}

-- The same origin, of a store whose log a fresh one may replace.
abbrev pub rotating_origin : Origin → Origin
rotating_origin o = record o { log = option_map (λ (log : LogStart). record log { moves = true }) o.log }

-- The history is what the last pass has seen. All of it is the pass's own, and it is legal from the origin. The log has kept
-- it since its first opening, whether a fresh log has replaced that log or not. No append has failed, and no record waits.
-- So if the drive's bytes are known, the next opening finds what the history left (`finds-moved`, proofs/MovedAgain).
pub record ClosesMoved {D : Type 0} (drive : D → Drive) (w : ℕ) (pass : Known) (disk : D) : Type 0 where
  pub own : (p : ℕ) → times p pass.own ≡ once_below p (length pass.seen)
  pub legal : IsLegal w (start_of pass.origin) pass.seen
  pub log : KeptView D
  pub disk_is : log.disk ≡ disk
  pub began : pass.origin.log ≡ Some (start_in drive log)
  pub keeps : KeepsIn drive w (start_of pass.origin) pass.seen (Some log)
  pub none_wait : log.waiting ≡ []
  pub good : failed_cell pass.seen ≡ None
