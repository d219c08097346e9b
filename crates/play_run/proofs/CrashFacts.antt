-- What a crash leaves of the log of a run.
use Rattle.std.proofs.Common.{◌≡◌, ◌≢◌, ◌⊎◌, inl, inr, ◌∙◌, ℕ, List, ◌++◌, take, false, Option, Some, None, is_some, refl, sym, ap, subst}
use Rattle.std.proofs.lemmas.List.{append-nil}
use Rattle.std.proofs.lemmas.Option.{same_Some}
use Rattle.cell_format.specs.declared.cell.Cell.{Cell}
use Rattle.plain_list.specs.declared.entries.Entry.{Entry}
use Rattle.plain_list.specs.World.{World}
use Rattle.plain_list.specs.State.{State}
use Rattle.plain_list.specs.History.{failed_cell}
use Rattle.disk_trait.specs.Drive.{Drive, Stays, IsSynced}
use Rattle.disk_trait.specs.Moments.{LeavesNow, LeavesSince}
use Rattle.recovery.specs.LogText.{IsLog}
use Rattle.log_state.specs.Recovers.{Recovers}
use Rattle.log_state.specs.Changes.{cells_of, failed_cells, IsPrefixRecovered}
use Rattle.log_state.specs.Keeps.{KeepsHistory}
use Rattle.log_state.proofs.Tiling.{leaves_tile}
use Rattle.recovery.specs.Calls.{StopsAtFault}
use Rattle.recovery.specs.Found.{IsNewest}
use Rattle.recovery.proofs.CallLemmas.{well-none, stops-then}
use Rattle.kept_log.specs.KeptView.{KeptView}
use Rattle.kept_log.specs.Journal.{KeepsLog}
use Rattle.kept_log.proofs.Starting.{starts-settled}
use Rattle.kept_log.proofs.InJournal.{failed_cells-none}
use Rattle.play_run.specs.Origin.{Origin, IsFoundOrigin}
use Rattle.play_run.specs.Crash.{RecoversToPrefix, KeepsAll, KeepsPlayed, KeepsText}

-- an image of legal cells has leaves that tile
to-prefix : (w : ℕ) (first : List Cell) (world : World) (h : List Entry) (image : List ℕ) → IsNewest image → IsPrefixRecovered w first world h image → RecoversToPrefix w first world h image
to-prefix w first world h image version (m, recovers) =
    (m, record { recovers = recovers; tile = leaves_tile w (first ++ take m (cells_of world h ++ failed_cells h)) recovers.legal; version = version })

-- without a failed append all cells are those of the history
all-placed : (w : ℕ) (first : List Cell) (world : World) (h : List Entry) (image : List ℕ) → failed_cell h ≡ None
    → Recovers w (first ++ cells_of world h) image ⊎ Recovers w (first ++ (cells_of world h ++ failed_cells h)) image → Recovers w (first ++ cells_of world h) image
all-placed w first world h image none (inl all) = all
all-placed w first world h image none (inr more) =
    subst (λ (l : List Cell). Recovers w (first ++ l) image) (ap (λ (l : List Cell). cells_of world h ++ l) (failed_cells-none h none) ∙ append-nil (cells_of world h)) more

-- what a log keeps of a history, at the drive on which it was opened
kept-all : (w : ℕ) (first : List Cell) (world : World) (h : List Entry) (old start now : Drive) (failed : Option ℕ) (status : ℕ) → start.clock ≡ old.clock → LeavesSince now start.clock IsNewest → KeepsHistory w first world h start.clock now failed
    → (status ≢ 7 → failed_cell h ≡ None) → KeepsAll w first world h old now status
kept-all w first world h old start now failed status clock version kept going = record {
  any_moment = λ c left. let then = subst (λ (t : ℕ). now.since t c) (sym clock) left in to-prefix w first world h c (version c then) (kept.any_moment c then);
  at_end = kept.at_end;
  all = λ whole c left. all-placed w first world h c (going whole) (kept.at_end c left);
}

-- a drive on which nothing is pending goes on so
settled-stays : (a b : Drive) → Stays a b → IsSynced a → IsSynced b
settled-stays a b stays settled xs told c left = settled xs (sym stays.bytes ∙ told) c (stays.images c left)

-- the cells of an origin over a log are those that its drive's bytes recover to
first-recovers : (old : Drive) (from : Origin) (bytes : List ℕ) (first : List Cell) → IsFoundOrigin old from → old.bytes ≡ Some bytes → from.first ≡ Some first → Recovers from.width first bytes
first-recovers old from bytes first found told is =
    let same : Some first ≡ Some found.first = sym is ∙ ap (λ (o : Origin). o.first) found.origin_is in
    subst (λ (w : ℕ). Recovers w first bytes) (ap (λ (o : Origin). o.width) (sym found.origin_is))
    (subst (λ (l : List Cell). Recovers found.width l bytes) (sym (same_Some first found.first same)) (found.recovers bytes told))

module _ {D : Type 0} (drive : D → Drive) (old : Drive) (log : KeptView D) (from : Origin) (s : State) (h : List Entry) (status : ℕ) (here : Stays old (drive log.start))
    (kept : KeepsLog drive from.width s h log) (going : status ≢ 7 → failed_cell h ≡ None) (found : IsFoundOrigin old from) (state : s ≡ from.state) where
  -- the log of a book that was opened
  pub keeps-opened : KeepsPlayed from old (drive log.disk) status h
  keeps-opened bytes first told is settled =
      let w : ℕ = from.width in
      let recovers : Recovers w first bytes = first-recovers old from bytes first found told is in
      let settled_then = settled-stays old (drive log.start) here settled in
      let start = starts-settled w first (drive log.start) bytes settled_then (here.bytes ∙ told) recovers in
      let behind = kept.keeps.since first start in
      let version : LeavesNow (drive log.start) IsNewest = λ c left. subst IsNewest (sym (settled_then bytes (here.bytes ∙ told) c left)) (found.version bytes told) in
      let all : KeepsAll w first s.world h old (drive log.disk) status = kept-all w first s.world h old (drive log.start) (drive log.disk) log.failed status here.clock (behind.newest version) behind.history going in
      subst (λ (o : State). KeepsAll w first o.world h old (drive log.disk) status) state all

  -- its text, and its device calls
  pub text-opened : KeepsText from old (drive log.disk) status h
  text-opened bytes first told is whole =
      subst (λ (o : State). IsLog from.width (first ++ cells_of o.world h) (drive log.disk)) state
      (kept.keeps.text first bytes (here.bytes ∙ told) (first-recovers old from bytes first found told is) (kept.failed ∙ going whole))

  pub calls-opened : log.moves ≡ false → StopsAtFault old (drive log.disk)
  calls-opened still = stops-then old (drive log.start) (drive log.disk) (well-none old (drive log.start) here.calls) (by_case (failed_cell h) refl)
    where
      by_case : (cell : Option ℕ) → failed_cell h ≡ cell → StopsAtFault (drive log.start) (drive log.disk)
      by_case None none = inl (kept.well none)
      by_case (Some cell) some = inr (kept.stopped still (ap is_some some))
