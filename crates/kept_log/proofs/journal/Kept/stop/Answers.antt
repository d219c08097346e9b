use Rattle.std.proofs.Common.{ℕ, Some, is_some, sym, ◌∙◌, ap, subst}
use Rattle.split_log.specs.LogView.{LogView}
use Rattle.kept_log.specs.KeptView.{KeptView, waiting_of, own_of}
use Rattle.kept_log.specs.Journal.{Stops}
use Rattle.kept_log.specs.Moved.{alone}
use Rattle.kept_log.proofs.Stopping.{own-stops}
use Rattle.kept_log.proofs.journal.Kept.stop.Goals as goal

pub returns-clause-stops : goal.returns-clause-stops
returns-clause-stops g c =
    let inside = c.self.inside in
    let old = own_of inside.log inside.start.value inside.first.value (waiting_of inside.waiting) (is_some inside.waiting) inside.moves in
    let stopped = own-stops g.D.LogDisk.drive old (ap (λ v. v.failed) c.self.view_is ∙ c.requires.open) (ap (λ v. v.moves) c.self.view_is ∙ c.requires.moves) g.met.D.LogDisk.keeps_laws in
    subst (λ (l : KeptView g.row.D.Denot). Stops g.D.LogDisk.drive c.cells-number.result (Some (alone l))
    (Some (alone (own_of c.stop.new.self inside.start.value inside.first.value (waiting_of inside.waiting) (is_some inside.waiting) inside.moves)))) c.self.view_is
    (subst (λ (n : ℕ). Stops g.D.LogDisk.drive n (Some (alone old))
    (Some (alone (own_of c.stop.new.self inside.start.value inside.first.value (waiting_of inside.waiting) (is_some inside.waiting) inside.moves)))) (sym c.cells-number.ensures.cells)
    (subst (λ (l : LogView g.row.D.Denot). Stops g.D.LogDisk.drive old.cells (Some (alone old))
    (Some (alone (own_of l inside.start.value inside.first.value (waiting_of inside.waiting) (is_some inside.waiting) inside.moves)))) (sym c.stop.ensures) stopped))
