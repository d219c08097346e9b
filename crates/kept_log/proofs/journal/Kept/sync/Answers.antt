use Rattle.std.proofs.Common.{◌≤◌, ◌+◌, length, true, is_some, refl, sym, ◌∙◌, ap, subst}
use Rattle.std.proofs.lemmas.Result.{on_ok_weaker, IfErr-weaker}
use Rattle.split_log.specs.LogView.{most_cells}
use Rattle.kept_log.specs.KeptView.{waiting_of, own_of}
use Rattle.kept_log.proofs.BatchLemmas.{leaves-released, released, not-released, synced-none, leaves-unsynced}
use Rattle.kept_log.proofs.journal.Kept.sync.Goals as goal

pub returns-in-None-clause-ok : goal.returns-in-None-clause-ok
returns-in-None-clause-ok g c =
    let inside = c.self.inside in
    let old = own_of inside.log inside.start.value inside.first.value (waiting_of inside.waiting) (is_some inside.waiting) inside.moves in
    rw (← c.self.view_is) (synced-none g.D.LogDisk.drive old (ap waiting_of c.in-None.is))

pub returns-in-None-clause-any_moment : goal.returns-in-None-clause-any_moment
returns-in-None-clause-any_moment g c =
    let inside = c.self.inside in
    let old = own_of inside.log inside.start.value inside.first.value (waiting_of inside.waiting) (is_some inside.waiting) inside.moves in
    rw (← c.self.view_is) (leaves-unsynced g.D.LogDisk.drive old g.met.D.LogDisk.keeps_laws (ap (λ v. v.failed) c.self.view_is ∙ c.requires.open))

pub returns-in-Some-clause-ok : goal.returns-in-Some-clause-ok
returns-in-Some-clause-ok g c =
    let inside = c.self.inside in
    let old = own_of inside.log inside.start.value inside.first.value (waiting_of inside.waiting) (is_some inside.waiting) inside.moves in
    let new = own_of c.release.new.log inside.start.value inside.first.value (c.release.new.waiting) (true) inside.moves in
    let held = ap waiting_of c.in-Some.is in
    let waits = ap is_some c.in-Some.is in
    rw (← c.self.view_is)
    (on_ok_weaker c.release.result (λ is.
    released g.D.LogDisk.drive old new (ap (λ v. v.failed) c.self.view_is ∙ c.requires.open) _ held (subst (λ l. c.self.inside.log.cells + length l ≤ most_cells) held c.self.invariant.0)
    (record { start = refl; first = refl; at_sync = sym waits; moves = refl; earlier = refl }) c.release.ensures.later c.release.ensures.any_moment is.1 is.0) c.release.ensures.ok)

pub returns-in-Some-clause-lost : goal.returns-in-Some-clause-lost
returns-in-Some-clause-lost g c =
    let inside = c.self.inside in
    let old = own_of inside.log inside.start.value inside.first.value (waiting_of inside.waiting) (is_some inside.waiting) inside.moves in
    let new = own_of c.release.new.log inside.start.value inside.first.value (c.release.new.waiting) (true) inside.moves in
    let held = ap waiting_of c.in-Some.is in
    let waits = ap is_some c.in-Some.is in
    rw (← c.self.view_is)
    (IfErr-weaker c.release.result _ _ (λ e fails.
    not-released g.D.LogDisk.drive old new (ap (λ v. v.failed) c.self.view_is ∙ c.requires.open) _ held (subst (λ l. c.self.inside.log.cells + length l ≤ most_cells) held c.self.invariant.0)
    (record { start = refl; first = refl; at_sync = sym waits; moves = refl; earlier = refl }) c.release.ensures.later c.release.ensures.any_moment e.cell waits fails.0 fails.1) c.release.ensures.lost)

pub returns-in-Some-clause-any_moment : goal.returns-in-Some-clause-any_moment
returns-in-Some-clause-any_moment g c =
    let inside = c.self.inside in
    let old = own_of inside.log inside.start.value inside.first.value (waiting_of inside.waiting) (is_some inside.waiting) inside.moves in
    let new = own_of c.release.new.log inside.start.value inside.first.value (c.release.new.waiting) (true) inside.moves in
    let held = ap waiting_of c.in-Some.is in
    let waits = ap is_some c.in-Some.is in
    rw (← c.self.view_is)
    (leaves-released g.D.LogDisk.drive old new (ap (λ v. v.failed) c.self.view_is ∙ c.requires.open) _ held (subst (λ l. c.self.inside.log.cells + length l ≤ most_cells) held c.self.invariant.0)
    (record { start = refl; first = refl; at_sync = sym waits; moves = refl; earlier = refl }) c.release.ensures.later c.release.ensures.any_moment)
