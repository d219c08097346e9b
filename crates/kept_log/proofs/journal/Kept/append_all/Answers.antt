use Rattle.std.proofs.Common.{◌≤◌, ◌+◌, length, true, is_some, refl, sym, ◌∙◌, ap, subst, arith, length-append}
use Rattle.std.proofs.lemmas.Result.{on_ok_weaker, IfErr-weaker}
use Rattle.split_log.specs.LogView.{most_cells}
use Rattle.kept_log.specs.KeptView.{KeptView, waiting_of, own_of}
use Rattle.kept_log.proofs.BatchLemmas.{leaves-now, added-now, missed-now, leaves-held, added-held, missed-held, not-added-now, not-added-held}
use Rattle.kept_log.proofs.journal.Kept.append_all.Goals as goal

pub returns-in-None-clause-ok : goal.returns-in-None-clause-ok
returns-in-None-clause-ok g c =
    let inside = c.self.inside in
    let old = own_of inside.log inside.start.value inside.first.value (waiting_of inside.waiting) (is_some inside.waiting) inside.moves in
    let new = own_of c.append_all_now.new.log inside.start.value inside.first.value (waiting_of inside.waiting) (is_some inside.waiting) inside.moves in
    let none = ap waiting_of c.in-None.is in
    let room = subst (λ (v : KeptView g.row.D.Denot). v.cells + length v.waiting + length c.args.cells.now ≤ most_cells) (sym c.self.view_is) c.requires.room in
    rw (← c.self.view_is)
    (on_ok_weaker c.append_all_now.result (λ adds.
    (added-now g.D.LogDisk.drive c.args.cells.now old new (ap (λ v. v.failed) c.self.view_is ∙ c.requires.open) none refl (omega (arith, room, ap length none))
    (record { start = refl; first = refl; at_sync = refl; moves = refl; earlier = refl }) c.append_all_now.ensures.later c.append_all_now.ensures.any_moment adds)) c.append_all_now.ensures.ok)

pub returns-in-None-clause-lost : goal.returns-in-None-clause-lost
returns-in-None-clause-lost g c =
    let inside = c.self.inside in
    let old = own_of inside.log inside.start.value inside.first.value (waiting_of inside.waiting) (is_some inside.waiting) inside.moves in
    let new = own_of c.append_all_now.new.log inside.start.value inside.first.value (waiting_of inside.waiting) (is_some inside.waiting) inside.moves in
    let none = ap waiting_of c.in-None.is in
    let room = subst (λ (v : KeptView g.row.D.Denot). v.cells + length v.waiting + length c.args.cells.now ≤ most_cells) (sym c.self.view_is) c.requires.room in
    rw (← c.self.view_is)
    (IfErr-weaker c.append_all_now.result _ _ (not-added-now g.D.LogDisk.drive c.args.cells.now old new
    (missed-now g.D.LogDisk.drive c.args.cells.now old new (ap (λ v. v.failed) c.self.view_is ∙ c.requires.open) none refl (omega (arith, room, ap length none))
    (record { start = refl; first = refl; at_sync = refl; moves = refl; earlier = refl }) c.append_all_now.ensures.later c.append_all_now.ensures.any_moment)
    (record { start = refl; first = refl; at_sync = refl; moves = refl; earlier = refl }) refl) c.append_all_now.ensures.lost)

pub returns-in-None-clause-any_moment : goal.returns-in-None-clause-any_moment
returns-in-None-clause-any_moment g c =
    let inside = c.self.inside in
    let old = own_of inside.log inside.start.value inside.first.value (waiting_of inside.waiting) (is_some inside.waiting) inside.moves in
    let new = own_of c.append_all_now.new.log inside.start.value inside.first.value (waiting_of inside.waiting) (is_some inside.waiting) inside.moves in
    let none = ap waiting_of c.in-None.is in
    let room = subst (λ (v : KeptView g.row.D.Denot). v.cells + length v.waiting + length c.args.cells.now ≤ most_cells) (sym c.self.view_is) c.requires.room in
    rw (← c.self.view_is)
    ((leaves-now g.D.LogDisk.drive c.args.cells.now old new (ap (λ v. v.failed) c.self.view_is ∙ c.requires.open) none refl (omega (arith, room, ap length none))
    (record { start = refl; first = refl; at_sync = refl; moves = refl; earlier = refl }) c.append_all_now.ensures.later c.append_all_now.ensures.any_moment))

pub returns-in-Some-clause-ok : goal.returns-in-Some-clause-ok
returns-in-Some-clause-ok g c =
    let inside = c.self.inside in
    let old = own_of inside.log inside.start.value inside.first.value (waiting_of inside.waiting) (is_some inside.waiting) inside.moves in
    let new = own_of c.hold_all.new.log inside.start.value inside.first.value (c.hold_all.new.waiting) (true) inside.moves in
    let held = ap waiting_of c.in-Some.is in
    let waits = ap is_some c.in-Some.is in
    let room = subst (λ (v : KeptView g.row.D.Denot). v.cells + length v.waiting + length c.args.cells.now ≤ most_cells) (sym c.self.view_is) c.requires.room in
    rw (← c.self.view_is)
    (on_ok_weaker c.hold_all.result (λ is.
    (added-held g.D.LogDisk.drive c.args.cells.now old new (ap (λ v. v.failed) c.self.view_is ∙ c.requires.open) _ held waits
    (omega (arith, room, ap length held, length-append c.in-Some.waiting c.args.cells.now))
    (record { start = refl; first = refl; at_sync = sym waits; moves = refl; earlier = refl }) c.hold_all.ensures.later c.hold_all.ensures.any_moment is)) c.hold_all.ensures.ok)

pub returns-in-Some-clause-lost : goal.returns-in-Some-clause-lost
returns-in-Some-clause-lost g c =
    let inside = c.self.inside in
    let old = own_of inside.log inside.start.value inside.first.value (waiting_of inside.waiting) (is_some inside.waiting) inside.moves in
    let new = own_of c.hold_all.new.log inside.start.value inside.first.value (c.hold_all.new.waiting) (true) inside.moves in
    let held = ap waiting_of c.in-Some.is in
    let waits = ap is_some c.in-Some.is in
    let room = subst (λ (v : KeptView g.row.D.Denot). v.cells + length v.waiting + length c.args.cells.now ≤ most_cells) (sym c.self.view_is) c.requires.room in
    rw (← c.self.view_is)
    (IfErr-weaker c.hold_all.result _ _ (not-added-held g.D.LogDisk.drive c.args.cells.now c.in-Some.waiting old new
    (missed-held g.D.LogDisk.drive c.args.cells.now old new (ap (λ v. v.failed) c.self.view_is ∙ c.requires.open) _ held waits
    (omega (arith, room, ap length held, length-append c.in-Some.waiting c.args.cells.now))
    (record { start = refl; first = refl; at_sync = sym waits; moves = refl; earlier = refl }) c.hold_all.ensures.later c.hold_all.ensures.any_moment)
    (record { start = refl; first = refl; at_sync = sym waits; moves = refl; earlier = refl }) held) c.hold_all.ensures.lost)

pub returns-in-Some-clause-any_moment : goal.returns-in-Some-clause-any_moment
returns-in-Some-clause-any_moment g c =
    let inside = c.self.inside in
    let old = own_of inside.log inside.start.value inside.first.value (waiting_of inside.waiting) (is_some inside.waiting) inside.moves in
    let new = own_of c.hold_all.new.log inside.start.value inside.first.value (c.hold_all.new.waiting) (true) inside.moves in
    let held = ap waiting_of c.in-Some.is in
    let waits = ap is_some c.in-Some.is in
    let room = subst (λ (v : KeptView g.row.D.Denot). v.cells + length v.waiting + length c.args.cells.now ≤ most_cells) (sym c.self.view_is) c.requires.room in
    rw (← c.self.view_is)
    ((leaves-held g.D.LogDisk.drive c.args.cells.now old new (ap (λ v. v.failed) c.self.view_is ∙ c.requires.open) _ held waits
    (omega (arith, room, ap length held, length-append c.in-Some.waiting c.args.cells.now))
    (record { start = refl; first = refl; at_sync = sym waits; moves = refl; earlier = refl }) c.hold_all.ensures.later c.hold_all.ensures.any_moment))
