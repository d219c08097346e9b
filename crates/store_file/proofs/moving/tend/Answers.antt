use Rattle.std.proofs.Common.{◌≡◌, ◌∙◌, Bool, true, false, None, sym, ap}
use mathlib.Core.Bool.{true≢false}
use Rattle.plain_list.specs.History.{failed_cell}
use Rattle.sessions.specs.Steps.{has_given}
use Rattle.store_file.specs.Moving.{Tends}
use Rattle.store_file.proofs.MovingFacts.{stop-told, turns-above}
use Rattle.store_file.proofs.moving.tend.Goals as goal
use Rattle.store_file.proofs.moving.tend.Goals.{then-grown, else-grown}

pub returns : goal.returns
returns g c =
    let took = c.hold-book.new.pass in
    let new = c.rotate_book-rotated.new.book in
    let rotated = c.rotate_book-rotated.result in
    let records = c.turn-records.result.due in
    let grown = c.has_stopped-grown.result in
    let lost = c.if-grown.lost in
    let rotates = turns-above g.D.LogDisk.drive g.I.Index.WIDTH records c.hold-book.result new c.args.pass.now took c.hold-book.ensures.taken c.rotate_book-rotated.ensures.book c.release.new.pass rotated
    c.rotate_book-rotated.ensures.turns (c.release.ensures ∙ ap (λ (t : Bool). has_given took t new.entries) c.has_stopped-grown.ensures) in
    let told : (grown ≡ true → lost ≡ failed_cell new.entries) → (grown ≡ false → lost ≡ None) → Tends g.D.LogDisk.drive g.I.Index.WIDTH c.args.pass.now c.release.new.pass lost =
    λ stopped going. record { records = records; rotated = rotated; rotates = rotates; result_is = stop-told took c.release.new.pass new.entries rotated grown lost c.has_stopped-grown.ensures c.release.ensures stopped going } in
    elim c.if-grown.branch [
      | then-grown b ↦ told (λ is. b.lost-is ∙ b.closed-lost.ensures.closed) (λ is. absurd (true≢false (sym b.if-grown.true ∙ is)))
      | else-grown b ↦ told (λ is. absurd (true≢false (sym is ∙ b.if-grown.false))) (λ is. b.lost-is)
    ]
