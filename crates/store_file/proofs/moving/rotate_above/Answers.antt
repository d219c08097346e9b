use Rattle.std.proofs.Common.{Bool, ◌∙◌, ap}
use Rattle.sessions.specs.Steps.{has_given}
use Rattle.store_file.proofs.MovingFacts.{turns-above}
use Rattle.store_file.proofs.moving.rotate_above.Goals as goal

pub returns : goal.returns
returns g c =
    let took = c.hold-book.new.pass in
    let new = c.rotate_book-rotated.new.book in
    turns-above g.D.LogDisk.drive g.I.Index.WIDTH c.args.records c.hold-book.result new c.args.pass.now took c.hold-book.ensures.taken c.rotate_book-rotated.ensures.book c.release.new.pass c.rotate_book-rotated.result
    c.rotate_book-rotated.ensures.turns (c.release.ensures ∙ ap (λ (grown : Bool). has_given took grown new.entries) c.has_stopped-grown.ensures)
