use Rattle.std.proofs.Common.{◌≡◌, ◌∙◌, ℕ, ◌<◌, true, is_some, sym, subst}
use Rattle.kept_log.specs.Journal.{cells_in}
use Rattle.store_file.specs.Moving.{HasMore}
use Rattle.store_file.proofs.MovingFacts.{moves-kept, records-in, turns-to}
use Rattle.store_file.proofs.moving.rotate_book.Goals as goal

pub keep_spare-rotated-requires : goal.keep_spare-rotated-requires
keep_spare-rotated-requires g c = record {
  moves = moves-kept g.D.LogDisk.drive g.I.Index.WIDTH c.args.records c.take_spare.new.self c.move_book-moved.new.book c.in-Some-take_spare.spare c.args.book.now c.move_book-moved.result
      c.take_spare.ensures.same c.in-Some-take_spare.ensures.moves c.move_book-moved.ensures.moved c.move_book-moved.ensures.not;
}

pub returns-clause-turns : goal.returns-clause-turns
returns-clause-turns g c =
    let b = c.args.book.now in
    let counts : (cells_in b.log ≡ c.in-Some.has) × (is_some b.log ≡ true) = records-in b.log c.in-Some.has (sym c.in-Some.ensures.records) in
    let more : HasMore c.args.records b = subst (λ (n : ℕ). c.args.records < n) (sym counts.0) c.if-has-records.false in
    turns-to g.D.LogDisk.drive g.I.Index.WIDTH c.args.records c.take_spare.new.self c.move_book-moved.new.book c.in-Some-take_spare.spare b c.set_turn.new.self c.move_book-moved.result c.keep_spare-rotated.result
    c.take_spare.ensures.same (c.set_turn.ensures ∙ c.keep_spare-rotated.ensures.same) c.keep_spare-rotated.ensures.rotation c.move_book-moved.ensures.moved c.move_book-moved.ensures.not (more, c.in-Some-take_spare.ensures.moves)
