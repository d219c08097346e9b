use Rattle.std.proofs.Common.{◌≡◌, true, refl, sym, arith, take, ◌∙◌}
use Rattle.plain_list.specs.History.{world_after}
use Rattle.commit_book.specs.Answers.{is_still_since}
use Rattle.sessions.proofs.RunLemmas.{still-world, answers-still, run-played, run-refused}
use Rattle.sessions.proofs.store.Store.keep_rows.Goals as goal

pub note_rows-requires-clause-answers : goal.note_rows-requires-clause-answers
note_rows-requires-clause-answers g c =
    let old = c.args.lane.now in
    let took = c.take-book.new.pass in
    let still : is_still_since c.args.sight.now.events c.take-book.result.entries ≡ true = sym c.is_still_since.ensures ∙ c.if-not-is_still_since.false in
    answers-still (world_after old.pass.origin.world old.pass.seen) (world_after took.origin.world took.seen) c.args.i c.args.end (take c.args.base old.kept.items) old _
    (still-world g.D.LogDisk.drive c.take-book.result old.pass took (g.I.Index.leaves c.args.sight.now.index) c.args.sight.now.events c.take-book.ensures c.requires.sees still) refl refl c.requires.answers

pub returns-in-Some-clause-ends : goal.returns-in-Some-clause-ends
returns-in-Some-clause-ends g c = λ start stood.
    run-refused g.D.LogDisk.drive c.take-book.result g.I.Index.WIDTH c.args.i c.args.end c.args.base start c.args.lane.now c.take-book.new.pass stood c.take-book.ensures c.note_rows.new.lane c.note_rows.ensures.notes c.requires.queries.within c.requires.rows.0 _
    c.in-Some.field-0 c.in-Some.is refl refl refl c.put_back-2.ensures refl

pub returns-in-None-clause-ends : goal.returns-in-None-clause-ends
returns-in-None-clause-ends g c = λ start stood. (
  c.requires.rows.0,
  run-played g.D.LogDisk.drive c.take-book.result g.I.Index.WIDTH c.args.i c.args.end c.args.base start c.args.lane.now c.take-book.new.pass stood c.take-book.ensures c.note_rows.new.lane c.note_rows.ensures.notes c.requires.queries.within c.requires.rows.0 _
      c.requires.rows.2 c.in-None.is refl refl refl c.put_back-2.ensures refl refl (omega arith),
)
