use Rattle.std.proofs.Common.{ap}
use Rattle.book_lock.specs.Pass.{Known}
use Rattle.play_run.specs.inside.Answered.{IsPlayedBook}
use Rattle.play_run.proofs.PlayedOut.{played-not, store-played, store-answered}
use Rattle.play_run.proofs.sessions_play.play_sessions.Given as given
use Rattle.play_run.proofs.sessions_play.play_sessions.Goals.{After-events-events-in-Ok}
use Rattle.play_run.proofs.sessions_play.play_sessions.Goals as goal

played : (g : given.Over) (c : goal.After-events-events-in-Ok g) → IsPlayedBook g.I.Index.WIDTH c.args.rows.now c.args.book c.close-book.result
played g c =
    let ran = c.play_lanes-done in
    store-played g.D.LogDisk.drive g.I.Index.WIDTH c.args.rows.now c.args.book c.close-book.result c.in-Ok.pass ran.new.pass ran.new.ends.items ran.result c.requires.rows c.events-events.ensures.book c.events-events-in-Ok.ensures.book
    c.requires.new (ap (λ (k : Known). k.origin) c.in-Ok.ensures.store) c.close-book.ensures.value c.close-book.ensures.own ran.ensures.parts ran.ensures.ran

pub returns-then-not-done-clause-played : goal.returns-then-not-done-clause-played
returns-then-not-done-clause-played g c = played g (goal.at.returns-then-not-done-clause-played g c).After-events-events-in-Ok

pub returns-else-not-done-clause-played : goal.returns-else-not-done-clause-played
returns-else-not-done-clause-played g c = played g (goal.at.returns-else-not-done-clause-played g c).After-events-events-in-Ok

pub returns-else-not-done-clause-answered : goal.returns-else-not-done-clause-answered
returns-else-not-done-clause-answered g c =
    let ran = c.play_lanes-done in
    store-answered g.D.LogDisk.drive g.I.Index.WIDTH c.args.rows.now c.args.book c.close-book.result c.in-Ok.pass ran.new.pass ran.new.ends.items ran.result c.requires.rows c.events-events.ensures.book c.events-events-in-Ok.ensures.book
    c.requires.new (ap (λ (k : Known). k.origin) c.in-Ok.ensures.store) c.close-book.ensures.value c.close-book.ensures.own ran.ensures.parts ran.ensures.ran c.if-not-done.false

pub returns-in-Err-clause-played : goal.returns-in-Err-clause-played
returns-in-Err-clause-played g c =
    played-not g.D.LogDisk.drive g.I.Index.WIDTH c.args.rows.now c.args.book c.in-Err.book c.events-events.ensures.book c.events-events-in-Err.ensures.book c.requires.new c.in-Err.ensures.back
