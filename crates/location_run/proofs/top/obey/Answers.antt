use Rattle.std.proofs.Common.{refl}
use Rattle.command_words.proofs.TrialFacts.{trial-few}
use Rattle.command_words.proofs.WordsFacts.{init-width}
use Rattle.location_run.proofs.top.obey.Goals as goal

pub make_log-requires : goal.make_log-requires
make_log-requires g c = init-width c.requires.asked.0 c.in-Init.file.now c.in-Init.width (rw c.in-Init.is at c.requires.asked.1)

pub trial-requires-clause-few : goal.trial-requires-clause-few
trial-requires-clause-few g c κs within = trial-few c.requires.asked.0 _ c.in-Trial.made (rw c.in-Trial.is at c.requires.asked.1)

pub returns-in-Init : goal.returns-in-Init
returns-in-Init g c = rw c.in-Init.is (record { did = c.make_log.ensures; unread = refl })

pub returns-in-Check : goal.returns-in-Check
returns-in-Check g c = rw c.in-Check.is (record { did = c.check_log.ensures; unread = refl })

pub returns-in-Show : goal.returns-in-Show
returns-in-Show g c = rw c.in-Show.is (record { did = c.show_log.ensures; unread = refl })

pub returns-in-Play : goal.returns-in-Play
returns-in-Play g c = rw c.in-Play.is c.play.ensures

pub returns-in-Trial : goal.returns-in-Trial
returns-in-Trial g c = rw c.in-Trial.is (record { did = c.trial.ensures; unread = refl })

pub returns-in-Compact : goal.returns-in-Compact
returns-in-Compact g c = rw c.in-Compact.is (record { did = c.compact_log.ensures; unread = refl })

pub returns-in-Watch : goal.returns-in-Watch
returns-in-Watch g c = rw c.in-Watch.is c.watch_log.ensures

pub returns-in-Follow : goal.returns-in-Follow
returns-in-Follow g c = rw c.in-Follow.is c.follow_log.ensures
