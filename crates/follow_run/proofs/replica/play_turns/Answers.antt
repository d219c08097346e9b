use Rattle.std.proofs.Common.{rules, ◌≡◌, ◌∙◌, List, [], ◌∷◌, ◌++◌, length, take, refl, sym, ap, subst, arith}
use Rattle.disk_trait.specs.Drive.{Drive}
use Rattle.follower.specs.declared.turns.Turn.{Turn}
use Rattle.follower.specs.declared.turns.Turn.TheVariants.{Send}
use Rattle.follower.specs.declared.turns.Report.{Report}
use Rattle.follower.specs.Follow.{Following, report_of, reports, opened_with}
use Rattle.follow_run.specs.Playing.{PlaysAll}
use Rattle.follow_run.proofs.PlayFacts.{passed-on, played-none, played-more, played-all, reports-more, turn-sent, turn-lost}
use Rattle.follow_run.proofs.replica.play_turns.Goals as goal

abbrev blank : Turn
blank = Send 0

pub loop-turn-init : goal.loop-turn-init
loop-turn-init g c =
    let follower = c.args.follower in
    (played-none g.D.LogDisk.drive follower.width c.args.cells.now follower.state.held c.args.turns.now (g.D.LogDisk.drive follower.disk) follower c.requires.opened refl c.requires.holds c.requires.turns refl (g.met.D.LogDisk.keeps_laws follower.disk), search rules)

pub after-requires-clause-holds : goal.after-requires-clause-holds
after-requires-clause-holds g c = c.loop-turn.invariant.0.holds

pub after-requires-clause-sent : goal.after-requires-clause-sent
after-requires-clause-sent g c =
    let follower = c.args.follower in
    turn-sent g.D.LogDisk.drive follower.width c.args.cells.now follower.state.held c.args.turns.now (g.D.LogDisk.drive follower.disk) c.loop-turn.turn-index c.loop-turn.playing.follower c.loop-turn.invariant.0 blank c.loop-turn-test.true

pub loop-turn-preserved : goal.loop-turn-preserved
loop-turn-preserved g c =
    let follower = c.args.follower in
    let cells = c.args.cells.now in
    let first = follower.state.held in
    let turns = c.args.turns.now in
    let index = c.loop-turn.turn-index in
    let next = c.in_ok-playing.playing.follower in
    let told = c.in_ok-playing.ensures.told in
    let more = played-more g.D.LogDisk.drive follower.width cells first turns (g.D.LogDisk.drive follower.disk) index c.loop-turn.playing.follower c.loop-turn.invariant.0 next blank c.loop-turn-test.true c.in_ok-playing.ensures.turned
    (g.met.D.LogDisk.keeps_laws next.disk) in (
      more,
      told ∙ ap (λ (l : List Report). l ++ report_of next.state ∷ []) c.loop-turn.invariant.1 ∙ ap (λ (s : Following). reports (length cells) (opened_with first) (take index turns) ++ report_of s ∷ []) more.state
          ∙ sym (reports-more (length cells) first turns index blank c.loop-turn-test.true),
    )

pub returns-in_err-playing-clause-stopped : goal.returns-in_err-playing-clause-stopped
returns-in_err-playing-clause-stopped g c =
    let follower = c.args.follower in
    let lost = c.in_err-playing.field-0.0 in
    passed-on c.from_residual.result _ _ c.from_residual.ensures.1
    (turn-lost g.D.LogDisk.drive follower.width c.args.cells.now follower.state.held c.args.turns.now (g.D.LogDisk.drive follower.disk) c.loop-turn.turn-index c.loop-turn.playing.follower c.loop-turn.invariant.0 blank c.loop-turn-test.true lost.disk
    (g.met.D.LogDisk.keeps_laws lost.disk) lost.fault c.in_err-playing.ensures.refused)

pub returns-clause-played : goal.returns-clause-played
returns-clause-played g c =
    let follower = c.args.follower in
    let drive = g.D.LogDisk.drive in
    let turns = c.args.turns.now in
    let told = c.loop-turn.playing.reports.items in
    let disk = c.loop-turn.playing.follower.disk in
    let same : drive disk ≡ drive c.give_back.result = ap drive (sym c.give_back.ensures) in
    subst (λ (d : Drive). PlaysAll follower.width c.args.cells.now follower.state.held turns (drive follower.disk) d told) same
    (played-all drive follower.width c.args.cells.now follower.state.held turns (drive follower.disk) c.loop-turn.turn-index c.loop-turn.playing.follower c.loop-turn.invariant.0 told (omega arith) c.loop-turn.invariant.1)
