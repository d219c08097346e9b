use Rattle.std.proofs.lemmas.Result.{IfOk-weaker, IfErr-weaker, MatchResult-from_both}
use Rattle.follower.proofs.OpenLemmas.{strange_found, opened_again, refused_again, target_again}
use Rattle.follower.proofs.follower.opening.open_found.Goals as goal

pub returns-then-found-clause-refused : goal.returns-then-found-clause-refused
returns-then-found-clause-refused g c =
    strange_found c.args.width c.args.cells.now (g.D.LogDisk.drive c.args.disk) (g.D.LogDisk.drive c.in-Ok.found.disk) c.requires.long c.in-Ok.found.count c.in-Ok.found.same c.in-Ok.ensures.compared c.if-found.true

pub returns-clause-opened : goal.returns-clause-opened
returns-clause-opened g c =
    let drive = g.D.LogDisk.drive in
    let found = c.in-Ok.found in
    IfOk-weaker c.reopen.result _ _
    (λ log is. opened_again c.args.width c.args.cells.now (drive c.args.disk) (drive found.disk) c.requires.long found.count found.same c.in-Ok.ensures.compared c.if-found.false drive log is) c.reopen.ensures.opened

pub returns-clause-refused : goal.returns-clause-refused
returns-clause-refused g c =
    let drive = g.D.LogDisk.drive in
    let found = c.in-Ok.found in
    IfErr-weaker c.reopen.result _ _
    (λ e is. refused_again c.args.width c.args.cells.now (drive c.args.disk) (drive found.disk) c.requires.long found.count found.same c.in-Ok.ensures.compared c.if-found.false (drive e.disk) e.fault is) c.reopen.ensures.refused

pub returns-clause-any_moment : goal.returns-clause-any_moment
returns-clause-any_moment g c =
    let drive = g.D.LogDisk.drive in
    let found = c.in-Ok.found in
    let laws = g.met.D.LogDisk.keeps_laws c.args.disk in
    MatchResult-from_both c.reopen.result _ _
    (IfOk-weaker c.reopen.result _ _
    (λ log is. target_again c.args.width c.args.cells.now (drive c.args.disk) (drive found.disk) c.requires.long found.count found.same c.in-Ok.ensures.compared c.if-found.false (drive log.disk) laws is.any_moment is.newest) c.reopen.ensures.opened)
    (IfErr-weaker c.reopen.result _ _
    (λ e is. target_again c.args.width c.args.cells.now (drive c.args.disk) (drive found.disk) c.requires.long found.count found.same c.in-Ok.ensures.compared c.if-found.false (drive e.disk) laws is.any_moment is.newest) c.reopen.ensures.refused)
