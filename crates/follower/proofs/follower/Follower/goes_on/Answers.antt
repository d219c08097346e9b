use Rattle.follower.proofs.Growing.{holds-grown, leaves-grown}
use Rattle.follower.proofs.follower.Follower.goes_on.Goals as goal

pub returns-clause-holds : goal.returns-clause-holds
returns-clause-holds g c first more grown holds =
    holds-grown first more c.args.cells.now grown g.D.LogDisk.drive c.args.self.now c.requires.leading holds

pub returns-clause-any_moment : goal.returns-clause-any_moment
returns-clause-any_moment g c first more least most old new grown low leaves =
    leaves-grown first more c.args.cells.now grown c.args.self.now.width least most low (g.D.LogDisk.drive old) (g.D.LogDisk.drive new) leaves
