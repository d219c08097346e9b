use Rattle.knn_query.proofs.kept.Kept.reach.Goals as goal

pub returns : goal.returns
returns c = record { outside = c.corners.ensures; farther = c.farthest.ensures }
