use Rattle.csv_rows.proofs.PiecesFacts.{holds-put}
use Rattle.csv_rows.proofs.pieces.make_room.Goals as goal

pub returns-clause-bytes : goal.returns-clause-bytes
returns-clause-bytes g c = holds-put _ _ c.as_slice.result.now _ _ c.put-put.result (c.as_slice.ensures.value) c.clear.ensures c.put-put.ensures.bytes
