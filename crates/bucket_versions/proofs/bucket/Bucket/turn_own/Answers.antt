use Rattle.bucket_versions.proofs.bucket.Bucket.turn_own.Goals as goal

pub turn-requires-clause-can : goal.turn-requires-clause-can
turn-requires-clause-can g c = c.requires.can

pub returns-clause-told : goal.returns-clause-told
returns-clause-told g c = c.turn.ensures.told
