use Rattle.std.proofs.Common.{rules}
use Rattle.store_client.proofs.client.try_split.Goals as goal

pub returns-in-Some-clause-tries : goal.returns-in-Some-clause-tries
returns-in-Some-clause-tries g c = search rules
