use Rattle.run_ends.proofs.AttachFacts.{refuses-attach}
use Rattle.run_ends.proofs.attaching.attach.Goals as goal

pub returns-in-Err-clause-refused : goal.returns-in-Err-clause-refused
returns-in-Err-clause-refused g c = rw c.attach_refusal.ensures (refuses-attach c.args.file.now c.args.make _ _ c.in-Err.fault c.attach.ensures.stays c.in-Err.ensures.cause)
