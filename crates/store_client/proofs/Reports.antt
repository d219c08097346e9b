-- What a report comes to, from its tries.
use Rattle.std.proofs.Common.{ℕ, [], ◌∷◌, None, Result, Ok, Err, refl, inr}
use Rattle.zorder.specs.declared.points.Point.{Point}
use Rattle.sessions.specs.declared.faults.CallFault.{CallFault}
use Rattle.store_client.specs.Caller.{Caller}
use Rattle.store_client.specs.Verbs.{PutsBehind, ReportEnds, TriesOnce, Missing, Reports, put_report}
use Rattle.store_client.specs.declared.answers.PutReply.{PutReply}
use Rattle.store_client.specs.declared.answers.PutReply.TheVariants as put
use Rattle.store_client.specs.declared.answers.Report.{Report}

module _ (w id : ℕ) (at : Point) (moment : ℕ) where
  pub by_put : (old new : Caller) (told : Result PutReply CallFault) → PutsBehind w id at moment old new told → TriesOnce w id at moment old new (put_report told)
  by_put old new (Ok put.Done) puts = puts
  by_put old new (Ok put.Full) puts = puts
  by_put old new (Ok (put.Present kept)) puts = (kept, puts)
  by_put old new (Err fault) puts = inr puts

  pub none_yet : (old : Caller) → Missing w id at moment old old
  none_yet old = record { missed = []; misses = refl }

  pub one_more : (old mid new : Caller) → Missing w id at moment old mid → TriesOnce w id at moment mid new (Ok None) → Missing w id at moment old new
  one_more old mid new so_far (kept, puts) = record { missed = kept ∷ so_far.missed; misses = (mid, so_far.misses, puts) }

  pub ends_with : (old mid new : Caller) (result : Result Report CallFault) → Missing w id at moment old mid → ReportEnds w id at moment mid new result → Reports w id at moment old new result
  ends_with old mid new result so_far ends = record { missed = so_far.missed; mid = mid; misses = so_far.misses; ends = ends }
