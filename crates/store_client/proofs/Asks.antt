-- What a call of a client leaves, from what the store says of the call and of the split behind it.
use Rattle.std.proofs.Common.{◌≡◌, ℕ, Option, None, Ok, Err, refl, sym, subst}
use Rattle.plain_list.specs.declared.ops.Op.{Op}
use Rattle.plain_list.specs.declared.ops.Answer.{Answer}
use Rattle.plain_list.specs.Changes.{change_of}
use Rattle.commit_book.specs.declared.book.Done.{Done}
use Rattle.book_lock.specs.Pass.{Known}
use Rattle.sessions.specs.declared.faults.CallFault.{CallFault}
use Rattle.sessions.specs.declared.faults.Split.{Split}
use Rattle.sessions.specs.Calls.{Called}
use Rattle.sessions.specs.Lanes.{Tries}
use Rattle.sessions.specs.Opens.{leaves_seen, places_seen, listed_in, Opens, OpensRefused}
use Rattle.sessions.specs.Splits.{SamePass}
use Rattle.sessions.proofs.StepLemmas.{same-later}
use Rattle.store_client.specs.Caller.{Caller, has_asked}
use Rattle.store_client.specs.Tending.{OrStops}
use Rattle.store_client.specs.Asked.{Asked, AskedCounted}
use Rattle.store_client.specs.Verbs.{AskedAs}
use Rattle.store_client.specs.declared.client.Reply.{Reply}

module _ (w : ℕ) (op : Op) (old : Caller) (before now : ℕ) where
  pub refuses : (new : Known) (fault : CallFault) → OrStops (Called w old.session old.row op old.pass new) old.pass new (Err fault) → SamePass old.pass new → Opens op (leaves_seen w new) (places_seen new) None before now → OpensRefused fault before now
      → AskedCounted w op old (has_asked old new old.place old.change) before now (Err fault)
  refuses new fault called same opened refused = record {
    asked = record { mid = new; told = Err fault; called = called; follows = (refl, refl); client = refl; same = same };
    opened = opened;
    refused = refused;
  }

  pub answers : (mid new : Known) (done : Done) (split : Option Split) → Called w old.session old.row op old.pass mid (Ok done) → SamePass old.pass mid → Tries w done.full mid new split → SamePass mid new
      → Opens op (leaves_seen w mid) (places_seen mid) (listed_in done.answer) before now → AskedCounted w op old (has_asked old new done.place (change_of done.place op done.answer)) before now (Ok (record { place = done.place; answer = done.answer; split = split }))
  answers mid new done split called same tries later opened = record {
    asked = record { mid = mid; told = Ok done; called = called; follows = (refl, refl, tries); client = refl; same = same-later old.pass mid new same later };
    opened = opened;
    refused = tt;
  }

-- a verb's answer stands for the one that was told
pub told_as : {A : Type 0} (tell : A → Answer) (w : ℕ) (op : Op) (old new : Caller) (reply : Reply) (x : A) → tell x ≡ reply.answer → Asked w op old new (Ok reply) → AskedAs tell w op old new (Ok x)
told_as tell w op old new reply x is asked = (reply.place, reply.split, subst (λ (a : Answer). Asked w op old new (Ok (record { place = reply.place; answer = a; split = reply.split }))) (sym is) asked)
