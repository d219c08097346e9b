-- What a batch of a client leaves, from what the store says of the batch and of the split after it.
use Rattle.std.proofs.Common.{◌≡◌, ◌≤◌, ℕ, List, length, Option, None, Ok, Err, refl, ap, subst, ◌∙◌}
use Rattle.plain_list.specs.declared.ops.Op.{Op}
use Rattle.commit_book.specs.declared.book.batches.BatchDone.{BatchDone}
use Rattle.book_lock.specs.Pass.{Known}
use Rattle.sessions.specs.Batches.{Applied}
use Rattle.sessions.specs.Lanes.{Tries}
use Rattle.sessions.specs.Splits.{SamePass}
use Rattle.sessions.specs.declared.faults.CallFault.{CallFault}
use Rattle.sessions.specs.declared.faults.Split.{Split}
use Rattle.sessions.proofs.StepLemmas.{same-later}
use Rattle.store_client.specs.Batches.{Applies, TriesSome, first_row, more_splits, row_after}
use Rattle.store_client.specs.Caller.{Caller}
use Rattle.store_client.specs.Tending.{OrStops}
use Rattle.store_client.proofs.Splitting.{some-fewer}

-- The operations are the batch's, and the rows are those that the client gives them.
module _ (w : ℕ) (batch : List Op) (old : Caller) (ops : List Op) (row next : ℕ) (ops_are : ops ≡ batch) (row_is : row ≡ first_row old.row (length ops)) (next_is : next ≡ row_after old.row (length ops)) where
  first-is : row ≡ first_row old.row (length batch)
  first-is = row_is ∙ ap (λ (l : List Op). first_row old.row (length l)) ops_are

  after-is : next ≡ row_after old.row (length batch)
  after-is = next_is ∙ ap (λ (l : List Op). row_after old.row (length l)) ops_are

  pub batch-refused : (new : Known) (fault : CallFault) → OrStops (Applied w old.session row ops old.pass new) old.pass new (Err fault) → SamePass old.pass new → Applies w batch old (record { pass = new; session = old.session; row = next; place = old.place; change = old.change }) (Err fault)
  batch-refused new fault applied same = record {
    mid = new;
    told = Err fault;
    applied = subst (λ (z : ℕ × List Op). OrStops (Applied w old.session z.0 z.1 old.pass new) old.pass new (Err fault)) (λ i. (first-is i, ops_are i)) applied;
    follows = (refl, refl);
    client = λ i. record { pass = new; session = old.session; row = after-is i; place = old.place; change = old.change };
    same = same;
  }

  pub batch-done : (mid tried new : Known) (done : BatchDone) (split : Option Split) (more : ℕ) → Applied w old.session row ops old.pass mid (Ok done) → SamePass old.pass mid → Tries w done.full mid tried split → SamePass mid tried
      → more ≤ more_splits (length ops) → TriesSome w more tried new → SamePass tried new
      → Applies w batch old (record { pass = new; session = old.session; row = next; place = done.place; change = None }) (Ok (record { place = done.place; answers = done.answers; split = split }))
  batch-done mid tried new done split more applied same tries later few some last = record {
    mid = mid;
    told = Ok done;
    applied = subst (λ (z : ℕ × List Op). Applied w old.session z.0 z.1 old.pass mid (Ok done)) (λ i. (first-is i, ops_are i)) applied;
    follows = (refl, refl, tried, tries, some-fewer w more (more_splits (length batch)) tried new (subst (λ (l : List Op). more ≤ more_splits (length l)) ops_are few) some);
    client = λ i. record { pass = new; session = old.session; row = after-is i; place = done.place; change = None };
    same = same-later old.pass mid new same (same-later mid tried new later last);
  }
