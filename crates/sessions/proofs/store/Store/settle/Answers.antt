use Rattle.commit_book.specs.Refusals.{closed_refusal}
use Rattle.std.proofs.Common.{◌≡◌, [], ◌∷◌, ◌++◌, Some, inl, inr, refl, sym, subst, ◌∙◌, ap, None}
use Rattle.commit_book.specs.declared.faults.BookFault.{BookFault}
use Rattle.commit_book.specs.declared.faults.BookFault.TheVariants as book
use Rattle.book_lock.specs.Pass.{Known}
use Rattle.sessions.specs.Calls.{next_full}
use Rattle.sessions.specs.Steps.{all_parts}
use Rattle.sessions.specs.Splits.{SamePass, SplitEnds}
use Rattle.sessions.specs.Settles.{IsNextFault, IsSettleFault}
use Rattle.sessions.specs.Shared.{moves_of}
use Rattle.sessions.specs.declared.faults.Split.TheVariants.{Installed, NotSplit}
use Rattle.sessions.proofs.StepLemmas.{same-later, same-parts}
use Rattle.sessions.proofs.SplitLemmas.{same-none}
use Rattle.sessions.proofs.SettleLemmas.{next-settles, splits-more, room-begin}
use Rattle.sessions.proofs.store.Store.settle.Goals as goal

pub loop-preserved : goal.loop-preserved
loop-preserved g c =
    let w = g.I.Index.WIDTH in
    let old = c.args.pass.now in
    let mid = c.loop.pass in
    let new = c.split_next.new.pass in
    let name = c.in-Ok-Some.name in
    let so_far = c.loop.invariant in
    let same = c.next-in-loop.ensures.pass in
    let full : next_full w mid ≡ Some name = sym c.in-Ok-Some.ensures.next.1 ∙ c.in-Ok-Some.field-0-is in
    record {
      numbers = so_far.numbers ++ c.in-Installed.number ∷ [];
      splits = splits-more w old mid new so_far.numbers c.in-Installed.number name so_far.splits full (subst (λ (k : Known). SplitEnds w name k new (Installed c.in-Installed.number)) same c.in-Installed.ensures.ends);
      pass = same-later old mid new so_far.pass (subst (λ (k : Known). SamePass k new) same c.in-Installed.ensures.pass);
    }

pub returns-in-NotSplit-Room-clause-settles : goal.returns-in-NotSplit-Room-clause-settles
returns-in-NotSplit-Room-clause-settles g c =
    let w = g.I.Index.WIDTH in
    let mid = c.loop.pass in
    let new = c.split_next.new.pass in
    let name = c.in-Ok-Some.name in
    let so_far = c.loop.invariant in
    let same = c.next-in-loop.ensures.pass in
    let arm = c.in-NotSplit-Room in
    let full : next_full w mid ≡ Some name = sym c.in-Ok-Some.ensures.next.1 ∙ c.in-Ok-Some.field-0-is in
    let ends : SplitEnds w name mid new (NotSplit (book.Room arm.field-0-0 arm.field-0-1)) =
    subst (λ (f : BookFault). SplitEnds w name mid new (NotSplit f)) arm.field-0-is (subst (λ (k : Known). SplitEnds w name k new (NotSplit arm.field-0)) same arm.ensures.ends) in
    record {
      numbers = so_far.numbers;
      mid = mid;
      splits = so_far.splits;
      ends = (name, full, arm.field-0-0, arm.field-0-1, room-begin w name mid new arm.field-0-0 arm.field-0-1 ends);
    }

pub returns-in-NotSplit : goal.returns-in-NotSplit
returns-in-NotSplit g c =
    let w = g.I.Index.WIDTH in
    let old = c.args.pass.now in
    let mid = c.loop.pass in
    let new = c.split_next.new.pass in
    let name = c.in-Ok-Some.name in
    let so_far = c.loop.invariant in
    let same = c.next-in-loop.ensures.pass in
    let fault = c.in-NotSplit.fault in
    let full : next_full w mid ≡ Some name = sym c.in-Ok-Some.ensures.next.1 ∙ c.in-Ok-Some.field-0-is in
    let next : IsNextFault (moves_of mid.origin) fault = subst (λ (k : Known). IsNextFault (moves_of k.origin) fault) same c.in-NotSplit.ensures.fault in
    let ends : SplitEnds w name mid new (NotSplit fault) = subst (λ (k : Known). SplitEnds w name k new (NotSplit fault)) same c.in-NotSplit.ensures.ends in
    record {
      settles = record {
        numbers = so_far.numbers;
        mid = mid;
        splits = so_far.splits;
        ends = inr (
          name,
          full,
          subst (IsSettleFault (moves_of mid.origin)) (sym c.settle_fault.ensures.fault) (next-settles (moves_of mid.origin) fault c.settle_fault.ensures.roomy next),
          subst (λ (f : BookFault). SplitEnds w name mid new (NotSplit f)) (sym c.settle_fault.ensures.fault) ends,
        );
      };
      pass = same-later old mid new so_far.pass (subst (λ (k : Known). SamePass k new) same c.in-NotSplit.ensures.pass);
    }

pub loop-init : goal.loop-init
loop-init g c = record { numbers = []; splits = refl; pass = same-none c.args.pass.now }

pub returns-in-Ok-None : goal.returns-in-Ok-None
returns-in-Ok-None g c =
    let so_far = c.loop.invariant in
    let same = c.next-in-loop.ensures.pass in
    let next = c.in-Ok-None.ensures.next in
    record {
      settles = record { numbers = so_far.numbers; mid = c.loop.pass; splits = so_far.splits; ends = ((next.0, sym c.in-Ok-None.field-0-is ∙ next.1), same) };
      pass = subst (SamePass c.args.pass.now) (sym same) so_far.pass;
    }

pub returns-in-Err : goal.returns-in-Err
returns-in-Err g c =
    let so_far = c.loop.invariant in
    let same = c.next-in-loop.ensures.pass in
    record {
      settles = record { numbers = so_far.numbers; mid = c.loop.pass; splits = so_far.splits; ends = inl (c.in-Err.ensures.next, same) };
      pass = subst (SamePass c.args.pass.now) (sym same) so_far.pass;
    }

pub returns-in-NotSplit-Room-clause-pass : goal.returns-in-NotSplit-Room-clause-pass
returns-in-NotSplit-Room-clause-pass g c =
    let mid = c.loop.pass in
    let new = c.split_next.new.pass in
    same-later c.args.pass.now mid new c.loop.invariant.pass (subst (λ (k : Known). SamePass k new) c.next-in-loop.ensures.pass c.in-NotSplit-Room.ensures.pass)

pub split_next-requires-clause-lock : goal.split_next-requires-clause-lock
split_next-requires-clause-lock g c = ap (λ (k : Known). k.lock) c.next-in-loop.ensures.pass ∙ ap (λ (k : Known). k.lock) c.loop.invariant.pass.1 ∙ c.requires.lock

pub split_next-requires-clause-off : goal.split_next-requires-clause-off
split_next-requires-clause-off g c = ap (λ (k : Known). k.holds) c.next-in-loop.ensures.pass ∙ ap (λ (k : Known). k.holds) c.loop.invariant.pass.1 ∙ c.requires.off

pub split_next-requires-clause-all : goal.split_next-requires-clause-all
split_next-requires-clause-all g c = ap (λ (k : Known). k.parts) c.next-in-loop.ensures.pass ∙ same-parts c.args.pass.now c.loop.pass c.loop.invariant.pass ∙ c.requires.all

pub split_next-requires-clause-unclosed : goal.split_next-requires-clause-unclosed
split_next-requires-clause-unclosed g c = subst (λ (k : Known). closed_refusal k.seen ≡ None) (sym c.next-in-loop.ensures.pass) c.in-Ok-Some.ensures.next.0

pub split_next-requires-clause-full : goal.split_next-requires-clause-full
split_next-requires-clause-full g c = ap (next_full g.I.Index.WIDTH) c.next-in-loop.ensures.pass ∙ sym c.in-Ok-Some.ensures.next.1 ∙ c.in-Ok-Some.field-0-is
