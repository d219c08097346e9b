-- The leaves after any history come by splits, where those before it did.
use Rattle.std.proofs.Common.{ℕ, Bool, List, [], ◌∷◌, ◌++◌, Option, Some, None, refl, sym, ◌∙◌, ap}
use Rattle.std.proofs.lemmas.List.Sums.{fold-append}
use Rattle.plain_list.specs.declared.entries.Entry.{Entry}
use Rattle.plain_list.specs.declared.entries.Entry.TheVariants.{Fail, Call, Begin, Install, Abandon}
use Rattle.plain_list.specs.State.{State, ComesBySplits, step, state_after, split_leaf, split_name, installed}

-- the one leaf with the empty name does
pub come-first : (w : ℕ) → ComesBySplits w ([] ∷ [])
come-first w = record { names = []; leaves_are = refl }

come-installed : (w : ℕ) (leaves : List (List Bool)) (name : Option (List Bool)) → ComesBySplits w leaves → ComesBySplits w (installed w name leaves)
come-installed w leaves None by = by
come-installed w leaves (Some name) by = record {
  names = by.names ++ name ∷ [];
  leaves_are = ap (split_leaf w name) by.leaves_are ∙ sym (fold-append (λ (ls : List (List Bool)) n. split_leaf w n ls) ([] ∷ []) by.names (name ∷ []));
}

come-step : (w : ℕ) (s : State) (e : Entry) → ComesBySplits w s.leaves → ComesBySplits w (step w s e).leaves
come-step w s (Call session row op) by = by
come-step w s (Begin number name) by = by
come-step w s (Install number) by = come-installed w s.leaves (split_name s.splits number) by
come-step w s (Abandon number) by = by
come-step w s (Fail cell lost) by = by

pub come-after : (w : ℕ) (s : State) (h : List Entry) → ComesBySplits w s.leaves → ComesBySplits w (state_after w s h).leaves
come-after w s [] by = by
come-after w s (e ∷ h) by = come-after w (step w s e) h (come-step w s e by)
