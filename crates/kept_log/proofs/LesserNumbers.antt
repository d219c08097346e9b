-- A legal history stays legal if the same is taken from the number of each split, and its cells are then those of the
-- history with lesser numbers.
use Rattle.std.proofs.Common.{◌≡◌, ℕ, ◌+◌, ◌≤◌, ◌<◌, Bool, true, false, not, cond, List, [], ◌∷◌, ◌++◌, Some, is_some, refl, sym, ◌∙◌, ap, arith}
use Rattle.std.specs.Prelude.{◌==◌, ◌||◌, ◌&&◌, ◌-◌, map}
use Rattle.std.specs.List.{AllByRecursion}
use Rattle.std.specs.Cmp.{first_so, second_so}
use Rattle.std.specs.Cmp.Derive.{both_true}
use Rattle.std.proofs.lemmas.Bool.{eqb-true}
use Rattle.std.proofs.lemmas.Bool.Decides.{nat_tests}
use Rattle.std.proofs.lemmas.List.{map-append}
use mathlib.Core.Bool.{true≢false}
use Rattle.zorder.specs.SameName.{same_name}
use Rattle.cell_format.specs.declared.cell.Cell.{Cell}
use Rattle.cell_format.specs.declared.cell.Cell.TheVariants as cell
use Rattle.plain_list.specs.declared.ops.Op.{Op}
use Rattle.plain_list.specs.declared.ops.Op.TheVariants as op
use Rattle.plain_list.specs.declared.entries.Entry.{Entry}
use Rattle.plain_list.specs.declared.entries.Entry.TheVariants.{Fail, Call, Begin, Install, Abandon}
use Rattle.plain_list.specs.declared.entries.Lost.{Lost}
use Rattle.plain_list.specs.declared.entries.Lost.TheVariants as lost
use Rattle.plain_list.specs.World.{World}
use Rattle.plain_list.specs.Answer.{answer_of, after_of, is_change}
use Rattle.plain_list.specs.History.{world_after, failed_cell}
use Rattle.plain_list.specs.State.{State, OpenSplit, step, is_possible, is_free, is_fail, are_fails, is_legal_history, may_split, split_name, is_splitting, installed, without_number, without_name}
use Rattle.plain_list.proofs.SplitStates.{all-filter, all-push}
use Rattle.log_state.specs.Changes.{change_cells, cells_of, lost_cells, failed_cells}
use Rattle.kept_log.specs.Moved.{lessen_cell, lessen_lost, lessen, lessen_split, fewer}

module _ (n : ℕ) where
  -- The numbers of these splits are above `n`.
  abbrev AreAbove : List OpenSplit → Type 0
  AreAbove splits = AllByRecursion (λ (o : OpenSplit). n < o.number) splits

  -- At least `n` splits have begun, and those that are open began later.
  pub record IsAbove (s : State) : Type 0 where
    pub begun : n ≤ s.begun
    pub splits : AreAbove s.splits

  same_test : (a b : ℕ) → n < a → n < b → (a - n == b - n) ≡ (a == b)
  same_test a b above_a above_b = by_test (a == b) refl
    where
      by_test : (t : Bool) → (a == b) ≡ t → (a - n == b - n) ≡ t
      by_test true is = grind (arith, nat_tests, is, above_a, above_b)
      by_test false is = grind (arith, nat_tests, is, above_a, above_b)

  abbrev lessened : List OpenSplit → List OpenSplit
  lessened splits = map (lessen_split n) splits

  map-cond : (b : Bool) (o : OpenSplit) (splits : List OpenSplit) → lessened (cond b (o ∷ splits) splits) ≡ cond b (lessen_split n o ∷ lessened splits) (lessened splits)
  map-cond true o splits = refl
  map-cond false o splits = refl

  splitting-less : (splits : List OpenSplit) (name : List Bool) → is_splitting (lessened splits) name ≡ is_splitting splits name
  splitting-less [] name = refl
  splitting-less (o ∷ splits) name = ap (λ b. same_name o.name name || b) (splitting-less splits name)

  without_name-less : (name : List Bool) (splits : List OpenSplit) → lessened (without_name name splits) ≡ without_name name (lessened splits)
  without_name-less name [] = refl
  without_name-less name (o ∷ splits) =
      map-cond (not (same_name o.name name)) o (without_name name splits)
      ∙ ap (λ (l : List OpenSplit). cond (not (same_name o.name name)) (lessen_split n o ∷ l) l) (without_name-less name splits)

  without_number-less : (number : ℕ) (splits : List OpenSplit) → n < number → AreAbove splits
      → lessened (without_number number splits) ≡ without_number (number - n) (lessened splits)
  without_number-less number [] above all = refl
  without_number-less number (o ∷ splits) above all =
      map-cond (not (o.number == number)) o (without_number number splits)
      ∙ (λ i. cond (not (sym (same_test o.number number all.0 above) i)) (lessen_split n o ∷ without_number-less number splits above all.1 i) (without_number-less number splits above all.1 i))

  found-above : (number : ℕ) (splits : List OpenSplit) → AreAbove splits → is_some (split_name splits number) ≡ true → n < number
  found-above number [] all found = absurd (true≢false (sym found))
  found-above number (o ∷ splits) all found = by_test (o.number == number) refl found (found-above number splits all.1)
    where
      by_test : (b : Bool) → (o.number == number) ≡ b → is_some (cond b (Some o.name) (split_name splits number)) ≡ true
          → (is_some (split_name splits number) ≡ true → n < number) → n < number
      by_test true is here later = omega (arith, all.0, eqb-true o.number number is)
      by_test false is here later = later here

  split_name-less : (number : ℕ) (splits : List OpenSplit) → n < number → AreAbove splits → split_name (lessened splits) (number - n) ≡ split_name splits number
  split_name-less number [] above all = refl
  split_name-less number (o ∷ splits) above all =
      λ i. cond (same_test o.number number all.0 above i) (Some o.name) (split_name-less number splits above all.1 i)

  module _ (w : ℕ) (s : State) (above : IsAbove s) where
    -- An open split has a number above `n`.
    open-above : (number : ℕ) → (is_some (split_name s.splits number) && true) ≡ true → n < number
    open-above number may = found-above number s.splits above.splits (first_so (is_some (split_name s.splits number)) true may)

    next : (number : ℕ) (name : List Bool) → (((number == s.begun + 1) && may_split w s name) && not (is_splitting s.splits name)) ≡ true → number ≡ s.begun + 1
    next number name may =
        eqb-true number (s.begun + 1) (first_so (number == s.begun + 1) (may_split w s name)
        (first_so ((number == s.begun + 1) && may_split w s name) (not (is_splitting s.splits name)) may))

    next-less : (number : ℕ) (name : List Bool) → (((number == s.begun + 1) && may_split w s name) && not (is_splitting s.splits name)) ≡ true → (number - n == (s.begun - n) + 1) ≡ true
    next-less number name may = grind (arith, nat_tests, next number name may, above.begun)

    -- What may come next may come next with lesser numbers.
    pub possible-less : (e : Entry) → (is_possible w s e && is_free s e) ≡ true → (is_possible w (fewer n s) (lessen n e) && is_free (fewer n s) (lessen n e)) ≡ true
    possible-less (Fail number left) may = refl
    possible-less (Call session row op) may = refl
    possible-less (Begin number name) may =
        both_true
        (both_true (next-less number name may)
        (second_so (number == s.begun + 1) (may_split w s name) (first_so ((number == s.begun + 1) && may_split w s name) (not (is_splitting s.splits name)) may)))
        (ap not (splitting-less s.splits name) ∙ second_so ((number == s.begun + 1) && may_split w s name) (not (is_splitting s.splits name)) may)
    possible-less (Install number) may = ap (λ o. is_some o && true) (split_name-less number s.splits (open-above number may) above.splits) ∙ may
    possible-less (Abandon number) may = ap (λ o. is_some o && true) (split_name-less number s.splits (open-above number may) above.splits) ∙ may

    -- The state after it is the same, with lesser numbers.
    pub step-less : (e : Entry) → (is_possible w s e && is_free s e) ≡ true → fewer n (step w s e) ≡ step w (fewer n s) (lessen n e)
    step-less (Fail number left) may = refl
    step-less (Call session row op) may = refl
    step-less (Begin number name) may =
        let splits : lessened (without_name name s.splits ++ record { number = number; name = name } ∷ []) ≡ without_name name (lessened s.splits) ++ record { number = number - n; name = name } ∷ [] =
        map-append (lessen_split n) (without_name name s.splits) (record { number = number; name = name } ∷ [])
        ∙ ap (λ (l : List OpenSplit). l ++ record { number = number - n; name = name } ∷ []) (without_name-less name s.splits) in
        let begun : (s.begun + 1) - n ≡ (s.begun - n) + 1 = omega (arith, above.begun) in
        λ i. record { world = s.world; leaves = s.leaves; splits = splits i; begun = begun i }
    step-less (Install number) may =
        let up = open-above number may in
        λ i. record {
          world = s.world;
          leaves = installed w (sym (split_name-less number s.splits up above.splits) i) s.leaves;
          splits = without_number-less number s.splits up above.splits i;
          begun = s.begun - n;
        }
    step-less (Abandon number) may =
        let up = open-above number may in
        λ i. record { world = s.world; leaves = s.leaves; splits = without_number-less number s.splits up above.splits i; begun = s.begun - n }

    pub above-step : (e : Entry) → (is_possible w s e && is_free s e) ≡ true → IsAbove (step w s e)
    above-step (Fail number left) may = above
    above-step (Call session row op) may = record { begun = above.begun; splits = above.splits }
    above-step (Begin number name) may = record {
      begun = omega (arith, above.begun);
      splits = all-push (λ (o : OpenSplit). n < o.number) (without_name name s.splits) (record { number = number; name = name })
          (all-filter (λ (o : OpenSplit). n < o.number) (λ (o : OpenSplit). not (same_name o.name name)) s.splits above.splits)
          (omega (arith, above.begun, next number name may));
    }
    above-step (Install number) may = record {
      begun = above.begun;
      splits = all-filter (λ (o : OpenSplit). n < o.number) (λ (o : OpenSplit). not (o.number == number)) s.splits above.splits;
    }
    above-step (Abandon number) may = record {
      begun = above.begun;
      splits = all-filter (λ (o : OpenSplit). n < o.number) (λ (o : OpenSplit). not (o.number == number)) s.splits above.splits;
    }

  pub lessen-fail : (e : Entry) → is_fail (lessen n e) ≡ is_fail e
  lessen-fail (Fail number left) = refl
  lessen-fail (Call session row op) = refl
  lessen-fail (Begin number name) = refl
  lessen-fail (Install number) = refl
  lessen-fail (Abandon number) = refl

  lessen-fails : (h : List Entry) → are_fails (map (lessen n) h) ≡ are_fails h
  lessen-fails [] = refl
  lessen-fails (e ∷ h) = λ i. lessen-fail e i && lessen-fails h i

  -- A legal history is legal with lesser numbers.
  pub legal-less : (w : ℕ) (s : State) (h : List Entry) → IsAbove s → is_legal_history w s h ≡ true → is_legal_history w (fewer n s) (map (lessen n) h) ≡ true
  legal-less w s [] above legal = refl
  legal-less w s (e ∷ h) above legal =
      let rest : Bool = cond (is_fail e) (are_fails h) (is_legal_history w (step w s e) h) in
      let may : (is_possible w s e && is_free s e) ≡ true = first_so (is_possible w s e && is_free s e) rest legal in
      both_true (possible-less w s above e may)
      (ap (λ b. cond b (are_fails (map (lessen n) h)) (is_legal_history w (step w (fewer n s) (lessen n e)) (map (lessen n) h))) (lessen-fail e)
      ∙ by_test (is_fail e) (second_so (is_possible w s e && is_free s e) rest legal)
      (λ legal_rest. ap (λ (t : State). is_legal_history w t (map (lessen n) h)) (sym (step-less w s above e may)) ∙ legal-less w (step w s e) h (above-step w s above e may) legal_rest))
    where
      by_test : (b : Bool) → cond b (are_fails h) (is_legal_history w (step w s e) h) ≡ true
          → (is_legal_history w (step w s e) h ≡ true → is_legal_history w (step w (fewer n s) (lessen n e)) (map (lessen n) h) ≡ true)
          → cond b (are_fails (map (lessen n) h)) (is_legal_history w (step w (fewer n s) (lessen n e)) (map (lessen n) h)) ≡ true
      by_test true all later = lessen-fails h ∙ all
      by_test false more later = later more

  -- The world is the same.
  pub world-less : (world : World) (h : List Entry) → world_after world (map (lessen n) h) ≡ world_after world h
  world-less world [] = refl
  world-less world (Fail number left ∷ h) = world-less world h
  world-less world (Call session row op ∷ h) = world-less (after_of world op) h
  world-less world (Begin number name ∷ h) = world-less world h
  world-less world (Install number ∷ h) = world-less world h
  world-less world (Abandon number ∷ h) = world-less world h

  -- The cells of a change have no number of a split.
  change-less : (op : Op) → map (lessen_cell n) (change_cells op) ≡ change_cells op
  change-less (op.Put id at moment) = refl
  change-less (op.Move id at moment) = refl
  change-less (op.Remove id) = refl
  change-less (op.Find id) = refl
  change-less (op.Within region) = refl
  change-less (op.Near at k) = refl

  call-less : (b : Bool) (op : Op) → map (lessen_cell n) (cond b (change_cells op) []) ≡ cond b (change_cells op) []
  call-less true op = change-less op
  call-less false op = refl

  -- The cells are those of the history, with lesser numbers.
  pub cells-less : (world : World) (h : List Entry) → cells_of world (map (lessen n) h) ≡ map (lessen_cell n) (cells_of world h)
  cells-less world [] = refl
  cells-less world (Fail number left ∷ h) = cells-less world h
  cells-less world (Call session row op ∷ h) =
      (λ i. sym (call-less (is_change (answer_of world op)) op) i ++ cells-less (after_of world op) h i)
      ∙ sym (map-append (lessen_cell n) (cond (is_change (answer_of world op)) (change_cells op) []) (cells_of (after_of world op) h))
  cells-less world (Begin number name ∷ h) = ap (λ (l : List Cell). lessen_cell n (cell.Begin number name) ∷ l) (cells-less world h)
  cells-less world (Install number ∷ h) = ap (λ (l : List Cell). lessen_cell n (cell.Install number) ∷ l) (cells-less world h)
  cells-less world (Abandon number ∷ h) = ap (λ (l : List Cell). lessen_cell n (cell.Abandon number) ∷ l) (cells-less world h)

  pub lost-less : (left : Lost) → lost_cells (lessen_lost n left) ≡ map (lessen_cell n) (lost_cells left)
  lost-less (lost.Call session row op) = sym (change-less op)
  lost-less (lost.Begin number name) = refl
  lost-less (lost.Install number) = refl
  lost-less (lost.Abandon number) = refl

  pub failed_cells-less : (h : List Entry) → failed_cells (map (lessen n) h) ≡ map (lessen_cell n) (failed_cells h)
  failed_cells-less [] = refl
  failed_cells-less (Fail number left ∷ h) =
      (λ i. lost-less left i ++ failed_cells-less h i) ∙ sym (map-append (lessen_cell n) (lost_cells left) (failed_cells h))
  failed_cells-less (Call session row op ∷ h) = failed_cells-less h
  failed_cells-less (Begin number name ∷ h) = failed_cells-less h
  failed_cells-less (Install number ∷ h) = failed_cells-less h
  failed_cells-less (Abandon number ∷ h) = failed_cells-less h

  -- Failed appends name the same cell.
  pub failed_cell-less : (h : List Entry) → failed_cell (map (lessen n) h) ≡ failed_cell h
  failed_cell-less [] = refl
  failed_cell-less (Fail number left ∷ h) = refl
  failed_cell-less (Call session row op ∷ h) = failed_cell-less h
  failed_cell-less (Begin number name ∷ h) = failed_cell-less h
  failed_cell-less (Install number ∷ h) = failed_cell-less h
  failed_cell-less (Abandon number ∷ h) = failed_cell-less h
