-- A map from the numbers of splits to their names, and the list of open splits that it represents.
use Rattle.std.proofs.Common.{◌≡◌, ℕ, ◌<◌, ◌≤◌, Bool, true, false, cond, inl, inr, Option, List, [], ◌∷◌, ◌++◌, Some, refl, sym, ap, ◌∙◌, arith}
use Rattle.std.specs.Prelude.{◌==◌}
use Rattle.std.specs.Ordering.{nat_cmp}
use Rattle.std.specs.BTreeMap.{insert_entry, is_at}
use Rattle.std.specs.Map.{lookup, remove_entry}
use Rattle.std.specs.List.{filter}
use Rattle.std.proofs.lemmas.Bool.{cases_eq, eq-eqb, eqb-true, false_from_ne_true}
use Rattle.std.proofs.lemmas.Bool.Decides.{nat_tests}
use Rattle.std.proofs.lemmas.Grind.{common_steps}
use Rattle.zorder.specs.SameName.{same_name, same_name-decides}
use Rattle.plain_list.specs.State.{OpenSplit, split_name, without_number}
use Rattle.recovery.specs.SplitMap.{splits_of, AreAbove, AreBelow, IsRisingSplits, without_split}

pub split_name-splits_of : (es : List (ℕ × List Bool)) (number : ℕ) → split_name (splits_of es) number ≡ lookup (is_at (nat_cmp number)) es
split_name-splits_of [] number = refl
split_name-splits_of (e ∷ es) number =
    let rest : split_name (splits_of es) number ≡ lookup (is_at (nat_cmp number)) es = split_name-splits_of es number in
    grind (arith, nat_tests, common_steps)

pub splits_of-insert_entry : (number : ℕ) (name : List Bool) (es : List (ℕ × List Bool)) → AreBelow number (splits_of es)
    → splits_of (insert_entry nat_cmp es number name) ≡ splits_of es ++ record { number = number; name = name } ∷ []
splits_of-insert_entry number name [] below = refl
splits_of-insert_entry number name (e ∷ es) below =
    let rest : splits_of (insert_entry nat_cmp es number name) ≡ splits_of es ++ record { number = number; name = name } ∷ [] = splits_of-insert_entry number name es below.1 in
    let lt : e.0 < number = below.0 in
    grind (arith, nat_tests, common_steps)

AreAbove-lower : (a b : ℕ) (splits : List OpenSplit) → a ≤ b → AreAbove b splits → AreAbove a splits
AreAbove-lower a b [] le above = tt
AreAbove-lower a b (s ∷ splits) le above = (omega (arith, le, above.0), AreAbove-lower a b splits le above.1)

without_number-absent : (number : ℕ) (splits : List OpenSplit) → AreAbove number splits → without_number number splits ≡ splits
without_number-absent number [] above = refl
without_number-absent number (s ∷ splits) above =
    let rest : without_number number splits ≡ splits = without_number-absent number splits above.1 in
    let lt : number < s.number = above.0 in
    grind (arith, nat_tests, common_steps)

pub splits_of-remove_entry : (number : ℕ) (es : List (ℕ × List Bool)) → IsRisingSplits (splits_of es) → splits_of (remove_entry (is_at (nat_cmp number)) es) ≡ without_number number (splits_of es)
splits_of-remove_entry number [] rising = refl
splits_of-remove_entry number (e ∷ es) rising =
    let rest : splits_of (remove_entry (is_at (nat_cmp number)) es) ≡ without_number number (splits_of es) = splits_of-remove_entry number es rising.1 in
    let none : e.0 ≤ number → number ≤ e.0 → without_number number (splits_of es) ≡ splits_of es =
    λ le ge. without_number-absent number (splits_of es) (AreAbove-lower number e.0 (splits_of es) ge rising.0) in
    grind (arith, nat_tests, common_steps)

AreAbove-push : (a : ℕ) (splits : List OpenSplit) (s : OpenSplit) → AreAbove a splits → a < s.number → AreAbove a (splits ++ s ∷ [])
AreAbove-push a [] s above lt = (lt, tt)
AreAbove-push a (t ∷ splits) s above lt = (above.0, AreAbove-push a splits s above.1 lt)

pub IsRisingSplits-push : (splits : List OpenSplit) (s : OpenSplit) → IsRisingSplits splits → AreBelow s.number splits → IsRisingSplits (splits ++ s ∷ [])
IsRisingSplits-push [] s rising below = (tt, tt)
IsRisingSplits-push (t ∷ splits) s rising below = (AreAbove-push t.number splits s rising.0 below.0, IsRisingSplits-push splits s rising.1 below.1)

above_if : (a : ℕ) (b : Bool) (s : OpenSplit) (splits : List OpenSplit) → a < s.number → AreAbove a splits → AreAbove a (cond b (s ∷ splits) splits)
above_if a true s splits lt above = (lt, above)
above_if a false s splits lt above = above

AreAbove-filter : (a : ℕ) (p : OpenSplit → Bool) (splits : List OpenSplit) → AreAbove a splits → AreAbove a (filter p splits)
AreAbove-filter a p [] above = tt
AreAbove-filter a p (s ∷ splits) above = above_if a (p s) s (filter p splits) above.0 (AreAbove-filter a p splits above.1)

rising_if : (b : Bool) (s : OpenSplit) (splits : List OpenSplit) → AreAbove s.number splits → IsRisingSplits splits → IsRisingSplits (cond b (s ∷ splits) splits)
rising_if true s splits above rising = (above, rising)
rising_if false s splits above rising = rising

pub IsRisingSplits-filter : (p : OpenSplit → Bool) (splits : List OpenSplit) → IsRisingSplits splits → IsRisingSplits (filter p splits)
IsRisingSplits-filter p [] rising = tt
IsRisingSplits-filter p (s ∷ splits) rising = rising_if (p s) s (filter p splits) (AreAbove-filter s.number p splits rising.0) (IsRisingSplits-filter p splits rising.1)

without_split-absent : (number : ℕ) (name : List Bool) (splits : List OpenSplit) → AreAbove number splits → without_split number name splits ≡ splits
without_split-absent number name [] above = refl
without_split-absent number name (s ∷ splits) above =
    let rest : without_split number name splits ≡ splits = without_split-absent number name splits above.1 in
    let lt : number < s.number = above.0 in
    grind (arith, nat_tests, common_steps)

-- A number belongs to at most one split.
pub without_split-there : (number : ℕ) (name : List Bool) (splits : List OpenSplit) → IsRisingSplits splits → split_name splits number ≡ Some name → without_split number name splits ≡ without_number number splits
without_split-there number name [] rising found = refl
without_split-there number name (s ∷ splits) rising found = elim (cases_eq s.number number) [
  | inl e ↦
      let above : AreAbove number splits = AreAbove-lower number s.number splits (omega (arith, e)) rising.0 in
      let named : s.name ≡ name = grind (arith, nat_tests, common_steps) in
      let both : same_name s.name name ≡ true = (same_name-decides s.name name).1 named in
      let left : without_split number name splits ≡ splits = without_split-absent number name splits above in
      let right : without_number number splits ≡ splits = without_number-absent number splits above in
      grind (arith, nat_tests, common_steps)
  | inr apart ↦
      let found_rest : split_name splits number ≡ Some name = grind (arith, nat_tests, common_steps) in
      let rest : without_split number name splits ≡ without_number number splits = without_split-there number name splits rising.1 found_rest in
      grind (arith, nat_tests, common_steps)
]

pub without_split-other : (number : ℕ) (name : List Bool) (splits : List OpenSplit) → IsRisingSplits splits → (split_name splits number ≡ Some name → ⊥) → without_split number name splits ≡ splits
without_split-other number name [] rising other = refl
without_split-other number name (s ∷ splits) rising other = elim (cases_eq s.number number) [
  | inl e ↦
      let above : AreAbove number splits = AreAbove-lower number s.number splits (omega (arith, e)) rising.0 in
      let unlike : same_name s.name name ≡ false = false_from_ne_true (same_name s.name name) (λ t. other (ap (λ b. cond b (Some s.name) (split_name splits number)) (eq-eqb s.number number e) ∙ ap Some ((same_name-decides s.name name).0 t))) in
      let rest : without_split number name splits ≡ splits = without_split-absent number name splits above in
      grind (arith, nat_tests, common_steps)
  | inr apart ↦
      let skip : (s.number == number) ≡ false = false_from_ne_true (s.number == number) (λ t. apart (eqb-true s.number number t)) in
      let rest : without_split number name splits ≡ splits = without_split-other number name splits rising.1 (λ f. other (ap (λ b. cond b (Some s.name) (split_name splits number)) skip ∙ f)) in
      grind (arith, nat_tests, common_steps)
]

pub found_same : (a b : List Bool) (o : Option (List Bool)) → o ≡ Some a → o ≡ Some b → a ≡ b
found_same a b o first second = let e : ◌≡◌ {A = Option (List Bool)} (Some a) (Some b) = sym first ∙ second in cc e

below_found : (number earlier : ℕ) (name : List Bool) (splits : List OpenSplit) → AreBelow number splits → split_name splits earlier ≡ Some name → earlier < number
below_found number earlier name [] below found = cc
below_found number earlier name (s ∷ splits) below found =
    let rest : split_name splits earlier ≡ Some name → earlier < number = below_found number earlier name splits below.1 in
    let lt : s.number < number = below.0 in
    grind (arith, nat_tests, common_steps)

without_number-push : (earlier : ℕ) (new : OpenSplit) (splits : List OpenSplit) → earlier < new.number → without_number earlier (splits ++ new ∷ []) ≡ without_number earlier splits ++ new ∷ []
without_number-push earlier new [] lt = grind (arith, nat_tests, common_steps)
without_number-push earlier new (s ∷ splits) lt =
    let rest : without_number earlier (splits ++ new ∷ []) ≡ without_number earlier splits ++ new ∷ [] = without_number-push earlier new splits lt in
    grind (arith, nat_tests, common_steps)

-- A split replaces an earlier one of the same name.
pub begun_again : (earlier number : ℕ) (name : List Bool) (splits pushed new : List OpenSplit) → IsRisingSplits splits → AreBelow number splits → split_name splits earlier ≡ Some name
    → pushed ≡ splits ++ record { number = number; name = name } ∷ [] → new ≡ without_number earlier pushed → new ≡ without_split earlier name splits ++ record { number = number; name = name } ∷ []
begun_again earlier number name splits pushed new rising below found push left =
    left ∙ ap (without_number earlier) push
    ∙ without_number-push earlier (record { number = number; name = name }) splits (below_found number earlier name splits below found)
    ∙ ap (λ (l : List OpenSplit). l ++ record { number = number; name = name } ∷ []) (sym (without_split-there earlier name splits rising found))
