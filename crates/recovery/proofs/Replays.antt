-- What a replay keeps from step to step.
use Rattle.std.proofs.Common.{◌≡◌, ◌≢◌, ℕ, ◌+◌, ◌≤◌, Bool, true, false, cond, not, ◌&&◌, inl, inr, List, [], ◌∷◌, ◌++◌, length, Option, Some, None, refl, sym, ap, ◌∙◌, subst, arith}
use Rattle.std.specs.Prelude.{◌==◌, nat_le}
use Rattle.std.specs.List.{filter, AllByRecursion}
use Rattle.std.proofs.lemmas.Bool.{cases_Bool, eq-eqb, eqb-true, le-leb}
use Rattle.std.proofs.lemmas.Bool.Decides.{nat_tests}
use Rattle.std.proofs.lemmas.Grind.{common_steps}
use mathlib.Core.Bool.{true≢false}
use Rattle.zorder.specs.SameName.{same_name, same_name-decides}
use Rattle.std.specs.Cmp.Derive.{both_true}
use Rattle.std.specs.Prelude.{Ok, Err}
use Rattle.cell_format.specs.declared.cell.Cell.TheVariants.{Begin}
use Rattle.plain_list.specs.declared.entries.Entry.TheVariants as entry
use Rattle.plain_list.specs.State.{State, OpenSplit, step, is_leaf, split_name, without_number, without_name}
use Rattle.recovery.specs.declared.replay.StepFault.TheVariants.{Impossible}
use Rattle.recovery.specs.declared.leaf_map.MarkedLeaf.{MarkedLeaf}
use Rattle.recovery.specs.LeafMap.{split_at, with_begun, KeepsMarks}
use Rattle.recovery.specs.SplitMap.{AreBelow, without_split}
use Rattle.recovery.specs.Replay.{IsOpen, IsReplay, Steps}
use Rattle.recovery.proofs.LeafMaps.{split_at-begun, split_at-begun-other, leaf_marked}
use Rattle.recovery.proofs.SplitMaps.{IsRisingSplits-filter, IsRisingSplits-push}

all_if : (P : OpenSplit → Type 0) (b : Bool) (s : OpenSplit) (splits : List OpenSplit) → (b ≡ true → P s) → AllByRecursion P splits → AllByRecursion P (cond b (s ∷ splits) splits)
all_if P true s splits holds all = (holds refl, all)
all_if P false s splits holds all = all

-- What holds of each split that is left.
all_left : (P Q : OpenSplit → Type 0) (p : OpenSplit → Bool) (splits : List OpenSplit) → ((s : OpenSplit) → p s ≡ true → P s → Q s) → AllByRecursion P splits → AllByRecursion Q (filter p splits)
all_left P Q p [] gives all = tt
all_left P Q p (s ∷ splits) gives all = all_if Q (p s) s (filter p splits) (λ left. gives s left all.0) (all_left P Q p splits gives all.1)

pub all_push : {A : Type 0} (P : A → Type 0) (xs : List A) (x : A) → AllByRecursion P xs → P x → AllByRecursion P (xs ++ x ∷ [])
all_push P [] x all holds = (holds, tt)
all_push P (y ∷ xs) x all holds = (all.0, all_push P xs x all.1 holds)

-- What holds of the split that is found by its number.
all_found : (P : OpenSplit → Type 0) (splits : List OpenSplit) (number : ℕ) (name : List Bool) → AllByRecursion P splits → split_name splits number ≡ Some name → P (record { number = number; name = name })
all_found P [] number name all found = cc
all_found P (s ∷ splits) number name all found = elim (cases_Bool (s.number == number)) [
  | inl e ↦
      let named : s.name ≡ name = grind (arith, nat_tests, common_steps) in
      subst P (λ i. record { number = eqb-true s.number number e i; name = named i }) all.0
  | inr e ↦ all_found P splits number name all.1 (sym (ap (λ b. cond b (Some s.name) (split_name splits number)) e) ∙ found)
]

some_same : (a b : ℕ) → ◌≡◌ {A = Option ℕ} (Some a) (Some b) → a ≡ b
some_same a b e = cc e

kept_name : (b : Bool) → not b ≡ true → b ≡ false
kept_name true e = sym e
kept_name false e = refl

module _ (version width begun : ℕ) (leaves : List MarkedLeaf) where
  pub below : (splits : List OpenSplit) → AllByRecursion (IsOpen width begun leaves) splits → (number : ℕ) → begun + 1 ≤ number → AreBelow number splits
  below [] all number le = tt
  below (s ∷ splits) all number le = (omega (arith, all.0.number, le), below splits all.1 number le)

  -- The open split of a name is the one that was last begun of its leaf.
  pub without_name-split : (splits : List OpenSplit) (name : List Bool) (earlier : ℕ) → split_at leaves name ≡ Some earlier → AllByRecursion (IsOpen width begun leaves) splits
      → without_name name splits ≡ without_split earlier name splits
  without_name-split [] name earlier mark all = refl
  without_name-split (s ∷ splits) name earlier mark all =
      let rest : without_name name splits ≡ without_split earlier name splits = without_name-split splits name earlier mark all.1 in
      elim (cases_Bool (same_name s.name name)) [
        | inl e ↦
            let last : s.number ≡ earlier = some_same s.number earlier (sym all.0.mark ∙ ap (split_at leaves) ((same_name-decides s.name name).0 e) ∙ mark) in
            grind (arith, nat_tests, common_steps)
        | inr e ↦ grind (arith, nat_tests, common_steps)
      ]

  -- Splits that end leave a replay.
  pub IsReplay-filter : (p : OpenSplit → Bool) (splits : List OpenSplit) → IsReplay version width begun leaves splits → IsReplay version width begun leaves (filter p splits)
  IsReplay-filter p splits replay = record {
    version_is = replay.version_is;
    width_is = replay.width_is;
    rising = IsRisingSplits-filter p splits replay.rising;
    each = all_left (IsOpen width begun leaves) (IsOpen width begun leaves) p splits (λ s left holds. holds) replay.each;
  }

  -- A split of a leaf is begun, and an earlier one of that leaf ends.
  pub IsReplay-begun : (splits : List OpenSplit) (name : List Bool) (earlier number : ℕ) → IsReplay version width begun leaves splits → split_at leaves name ≡ Some earlier → length name + width ≤ 64 → number ≡ begun + 1
      → IsReplay version width number (with_begun name number leaves) (without_name name splits ++ record { number = number; name = name } ∷ [])
  IsReplay-begun splits name earlier number replay mark short next =
      let new = with_begun name number leaves in
      let old : (s : OpenSplit) → not (same_name s.name name) ≡ true → IsOpen width begun leaves s → IsOpen width number new s = λ s left holds.
      let unlike : s.name ≢ name = λ e. absurd (true≢false (sym ((same_name-decides s.name name).1 e) ∙ kept_name (same_name s.name name) left)) in
      record { mark = split_at-begun-other leaves name number s.name unlike ∙ holds.mark; short = holds.short; number = omega (arith, holds.number, next) } in
      let left = all_left (IsOpen width begun leaves) (IsOpen width number new) (λ s. not (same_name s.name name)) splits old replay.each in
      let le : begun + 1 ≤ number = omega (arith, next) in
      record {
        version_is = replay.version_is;
        width_is = replay.width_is;
        rising = IsRisingSplits-push (without_name name splits) (record { number = number; name = name }) (IsRisingSplits-filter _ splits replay.rising) (below (without_name name splits) (IsReplay-filter (λ s. not (same_name s.name name)) splits replay).each number le);
        each = all_push (IsOpen width number new) (without_name name splits) (record { number = number; name = name }) left
            (record { mark = split_at-begun leaves name number (leaf_marked leaves name earlier mark); short = short; number = omega arith });
      }

  -- A split ends, and the other leaves keep their marks.
  pub IsReplay-installed : (splits : List OpenSplit) (name : List Bool) (number : ℕ) (new : List MarkedLeaf) → IsReplay version width begun leaves splits → split_name splits number ≡ Some name → KeepsMarks name leaves new
      → IsReplay version width begun new (without_number number splits)
  IsReplay-installed splits name number new replay found keeps =
      let it : IsOpen width begun leaves (record { number = number; name = name }) = all_found (IsOpen width begun leaves) splits number name replay.each found in
      let old : (s : OpenSplit) → not (s.number == number) ≡ true → IsOpen width begun leaves s → IsOpen width begun new s = λ s left holds.
      let unlike : s.name ≢ name = λ e.
      let twice : s.number ≡ number = some_same s.number number (sym holds.mark ∙ ap (split_at leaves) e ∙ it.mark) in
      absurd (true≢false (sym (eq-eqb s.number number twice) ∙ kept_name (s.number == number) left)) in
      record { mark = keeps s.name s.number unlike holds.mark; short = holds.short; number = holds.number } in
      record {
        version_is = replay.version_is;
        width_is = replay.width_is;
        rising = IsRisingSplits-filter _ splits replay.rising;
        each = all_left (IsOpen width begun leaves) (IsOpen width begun new) (λ s. not (s.number == number)) splits old replay.each;
      }

  -- The leaf of a split that is found.
  pub found_open : (splits : List OpenSplit) (name : List Bool) (number : ℕ) → IsReplay version width begun leaves splits → split_name splits number ≡ Some name → IsOpen width begun leaves (record { number = number; name = name })
  found_open splits name number replay found = all_found (IsOpen width begun leaves) splits number name replay.each found

and_false : (a : Bool) {b : Bool} → b ≡ false → (a && b) ≡ false
and_false true e = e
and_false false e = refl

-- A begin that isn't possible, and one that is.
pub refuses_no_leaf : (width number : ℕ) (name : List Bool) (s : State) → is_leaf s.leaves name ≡ false → Steps width s s (Begin number name) (Err Impossible)
refuses_no_leaf width number name s none = record { done = tt; refused = λ _. and_false (number == s.begun + 1) (ap (λ b. b && nat_le (length name + width) 64) none); kept = refl }

pub begins : (width number : ℕ) (name : List Bool) (s new : State) → number ≡ s.begun + 1 → is_leaf s.leaves name ≡ true → length name + width ≤ 64
    → new ≡ step width s (entry.Begin number name) → Steps width s new (Begin number name) (Ok None)
begins width number name s new next leaf short e = record {
  done = (both_true (eq-eqb number (s.begun + 1) next) (both_true leaf (le-leb (length name + width) 64 short)), e, refl);
  refused = λ bad. cc bad;
  kept = tt;
}
