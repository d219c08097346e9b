-- The leaves of a state are grown: at first, after a split, and after each step and each list of steps.
use Rattle.std.proofs.Common.{◌≡◌, ℕ, ◌+◌, ◌%◌, ◌≤◌, Bool, true, false, cond, not, List, [], ◌∷◌, ◌++◌, length, map, Option, Some, None, refl, sym, ap, subst, ◌∙◌, length-append}
use Rattle.std.specs.Prelude.{nat_le, ◌==◌, ◌&&◌}
use Rattle.std.specs.List.{AllByRecursion}
use Rattle.std.specs.Cmp.{second_so}
use Rattle.std.proofs.lemmas.Bool.{leb-true}
use Rattle.std.proofs.Math.Nat.{add-mod_right, zero-mod}
use Rattle.zorder.specs.Name.{first_key}
use Rattle.zorder.specs.SameName.{same_name, same_name-decides}
use Rattle.zorder.specs.Tile.{tiles_from, next_key, bit_lists, children}
use Rattle.zorder.proofs.Tiles.{tiles_from-children}
use Rattle.plain_list.specs.declared.entries.Entry.{Entry}
use Rattle.plain_list.specs.declared.entries.Entry.TheVariants.{Fail, Call, Begin, Install, Abandon}
use Rattle.plain_list.specs.State.{OpenSplit, State, empty_state, split_name, without_name, is_leaf, split_leaf, installed, step, state_after, may_split, is_possible, IsLegal}
use Rattle.plain_list.proofs.SplitHistories.{first_step}
use Rattle.plain_list.proofs.SplitStates.{Found, found-open, all-filter, all-push}
use Rattle.index_build.specs.Grown.{IsGrown}
use Rattle.index_build.proofs.ChildNames.{AreLong, bit_lists-long}

-- the whole space, unsplit
pub grown-whole : (w : ℕ) → IsGrown w ([] ∷ [])
unfolding first_key
grown-whole w = record { tile = refl; splits = (zero-mod w, tt) }

abbrev AreOfSplits : ℕ → List (List Bool) → Type 0
AreOfSplits w names = AllByRecursion (λ (name : List Bool). length name % w ≡ 0) names

module _ (w : ℕ) (name : List Bool) (room : length name + w ≤ 64) where
  tile_split : (k : ℕ) (leaves : List (List Bool)) → tiles_from k (split_leaf w name leaves) ≡ tiles_from k leaves
  tile_split k [] = refl
  tile_split k (l ∷ leaves) = by_test (same_name l name) refl (tile_split (next_key l) leaves)
    where
      by_test : (b : Bool) → same_name l name ≡ b → tiles_from (next_key l) (split_leaf w name leaves) ≡ tiles_from (next_key l) leaves
          → tiles_from k (cond b (children w name ++ leaves) (l ∷ split_leaf w name leaves)) ≡ tiles_from k (l ∷ leaves)
      by_test true e rest = tiles_from-children w name k leaves room ∙ ap (λ (n : List Bool). tiles_from k (n ∷ leaves)) (sym ((same_name-decides l name).0 e))
      by_test false e rest = ap (λ (b : Bool). nat_le (length l) 64 && (first_key l == k) && b) rest

  -- so many bits more is one split more
  more : (bits : List Bool) → length bits ≡ w → length name % w ≡ 0 → length (name ++ bits) % w ≡ 0
  more bits long splits = ap (λ (n : ℕ). n % w) (length-append name bits ∙ ap (λ (n : ℕ). length name + n) long) ∙ add-mod_right (length name) w ∙ splits

  children_of : (lists leaves : List (List Bool)) → AreLong w lists → length name % w ≡ 0 → AreOfSplits w leaves → AreOfSplits w (map (λ bits. name ++ bits) lists ++ leaves)
  children_of [] leaves long splits all = all
  children_of (bits ∷ lists) leaves long splits all = (more bits long.0 splits, children_of lists leaves long.1 splits all)

  splits_split : (leaves : List (List Bool)) → AreOfSplits w leaves → AreOfSplits w (split_leaf w name leaves)
  splits_split [] all = tt
  splits_split (l ∷ leaves) all = by_test (same_name l name) refl (splits_split leaves all.1)
    where
      by_test : (b : Bool) → same_name l name ≡ b → AreOfSplits w (split_leaf w name leaves) → AreOfSplits w (cond b (children w name ++ leaves) (l ∷ split_leaf w name leaves))
      by_test true e rest =
          let own : length name % w ≡ 0 = ap (λ (n : List Bool). length n % w) (sym ((same_name-decides l name).0 e)) ∙ all.0 in
          children_of (bit_lists w) leaves (bit_lists-long w) own all.1
      by_test false e rest = (all.0, rest)

  -- split once more, whether or not a leaf has the name
  pub grown-split : (leaves : List (List Bool)) → IsGrown w leaves → IsGrown w (split_leaf w name leaves)
  grown-split leaves g = record { tile = tile_split 0 leaves ∙ g.tile; splits = splits_split leaves g.splits }

-- the leaf of an open split has bits left
abbrev pub HasRoom : ℕ → OpenSplit → Type 0
HasRoom w s = length s.name + w ≤ 64

-- and that of each
abbrev pub HaveRoom : ℕ → List OpenSplit → Type 0
HaveRoom w splits = AllByRecursion (HasRoom w) splits

-- the leaves of the state are grown, and each open split's has bits left
pub record IsGrownState (w : ℕ) (s : State) : Type 0 where
  pub leaves : IsGrown w s.leaves
  pub room : HaveRoom w s.splits

pub grown-empty : (w : ℕ) → IsGrownState w empty_state
grown-empty w = record { leaves = grown-whole w; room = tt }

bits_left : (w : ℕ) {number : ℕ} {name : List Bool} → Found (HasRoom w) number name → length name + w ≤ 64
bits_left w found = subst (λ (n : List Bool). length n + w ≤ 64) found.name_is found.has

grown-installed : (w : ℕ) (s : State) (number : ℕ) (at : Option (List Bool)) → split_name s.splits number ≡ at → IsGrownState w s → IsGrown w (installed w at s.leaves)
grown-installed w s number None e g = g.leaves
grown-installed w s number (Some name) e g = grown-split w name (bits_left w (found-open (HasRoom w) s.splits number name e g.room)) s.leaves g.leaves

pub grown-step : (w : ℕ) (s : State) (e : Entry) → IsGrownState w s → is_possible w s e ≡ true → IsGrownState w (step w s e)
grown-step w s (Call session row op) g possible = record { leaves = g.leaves; room = g.room }
grown-step w s (Begin number name) g possible =
    let may : may_split w s name ≡ true = second_so (number == s.begun + 1) (may_split w s name) possible in
    let room : length name + w ≤ 64 = leb-true (length name + w) 64 (second_so (is_leaf s.leaves name) (nat_le (length name + w) 64) may) in
    record {
      leaves = g.leaves;
      room = all-push (HasRoom w) (without_name name s.splits) (record { number = number; name = name }) (all-filter (HasRoom w) (λ o. not (same_name o.name name)) s.splits g.room) room;
    }
grown-step w s (Install number) g possible = record {
  leaves = grown-installed w s number (split_name s.splits number) refl g;
  room = all-filter (HasRoom w) (λ o. not (o.number == number)) s.splits g.room;
}
grown-step w s (Abandon number) g possible = record {
  leaves = g.leaves;
  room = all-filter (HasRoom w) (λ o. not (o.number == number)) s.splits g.room;
}
grown-step w s (Fail cell lost) g possible = record { leaves = g.leaves; room = g.room }

-- after each legal list of steps
pub grown-after : (w : ℕ) (s : State) (h : List Entry) → IsGrownState w s → IsLegal w s h → IsGrownState w (state_after w s h)
grown-after w s [] g legal = g
grown-after w s (e ∷ h) g legal =
    let first = first_step w s e h legal in
    grown-after w (step w s e) h (grown-step w s e g first.possible) first.rest
