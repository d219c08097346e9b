-- The list of leaves with another leaf, or others, at a place.
use Rattle.std.proofs.Common.{◌≡◌, ℕ, ◌+◌, ◌-◌, ◌<◌, Bool, true, List, [], ◌∷◌, ◌++◌, length, take, drop, get_or, sym, ◌∙◌, ap, append_assoc}
use Rattle.std.proofs.lemmas.List.{take-append-drop, drop_more, take_rest}
use Rattle.zorder.specs.Tile.{tiles_from, children}
use Rattle.bucket_versions.specs.Rows.{Rows}
use Rattle.index_layer.specs.Leaves.{Leaf, names_of, leaves_of, replaced, split}
use Rattle.index_layer.proofs.LeafChanges.{leaf_at, replaced-at, split-at}
use Rattle.flat_index.specs.declared.leaf.FlatLeaf.{FlatLeaf}
use Rattle.flat_index.specs.Seen.{seen, seen_leaf}
use Rattle.flat_index.proofs.SeenLeaves.{seen-append, seen-drop}

-- a list, cut round a place
cut : (leaves : List Leaf) (i : ℕ) (d : Leaf) → i < length leaves → take i leaves ++ get_or leaves i d ∷ drop (i + 1) leaves ≡ leaves
cut leaves i d lt = ap (λ (l : List Leaf). take i leaves ++ l) (sym (drop_more leaves i d lt)) ∙ take-append-drop i leaves

pub replaced-place : (leaves : List Leaf) (i : ℕ) (name : List Bool) (bucket : Rows) (d : Leaf) → tiles_from 0 (names_of leaves) ≡ true → i < length leaves → (get_or leaves i d).name ≡ name
    → take i leaves ++ leaf_at name bucket ∷ drop (i + 1) leaves ≡ replaced name bucket leaves
replaced-place leaves i name bucket d tile lt named =
    sym (replaced-at 0 name bucket (take i leaves) (get_or leaves i d) (drop (i + 1) leaves) (ap (λ (l : List Leaf). tiles_from 0 (names_of l)) (cut leaves i d lt) ∙ tile) named)
    ∙ ap (replaced name bucket) (cut leaves i d lt)

pub split-place : (leaves : List Leaf) (i w : ℕ) (name : List Bool) (buckets : List Rows) (d : Leaf) → tiles_from 0 (names_of leaves) ≡ true → i < length leaves → (get_or leaves i d).name ≡ name
    → take i leaves ++ (leaves_of (children w name) buckets ++ drop (i + 1) leaves) ≡ split w name buckets leaves
split-place leaves i w name buckets d tile lt named =
    sym (split-at 0 w name buckets (take i leaves) (get_or leaves i d) (drop (i + 1) leaves) (ap (λ (l : List Leaf). tiles_from 0 (names_of l)) (cut leaves i d lt) ∙ tile) named)
    ∙ ap (split w name buckets) (cut leaves i d lt)

-- the first leaves, one that was pushed, and the rest
pub one_more : (all : List FlatLeaf) (leaf : FlatLeaf) (xs : List FlatLeaf) (i : ℕ) → seen all ≡ take i (seen xs)
    → seen (all ++ leaf ∷ []) ++ seen (take (length xs - (i + 1)) (drop (i + 1) xs)) ≡ take i (seen xs) ++ seen_leaf leaf ∷ drop (i + 1) (seen xs)
one_more all leaf xs i front =
    (λ j. seen-append all (leaf ∷ []) j ++ seen (take_rest xs (i + 1) j))
    ∙ append_assoc (seen all) (seen_leaf leaf ∷ []) (seen (drop (i + 1) xs))
    ∙ (λ j. front j ++ seen_leaf leaf ∷ seen-drop (i + 1) xs j)

-- the same with two that were pushed
pub two_more : (all : List FlatLeaf) (left right : FlatLeaf) (xs : List FlatLeaf) (i : ℕ) → seen all ≡ take i (seen xs)
    → seen ((all ++ left ∷ []) ++ right ∷ []) ++ seen (take (length xs - (i + 1)) (drop (i + 1) xs)) ≡ take i (seen xs) ++ seen_leaf left ∷ seen_leaf right ∷ drop (i + 1) (seen xs)
two_more all left right xs i front =
    (λ j. seen-append (all ++ left ∷ []) (right ∷ []) j ++ seen (take_rest xs (i + 1) j))
    ∙ append_assoc (seen (all ++ left ∷ [])) (seen_leaf right ∷ []) (seen (drop (i + 1) xs))
    ∙ (λ j. seen-append all (left ∷ []) j ++ seen_leaf right ∷ seen-drop (i + 1) xs j)
    ∙ append_assoc (seen all) (seen_leaf left ∷ []) (seen_leaf right ∷ drop (i + 1) (seen xs))
    ∙ (λ j. front j ++ seen_leaf left ∷ seen_leaf right ∷ drop (i + 1) (seen xs))
