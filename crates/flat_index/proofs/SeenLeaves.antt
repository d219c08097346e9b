-- The list of leaves, and as an index has it.
use Rattle.std.proofs.Common.{◌≡◌, ℕ, zero, suc, ◌+◌, ◌^◌, ◌<◌, ◌≤◌, true, false, List, [], ◌∷◌, ◌++◌, length, take, drop, get_or, leb, Some, refl, sym, ◌∙◌, ap, arith, append_assoc}
use Rattle.std.specs.List.{AllWithin}
use Rattle.std.specs.List.Sorted.{IsNonDecreasingBy}
use Rattle.std.proofs.lemmas.List.{map-append, drop_more, length-map}
use Rattle.zorder.specs.Name.{first_key}
use Rattle.zorder.specs.Tile.{tiles_from}
use Rattle.index_layer.specs.Leaves.{Leaf, names_of, leaf_under}
use Rattle.index_layer.proofs.LeafKeys.{first_keys_rise, leaf_under-place}
use Rattle.flat_index.specs.declared.leaf.FlatLeaf.{FlatLeaf}
use Rattle.flat_index.specs.Seen.{seen, seen_leaf}

pub seen-append : (xs ys : List FlatLeaf) → seen (xs ++ ys) ≡ seen xs ++ seen ys
seen-append xs ys = map-append seen_leaf xs ys

pub seen-take : (n : ℕ) (xs : List FlatLeaf) → seen (take n xs) ≡ take n (seen xs)
seen-take zero xs = refl
seen-take (suc n) [] = refl
seen-take (suc n) (x ∷ xs) = ap (λ (l : List Leaf). seen_leaf x ∷ l) (seen-take n xs)

pub seen-drop : (n : ℕ) (xs : List FlatLeaf) → seen (drop n xs) ≡ drop n (seen xs)
seen-drop zero xs = refl
seen-drop (suc n) [] = refl
seen-drop (suc n) (x ∷ xs) = seen-drop n xs

pub length-seen : (xs : List FlatLeaf) → length (seen xs) ≡ length xs
length-seen xs = length-map xs seen_leaf

pub seen-get_or : (xs : List FlatLeaf) (k : ℕ) (d : FlatLeaf) → get_or (seen xs) k (seen_leaf d) ≡ seen_leaf (get_or xs k d)
seen-get_or [] k d = refl
seen-get_or (x ∷ xs) zero d = refl
seen-get_or (x ∷ xs) (suc k) d = seen-get_or xs k d

-- what is read at a place within the list, whatever is read past the end
pub seen-read : (xs : List FlatLeaf) (k : ℕ) (x : FlatLeaf) (d : Leaf) → k < length xs → x ≡ get_or xs k x → get_or (seen xs) k d ≡ seen_leaf x
seen-read [] k x d lt is = absurd (omega arith)
seen-read (y ∷ xs) zero x d lt is = ap seen_leaf (sym is)
seen-read (y ∷ xs) (suc k) x d lt is = seen-read xs k x d (omega arith) is

-- one more leaf that is shared
pub shared_more : (into : List FlatLeaf) (leaf item : FlatLeaf) (xs : List FlatLeaf) (i : ℕ) → i < length xs → item ≡ get_or xs i item → seen_leaf leaf ≡ seen_leaf item
    → seen (into ++ leaf ∷ []) ++ seen (drop (i + 1) xs) ≡ seen into ++ seen (drop i xs)
shared_more into leaf item xs i lt is same =
    ap (λ (l : List Leaf). l ++ seen (drop (i + 1) xs)) (seen-append into (leaf ∷ []))
    ∙ append_assoc (seen into) (seen_leaf leaf ∷ []) (seen (drop (i + 1) xs))
    ∙ ap (λ (l : Leaf). seen into ++ l ∷ seen (drop (i + 1) xs)) (same ∙ ap seen_leaf is)
    ∙ ap (λ (l : List FlatLeaf). seen into ++ seen l) (sym (drop_more xs i item lt))

-- the first keys rise
pub seen_keys_rise : (xs : List FlatLeaf) → tiles_from 0 (names_of (seen xs)) ≡ true → IsNonDecreasingBy (λ (x : FlatLeaf). first_key x.name) xs
seen_keys_rise xs tile i j d le lt =
    let rise : first_key (get_or (seen xs) i (seen_leaf d)).name ≤ first_key (get_or (seen xs) j (seen_leaf d)).name = first_keys_rise 0 (seen xs) i j (seen_leaf d) tile le (omega (arith, length-seen xs)) in
    omega (arith, rise, ap (λ (l : Leaf). first_key l.name) (seen-get_or xs i d), ap (λ (l : Leaf). first_key l.name) (seen-get_or xs j d))

-- a test of each leaf of the list is one of each leaf of the index
pub within-seen : (P : Leaf → Type 0) (xs : List FlatLeaf) (lo hi : ℕ) → hi ≤ length xs → AllWithin (λ (x : FlatLeaf). P (seen_leaf x)) xs lo hi → AllWithin P (seen xs) lo hi
within-seen P xs lo hi le all k d from to = at xs k (omega arith) (λ e. all k e from to)
  where
    at : (ys : List FlatLeaf) (j : ℕ) → j < length ys → ((e : FlatLeaf) → P (seen_leaf (get_or ys j e))) → P (get_or (seen ys) j d)
    at [] j lt holds = absurd (omega arith)
    at (y ∷ ys) zero lt holds = holds y
    at (y ∷ ys) (suc j) lt holds = at ys j (omega arith) holds

-- the leaf that a key is under, by where the first keys pass it
pub place_is : (xs : List FlatLeaf) (key i : ℕ) → tiles_from 0 (names_of (seen xs)) ≡ true → key < 2 ^ 64 → AllWithin (λ (x : FlatLeaf). leb (first_key x.name) key ≡ true) xs 0 i
    → AllWithin (λ (x : FlatLeaf). leb (first_key x.name) key ≡ false) xs i (length xs) → i ≤ length xs → (d : Leaf) → (j : ℕ) × (i ≡ suc j) × (leaf_under key (seen xs) ≡ Some (get_or (seen xs) j d))
place_is xs key i tile fits front back le d =
    leaf_under-place 0 key i (seen xs) d tile (omega arith) fits
    (within-seen (λ (l : Leaf). leb (first_key l.name) key ≡ true) xs 0 i le front)
    (within-seen (λ (l : Leaf). leb (first_key l.name) key ≡ false) xs i (length (seen xs)) (omega (arith, length-seen xs)) (λ k e from to. back k e from (omega (arith, length-seen xs))))
    (omega (arith, length-seen xs))

-- the leaf that was read at that place is the one that is found
pub found_at : (xs : List FlatLeaf) (key place : ℕ) (x : FlatLeaf) → x ≡ get_or xs place x → ((d : Leaf) → leaf_under key (seen xs) ≡ Some (get_or (seen xs) place d)) → leaf_under key (seen xs) ≡ Some (seen_leaf x)
found_at xs key place x is found = found (seen_leaf x) ∙ ap Some (seen-get_or xs place x ∙ ap seen_leaf (sym is))
