-- The leaves of an index that is being grown.
use Rattle.std.proofs.Common.{◌≡◌, ◌⊎◌, ℕ, suc, ◌+◌, ◌%◌, ◌^◌, ◌<◌, ◌≤◌, Bool, true, false, List, [], ◌∷◌, ◌++◌, length, map, take, drop, get_or, Some, slice_get, refl, sym, ap, subst, ◌∙◌, arith, add-one, append_assoc}
use Rattle.std.specs.Prelude.{◌&&◌, nat_le}
use Rattle.std.specs.List.{AllByRecursion}
use Rattle.std.proofs.lemmas.List.{map-append}
use Rattle.zorder.specs.Width.{IsWidth}
use Rattle.zorder.specs.declared.points.Placed.{Placed}
use Rattle.zorder.specs.Key.{is_under}
use Rattle.zorder.specs.Name.{first_key}
use Rattle.zorder.specs.SameName.{same_name, same_name-decides}
use Rattle.zorder.specs.Tile.{tiles_from, next_key, children}
use Rattle.bucket_versions.specs.declared.row.Row.{Row}
use Rattle.bucket_versions.specs.Rows.{Rows, has_row}
use Rattle.bucket_versions.proofs.RowRanges.{has_row-rows_between}
use Rattle.index_layer.specs.Leaves.{Leaf, AreLeaves, names_of, has_name, one_leaf, leaves_of, split}
use Rattle.index_layer.specs.Stands.{Stands, HasRowsOf, places_have}
use Rattle.index_layer.proofs.LeafNames.{among-any}
use Rattle.index_layer.proofs.LeafChanges.{split-at, length-children}
use Rattle.index_layer.proofs.Standing.{placed_key-lt}
use Rattle.split_prepare.specs.Cut.{cut_out, cut, last_key}
use Rattle.split_prepare.proofs.CutLemmas.{under-between}
use Rattle.index_build.specs.Grown.{IsGrown, IsFolded}
use Rattle.index_build.specs.Growing.{leaf_for, leaves_for, HasGrownTo, StandsThere, GrowsOn}
use Rattle.index_build.proofs.ChildNames.{child-at, child-above, drop-at, some_at}
use Rattle.index_build.proofs.GrownNames.{IsNext, name_short, name_rest, next_of, longer-behind, longer-there, next-longer, one_split_more, all_done}

pub names_of-leaves_for : (rows : List Row) (names : List (List Bool)) → names_of (leaves_for rows names) ≡ names
names_of-leaves_for rows [] = refl
names_of-leaves_for rows (n ∷ names) = ap (λ (l : List (List Bool)). n ∷ l) (names_of-leaves_for rows names)

leaves_of-cut : (rows : List Row) (names : List (List Bool)) → leaves_of names (map (cut_out rows) names) ≡ leaves_for rows names
leaves_of-cut rows [] = refl
leaves_of-cut rows (n ∷ names) = ap (λ (l : List Leaf). leaf_for rows n ∷ l) (leaves_of-cut rows names)

-- a leaf of rows that stands behind some and before others
module _ (rows : List Row) (before : List (List Bool)) (name : List Bool) (later : List (List Bool)) (leaves : List Leaf) (is : leaves ≡ leaves_for rows (before ++ name ∷ later)) where
  parts : leaves ≡ leaves_for rows before ++ leaf_for rows name ∷ leaves_for rows later
  parts = is ∙ map-append (leaf_for rows) before (name ∷ later)

  pub has_name-there : has_name name leaves ≡ true
  has_name-there = among-any (λ l. same_name l.name name) leaves (leaf_for rows name) (leaves_for rows before, leaves_for rows later, parts) ((same_name-decides name name).1 refl)

  -- split, there are its children
  pub split-there : (w : ℕ) (new : List Leaf) → AreLeaves leaves → new ≡ split w name (cut w name rows) leaves → new ≡ leaves_for rows (before ++ (children w name ++ later))
  split-there w new are e =
      let tile : tiles_from 0 (names_of (leaves_for rows before ++ leaf_for rows name ∷ leaves_for rows later)) ≡ true = ap (λ (ls : List Leaf). tiles_from 0 (names_of ls)) (sym parts) ∙ are.tile in
      e ∙ ap (split w name (cut w name rows)) parts
      ∙ split-at 0 w name (cut w name rows) (leaves_for rows before) (leaf_for rows name) (leaves_for rows later) tile refl
      ∙ ap (λ (ls : List Leaf). leaves_for rows before ++ (ls ++ leaves_for rows later)) (leaves_of-cut rows (children w name))
      ∙ ap (λ (ls : List Leaf). leaves_for rows before ++ ls) (sym (map-append (leaf_for rows) (children w name) later))
      ∙ sym (map-append (leaf_for rows) before (children w name ++ later))

module _ (rows : List Row) (wanted : List (List Bool)) where
  -- the names tile the key space, since the leaves' do
  pub tile_there : (done : ℕ) (here later : List (List Bool)) (leaves : List Leaf) → HasGrownTo rows wanted done here later leaves → AreLeaves leaves → tiles_from 0 (take done wanted ++ (here ++ later)) ≡ true
  tile_there done here later leaves is are =
      ap (tiles_from 0) (sym (names_of-leaves_for rows (take done wanted ++ (here ++ later)))) ∙ ap (λ (ls : List Leaf). tiles_from 0 (names_of ls)) (sym is) ∙ are.tile

  -- where a leaf is the next wanted one, one more is done
  pub done-there : (done : ℕ) (name : List Bool) (later : List (List Bool)) (leaves : List Leaf) → HasGrownTo rows wanted done (name ∷ []) later leaves → (n : IsNext wanted done name) → same_name n.next name ≡ true
      → HasGrownTo rows wanted (done + 1) [] later leaves
  done-there done name later leaves is n same =
      let named : n.next ≡ name = (same_name-decides n.next name).0 same in
      subst (λ (i : ℕ). HasGrownTo rows wanted i [] later leaves) (sym (add-one done))
      (is ∙ ap (leaves_for rows) (sym (append_assoc (take done wanted) (name ∷ []) later) ∙ ap (λ (l : List (List Bool)). l ++ later) (ap (λ (m : List Bool). take done wanted ++ m ∷ []) (sym named) ∙ sym n.more)))

-- so far: the first children, as many as are past, have been grown to, and the next wanted name is longer than the split one
pub record IsGrowing (w : ℕ) (rows : List Row) (wanted : List (List Bool)) (name : List Bool) (first : ℕ) (old : List Leaf) (place done : ℕ) (leaves : List Leaf) : Type 0 where
  pub reached : (later : List (List Bool)) → HasGrownTo rows wanted first (name ∷ []) later old → HasGrownTo rows wanted done (drop place (children w name)) later leaves
  pub longer : place < 2 ^ w → (d : List Bool) → length name < length (get_or wanted done d)

-- what is asked of a leaf that is to be grown, and what holds of each index
pub record IsAsked (w : ℕ) (rows : List Row) (wanted : List (List Bool)) (first : ℕ) (name : List Bool) (old : List Leaf) : Type 0 where
  pub width : IsWidth w
  pub are_leaves : AreLeaves old
  pub grown : IsGrown w wanted
  pub splits : length name % w ≡ 0
  pub no_shorter : (d : List Bool) → length name ≤ length (get_or wanted first d)
  pub there : StandsThere rows wanted first name old

module _ {w : ℕ} {rows : List Row} {wanted : List (List Bool)} {first : ℕ} {name : List Bool} {old : List Leaf} (a : IsAsked w rows wanted first name old) where
  pub next_there : IsNext wanted first name
  next_there = next_of wanted first name a.there.0 a.grown.tile (tile_there rows wanted first (name ∷ []) a.there.0 old a.there.1 a.are_leaves)

  pub name_there : has_name name old ≡ true
  name_there = has_name-there rows (take first wanted) name a.there.0 old a.there.1

  module _ (other : (d : List Bool) → same_name (get_or wanted first d) name ≡ false) where
    next_behind : length name < length next_there.next
    next_behind =
        let n = next_there in
        longer-there name n.next (omega (arith, a.no_shorter [], ap length (n.at []))) n.short n.first (ap (λ (m : List Bool). same_name m name) (sym (n.at [])) ∙ other [])

    -- a leaf that isn't the next wanted one has bits left for a split
    pub room-there : length name + w ≤ 64
    room-there = let n = next_there in omega (arith, next-longer w wanted first name name a.width a.grown a.splits n next_behind, n.short)

    -- split, none of its children is past
    pub growing-split : (new : List Leaf) → new ≡ split w name (cut w name rows) old → IsGrowing w rows wanted name first old 0 first new
    growing-split new e =
        let n = next_there in
        let lt : length name < length n.next = next_behind in
        record {
          reached = λ later is. split-there rows (take first wanted) name later old is w new a.are_leaves e;
          longer = λ some d. omega (arith, lt, ap length (n.at d));
        }

  module _ {place done : ℕ} {leaves : List Leaf} (g : IsGrowing w rows wanted name first old place done leaves) (room : length name + w ≤ 64) (child : List Bool) (at : slice_get (children w name) place ≡ Some child) where
    at_child : (later : List (List Bool)) → HasGrownTo rows wanted first (name ∷ []) later old → HasGrownTo rows wanted done (child ∷ []) (drop (suc place) (children w name) ++ later) leaves
    at_child later is = g.reached later is ∙ ap (λ (l : List (List Bool)). leaves_for rows (take done wanted ++ (l ++ later))) (drop-at (children w name) place child at)

    -- what is asked where the child at the place is grown on
    pub child-there : StandsThere rows wanted done child leaves
    child-there = (drop (suc place) (children w name) ++ a.there.0, at_child a.there.0 a.there.1)

    pub child-splits : length child % w ≡ 0
    child-splits = ap (λ n. n % w) (child-at w name place child at).long ∙ one_split_more w (length name) a.splits

    pub child-no_longer : AreLeaves leaves → place < 2 ^ w → (d : List Bool) → length child ≤ length (get_or wanted done d)
    child-no_longer are lt d =
        let n : IsNext wanted done child = next_of wanted done child child-there.0 a.grown.tile (tile_there rows wanted done (child ∷ []) child-there.0 leaves child-there.1 are) in
        let longer : length name < length n.next = omega (arith, g.longer lt [], ap length (n.at [])) in
        omega (arith, next-longer w wanted done name child a.width a.grown a.splits n longer, (child-at w name place child at).long, ap length (n.at d))

    -- and one child more is past
    pub growing-child : (next_done : ℕ) (new : List Leaf) → AreLeaves new
        → ((later : List (List Bool)) → HasGrownTo rows wanted done (child ∷ []) later leaves → HasGrownTo rows wanted next_done [] later new)
        → IsGrowing w rows wanted name first old (place + 1) next_done new
    growing-child next_done new are after = subst (λ (i : ℕ). IsGrowing w rows wanted name first old i next_done new) (sym (add-one place)) next
      where
        behind_child : (c : List Bool) → slice_get (children w name) (suc place) ≡ Some c → (d : List Bool) → length name < length (get_or wanted next_done d)
        behind_child c is_there d =
            let later : List (List Bool) = drop (suc (suc place)) (children w name) ++ a.there.0 in
            let stands : HasGrownTo rows wanted next_done (c ∷ []) later new =
            after (drop (suc place) (children w name) ++ a.there.0) (at_child a.there.0 a.there.1)
            ∙ ap (λ (l : List (List Bool)). leaves_for rows (take next_done wanted ++ (l ++ a.there.0))) (drop-at (children w name) (suc place) c is_there) in
            let n : IsNext wanted next_done c = next_of wanted next_done c later a.grown.tile (tile_there rows wanted next_done (c ∷ []) later new stands are) in
            let is = child-at w name (suc place) c is_there in
            let short : length (name ++ is.bits) ≤ 64 = omega (arith, ap length is.is, is.long, room) in
            let above : first_key name < first_key (name ++ is.bits) = subst (λ (m : List Bool). first_key name < first_key m) is.is (child-above w name place c a.width room is_there) in
            let lt : length name < length n.next = longer-behind name is.bits n.next short n.short (n.first ∙ ap first_key is.is) above in
            omega (arith, lt, ap length (n.at d))

        longer : suc place < 2 ^ w → (d : List Bool) → length name < length (get_or wanted next_done d)
        longer lt d =
            let c = some_at (children w name) (suc place) (omega (arith, lt, length-children w name)) in
            behind_child c.0 c.1 d

        next : IsGrowing w rows wanted name first old (suc place) next_done new
        next = record {
          reached = λ later is. after (drop (suc place) (children w name) ++ later) (at_child later is);
          longer = longer;
        }

-- one leaf stands there for the whole space
pub whole-there : (rows : List Row) (wanted : List (List Bool)) (name : List Bool) (bucket : Rows) (leaves : List Leaf) → name ≡ [] → bucket ≡ cut_out rows name → leaves ≡ one_leaf bucket → HasGrownTo rows wanted 0 (name ∷ []) [] leaves
whole-there rows wanted name bucket leaves whole cut_is is = is ∙ (λ i. record { name = sym whole i; bucket = cut_is i } ∷ [])

-- where that leaf was grown on until nothing is left, the leaves are the wanted ones
pub all_there : (rows : List Row) (wanted : List (List Bool)) (name : List Bool) (bucket : Rows) (first leaves : List Leaf) (done : ℕ) → name ≡ [] → bucket ≡ cut_out rows name → first ≡ one_leaf bucket
    → tiles_from 0 wanted ≡ true → AreLeaves leaves → GrowsOn rows wanted 0 done name first leaves → leaves ≡ leaves_for rows wanted
all_there rows wanted name bucket first leaves done whole cut_is one tile are grown =
    let is = grown [] (whole-there rows wanted name bucket first whole cut_is one) in
    is ∙ ap (leaves_for rows) (all_done wanted done tile (tile_there rows wanted done [] [] leaves is are))

-- a leaf of those that are made has the rows of a world that are under its name
module _ (places : List Placed) (rows : List Row) (has : (r : Row) → has_row r rows ≡ places_have places r) where
  same_if : (a b c : Bool) → (a ≡ true → b ≡ c) → (a && b) ≡ (a && c)
  same_if true b c e = e refl
  same_if false b c e = refl

  pub rows_there : (name : List Bool) → length name ≤ 64 → HasRowsOf places (leaf_for rows name)
  rows_there name short r =
      has_row-rows_between (first_key name) (last_key name) rows r
      ∙ ap (λ (b : Bool). b && (nat_le (first_key name) r.key && nat_le r.key (last_key name))) (has r)
      ∙ same_if (places_have places r) (nat_le (first_key name) r.key && nat_le r.key (last_key name)) (is_under name r.key) (λ e. sym (under-between name r.key short (placed_key-lt places r e)))

  each_there : (k : ℕ) (names : List (List Bool)) → tiles_from k names ≡ true → AllByRecursion (HasRowsOf places) (leaves_for rows names)
  each_there k [] tile = tt
  each_there k (n ∷ names) tile = (rows_there n (name_short k n names tile), each_there (next_key n) names (name_rest k n names tile))

  pub Stands-leaves_for : (leaves : List Leaf) (names : List (List Bool)) → AreLeaves leaves → tiles_from 0 names ≡ true → leaves ≡ leaves_for rows names → Stands leaves places names
  Stands-leaves_for leaves names are tile is = record {
    names_are = ap names_of is ∙ names_of-leaves_for rows names;
    are_leaves = are;
    rows = subst (AllByRecursion (HasRowsOf places)) (sym is) (each_there 0 names tile);
  }

each_folded : (rows : List Row) (names : List (List Bool)) → AllByRecursion IsFolded (leaves_for rows names)
each_folded rows [] = tt
each_folded rows (n ∷ names) = (refl, each_folded rows names)

pub folded-leaves_for : (rows : List Row) (leaves : List Leaf) (names : List (List Bool)) → leaves ≡ leaves_for rows names → AllByRecursion IsFolded leaves
folded-leaves_for rows leaves names is = subst (AllByRecursion IsFolded) (sym is) (each_folded rows names)
