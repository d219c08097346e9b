-- A subtree that lies inside a box has all its objects there.
use Rattle.std.proofs.Common.{◌≡◌, ℕ, ◌≤◌, Bool, true, false, not, cond, List, [], ◌∷◌, ◌++◌, length, append_assoc, Some, refl, sym, ap, subst, ◌∙◌, arith}
use Rattle.std.specs.Prelude.{◌&&◌}
use Rattle.std.specs.List.{starts_with}
use Rattle.std.proofs.lemmas.Grind.{flat_map-append}
use Rattle.std.proofs.lemmas.List.{map-append, length-map, append-nil}
use mathlib.Core.Bool.{beq}
use Rattle.zorder.specs.declared.points.Placed.{Placed}
use Rattle.zorder.specs.declared.points.Region.{Region}
use Rattle.zorder.specs.Region.{IsBox}
use Rattle.zorder.specs.Tile.{tiles_from, next_key}
use Rattle.prefix_names.specs.Regions.{region_of, lies_in, AllPointsIn}
use Rattle.prefix_names.proofs.Corners.{has_point-region_of, IsBox-region_of}
use Rattle.prefix_names.proofs.HeldPoints.{held-so, meet-points}
use Rattle.bucket_versions.specs.Rows.{Rows}
use Rattle.index_layer.specs.Leaves.{Leaf, names_of, all_rows, leaf_named, has_name}
use Rattle.index_layer.specs.Part.{is_inner}
use Rattle.index_layer.specs.Subtree.{subtree}
use Rattle.index_layer.proofs.LeafKeys.{tile_short, tile_rest}
use Rattle.index_layer.proofs.LeafNames.{IsFront, front-from_test}
use Rattle.plain_list.specs.Queries.{members_in}
use Rattle.table_share.specs.Objects.{placed_of, objects_of}
use Rattle.table_share.specs.KeysUnder.{AreAllKeysUnder}
use Rattle.table_share.proofs.Subtrees.{inner-room, subtree-failing, subtree-halves, subtree-leaf}
use Rattle.range_query.specs.Cut.{IsAreaOf, is_met, is_cut, leaves_met, leaves_cut, below_met, objects_held, held_below, number_in}
use Rattle.range_query.proofs.BoxCounts.{all_held}
use Rattle.range_query.proofs.BoxLeaves.{region_within, members-append, is_cut-narrows}

module _ (region : Region) (is_box : IsBox region) (name : List Bool) (whole : AllPointsIn (region_of name) region) where
  leaf_whole : (long : List Bool) → IsFront name long → length long ≤ 64 → AllPointsIn (region_of long) region
  leaf_whole long front short p e = whole p (region_within name long front short p e)

  leaf_met : (long : List Bool) → IsFront name long → length long ≤ 64 → is_met region long ≡ true
  leaf_met long front short =
      let box = IsBox-region_of long short in
      let corner = (region_of long).lo in
      let there = held-so (region_of long) corner (record { left = omega arith; right = box.x; low = omega arith; high = box.y }) in
      (meet-points (region_of long) region box is_box).1 (corner, there, leaf_whole long front short corner there)

  -- the box meets each of its leaves
  pub met-whole : (k : ℕ) (leaves : List Leaf) → tiles_from k (names_of leaves) ≡ true → below_met region name leaves ≡ subtree name leaves
  met-whole k [] tile = refl
  met-whole k (l ∷ leaves) tile = by_test (starts_with beq l.name name) refl (met-whole (next_key l.name) leaves (tile_rest k l leaves tile))
    where
      by_test : (b : Bool) → starts_with beq l.name name ≡ b → leaves_met region (subtree name leaves) ≡ subtree name leaves
          → leaves_met region (cond b (l ∷ subtree name leaves) (subtree name leaves)) ≡ cond b (l ∷ subtree name leaves) (subtree name leaves)
      by_test true e rest =
          ap (λ (b : Bool). cond b (l ∷ leaves_met region (subtree name leaves)) (leaves_met region (subtree name leaves)))
          (leaf_met l.name (front-from_test name l.name e) (tile_short k l leaves tile))
          ∙ ap (λ (ls : List Leaf). l ∷ ls) rest
      by_test false e rest = rest

  -- and has all objects there
  all-there : (k : ℕ) (leaves : List Leaf) → tiles_from k (names_of leaves) ≡ true → AreAllKeysUnder leaves
      → objects_held region (subtree name leaves) ≡ objects_of (all_rows (subtree name leaves))
  all-there k [] tile under = refl
  all-there k (l ∷ leaves) tile under = by_test (starts_with beq l.name name) refl (all-there (next_key l.name) leaves (tile_rest k l leaves tile) under.1)
    where
      short : length l.name ≤ 64
      short = tile_short k l leaves tile

      by_test : (b : Bool) → starts_with beq l.name name ≡ b → objects_held region (subtree name leaves) ≡ objects_of (all_rows (subtree name leaves))
          → objects_held region (cond b (l ∷ subtree name leaves) (subtree name leaves)) ≡ objects_of (all_rows (cond b (l ∷ subtree name leaves) (subtree name leaves)))
      by_test true e rest =
          let below = all_rows (subtree name leaves) in
          let here : members_in region (objects_of l.bucket.rows) ≡ objects_of l.bucket.rows =
          all_held (region_of l.name) region l.name (has_point-region_of l.name short) l.bucket.rows (leaf_whole l.name (front-from_test name l.name e) short) under.0 in
          members-append region is_box l.bucket.rows below
          ∙ ap (λ (ms : List Placed). ms ++ members_in region (objects_of below)) here
          ∙ ap (λ (ms : List Placed). objects_of l.bucket.rows ++ ms) rest
          ∙ sym (map-append placed_of l.bucket.rows below)
      by_test false e rest = rest

  module _ (leaves : List Leaf) (tile : tiles_from 0 (names_of leaves) ≡ true) (under : AreAllKeysUnder leaves) where
    pub held-whole : held_below region name leaves ≡ objects_of (all_rows (subtree name leaves))
    held-whole = ap (objects_held region) (met-whole 0 leaves tile) ∙ all-there 0 leaves tile under

    pub number-whole : number_in region (all_rows (below_met region name leaves)) ≡ length (all_rows (subtree name leaves))
    number-whole = ap length held-whole ∙ length-map (all_rows (subtree name leaves)) placed_of

-- it cuts none of its leaves
pub uncut-whole : (region : Region) → IsBox region → (name : List Bool) (leaves : List Leaf) → tiles_from 0 (names_of leaves) ≡ true → lies_in (region_of name) region ≡ true
    → leaves_cut region (subtree name leaves) ≡ []
uncut-whole region is_box name leaves tile within = subtree-failing (is_cut region) (is_cut-narrows region is_box) name 0 leaves tile (by_test (is_met region name))
  where
    by_test : (b : Bool) → (b && not (lies_in (region_of name) region)) ≡ false
    by_test true = ap not within
    by_test false = refl

-- the objects of all leaves below a name: those of one leaf, or those below its halves
module _ (name : List Bool) (leaves : List Leaf) (tile : tiles_from 0 (names_of leaves) ≡ true) where
  pub below-leaf : (b : Rows) → leaf_named name leaves ≡ Some (record { name = name; bucket = b }) → subtree name leaves ≡ record { name = name; bucket = b } ∷ []
  below-leaf b found = subtree-leaf name 0 leaves (record { name = name; bucket = b }) tile found

  pub objects-leaf : (b : Rows) → leaf_named name leaves ≡ Some (record { name = name; bucket = b }) → objects_of (all_rows (subtree name leaves)) ≡ objects_of b.rows
  objects-leaf b found = ap (λ (ls : List Leaf). objects_of (all_rows ls)) (below-leaf b found) ∙ ap objects_of (append-nil b.rows)

  module _ (zero one : List Bool) (is_zero : zero ≡ name ++ false ∷ []) (is_one : one ≡ name ++ true ∷ []) (inner : is_inner name leaves ≡ true) (none : has_name name leaves ≡ false) where
    pub below-halves : subtree name leaves ≡ subtree zero leaves ++ subtree one leaves
    below-halves =
        subtree-halves name (omega (arith, inner-room name leaves tile inner)) 0 leaves tile none
        ∙ (λ i. subtree (sym is_zero i) leaves ++ subtree (sym is_one i) leaves)

    pub objects-halves : (found middle : List Placed) → middle ≡ found ++ objects_of (all_rows (subtree zero leaves))
        → middle ++ objects_of (all_rows (subtree one leaves)) ≡ found ++ objects_of (all_rows (subtree name leaves))
    objects-halves found middle first =
        ap (λ (ms : List Placed). ms ++ objects_of (all_rows (subtree one leaves))) first
        ∙ append_assoc found (objects_of (all_rows (subtree zero leaves))) (objects_of (all_rows (subtree one leaves)))
        ∙ ap (λ (ms : List Placed). found ++ ms)
        (sym (ap (λ (ls : List Leaf). objects_of (all_rows ls)) below-halves
        ∙ ap objects_of (flat_map-append (λ (l : Leaf). l.bucket.rows) (subtree zero leaves) (subtree one leaves))
        ∙ map-append placed_of (all_rows (subtree zero leaves)) (all_rows (subtree one leaves))))

-- a name's region that lies in a box, as one region that is it does
pub within-name : (area region : Region) (name : List Bool) → IsAreaOf name area → AllPointsIn area region → AllPointsIn (region_of name) region
within-name area region name of within = subst (λ (r : Region). AllPointsIn r region) of.is within
