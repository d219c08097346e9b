-- The leaves that a box meets have all objects there.
use Rattle.std.proofs.Common.{◌≡◌, ℕ, ◌≤◌, Bool, true, false, not, cond, List, [], ◌∷◌, ◌++◌, length, Some, refl, sym, ap, ◌∙◌, arith, append_assoc, ◌-◌}
use Rattle.std.specs.Cmp.{first_so, second_so}
use Rattle.std.specs.Cmp.Derive.{both_true}
use Rattle.std.proofs.lemmas.Grind.{flat_map-append}
use Rattle.std.proofs.lemmas.List.{map-append, append-nil, nil_from_length}
use Rattle.std.proofs.lemmas.List.Elements.{filter-append}
use Rattle.std.proofs.lemmas.Bool.{false_from_ne_true}
use mathlib.Core.Bool.{true≢false}
use Rattle.zorder.specs.declared.points.Placed.{Placed}
use Rattle.zorder.specs.declared.points.Region.{Region}
use Rattle.zorder.specs.Region.{has_point, IsBox}
use Rattle.zorder.specs.Key.{IsPoint, key_of}
use Rattle.zorder.specs.SameName.{same_name}
use Rattle.zorder.specs.Tile.{tiles_from, next_key}
use Rattle.zorder.proofs.Places.{IsPoint-point_of}
use Rattle.prefix_names.specs.Regions.{region_of, lies_in, meet, AllPointsIn}
use Rattle.prefix_names.proofs.Corners.{has_point-region_of, IsBox-region_of}
use Rattle.prefix_names.proofs.HeldPoints.{so-held, meet-points, lies_in-points}
use Rattle.bucket_versions.specs.declared.row.Row.{Row}
use Rattle.bucket_versions.specs.Rows.{Rows}
use Rattle.index_layer.specs.Leaves.{Leaf, names_of, all_rows, leaf_named}
use Rattle.index_layer.proofs.LeafKeys.{tile_short, tile_rest}
use Rattle.index_layer.proofs.LeafNames.{IsFront, under-front, front-length, find-among}
use Rattle.index_layer.proofs.Standing.{among-all}
use Rattle.plain_list.specs.Queries.{members_in}
use Rattle.table_share.specs.Objects.{placed_of, objects_of}
use Rattle.table_share.specs.KeysUnder.{AreKeysUnder, AreAllKeysUnder}
use Rattle.table_share.proofs.Subtrees.{Narrows}
use Rattle.range_query.specs.Cut.{is_met, is_cut, leaves_met, objects_held}
use Rattle.range_query.proofs.BoxCounts.{none_in}

-- the region of a longer name lies in that of the shorter one
module _ (name long : List Bool) (front : IsFront name long) (short : length long ≤ 64) where
  room : length name ≤ 64
  room = omega (arith, front-length name long front, short)

  pub region_within : AllPointsIn (region_of long) (region_of name)
  region_within p e =
      let held = so-held (region_of long) p e in
      let end : IsPoint (region_of long).hi = IsPoint-point_of (next_key long - 1) in
      let is : IsPoint p = record { x = omega (arith, held.right, end.x); y = omega (arith, held.high, end.y) } in
      has_point-region_of name room p is ∙ under-front name long (key_of p) front (sym (has_point-region_of long short p is) ∙ e)

module _ (region : Region) (is_box : IsBox region) where
  pub is_met-narrows : Narrows (is_met region)
  is_met-narrows name long front short e =
      let here = (meet-points (region_of long) region (IsBox-region_of long short) is_box).0 e in
      (meet-points (region_of name) region (IsBox-region_of name (room name long front short)) is_box).1 (here.0, region_within name long front short here.0 here.1, here.2)

  pub is_cut-narrows : Narrows (is_cut region)
  is_cut-narrows name long front short e =
      let met : is_met region long ≡ true = first_so (is_met region long) (not (lies_in (region_of long) region)) e in
      let out : not (lies_in (region_of long) region) ≡ true = second_so (is_met region long) (not (lies_in (region_of long) region)) e in
      let whole : lies_in (region_of name) region ≡ false =
      false_from_ne_true (lies_in (region_of name) region)
      (λ t. let all = (lies_in-points (region_of name) region (IsBox-region_of name (room name long front short))).0 t in
      let within : lies_in (region_of long) region ≡ true = (lies_in-points (region_of long) region (IsBox-region_of long short)).1 (λ p e. all p (region_within name long front short p e)) in
      true≢false (sym out ∙ ap not within)) in
      both_true (is_met-narrows name long front short met) (ap not whole)

  -- a leaf that the box misses has none of its objects
  pub none_held : (name : List Bool) (rows : List Row) → length name ≤ 64 → AreKeysUnder name rows → is_met region name ≡ false → members_in region (objects_of rows) ≡ []
  none_held name rows short under apart =
      nil_from_length (members_in region (objects_of rows))
      (none_in (region_of name) region name (has_point-region_of name short) rows
      (λ shared. true≢false (sym ((meet-points (region_of name) region (IsBox-region_of name short) is_box).1 shared) ∙ apart)) under)

  pub members-append : (xs ys : List Row) → members_in region (objects_of (xs ++ ys)) ≡ members_in region (objects_of xs) ++ members_in region (objects_of ys)
  members-append xs ys = ap (members_in region) (map-append placed_of xs ys) ∙ filter-append (λ (m : Placed). has_point region m.at) (objects_of xs) (objects_of ys)

  pub held-append : (xs ys : List Leaf) → objects_held region (xs ++ ys) ≡ objects_held region xs ++ objects_held region ys
  held-append xs ys = ap (λ rs. members_in region (objects_of rs)) (flat_map-append (λ (l : Leaf). l.bucket.rows) xs ys) ∙ members-append (all_rows xs) (all_rows ys)

  -- the leaves that the box meets have all objects there
  pub held-met : (k : ℕ) (leaves : List Leaf) → tiles_from k (names_of leaves) ≡ true → AreAllKeysUnder leaves → objects_held region (leaves_met region leaves) ≡ objects_held region leaves
  held-met k [] tile under = refl
  held-met k (l ∷ leaves) tile under = by_test (is_met region l.name) refl (held-met (next_key l.name) leaves (tile_rest k l leaves tile) under.1)
    where
      by_test : (b : Bool) → is_met region l.name ≡ b → objects_held region (leaves_met region leaves) ≡ objects_held region leaves
          → objects_held region (cond b (l ∷ leaves_met region leaves) (leaves_met region leaves)) ≡ objects_held region (l ∷ leaves)
      by_test true e rest = members-append l.bucket.rows (all_rows (leaves_met region leaves)) ∙ ap (λ ms. members_in region (objects_of l.bucket.rows) ++ ms) rest ∙ sym (members-append l.bucket.rows (all_rows leaves))
      by_test false e rest =
          rest ∙ ap (λ ms. ms ++ objects_held region leaves) (sym (none_held l.name l.bucket.rows (tile_short k l leaves tile) under.0 e)) ∙ sym (members-append l.bucket.rows (all_rows leaves))

  -- what was found in one leaf, in two halves, and nowhere
  pub found_one : (found : List Placed) (rows : List Row) (ls : List Leaf) (name : List Bool) (b : Rows) → rows ≡ b.rows → ls ≡ record { name = name; bucket = b } ∷ []
      → found ++ members_in region (objects_of rows) ≡ found ++ objects_held region ls
  found_one found rows ls name b is one =
      ap (λ (rs : List Row). found ++ members_in region (objects_of rs)) (is ∙ sym (append-nil b.rows)) ∙ ap (λ (l : List Leaf). found ++ objects_held region l) (sym one)

  pub found_two : (found middle : List Placed) (ls zero one : List Leaf) → ls ≡ zero ++ one → middle ≡ found ++ objects_held region zero → middle ++ objects_held region one ≡ found ++ objects_held region ls
  found_two found middle ls zero one both first =
      ap (λ ms. ms ++ objects_held region one) first ∙ append_assoc found (objects_held region zero) (objects_held region one) ∙ ap (λ ms. found ++ ms) (sym (held-append zero one))
      ∙ ap (λ (l : List Leaf). found ++ objects_held region l) (sym both)

  pub found_none : (found : List Placed) (ls : List Leaf) → ls ≡ [] → found ≡ found ++ objects_held region ls
  found_none found ls none = sym (append-nil found) ∙ ap (λ (l : List Leaf). found ++ objects_held region l) (sym none)

-- the rows of a leaf are under its name
pub keys_of_leaf : (name : List Bool) (b : Rows) (leaves : List Leaf) → leaf_named name leaves ≡ Some (record { name = name; bucket = b }) → AreAllKeysUnder leaves → AreKeysUnder name b.rows
keys_of_leaf name b leaves found under =
    let l : Leaf = record { name = name; bucket = b } in
    among-all (λ (m : Leaf). AreKeysUnder m.name m.bucket.rows) leaves l under (find-among (λ (m : Leaf). same_name m.name name) leaves l found).0

-- whether a box meets a name, by a test of its region
pub met-is : (region area : Region) (name : List Bool) (test b : Bool) → test ≡ meet area region → area ≡ region_of name → test ≡ b → is_met region name ≡ b
met-is region area name test b meets is told = sym (meets ∙ ap (λ r. meet r region) is) ∙ told
