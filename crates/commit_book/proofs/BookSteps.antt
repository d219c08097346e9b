-- What a call leaves as it is.
use Rattle.std.proofs.Common.{◌≡◌, Bool, true, false, cond, List, [], ◌∷◌, map, refl, sym, ap, ◌∙◌}
use Rattle.zorder.specs.declared.points.Placed.{Placed}
use Rattle.plain_list.specs.declared.ops.Op.{Op}
use Rattle.plain_list.specs.declared.ops.Op.TheVariants.{Put, Move, Remove, Find, Within, Near}
use Rattle.plain_list.specs.World.{World, places_of}
use Rattle.plain_list.specs.Queries.{listed, members_in}
use Rattle.plain_list.specs.Answer.{after_of, is_change}
use Rattle.index_layer.specs.Leaves.{Leaf, names_of}
use Rattle.plain_list.specs.State.{OpenSplit}
use Rattle.commit_book.specs.Answers.{IsQuery}
use Rattle.point_table.specs.Changes.{LeafBase, bases_of}

names_from_bases : (splits : List OpenSplit) (leaves : List Leaf) → map (λ (b : LeafBase). b.name) (bases_of splits leaves) ≡ names_of leaves
names_from_bases splits [] = refl
names_from_bases splits (l ∷ leaves) = ap (λ (names : List (List Bool)). l.name ∷ names) (names_from_bases splits leaves)

-- leaves with the same names and bases have the same names
pub same_names : (splits : List OpenSplit) (old new : List Leaf) → bases_of splits new ≡ bases_of splits old → names_of new ≡ names_of old
same_names splits old new same = sym (names_from_bases splits new) ∙ ap (map (λ (b : LeafBase). b.name)) same ∙ names_from_bases splits old

-- a query leaves the world
pub query_keeps : (op : Op) (world : World) → IsQuery op → after_of world op ≡ world
query_keeps (Put id at moment) world is = absurd is
query_keeps (Move id at moment) world is = absurd is
query_keeps (Remove id) world is = absurd is
query_keeps (Find id) world is = absurd is
query_keeps (Within region) world is = within_keeps (members_in region (places_of world)) world
  where
    within_keeps : (ms : List Placed) (world : World) → cond (is_change (listed ms)) world world ≡ world
    within_keeps ms world = both (is_change (listed ms)) world
      where
        both : (b : Bool) (world : World) → cond b world world ≡ world
        both true world = refl
        both false world = refl
query_keeps (Near at k) world is = refl
