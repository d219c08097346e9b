-- What an index with leaves anew stands for.
use Rattle.std.proofs.Common.{◌≡◌, ℕ, ◌+◌, ◌-◌, ◌^◌, ◌<◌, ◌≤◌, Bool, true, false, cond, not, List, [], ◌∷◌, length, refl, sym, ap, ◌∙◌, arith, append-nil}
use Rattle.std.specs.Prelude.{nat_le, nat_lt, ◌==◌, ◌&&◌, IsTrue}
use Rattle.std.specs.Cmp.{second_so}
use Rattle.std.specs.List.{fold, list_all, AllByRecursion}
use Rattle.std.proofs.lemmas.Bool.{leb-true, eqb-true}
use Rattle.std.proofs.lemmas.Bool.Decides.{nat_tests}
use Rattle.zorder.specs.declared.points.Placed.{Placed}
use Rattle.bucket_versions.specs.declared.row.Row.{Row}
use Rattle.bucket_versions.specs.Rows.{Rows, IsRows, has_row, rows_between}
use Rattle.bucket_versions.proofs.RowOrder.{IsRows-filter}
use Rattle.bucket_versions.proofs.RowRanges.{has_row-rows_between}
use Rattle.index_layer.specs.Leaves.{Leaf, AreLeaves, names_of, one_leaf}
use Rattle.index_layer.specs.Stands.{HasRowsOf, places_have}
use Rattle.index_layer.proofs.Standing.{placed_key-lt}
use Rattle.plain_list.specs.Places.{IsRising}
use Rattle.plain_list.specs.World.{World, places_of, IsWorld}
use Rattle.plain_list.specs.Size.{is_over}
use Rattle.plain_list.specs.State.{split_leaf}
use Rattle.split_prepare.specs.Cut.{cut_out}
use Rattle.table_share.proofs.TableRows.{IsTableOf}
use Rattle.index_build.specs.Growing.{leaf_for, leaves_for}
use Rattle.index_build.proofs.GrowingLeaves.{names_of-leaves_for, rows_there, Stands-leaves_for, whole-there}
use Rattle.point_table.specs.BySize.{HasSized, IsSplitOn}
use Rattle.point_table.specs.Crowds.{is_crowded, crowded_of}
use Rattle.point_table.specs.Sized.{StandsBySize}
use Rattle.point_table.proofs.FullLemmas.{is_over-is_crowded}

-- all rows of a table are those between the first key and the last
pub has_row-all : (places : List Placed) (rows : List Row) → IsTableOf places rows → (q : Row) → has_row q (rows_between 0 (2 ^ 64 - 1) rows) ≡ places_have places q
has_row-all places rows table q = has_row-rows_between 0 (2 ^ 64 - 1) rows q ∙ by_test (has_row q rows) refl ∙ table.has q
  where
    within : q.key < 2 ^ 64 → (nat_le 0 q.key && nat_le q.key (2 ^ 64 - 1)) ≡ true
    within lt = grind (arith, nat_tests)

    by_test : (b : Bool) → has_row q rows ≡ b → (b && (nat_le 0 q.key && nat_le q.key (2 ^ 64 - 1))) ≡ b
    by_test true has = within (placed_key-lt places q (sym (table.has q) ∙ has))
    by_test false has = refl

-- no leaf is to be split exactly where none could be split for its size
pub none-over : (w size : ℕ) (places : List Placed) (leaves : List Leaf) → IsRising places → AllByRecursion (λ (l : Leaf). IsRows l.bucket.rows) leaves → AllByRecursion (HasRowsOf places) leaves
    → (length (crowded_of w size leaves) == 0) ≡ list_all (λ name. not (is_over w size places name)) (names_of leaves)
none-over w size places [] rising ordered rows = refl
none-over w size places (l ∷ leaves) rising ordered rows =
    by_test (is_crowded w size l) (none-over w size places leaves rising ordered.1 rows.1)
    ∙ ap (λ b. not b && list_all (λ name. not (is_over w size places name)) (names_of leaves)) (sym (is_over-is_crowded w size places l rising ordered.0 rows.0))
  where
    some : (names : List (List Bool)) → (length (l.name ∷ names) == 0) ≡ false
    some names = grind (arith, nat_tests)

    by_test : (b : Bool) → (length (crowded_of w size leaves) == 0) ≡ list_all (λ name. not (is_over w size places name)) (names_of leaves)
        → (length (cond b (l.name ∷ crowded_of w size leaves) (crowded_of w size leaves)) == 0) ≡ (not b && list_all (λ name. not (is_over w size places name)) (names_of leaves))
    by_test true rest = some (crowded_of w size leaves)
    by_test false rest = rest

-- leaves of rows of which none is to be split
none-crowded : (w size : ℕ) (rows : List Row) (names : List (List Bool)) → AllByRecursion (λ name. is_crowded w size (leaf_for rows name) ≡ false) names → crowded_of w size (leaves_for rows names) ≡ []
none-crowded w size rows [] all = refl
none-crowded w size rows (n ∷ names) all =
    ap (λ b. cond b (n ∷ crowded_of w size (leaves_for rows names)) (crowded_of w size (leaves_for rows names))) all.0 ∙ none-crowded w size rows names all.1

-- one leaf of all rows stands there for the whole space
pub HasSized-whole : (w size : ℕ) (rows : List Row) (name : List Bool) (bucket : Rows) (leaves : List Leaf) → name ≡ [] → bucket ≡ cut_out rows name → leaves ≡ one_leaf bucket → HasSized w size rows [] (name ∷ []) [] leaves
HasSized-whole w size rows name bucket leaves whole bucket_is is = record { leaves_are = whole-there rows [] name bucket leaves whole bucket_is is; sized = tt }

-- one leaf of all rows that was split on stands for the world, by the size
module _ (w size : ℕ) (world : World) (is_world : IsWorld world) (rows : List Row) (ordered : IsRows rows) (has : (r : Row) → has_row r rows ≡ places_have (places_of world) r) where
  over : (name : List Bool) → is_crowded w size (leaf_for rows name) ≡ true → IsTrue (is_over w size (places_of world) name)
  over name crowded =
      let short : length name + w ≤ 64 = leb-true (length name + w) 64 (second_so (nat_lt size (length (cut_out rows name).rows)) (nat_le (length name + w) 64) crowded) in
      is_over-is_crowded w size (places_of world) (leaf_for rows name) is_world.rising (IsRows-filter _ rows ordered) (rows_there (places_of world) rows has name (omega (arith, short))) ∙ crowded

  each_over : (names : List (List Bool)) → AllByRecursion (λ name. is_crowded w size (leaf_for rows name) ≡ true) names → AllByRecursion (λ name. IsTrue (is_over w size (places_of world) name)) names
  each_over [] all = tt
  each_over (n ∷ names) all = (over n all.0, each_over names all.1)

  pub StandsBySize-split : (name : List Bool) (bucket : Rows) (first leaves : List Leaf) → name ≡ [] → bucket ≡ cut_out rows name → first ≡ one_leaf bucket → AreLeaves leaves → IsSplitOn w size rows name first leaves
      → StandsBySize w size world leaves
  StandsBySize-split name bucket first leaves whole bucket_is first_is are on =
      let sized = on.sizes [] [] (HasSized-whole w size rows name bucket first whole bucket_is first_is) in
      let is : leaves ≡ leaves_for rows sized.0 = sized.1.leaves_are ∙ ap (leaves_for rows) (append-nil sized.0) in
      let named : leaves ≡ leaves_for rows (names_of leaves) = is ∙ ap (leaves_for rows) (sym (ap names_of is ∙ names_of-leaves_for rows sized.0)) in
      let stands = Stands-leaves_for (places_of world) rows has leaves (names_of leaves) are are.tile named in
      let splits : List (List Bool) → List Bool → List (List Bool) = λ ls n. split_leaf w n ls in
      record {
        stands = stands;
        fits = record {
          comes = record {
            names = on.comes.names;
            leaves_are = on.comes.new_is ∙ ap (λ (ls : List (List Bool)). fold splits ls on.comes.names) (ap names_of first_is);
            needed = each_over on.comes.names on.comes.needed;
          };
          sized = sym (none-over w size (places_of world) leaves is_world.rising are.rows stands.rows)
              ∙ ap (λ (names : List (List Bool)). length names == 0) (ap (crowded_of w size) is ∙ none-crowded w size rows sized.0 sized.1.sized);
        };
      }

-- among leaves by the size none is to be split
pub crowded_of-sized : (w size : ℕ) (world : World) (leaves : List Leaf) → IsWorld world → StandsBySize w size world leaves → crowded_of w size leaves ≡ []
crowded_of-sized w size world leaves is_world by =
    empty (crowded_of w size leaves) (none-over w size (places_of world) leaves is_world.rising by.stands.are_leaves.rows by.stands.rows ∙ by.fits.sized)
  where
    empty : (names : List (List Bool)) → (length names == 0) ≡ true → names ≡ []
    empty [] is = refl
    empty (n ∷ names) is = absurd (omega (arith, eqb-true (length (n ∷ names)) 0 is))
