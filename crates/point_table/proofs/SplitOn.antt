-- Leaves that are being split on while they have more rows than the size.
use Rattle.std.proofs.Common.{◌≡◌, ℕ, suc, ◌+◌, Bool, true, false, cond, List, [], ◌∷◌, ◌++◌, drop, Some, slice_get, refl, sym, ap, subst, ◌∙◌, add-one, append_assoc}
use Rattle.std.specs.List.{fold, AllByRecursion}
use Rattle.std.proofs.lemmas.List.Sums.{fold-append}
use mathlib.Core.Bool.{true≢false}
use Rattle.zorder.specs.SameName.{same_name}
use Rattle.zorder.specs.Tile.{children}
use Rattle.bucket_versions.specs.declared.row.Row.{Row}
use Rattle.bucket_versions.specs.Rows.{Rows}
use Rattle.plain_list.specs.State.{split_leaf}
use Rattle.index_layer.specs.Leaves.{Leaf, AreLeaves, names_of, has_name, leaf_named, split}
use Rattle.index_layer.specs.Part.{IsPart}
use Rattle.index_layer.specs.declared.index.Part.{Part}
use Rattle.index_layer.specs.declared.index.Part.TheVariants as part
use Rattle.split_prepare.specs.Cut.{cut}
use Rattle.index_build.specs.Growing.{leaf_for, leaves_for}
use Rattle.index_build.proofs.ChildNames.{drop-at}
use Rattle.index_build.proofs.GrowingLeaves.{split-there}
use Rattle.point_table.specs.BySize.{HasSized, StandsThere, ComesOn, SizesTo, IsSplitOn}
use Rattle.point_table.specs.Crowds.{is_crowded}
use Rattle.point_table.proofs.Dividing.{names_of-divided}

-- the leaf of a name among those of rows has those under its name
named-leaf : (rows : List Row) (names : List (List Bool)) (name : List Bool) (leaf : Leaf) → leaf_named name (leaves_for rows names) ≡ Some leaf → leaf ≡ leaf_for rows leaf.name
named-leaf rows [] name leaf found = absurd (cc found)
named-leaf rows (n ∷ names) name leaf found = by_test (same_name n name) found (named-leaf rows names name leaf)
  where
    by_test : (b : Bool) → cond b (Some (leaf_for rows n)) (leaf_named name (leaves_for rows names)) ≡ Some leaf → (leaf_named name (leaves_for rows names) ≡ Some leaf → leaf ≡ leaf_for rows leaf.name) → leaf ≡ leaf_for rows leaf.name
    by_test true here later = let same : leaf_for rows n ≡ leaf = cc here in sym same ∙ ap (λ (l : Leaf). leaf_for rows l.name) same
    by_test false there later = later there

-- where a leaf has the name, no other part stands there
pub no-leaf : (leaves : List Leaf) (name : List Bool) (there : Part) → IsPart leaves name there → has_name name leaves ≡ true → ((bucket : _) → there ≡ part.Leaf bucket → ⊥) → ⊥
no-leaf leaves name part.Inner is has other = true≢false (sym has ∙ is.1)
no-leaf leaves name (part.Leaf bucket) is has other = other bucket refl
no-leaf leaves name part.Outside is has other = true≢false (sym has ∙ is.1)

-- what holds of each of some names and of others
both : (P : List Bool → Type 0) (first second : List (List Bool)) → AllByRecursion P first → AllByRecursion P second → AllByRecursion P (first ++ second)
both P [] second all more = more
both P (n ∷ first) second all more = (all.0, both P first second all.1 more)

-- so far: the first children, as many as are past, were split on
pub record IsSplitting (w size : ℕ) (rows : List Row) (name : List Bool) (old : List Leaf) (place : ℕ) (leaves : List Leaf) : Type 0 where
  pub sizes : SizesTo w size rows (name ∷ []) (drop place (children w name)) old leaves
  pub comes : ComesOn w size rows (names_of old) (names_of leaves)

module _ (w size : ℕ) (rows : List Row) where
  -- splits, and further ones
  comes_then : (old now new : List (List Bool)) → ComesOn w size rows old now → ComesOn w size rows now new → ComesOn w size rows old new
  comes_then old now new first second =
      let splits : List (List Bool) → List Bool → List (List Bool) = λ ls name. split_leaf w name ls in
      record {
        names = first.names ++ second.names;
        new_is = second.new_is ∙ ap (λ (ls : List (List Bool)). fold splits ls second.names) first.new_is ∙ sym (fold-append splits old first.names second.names);
        needed = both (λ name. is_crowded w size (leaf_for rows name) ≡ true) first.names second.names first.needed second.needed;
      }

  module _ (name : List Bool) where
    -- whether the leaf that stands there is to be split
    pub crowded-there : (leaves : List Leaf) (bucket : Rows) → StandsThere w size rows name leaves → leaf_named name leaves ≡ Some (record { name = name; bucket = bucket })
        → is_crowded w size (record { name = name; bucket = bucket }) ≡ is_crowded w size (leaf_for rows name)
    crowded-there leaves bucket there found =
        ap (is_crowded w size) (named-leaf rows (there.done ++ name ∷ there.later) name (record { name = name; bucket = bucket }) (ap (leaf_named name) (sym there.has.leaves_are) ∙ found))

    -- a leaf that isn't to be split stays
    pub split-none : (leaves : List Leaf) → is_crowded w size (leaf_for rows name) ≡ false → IsSplitOn w size rows name leaves leaves
    split-none leaves calm = record {
      sizes = λ done later has. (
        done ++ name ∷ [],
        record {
          leaves_are = has.leaves_are ∙ ap (leaves_for rows) (sym (append_assoc done (name ∷ []) later));
          sized = both (λ n. is_crowded w size (leaf_for rows n) ≡ false) done (name ∷ []) has.sized (calm, tt);
        },
      );
      comes = record { names = []; new_is = refl; needed = tt };
    }

    module _ (old : List Leaf) where
      -- one that is gives way to its children, none of which is past
      pub split-first : (new : List Leaf) → AreLeaves old → is_crowded w size (leaf_for rows name) ≡ true → new ≡ split w name (cut w name rows) old → IsSplitting w size rows name old 0 new
      split-first new are over is = record {
        sizes = λ done later has. (done, record { leaves_are = split-there rows done name later old has.leaves_are w new are is; sized = has.sized });
        comes = record { names = name ∷ []; new_is = ap names_of is ∙ names_of-divided w name rows old; needed = (over, tt) };
      }

      module _ (place : ℕ) (leaves : List Leaf) (so_far : IsSplitting w size rows name old place leaves) where
        module _ (child : List Bool) (at : slice_get (children w name) place ≡ Some child) where
          at_child : (done later : List (List Bool)) → HasSized w size rows done (drop place (children w name)) later leaves → HasSized w size rows done (child ∷ []) (drop (suc place) (children w name) ++ later) leaves
          at_child done later has = record {
            leaves_are = has.leaves_are ∙ ap (λ (l : List (List Bool)). leaves_for rows (done ++ (l ++ later))) (drop-at (children w name) place child at);
            sized = has.sized;
          }

          -- the child at the place stands there
          pub child-there : StandsThere w size rows name old → StandsThere w size rows child leaves
          child-there there =
              let reached = so_far.sizes there.done there.later there.has in
              record { done = reached.0; later = drop (suc place) (children w name) ++ there.later; has = at_child reached.0 there.later reached.1 }

          -- split on, it is past
          pub split-child : (new : List Leaf) → IsSplitOn w size rows child leaves new → IsSplitting w size rows name old (place + 1) new
          split-child new on = subst (λ (i : ℕ). IsSplitting w size rows name old i new) (sym (add-one place)) next
            where
              next : IsSplitting w size rows name old (suc place) new
              next = record {
                sizes = λ done later has. let reached = so_far.sizes done later has in
                    let after = on.sizes reached.0 (drop (suc place) (children w name) ++ later) (at_child reached.0 later reached.1) in
                    (after.0, record { leaves_are = after.1.leaves_are; sized = after.1.sized });
                comes = comes_then (names_of old) (names_of leaves) (names_of new) so_far.comes on.comes;
              }
