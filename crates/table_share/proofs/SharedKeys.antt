-- The leaves that share a key with a range have all its rows.
use Rattle.std.proofs.Common.{◌≡◌, ℕ, ◌-◌, ◌^◌, ◌<◌, ◌≤◌, Bool, true, false, List, [], ◌∷◌, ◌++◌, length, refl, sym, ◌∙◌, ap, arith, cond, append_assoc}
use Rattle.std.specs.Prelude.{nat_le, nat_lt, ◌&&◌}
use Rattle.std.specs.List.{AllByRecursion}
use Rattle.std.specs.Cmp.{first_so, second_so}
use Rattle.std.specs.Cmp.Derive.{both_true}
use Rattle.std.proofs.lemmas.Grind.{flat_map-append}
use Rattle.std.proofs.lemmas.List.{append-nil}
use Rattle.std.proofs.lemmas.Bool.{le-leb, leb-true, lt-ltb, ltb-true, false_from_ne_true}
use Rattle.std.proofs.lemmas.List.Elements.{filter-append}
use mathlib.Core.Bool.{true≢false}
use Rattle.zorder.specs.Key.{is_under}
use Rattle.zorder.specs.Name.{first_key}
use Rattle.zorder.specs.Tile.{tiles_from, next_key}
use Rattle.zorder.proofs.Ranges.{under-range, range-under}
use Rattle.bucket_versions.specs.declared.row.Row.{Row}
use Rattle.bucket_versions.specs.Rows.{Rows, rows_between}
use Rattle.index_layer.specs.Leaves.{Leaf, AreLeaves, AreUnder, names_of, all_rows}
use Rattle.index_layer.proofs.LeafKeys.{first_key-fits, first_key-under, first_key-next, next_key-end, tile_short, tile_rest}
use Rattle.index_layer.proofs.LeafNames.{IsFront, under-front, front-length}
use Rattle.table_share.specs.Subtree.{shares_key, subtree, leaves_between}
use Rattle.table_share.proofs.Subtrees.{Narrows, subtree-whole}

-- keys below a longer name lie among those below the shorter one
module _ (name long : List Bool) (front : IsFront name long) (short : length long ≤ 64) where
  room : length name ≤ 64
  room = omega (arith, front-length name long front, short)

  pub keys_in : (key : ℕ) → key < 2 ^ 64 → is_under long key ≡ true → (first_key name ≤ key) × (key < next_key name)
  keys_in key fits under = under-range name key room fits (under-front name long key front under)

pub shares_key-narrows : (lo hi : ℕ) → Narrows (shares_key lo hi)
shares_key-narrows lo hi name long front short e =
    let first = keys_in name long front short (first_key long) (first_key-fits long short) (first_key-under long short) in
    let end : next_key long ≤ next_key name = next_key-within name long front short in
    let le : first_key long ≤ hi = leb-true (first_key long) hi (first_so (nat_le (first_key long) hi) (nat_lt lo (next_key long)) e) in
    let lt : lo < next_key long = ltb-true lo (next_key long) (second_so (nat_le (first_key long) hi) (nat_lt lo (next_key long)) e) in
    both_true (le-leb (first_key name) hi (omega (arith, first.0, le))) (lt-ltb lo (next_key name) (omega (arith, end, lt)))
  where
    next_key-within : (name long : List Bool) → IsFront name long → length long ≤ 64 → next_key long ≤ next_key name
    next_key-within name long front short =
        let last : ℕ = next_key long - 1 in
        let first : first_key long < next_key long = first_key-next long in
        let fits : last < 2 ^ 64 = omega (arith, next_key-end long short, first) in
        let under : is_under long last ≡ true = range-under long last short fits (omega (arith, first)) (omega (arith, first)) in
        let range = keys_in name long front short last fits under in
        omega (arith, range.1, first)

module _ (lo hi : ℕ) where
  abbrev between : List Row → List Row
  between rows = rows_between lo hi rows

  kept_row : (r : Row) (rows : List Row) (b : Bool) → (nat_le lo r.key && nat_le r.key hi) ≡ b → between (r ∷ rows) ≡ cond b (r ∷ between rows) (between rows)
  kept_row r rows b e = ap (λ b. cond b (r ∷ between rows) (between rows)) e

  -- a leaf that shares no key with the range has none of its rows
  none_shared : (name : List Bool) (rows : List Row) → hi < 2 ^ 64 → length name ≤ 64 → AreUnder name rows → shares_key lo hi name ≡ false → between rows ≡ []
  none_shared name [] fits short under apart = refl
  none_shared name (r ∷ rows) fits short under apart =
      let out : (nat_le lo r.key && nat_le r.key hi) ≡ false =
      false_from_ne_true (nat_le lo r.key && nat_le r.key hi)
      (λ e. let low : lo ≤ r.key = leb-true lo r.key (first_so (nat_le lo r.key) (nat_le r.key hi) e) in
      let high : r.key ≤ hi = leb-true r.key hi (second_so (nat_le lo r.key) (nat_le r.key hi) e) in
      let range = under-range name r.key short (omega (arith, high, fits)) under.0 in
      true≢false (sym (both_true (le-leb (first_key name) hi (omega (arith, range.0, high))) (lt-ltb lo (next_key name) (omega (arith, range.1, low)))) ∙ apart)) in
      kept_row r rows false out ∙ none_shared name rows fits short under.1 apart

  abbrev rows_in : List Leaf → List Row
  rows_in leaves = between (all_rows leaves)

  rows_in-append : (xs ys : List Leaf) → rows_in (xs ++ ys) ≡ rows_in xs ++ rows_in ys
  rows_in-append xs ys =
      ap between (flat_map-append (λ (l : Leaf). l.bucket.rows) xs ys) ∙ filter-append (λ (r : Row). nat_le lo r.key && nat_le r.key hi) (all_rows xs) (all_rows ys)

  -- the leaves that share a key with the range have all its rows
  pub rows_shared : (k : ℕ) (leaves : List Leaf) → hi < 2 ^ 64 → tiles_from k (names_of leaves) ≡ true → AllByRecursion (λ (l : Leaf). AreUnder l.name l.bucket.rows) leaves
      → rows_in (leaves_between lo hi leaves) ≡ rows_in leaves
  rows_shared k [] fits tile under = refl
  rows_shared k (l ∷ leaves) fits tile under = by_test (shares_key lo hi l.name) refl (rows_shared (next_key l.name) leaves fits (tile_rest k l leaves tile) under.1)
    where
      by_test : (b : Bool) → shares_key lo hi l.name ≡ b → rows_in (leaves_between lo hi leaves) ≡ rows_in leaves → rows_in (cond b (l ∷ leaves_between lo hi leaves) (leaves_between lo hi leaves)) ≡ rows_in (l ∷ leaves)
      by_test true e rest =
          filter-append (λ (r : Row). nat_le lo r.key && nat_le r.key hi) l.bucket.rows (all_rows (leaves_between lo hi leaves))
          ∙ ap (λ rs. between l.bucket.rows ++ rs) rest
          ∙ sym (filter-append (λ (r : Row). nat_le lo r.key && nat_le r.key hi) l.bucket.rows (all_rows leaves))
      by_test false e rest =
          rest ∙ ap (λ rs. rs ++ rows_in leaves) (sym (none_shared l.name l.bucket.rows fits (tile_short k l leaves tile) under.0 e))
          ∙ sym (filter-append (λ (r : Row). nat_le lo r.key && nat_le r.key hi) l.bucket.rows (all_rows leaves))

  -- rows that were found in one leaf, and in two halves
  pub found_one : (found : List Row) (rows : List Row) (ls : List Leaf) (name : List Bool) (b : Rows) → rows ≡ b.rows → ls ≡ record { name = name; bucket = b } ∷ [] → found ++ between rows ≡ found ++ rows_in ls
  found_one found rows ls name b is one =
      ap (λ rs. found ++ between rs) (is ∙ sym (append-nil b.rows)) ∙ ap (λ (l : List Leaf). found ++ rows_in l) (sym one)

  pub found_two : (found middle : List Row) (ls zero one : List Leaf) → ls ≡ zero ++ one → middle ≡ found ++ rows_in zero → middle ++ rows_in one ≡ found ++ rows_in ls
  found_two found middle ls zero one both first =
      ap (λ rs. rs ++ rows_in one) first ∙ append_assoc found (rows_in zero) (rows_in one) ∙ ap (λ rs. found ++ rs) (sym (rows_in-append zero one)) ∙ ap (λ (l : List Leaf). found ++ rows_in l) (sym both)

  pub found_none : (found : List Row) (ls : List Leaf) → ls ≡ [] → found ≡ found ++ rows_in ls
  found_none found ls none = sym (append-nil found) ∙ ap (λ (l : List Leaf). found ++ rows_in l) (sym none)

  -- what was found below the empty name
  pub rows_whole : (leaves : List Leaf) (found : List Row) (name : List Bool) → found ≡ [] → name ≡ [] → hi < 2 ^ 64 → AreLeaves leaves → found ++ rows_in (leaves_between lo hi (subtree name leaves)) ≡ rows_in leaves
  rows_whole leaves found name empty whole fits are =
      (λ i. empty i ++ rows_in (leaves_between lo hi (subtree (whole i) leaves))) ∙ ap (λ (ls : List Leaf). rows_in (leaves_between lo hi ls)) (subtree-whole leaves)
      ∙ rows_shared 0 leaves fits are.tile are.under
