-- The rows that are cut out for each child of a name.
use Rattle.std.proofs.Common.{◌≡◌, ℕ, zero, suc, ◌+◌, ◌-◌, ◌<◌, ◌≤◌, ◌^◌, Bool, true, false, cond, List, [], ◌∷◌, ◌++◌, length, map, refl, sym, ap, subst, ◌∙◌, arith, length-append}
use Rattle.std.specs.Prelude.{nat_lt, nat_le, ◌&&◌}
use Rattle.std.specs.List.{AllByRecursion}
use Rattle.std.specs.Cmp.{first_so, second_so}
use Rattle.std.proofs.lemmas.Bool.{leb-true}
use Rattle.std.proofs.lemmas.Bool.Decides.{nat_tests}
use Rattle.std.proofs.lemmas.Nat.{pow_pos}
use Rattle.zorder.specs.Key.{is_under}
use Rattle.zorder.specs.Name.{first_key}
use Rattle.zorder.specs.Tile.{next_key, children}
use Rattle.zorder.proofs.Ranges.{is_under-test, range-under, high_number-end}
use Rattle.zorder.proofs.Tiles.{children-suc}
use Rattle.bucket_versions.specs.declared.row.Row.{Row}
use Rattle.bucket_versions.specs.Rows.{has_row}
use Rattle.bucket_versions.specs.Under.{AreUnder}
use Rattle.bucket_versions.proofs.RowRanges.{has_row-rows_between}
use Rattle.split_prepare.specs.Cut.{last_key, rows_under, cut_out, cut, HasRowsUnder, HaveRowsUnder}

pub next_key-above : (name : List Bool) → first_key name < next_key name
next_key-above name = omega (arith, pow_pos (64 - length name))

pub next_key-end : (name : List Bool) → length name ≤ 64 → next_key name ≤ 2 ^ 64
unfolding first_key
next_key-end name short = high_number-end 64 name short

lt-le : (k n : ℕ) → 0 < n → nat_lt k n ≡ nat_le k (n - 1)
lt-le k n pos = grind (arith, nat_tests)

next_key-positive : (name : List Bool) → 0 < next_key name
next_key-positive name = omega (arith, next_key-above name)

-- a key under a name lies from its first key to its last one
pub under-between : (name : List Bool) (key : ℕ) → length name ≤ 64 → key < 2 ^ 64 → is_under name key ≡ (nat_le (first_key name) key && nat_le key (last_key name))
under-between name key short small = is_under-test name key short small ∙ ap (λ b. nat_le (first_key name) key && b) (lt-le key (next_key name) (next_key-positive name))

-- the rows cut out for a name are those under it
pub HasRowsUnder-cut_out : (rows : List Row) (name : List Bool) → length name ≤ 64 → HasRowsUnder rows name (cut_out rows name)
HasRowsUnder-cut_out rows name short r small =
    has_row-rows_between (first_key name) (last_key name) rows r
    ∙ ap (λ b. has_row r rows && b) (sym (under-between name r.key short small))

AreShort : List (List Bool) → Type 0
AreShort names = AllByRecursion (λ (name : List Bool). length name ≤ 64) names

joined : (front back : List (List Bool)) → AreShort front → AreShort back → AreShort (front ++ back)
unfolding AreShort
joined [] back f b = b
joined (n ∷ front) back f b = (f.0, joined front back f.1 b)

children-short : (w : ℕ) (name : List Bool) → length name + w ≤ 64 → AreShort (children w name)
unfolding AreShort
children-short zero name short = (omega (arith, length-append name [], short), tt)
children-short (suc w) name short =
    subst AreShort (sym (children-suc w name))
    (joined (children w (name ++ false ∷ [])) (children w (name ++ true ∷ []))
    (children-short w (name ++ false ∷ []) (omega (arith, length-append name (false ∷ []), short)))
    (children-short w (name ++ true ∷ []) (omega (arith, length-append name (true ∷ []), short))))

names_cut : (rows : List Row) (names : List (List Bool)) → AreShort names → HaveRowsUnder names rows (map (cut_out rows) names)
unfolding AreShort
names_cut rows [] short = tt
names_cut rows (name ∷ names) short = (HasRowsUnder-cut_out rows name short.0, names_cut rows names short.1)

-- so are those of each child
pub HaveRowsUnder-cut : (w : ℕ) (name : List Bool) (rows : List Row) → length name + w ≤ 64 → HaveRowsUnder (children w name) rows (cut w name rows)
HaveRowsUnder-cut w name rows short = names_cut rows (children w name) (children-short w name short)

-- rows from a name's first key to its last are under it
pub AreUnder-rows_under : (name : List Bool) (rows : List Row) → length name ≤ 64 → AreUnder name (rows_under name rows)
AreUnder-rows_under name [] short = tt
AreUnder-rows_under name (r ∷ rows) short = by_test (nat_le (first_key name) r.key && nat_le r.key (last_key name)) refl (AreUnder-rows_under name rows short)
  where
    by_test : (b : Bool) → (nat_le (first_key name) r.key && nat_le r.key (last_key name)) ≡ b → AreUnder name (rows_under name rows) → AreUnder name (cond b (r ∷ rows_under name rows) (rows_under name rows))
    by_test false e rest = rest
    by_test true e rest =
        let from : first_key name ≤ r.key = leb-true (first_key name) r.key (first_so (nat_le (first_key name) r.key) (nat_le r.key (last_key name)) e) in
        let to : r.key ≤ last_key name = leb-true r.key (last_key name) (second_so (nat_le (first_key name) r.key) (nat_le r.key (last_key name)) e) in
        let below : r.key < next_key name = omega (arith, to, next_key-positive name) in
        (range-under name r.key short (omega (arith, below, next_key-end name short)) from below, rest)
