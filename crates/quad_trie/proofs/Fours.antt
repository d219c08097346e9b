-- Four leaves in the place of one.
use Rattle.std.proofs.Common.{◌≡◌, ◌+◌, ◌≤◌, List, [], ◌∷◌, ◌++◌, Bool, true, false, ℕ, refl, sym, subst, arith, length, append_assoc}
use Rattle.std.specs.List.{AllByRecursion}
use Rattle.zorder.specs.Bits.{low_bits}
use Rattle.zorder.specs.Name.{first_key}
use Rattle.bucket_versions.specs.Rows.{Rows, IsRows}
use Rattle.index_layer.specs.Leaves.{AreLeaves, AreAllUnder, has_name}
use Rattle.index_layer.proofs.LeafChanges.{leaf_at}
use Rattle.bit_trie.specs.Tries.{Trie, height, leaves_under, graft}
use Rattle.bit_trie.proofs.TrieLeaves.{HasChildren, Divides, divides-part}
use Rattle.quad_trie.specs.Nodes.{fours}

fours-leaves : (name : List Bool) (a b c d : Rows) → leaves_under name (fours a b c d)
    ≡ leaf_at (name ++ false ∷ false ∷ []) a ∷ leaf_at (name ++ false ∷ true ∷ []) b ∷ leaf_at (name ++ true ∷ false ∷ []) c ∷ leaf_at (name ++ true ∷ true ∷ []) d ∷ []
fours-leaves name a b c d =
    λ i. leaf_at (append_assoc name (false ∷ []) (false ∷ []) i) a ∷ leaf_at (append_assoc name (false ∷ []) (true ∷ []) i) b
    ∷ leaf_at (append_assoc name (true ∷ []) (false ∷ []) i) c ∷ leaf_at (append_assoc name (true ∷ []) (true ∷ []) i) d ∷ []

fours-children : (name : List Bool) (a b c d : Rows) → HasChildren 2 name (a ∷ b ∷ c ∷ d ∷ []) (fours a b c d)
fours-children name a b c d = record { low = omega arith; count = refl; are = fours-leaves name a b c d }

pub divides-fours : (name : List Bool) (key : ℕ) (a b c d : Rows) (buckets : List Rows) (t : Trie) → buckets ≡ a ∷ b ∷ c ∷ d ∷ [] → key ≡ first_key name → height t ≤ 64 → AreLeaves (leaves_under [] t)
    → IsRows a.rows → IsRows b.rows → IsRows c.rows → IsRows d.rows → length name + 2 ≤ 64 → AreAllUnder 2 name buckets → has_name name (leaves_under [] t) ≡ true
    → Divides 2 name buckets t (graft (low_bits 64 key) (fours a b c d) t)
divides-fours name key a b c d buckets t is first h are rising_a rising_b rising_c rising_d short under there =
    let part : HasChildren 2 name buckets (fours a b c d) = subst (λ (bs : List Rows). HasChildren 2 name bs (fours a b c d)) (sym is) (fours-children name a b c d) in
    let rising : AllByRecursion (λ (r : Rows). IsRows r.rows) buckets = subst (AllByRecursion (λ (r : Rows). IsRows r.rows)) (sym is) (rising_a, (rising_b, (rising_c, (rising_d, tt)))) in
    divides-part 2 name buckets (fours a b c d) key t part first h are rising short under there
