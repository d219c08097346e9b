-- Two leaves in the place of one.
use Rattle.std.proofs.Common.{◌≡◌, ◌+◌, ◌≤◌, ℕ, Bool, true, List, [], ◌∷◌, refl, sym, subst, arith, length}
use Rattle.std.specs.List.{AllByRecursion}
use Rattle.zorder.specs.Bits.{low_bits}
use Rattle.zorder.specs.Name.{first_key}
use Rattle.bucket_versions.specs.Rows.{Rows, IsRows}
use Rattle.index_layer.specs.Leaves.{AreLeaves, AreAllUnder, has_name}
use Rattle.bit_trie.specs.Tries.{Trie, height, leaves_under, graft}
use Rattle.bit_trie.proofs.TrieLeaves.{HasChildren, Divides, divides-part}
use Rattle.kd_trie.specs.Nodes.{twins}

twins-children : (name : List Bool) (a b : Rows) → HasChildren 1 name (a ∷ b ∷ []) (twins a b)
twins-children name a b = record { low = omega arith; count = refl; are = refl }

pub divides-twins : (name : List Bool) (key : ℕ) (a b : Rows) (buckets : List Rows) (t : Trie) → buckets ≡ a ∷ b ∷ [] → key ≡ first_key name → height t ≤ 64 → AreLeaves (leaves_under [] t) → IsRows a.rows → IsRows b.rows
    → length name + 1 ≤ 64 → AreAllUnder 1 name buckets → has_name name (leaves_under [] t) ≡ true → Divides 1 name buckets t (graft (low_bits 64 key) (twins a b) t)
divides-twins name key a b buckets t is first h are rising_a rising_b short under there =
    let part : HasChildren 1 name buckets (twins a b) = subst (λ (bs : List Rows). HasChildren 1 name bs (twins a b)) (sym is) (twins-children name a b) in
    let rising : AllByRecursion (λ (r : Rows). IsRows r.rows) buckets = subst (AllByRecursion (λ (r : Rows). IsRows r.rows)) (sym is) (rising_a, (rising_b, tt)) in
    divides-part 1 name buckets (twins a b) key t part first h are rising short under there
