-- Ways down a fork, by the bit that they go on with.
use Rattle.std.proofs.Common.{◌≡◌, ◌-◌, ◌==◌, ◌<◌, ◌∙◌, ℕ, suc, true, false, cond, ap, arith}
use Rattle.std.specs.Int.{bit_at}
use Rattle.zorder.specs.Bits.{low_bits}
use Rattle.bucket_versions.specs.Rows.{Rows}
use Rattle.bit_trie.specs.Tries.{Trie, fork, graft, changed_at, rows_at}

again : (left : ℕ) → 0 < left → left ≡ suc (left - 1)
again left some = omega (arith, some)

pub changed_one : (left key : ℕ) (f : Rows → Rows) (z o : Trie) → 0 < left → (bit_at key (left - 1) == 1) ≡ true → changed_at (low_bits left key) f (fork z o) ≡ fork z (changed_at (low_bits (left - 1) key) f o)
changed_one left key f z o some e =
    let rest = low_bits (left - 1) key in
    ap (λ (n : ℕ). changed_at (low_bits n key) f (fork z o)) (again left some) ∙ (λ i. cond (e i) (fork z (changed_at rest f o)) (fork (changed_at rest f z) o))

pub changed_zero : (left key : ℕ) (f : Rows → Rows) (z o : Trie) → 0 < left → (bit_at key (left - 1) == 1) ≡ false → changed_at (low_bits left key) f (fork z o) ≡ fork (changed_at (low_bits (left - 1) key) f z) o
changed_zero left key f z o some e =
    let rest = low_bits (left - 1) key in
    ap (λ (n : ℕ). changed_at (low_bits n key) f (fork z o)) (again left some) ∙ (λ i. cond (e i) (fork z (changed_at rest f o)) (fork (changed_at rest f z) o))

pub rows_one : (left key : ℕ) (z o : Trie) → 0 < left → (bit_at key (left - 1) == 1) ≡ true → rows_at (low_bits left key) (fork z o) ≡ rows_at (low_bits (left - 1) key) o
rows_one left key z o some e =
    let rest = low_bits (left - 1) key in
    ap (λ (n : ℕ). rows_at (low_bits n key) (fork z o)) (again left some) ∙ (λ i. cond (e i) (rows_at rest o) (rows_at rest z))

pub rows_zero : (left key : ℕ) (z o : Trie) → 0 < left → (bit_at key (left - 1) == 1) ≡ false → rows_at (low_bits left key) (fork z o) ≡ rows_at (low_bits (left - 1) key) z
rows_zero left key z o some e =
    let rest = low_bits (left - 1) key in
    ap (λ (n : ℕ). rows_at (low_bits n key) (fork z o)) (again left some) ∙ (λ i. cond (e i) (rows_at rest o) (rows_at rest z))

pub graft_one : (left key : ℕ) (s z o : Trie) → 0 < left → (bit_at key (left - 1) == 1) ≡ true → graft (low_bits left key) s (fork z o) ≡ fork z (graft (low_bits (left - 1) key) s o)
graft_one left key s z o some e =
    let rest = low_bits (left - 1) key in
    ap (λ (n : ℕ). graft (low_bits n key) s (fork z o)) (again left some) ∙ (λ i. cond (e i) (fork z (graft rest s o)) (fork (graft rest s z) o))

pub graft_zero : (left key : ℕ) (s z o : Trie) → 0 < left → (bit_at key (left - 1) == 1) ≡ false → graft (low_bits left key) s (fork z o) ≡ fork (graft (low_bits (left - 1) key) s z) o
graft_zero left key s z o some e =
    let rest = low_bits (left - 1) key in
    ap (λ (n : ℕ). graft (low_bits n key) s (fork z o)) (again left some) ∙ (λ i. cond (e i) (fork z (graft rest s o)) (fork (graft rest s z) o))
