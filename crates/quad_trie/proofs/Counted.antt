-- How many rows are below a place.
use Rattle.std.proofs.Common.{◌≡◌, ◌∙◌, ◌+◌, ◌%◌, Bool, true, false, cond, List, [], length, Some, ap}
use Rattle.bucket_versions.specs.Rows.{Rows}
use Rattle.index_layer.specs.Leaves.{all_rows}
use Rattle.index_layer.specs.Subtree.{subtree}
use Rattle.bit_trie.specs.Tries.{Trie, tip, fork, leaves_under, reach, rows_in}
use Rattle.bit_trie.proofs.Reaching.{reach-half}
use Rattle.bit_trie.proofs.TrieCounts.{rows-reached}
use Rattle.quad_trie.specs.declared.node.Quad.{Quad}
use Rattle.quad_trie.specs.Nodes.{four, quarter_of}
use Rattle.quad_trie.specs.Places.{IsAt, Between}
use Rattle.quad_trie.proofs.Between.{leaf-at}
use Rattle.quad_trie.proofs.Downwards.{even-place}

-- below a leaf's name, a node's, and a half's
module _ (whole : Trie) (name : List Bool) where
  pub count-leaf : (b : Rows) → IsAt whole (tip b) name → length (all_rows (subtree name (leaves_under [] whole))) ≡ length b.rows
  count-leaf b at = rows-reached name whole (tip b) (leaf-at whole b name at)

  pub count-node : (part : Trie) → length name % 2 ≡ 0 → IsAt whole part name → length (all_rows (subtree name (leaves_under [] whole))) ≡ rows_in part
  count-node part even at = rows-reached name whole part (even-place whole part name even at)

  pub count-half : (q : Quad) (m : Between whole (four q) name) (high : Bool) → m.bit ≡ high → length (all_rows (subtree name (leaves_under [] whole))) ≡ rows_in (quarter_of q high false) + rows_in (quarter_of q high true)
  count-half q m high is = by_bit high (here ∙ ap (λ b. Some (cond b one zero)) is)
    where
      zero : Trie
      zero = fork (quarter_of q false false) (quarter_of q false true)

      one : Trie
      one = fork (quarter_of q true false) (quarter_of q true true)

      here : reach name whole ≡ Some (cond m.bit one zero)
      here = ap (λ (n : List Bool). reach n whole) m.named ∙ reach-half m.front m.bit whole zero one m.node.at

      by_bit : (b : Bool) → reach name whole ≡ Some (cond b one zero) → length (all_rows (subtree name (leaves_under [] whole))) ≡ rows_in (quarter_of q b false) + rows_in (quarter_of q b true)
      by_bit true at = rows-reached name whole one at
      by_bit false at = rows-reached name whole zero at
