use Rattle.std.proofs.Common.{◌≡◌, ◌∙◌, ◌+◌, ◌-◌, ◌≤◌, ℕ, List, length, sym, ap, subst, arith}
use Rattle.zorder.specs.Bits.{low_bits}
use Rattle.kd_trie.specs.declared.stem.Side.{Side}
use Rattle.bit_trie.specs.Tries.{height, bucket_at, name_at}
use Rattle.kd_trie.specs.Nodes.{seen}
use Rattle.kd_trie.specs.Stems.{way_of, stem_over}
use Rattle.kd_trie.specs.Wholes.{sides_of}
use Rattle.kd_trie.proofs.StemLemmas.{fits-under, under-stem, bucket-under, name-length-under}
use Rattle.kd_trie.proofs.stem.Stemmed.leaf_of.Goals as goal

pub leaf_of-requires : goal.leaf_of-requires
leaf_of-requires c =
    let s = c.args.self.now in
    record { fits = fits-under s.stem.name (sides_of s.stem) (seen s.root) (64 - c.len.result) s.stem.named (ap (λ (n : ℕ). 64 - n) c.len.ensures.len) c.requires }

pub returns-then-begins-clause-bucket : goal.returns-then-begins-clause-bucket
returns-then-begins-clause-bucket c =
    let s = c.args.self.now in
    let path = under-stem s.stem.name (sides_of s.stem) c.args.key (64 - c.len.result) s.stem.named (sym c.if-begins.ensures) (ap (λ (n : ℕ). 64 - n) c.len.ensures.len) in
    bucket-under (sides_of s.stem) c.args.key (64 - c.len.result) path (seen s.root) ∙ c.leaf_of.ensures.bucket

pub returns-then-begins-clause-left : goal.returns-then-begins-clause-left
returns-then-begins-clause-left c =
    let s = c.args.self.now in
    let path = under-stem s.stem.name (sides_of s.stem) c.args.key (64 - c.len.result) s.stem.named (sym c.if-begins.ensures) (ap (λ (n : ℕ). 64 - n) c.len.ensures.len) in
    let long = name-length-under (sides_of s.stem) c.args.key (64 - c.len.result) path (seen s.root) in
    let same : length s.stem.name ≡ length (way_of (sides_of s.stem)) = ap length s.stem.named in
    omega (arith, long, same, c.leaf_of.ensures.left, c.len.ensures.len, c.len.ensures.most)

pub leaf_past-requires-clause-height : goal.leaf_past-requires-clause-height
leaf_past-requires-clause-height c =
    let is : c.deref-else-begins.result.now ≡ sides_of c.args.self.now.stem = c.deref-else-begins.ensures.value ∙ ap (λ v. v.items) c.deref.ensures in
    subst (λ (l : List Side). height (stem_over l (seen c.args.self.now.root)) ≤ 64) (sym is) c.requires

pub returns-else-begins-clause-bucket : goal.returns-else-begins-clause-bucket
returns-else-begins-clause-bucket c =
    let is : c.deref-else-begins.result.now ≡ sides_of c.args.self.now.stem = c.deref-else-begins.ensures.value ∙ ap (λ v. v.items) c.deref.ensures in
    ap (λ (l : List Side). bucket_at (low_bits 64 c.args.key) (stem_over l (seen c.args.self.now.root))) (sym is) ∙ c.leaf_past.ensures.bucket

pub returns-else-begins-clause-left : goal.returns-else-begins-clause-left
returns-else-begins-clause-left c =
    let is : c.deref-else-begins.result.now ≡ sides_of c.args.self.now.stem = c.deref-else-begins.ensures.value ∙ ap (λ v. v.items) c.deref.ensures in
    ap (λ (l : List Side). c.leaf_past.result.0 + length (name_at (low_bits 64 c.args.key) (stem_over l (seen c.args.self.now.root)))) (sym is) ∙ c.leaf_past.ensures.left
