use Rattle.std.proofs.Common.{◌-◌, ℕ, sym, ap, ◌∙◌}
use Rattle.kd_trie.specs.Nodes.{seen}
use Rattle.kd_trie.specs.Wholes.{sides_of}
use Rattle.kd_trie.proofs.StemLemmas.{fits-under}
use Rattle.kd_trie.proofs.StemWalks.{agrees-stem}
use Rattle.kd_trie.proofs.stem.Stemmed.parting.Goals as goal

pub agreed-requires : goal.agreed-requires
agreed-requires c =
    let s = c.args.self.now in
    record { fits = fits-under s.stem.name (sides_of s.stem) (seen s.root) (64 - c.len.result) s.stem.named (ap (λ (n : ℕ). 64 - n) c.len.ensures.len) c.requires }

pub returns-then-begins-2-clause-agrees : goal.returns-then-begins-2-clause-agrees
returns-then-begins-2-clause-agrees c =
    let s = c.args.self.now in
    agrees-stem s.stem.name (sides_of s.stem) c.args.from c.args.to (64 - c.len.result) c.agreed.result.0 (seen s.root) (seen c.agreed.result.1.now) s.stem.named
    (sym c.begins.ensures ∙ c.if-begins.true) (sym c.begins-then-begins.ensures ∙ c.if-begins-2.true) (ap (λ (n : ℕ). 64 - n) c.len.ensures.len) c.agreed.ensures.agrees
