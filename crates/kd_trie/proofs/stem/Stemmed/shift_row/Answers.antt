use Rattle.std.proofs.Common.{◌∙◌, ◌-◌, ℕ, true, false, refl, ap}
use Rattle.zorder.specs.Bits.{low_bits}
use Rattle.bucket_versions.specs.Rows.{after_put, after_gone}
use Rattle.bit_trie.specs.Tries.{changed_at}
use Rattle.kd_trie.specs.Nodes.{seen}
use Rattle.kd_trie.specs.Wholes.{sides_of, whole}
use Rattle.kd_trie.proofs.StemLemmas.{made-under, changed-under}
use Rattle.kd_trie.proofs.Opened.{opened, counted, row-there}
use Rattle.kd_trie.proofs.stem.Stemmed.shift_row.Goals as goal

pub shift_row-requires-clause-fits : goal.shift_row-requires-clause-fits
shift_row-requires-clause-fits g c =
    let begun = c.in_ok-open_to-2.ensures.whole ∙ c.in_ok-open_to.ensures.whole in
    let o = opened c.open_to-2.new.self c.args.to.now.row.key c.len-left.result (whole c.args.self.now) begun c.in_ok-open_to-2.ensures.under c.len-left.ensures.len c.requires.height in
    o.fits

pub shift_row-requires-clause-rows : goal.shift_row-requires-clause-rows
shift_row-requires-clause-rows g c =
    let s = c.open_to-2.new.self in
    let from = c.args.from.now in
    let left : ℕ = 64 - c.len-left.result in
    let begun = c.in_ok-open_to-2.ensures.whole ∙ c.in_ok-open_to.ensures.whole in
    let o = opened s from.row.key c.len-left.result (whole c.args.self.now) begun (c.in_ok-open_to-2.ensures.keeps from.row.key c.in_ok-open_to.ensures.under) c.len-left.ensures.len c.requires.height in
    let p = opened s c.args.to.now.row.key c.len-left.result (whole c.args.self.now) begun c.in_ok-open_to-2.ensures.under c.len-left.ensures.len c.requires.height in
    record {
      present = row-there o from.row true (λ t. t) (λ t. t) refl c.requires.rows.present;
      absent = row-there p c.args.to.now.row false (changed_at (low_bits 64 from.row.key) (after_gone from)) (changed_at (low_bits left from.row.key) (after_gone from))
          (changed-under (sides_of s.stem) from.row.key left o.path (after_gone from) (seen s.root)) c.requires.rows.absent;
    }

pub returns-clause-ok : goal.returns-clause-ok
returns-clause-ok g c =
    let s = c.open_to-2.new.self in
    let from = c.args.from.now in
    let to = c.args.to.now in
    let left : ℕ = 64 - c.len-left.result in
    let begun = c.in_ok-open_to-2.ensures.whole ∙ c.in_ok-open_to.ensures.whole in
    let o = opened s from.row.key c.len-left.result (whole c.args.self.now) begun (c.in_ok-open_to-2.ensures.keeps from.row.key c.in_ok-open_to.ensures.under) c.len-left.ensures.len c.requires.height in
    let p = opened s to.row.key c.len-left.result (whole c.args.self.now) begun c.in_ok-open_to-2.ensures.under c.len-left.ensures.len c.requires.height in
    made-under c.shift_row.new.to.ended (sides_of s.stem) (λ t. changed_at (low_bits 64 to.row.key) (after_put to) (changed_at (low_bits 64 from.row.key) (after_gone from) t))
    (λ t. changed_at (low_bits left to.row.key) (after_put to) (changed_at (low_bits left from.row.key) (after_gone from) t)) (seen s.root) (seen c.shift_row.new.node) (whole c.args.self.now) (whole c.wind.new.self) begun c.wind.ensures
    (ap (changed_at (low_bits 64 to.row.key) (after_put to)) (changed-under (sides_of s.stem) from.row.key left o.path (after_gone from) (seen s.root))
    ∙ changed-under (sides_of s.stem) to.row.key left p.path (after_put to) (changed_at (low_bits left from.row.key) (after_gone from) (seen s.root)))
    c.shift_row.ensures.ok

pub returns-clause-count : goal.returns-clause-count
returns-clause-count g c =
    let begun = c.in_ok-open_to-2.ensures.whole ∙ c.in_ok-open_to.ensures.whole in
    let o = opened c.open_to-2.new.self c.args.to.now.row.key c.len-left.result (whole c.args.self.now) begun c.in_ok-open_to-2.ensures.under c.len-left.ensures.len c.requires.height in
    counted o c.shift_row.new.to.ended (seen c.shift_row.new.node) (whole c.wind.new.self) c.wind.ensures c.shift_row.ensures.count
