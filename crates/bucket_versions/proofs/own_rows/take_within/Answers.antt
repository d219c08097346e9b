use Rattle.std.proofs.Common.{◌≡◌, ◌∙◌, ℕ, ◌-◌, ◌++◌, List, length, drop, take, ap, arith}
use Rattle.std.specs.List.{remove}
use Rattle.std.proofs.lemmas.List.{take-take}
use Rattle.bucket_versions.specs.declared.row.Row.{Row}
use Rattle.bucket_versions.proofs.ListMoves.{moved_out}
use borrow.Rule.Slice.PartMut.{put_mid}
use Rattle.bucket_versions.proofs.own_rows.take_within.Goals as goal

pub returns-clause-rows : goal.returns-clause-rows
returns-clause-rows c =
    let same : c.deref_mut.result.now ≡ c.args.rows.now.items = c.deref_mut.ensures.value in
    let long : length c.deref_mut.result.now ≡ c.args.rows.now.len = c.deref_mut.ensures.len in
    let k : ℕ = c.args.rows.now.len - 1 in
    let part : List Row = c.rotate_left.new.self in
    let all : List Row = put_mid c.args.place (length c.deref_mut.result.now - c.args.place) c.deref_mut.result.now part in
    let rest : List Row = drop (length all) c.args.rows.now.items in
    c.pop-row.ensures.rest
    ∙ take-take k c.args.rows.now.len (all ++ rest) (omega (arith, c.requires.place))
    ∙ ap (λ (l : List Row). take k (put_mid c.args.place (length c.deref_mut.result.now - c.args.place) c.deref_mut.result.now l ++ rest)) c.rotate_left.ensures.after
    ∙ moved_out c.args.place (length c.deref_mut.result.now - c.args.place) k c.deref_mut.result.now rest
    (omega (arith, long, c.requires.place)) (omega (arith, long, c.requires.place)) (omega (arith, long, c.requires.place))
    ∙ ap (λ (l : List Row). remove l c.args.place) same
