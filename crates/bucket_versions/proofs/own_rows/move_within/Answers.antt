use Rattle.std.proofs.Common.{◌≡◌, ◌≤◌, ◌∙◌, ◌-◌, ◌+◌, ℕ, suc, List, length, drop, ap, arith}
use Rattle.std.specs.List.{slice_set}
use Rattle.std.proofs.lemmas.List.{length-set, length-take-le, length-drop}
use Rattle.bucket_versions.specs.declared.row.Row.{Row}
use Rattle.bucket_versions.proofs.ListMoves.{moved_later, moved_sooner}
use borrow.Rule.Slice.PartMut.{put_mid, mid_of}
use Rattle.bucket_versions.proofs.own_rows.move_within.Goals as goal

pub returns-then-old-new-clause-later : goal.returns-then-old-new-clause-later
returns-then-old-new-clause-later c =
    let set : List Row = slice_set c.args.rows.now c.args.old c.args.row in
    λ lt. ap (put_mid c.args.old (c.args.new - c.args.old) set) c.rotate_left.ensures.after
    ∙ moved_later c.args.old (c.args.new - c.args.old) (c.args.new - 1) c.args.rows.now c.args.row (omega (arith, lt)) (omega (arith, lt)) (omega (arith, lt, c.requires.new))

pub returns-else-old-new-clause-sooner : goal.returns-else-old-new-clause-sooner
returns-else-old-new-clause-sooner c =
    let set : List Row = slice_set c.args.rows.now c.args.old c.args.row in
    let some : ℕ = c.args.old + 1 - c.args.new in
    let part : List Row = mid_of c.args.new some set in
    λ le.
    let rest : length (drop c.args.new set) ≡ length c.args.rows.now - c.args.new = length-drop c.args.new set ∙ ap (λ (n : ℕ). n - c.args.new) (length-set c.args.rows.now c.args.old c.args.row) in
    let enough : some ≤ length (drop c.args.new set) = omega (arith, le, rest, c.requires.old) in
    let all : length part ≡ some = length-take-le some (drop c.args.new set) enough in
    let front : suc (length part - 1) ≡ some = omega (arith, all, le) in
    ap (put_mid c.args.new some set) c.rotate_right.ensures.after
    ∙ moved_sooner c.args.new some c.args.old (length part - 1) c.args.rows.now c.args.row (omega (arith, le)) front c.requires.old
