use Rattle.std.proofs.Common.{[], arith, ◌∙◌}
use Rattle.std.proofs.lemmas.List.{append-nil}
use Rattle.plain_list.specs.declared.world.Member.{Member}
use Rattle.run_ends.specs.ObjectLines.{line_in}
use Rattle.run_ends.proofs.ObjectFacts.{objects-text}
use Rattle.csv_rows.proofs.PiecesFacts.{added-all, added-behind, added-moved, added-none, counts-lost, puts-fault, puts-is, puts-last}
use Rattle.run_ends.proofs.object_lines.write_objects.Goals as goal

abbrev blank : Member
blank = record { id = 0; at = record { x = 0; y = 0 }; moment = 0 }

pub loop-object-init : goal.loop-object-init
loop-object-init g c = added-none (line_in c.args.region.now) _ _ c.push_str.new.piece.items c.args.objects.now

pub loop-object-preserved : goal.loop-object-preserved
loop-object-preserved g c =
    added-moved (line_in c.args.region.now) _ _ c.push_str.new.piece.items c.args.objects.now _ _ _ _ _ _ _ blank c.loop-object.invariant c.in_ok-add_within.ensures.bytes c.in_ok-add_within.ensures.cause.same c.loop-object-test.true

pub returns-in_err-add_within-clause-bytes : goal.returns-in_err-add_within-clause-bytes
returns-in_err-add_within-clause-bytes g c =
    let lost = c.in_err-add_within.ensures.bytes in
    let moved = added-behind (line_in c.args.region.now) _ _ c.push_str.new.piece.items c.args.objects.now _ _ _ _ _ lost.0 blank c.loop-object.invariant lost.1 c.loop-object-test.true in
    puts-is _ _ _ _ c.from_residual.result (append-nil _ ∙ objects-text c.args.region.now c.args.objects.now c.new-piece.result.items c.push_str.new.piece.items c.new-piece.ensures c.push_str.ensures.bytes)
    (puts-fault _ _ _ _ [] c.from_residual.result c.from_residual.ensures.0 moved)

pub returns-in_err-add_within-clause-cause : goal.returns-in_err-add_within-clause-cause
returns-in_err-add_within-clause-cause g c = counts-lost _ _ _ c.from_residual.result c.from_residual.ensures.0 c.loop-object.invariant.same c.in_err-add_within.ensures.cause.later c.in_err-add_within.ensures.cause.failed

pub returns-clause-bytes : goal.returns-clause-bytes
returns-clause-bytes g c =
    let moved = added-all (line_in c.args.region.now) _ _ c.push_str.new.piece.items c.args.objects.now _ _ _ _ c.loop-object.invariant (omega arith) in
    puts-is _ _ _ _ c.put.result (objects-text c.args.region.now c.args.objects.now c.new-piece.result.items c.push_str.new.piece.items c.new-piece.ensures c.push_str.ensures.bytes)
    (puts-last _ _ _ _ _ c.put.result moved (puts-is _ _ c.as_slice.result.now _ c.put.result (c.as_slice.ensures.value) c.put.ensures.bytes))
