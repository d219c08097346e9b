use Rattle.std.proofs.Common.{◌≡◌, ◌∙◌, ◌++◌, [], ap, arith, List, ℕ}
use Rattle.std.proofs.lemmas.List.{append-nil}
use Rattle.std.specs.List.{flat_map}
use Rattle.plain_list.specs.declared.ops.Op.TheVariants as op
use Rattle.csv_rows.specs.declared.rows.InRow.{InRow}
use Rattle.csv_rows.specs.RowLines.{header_line, row_line, rows_text}
use Rattle.csv_rows.proofs.PiecesFacts.{added-all, added-lost, added-more, added-none, counts-lost, puts-fault, puts-is, puts-last}
use Rattle.csv_rows.proofs.RoundTrip.{rows_of-rows_text}
use Rattle.csv_rows.proofs.row_lines.write_rows.Goals as goal

-- the text of rows behind the header
text-is : (empty front : List ℕ) (items rows : List InRow) → empty ≡ [] → front ≡ empty ++ header_line → items ≡ rows → front ++ flat_map row_line items ≡ rows_text rows
unfolding rows_text
text-is empty front items rows none e is = ap (λ l. l ++ flat_map row_line items) (e ∙ ap (λ l. l ++ header_line) none) ∙ ap (λ (l : List InRow). header_line ++ flat_map row_line l) is

abbrev blank : InRow
blank = record { session = 0; op = op.Put 0 (record { x = 0; y = 0 }) 0 }

pub loop-row-init : goal.loop-row-init
loop-row-init g c = added-none row_line _ _ c.add_header.new.piece.items c.as_slice-row-items.result.now

pub loop-row-preserved : goal.loop-row-preserved
loop-row-preserved g c =
    added-more row_line _ _ c.add_header.new.piece.items c.as_slice-row-items.result.now _ _ _ _ _ _ c.make_room.new.piece.items _ blank c.loop-row.invariant c.in_ok-make_room.ensures.bytes c.in_ok-make_room.ensures.cause.same c.add_row.ensures.bytes c.loop-row-test.true

pub returns-in_err-make_room-clause-bytes : goal.returns-in_err-make_room-clause-bytes
returns-in_err-make_room-clause-bytes g c =
    let lost = c.in_err-make_room.ensures.bytes in
    let moved = added-lost row_line _ _ c.add_header.new.piece.items c.as_slice-row-items.result.now _ _ _ _ _ _ c.loop-row.invariant lost.1 in
    puts-is _ _ _ _ c.from_residual.result (append-nil _ ∙ text-is c.new-piece.result.items c.add_header.new.piece.items c.as_slice-row-items.result.now c.args.rows.now c.new-piece.ensures c.add_header.ensures c.as_slice-row-items.ensures.rows)
    (puts-fault _ _ _ _ [] c.from_residual.result c.from_residual.ensures.0 moved)

pub returns-in_err-make_room-clause-cause : goal.returns-in_err-make_room-clause-cause
returns-in_err-make_room-clause-cause g c = counts-lost _ _ _ c.from_residual.result c.from_residual.ensures.0 c.loop-row.invariant.same c.in_err-make_room.ensures.cause.later c.in_err-make_room.ensures.cause.failed

pub returns-clause-bytes : goal.returns-clause-bytes
returns-clause-bytes g c =
    let moved = added-all row_line _ _ c.add_header.new.piece.items c.as_slice-row-items.result.now _ _ _ _ c.loop-row.invariant (omega arith) in
    puts-is _ _ _ _ c.put.result (text-is c.new-piece.result.items c.add_header.new.piece.items c.as_slice-row-items.result.now c.args.rows.now c.new-piece.ensures c.add_header.ensures c.as_slice-row-items.ensures.rows)
    (puts-last _ _ _ _ _ c.put.result moved (puts-is _ _ c.as_slice.result.now _ c.put.result (c.as_slice.ensures.value) c.put.ensures.bytes))

pub returns-in_err-make_room-clause-again : goal.returns-in_err-make_room-clause-again
returns-in_err-make_room-clause-again g c = rows_of-rows_text c.args.rows.now c.as_slice-row-items.ensures.rules

pub returns-clause-again : goal.returns-clause-again
returns-clause-again g c = rows_of-rows_text c.args.rows.now c.as_slice-row-items.ensures.rules
