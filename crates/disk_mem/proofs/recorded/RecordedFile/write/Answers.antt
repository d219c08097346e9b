use Rattle.std.proofs.Common.{◌≡◌, ◌+◌, ◌≤◌, length, ap, arith}
use Rattle.disk_mem.specs.Changes.{written}
use Rattle.disk_mem.specs.Recorded.{FileView}
use Rattle.disk_mem.proofs.KeptLemmas.{from_ok, extended, IsRecordOf-write, changes-written, view-noted}
use Rattle.disk_mem.proofs.recorded.RecordedFile.write.Goals as goal

pub invariant_of-self : goal.invariant_of-self
invariant_of-self c =
    let pieces = c.self.inside.pieces in
    let piece = c.args.piece.now in
    let here : c.len.result ≡ length pieces.items = omega (arith, c.len.ensures, pieces.ok) in
    let room = ap (λ (v : FileView). v.room) c.self.view_is in
    let so_far = ap (λ (v : FileView). written v.changes) c.self.view_is in
    let fits : pieces.len + length piece ≤ pieces.cap = omega (arith, room, so_far, pieces.ok, c.requires.pieces, c.self.invariant.record_of.lengths, c.self.invariant.room_for_pieces) in
    let grown = extended c.extend_from_slice.result _ _ _ (c.extend_from_slice.ensures.succeeds fits) c.extend_from_slice.ensures.items in
    let put = from_ok c.put.result _ _ c.put.ensures.put c.put.ensures.full (λ full. omega (arith, full, room, c.requires.room, c.self.invariant.room_for_held)) in
    record {
      record_of = IsRecordOf-write _ c.self.inside.held.items _ pieces.items piece _ c.self.inside.touches.items _ c.args.at c.len.result c.requires.small c.self.invariant.record_of here put grown c.push_reserved.ensures.items;
      room_for_pieces = omega (arith, c.extend_from_slice.ensures.capacity, c.self.invariant.room_for_pieces);
      room_for_held = omega (arith, c.put.ensures.capacity, c.self.invariant.room_for_held);
    }

pub returns : goal.returns
returns c =
    let pieces = c.self.inside.pieces in
    let piece = c.args.piece.now in
    let here : c.len.result ≡ length pieces.items = omega (arith, c.len.ensures, pieces.ok) in
    let room = ap (λ (v : FileView). v.room) c.self.view_is in
    let so_far = ap (λ (v : FileView). written v.changes) c.self.view_is in
    let fits : pieces.len + length piece ≤ pieces.cap = omega (arith, room, so_far, pieces.ok, c.requires.pieces, c.self.invariant.record_of.lengths, c.self.invariant.room_for_pieces) in
    let grown = extended c.extend_from_slice.result _ _ _ (c.extend_from_slice.ensures.succeeds fits) c.extend_from_slice.ensures.items in
    let same = changes-written _ _ pieces.items piece _ c.self.inside.touches.items _ c.args.at c.len.result c.self.invariant.record_of here grown c.push_reserved.ensures.items in
    view-noted _ _ _ _ _ _ _ _ _ _ c.self.view_is same c.push_reserved.ensures.capacity c.push_reserved.ensures.len
