use Rattle.std.proofs.Common.{arith, length-take}
use Rattle.recovery.proofs.pieces.front.Goals as goal

pub slice_bounds-copy_from_slice-end-2 : goal.slice_bounds-copy_from_slice-end-2
slice_bounds-copy_from_slice-end-2 c = omega (arith, length-take 32 c.args.piece.now, c.requires)

pub copy_from_slice-requires : goal.copy_from_slice-requires
copy_from_slice-requires c = omega (arith, length-take 32 c.args.piece.now, c.requires)
