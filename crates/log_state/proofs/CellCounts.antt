-- A history has no more cells than entries.
use Rattle.std.proofs.Common.{◌≤◌, Bool, true, false, cond, List, [], ◌∷◌, length, arith, length-append}
use Rattle.plain_list.specs.declared.ops.Op.{Op}
use Rattle.plain_list.specs.declared.ops.Op.TheVariants as op
use Rattle.plain_list.specs.declared.entries.Entry.{Entry}
use Rattle.plain_list.specs.declared.entries.Entry.TheVariants.{Fail, Call, Begin, Install, Abandon}
use Rattle.plain_list.specs.World.{World}
use Rattle.plain_list.specs.Answer.{answer_of, after_of, is_change}
use Rattle.log_state.specs.Changes.{change_cells, cells_of}

change-few : (o : Op) → length (change_cells o) ≤ 1
change-few (op.Put id at moment) = omega arith
change-few (op.Move id at moment) = omega arith
change-few (op.Remove id) = omega arith
change-few (op.Find id) = omega arith
change-few (op.Within region) = omega arith
change-few (op.Near at k) = omega arith

call-few : (b : Bool) (o : Op) → length (cond b (change_cells o) []) ≤ 1
call-few true o = change-few o
call-few false o = omega arith

pub cells-few : (world : World) (h : List Entry) → length (cells_of world h) ≤ length h
cells-few world [] = omega arith
cells-few world (Call session row o ∷ h) =
    let a = call-few (is_change (answer_of world o)) o in
    let b = cells-few (after_of world o) h in
    let c = length-append (cond (is_change (answer_of world o)) (change_cells o) []) (cells_of (after_of world o) h) in
    omega arith
cells-few world (Begin number name ∷ h) = let b = cells-few world h in omega arith
cells-few world (Install number ∷ h) = let b = cells-few world h in omega arith
cells-few world (Abandon number ∷ h) = let b = cells-few world h in omega arith
cells-few world (Fail cell lost ∷ h) = let b = cells-few world h in omega arith
