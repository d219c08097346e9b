-- Worked places, splits and numbers, computed.
use Rattle.std.specs.Prelude.{◌≡◌, List, [], ◌∷◌, Some}
use Rattle.std.proofs.Common.{refl}
use Rattle.zorder.specs.Key.{key_of}
use Rattle.zorder.specs.Examples.{pt}
use Rattle.plain_list.specs.declared.ops.Op.TheVariants as op
use Rattle.plain_list.specs.declared.entries.Entry.{Entry}
use Rattle.plain_list.specs.declared.entries.Entry.TheVariants as entry
use Rattle.plain_list.specs.State.{empty_state}
use Rattle.plain_list.specs.History.{world_after}
use Rattle.lane_history.specs.SessionRows.{row_place}
use Rattle.lane_history.specs.Settled.{stray_begins}
use Rattle.play_run.specs.Lines.{summary_of}

-- two objects in a bucket of one row, a split of the whole space, and a find
abbrev pub history : List Entry
history = entry.Call 1 1 (op.Put 7 (pt 3 5) 0) ∷ entry.Call 1 2 (op.Put 9 (pt 2147483648 0) 0) ∷ entry.Begin 1 [] ∷ entry.Install 1 ∷ entry.Call 1 3 (op.Find 7) ∷ []

-- only calls count for places
third_place : row_place 3 history ≡ Some 3
third_place = refl

none_stray : stray_begins 1 1 empty_state history ≡ 0
none_stray = refl

-- no leaf has more than two rows, so the split is stray
one_stray : stray_begins 1 2 empty_state history ≡ 1
one_stray = refl

-- the leaf has more than one row, but its split is abandoned
abandoned : stray_begins 1 1 empty_state (entry.Call 1 1 (op.Put 7 (pt 3 5) 0) ∷ entry.Call 1 2 (op.Put 9 (pt 3 5) 0) ∷ entry.Begin 1 [] ∷ entry.Abandon 1 ∷ []) ≡ 1
abandoned = refl

-- an object at the point of key 27 is left, and one at the point of key 2 was removed
one_left : summary_of 3 (world_after [] (entry.Call 1 1 (op.Put 7 (pt 3 5) 0) ∷ entry.Call 1 2 (op.Put 9 (pt 1 0) 0) ∷ entry.Call 1 3 (op.Remove 9) ∷ [])) ≡ record { rows = 3; points = 1; sum = 27 }
unfolding key_of
one_left = refl
