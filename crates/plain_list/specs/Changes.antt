-- What calls have changed.
use Rattle.std.specs.Prelude.{ℕ, suc, List, [], ◌∷◌, ◌++◌, Option, Some, None, option_to_list}
use Rattle.plain_list.specs.declared.ops.Op.{Op}
use Rattle.plain_list.specs.declared.ops.Op.TheVariants.{Put, Move, Remove}
use Rattle.plain_list.specs.declared.ops.Answer.{Answer}
use Rattle.plain_list.specs.declared.ops.Answer.TheVariants.{Done, Moved, Gone}
use Rattle.plain_list.specs.declared.entries.Entry.{Entry}
use Rattle.plain_list.specs.declared.entries.Entry.TheVariants.{Fail, Call, Begin, Install, Abandon}
use Rattle.plain_list.specs.declared.object_changes.Change.{Change}
use Rattle.plain_list.specs.World.{World}
use Rattle.plain_list.specs.Answer.{answer_of, after_of}

-- what an operation with this answer at this place has changed: one object, which was put where it wasn't, moved from where it was kept, or
-- removed there
abbrev pub change_of : ℕ → Op → Answer → Option Change
change_of place (Put id at moment) Done = Some (record { place = place; id = id; before = None; after = Some at })
change_of place (Move id at moment) (Moved kept) = Some (record { place = place; id = id; before = Some kept.at; after = Some at })
change_of place (Remove id) (Gone kept) = Some (record { place = place; id = id; before = Some kept.at; after = None })
change_of place _ _ = None

-- the changes of a history from a world on, in order, where so many calls came before it
abbrev pub changes_from : ℕ → World → List Entry → List Change
changes_from calls world [] = []
changes_from calls world (Call session row op ∷ h) = option_to_list (change_of (suc calls) op (answer_of world op)) ++ changes_from (suc calls) (after_of world op) h
changes_from calls world (Begin number name ∷ h) = changes_from calls world h
changes_from calls world (Install number ∷ h) = changes_from calls world h
changes_from calls world (Abandon number ∷ h) = changes_from calls world h
changes_from calls world (Fail cell lost ∷ h) = changes_from calls world h

-- the changes of a history from a world on, in order
abbrev pub changes_of : World → List Entry → List Change
changes_of world h = changes_from 0 world h
