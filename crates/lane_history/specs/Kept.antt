-- Rows that lanes kept, compared with the places and answers of a history.
use Rattle.std.specs.Prelude.{◌≡◌, List, [], ◌∷◌, Some, ⊤}
use Rattle.plain_list.specs.declared.entries.Entry.{Entry}
use Rattle.plain_list.specs.World.{World}
use Rattle.plain_list.specs.History.{reply_at}
use Rattle.sessions.specs.declared.store.lanes.KeptRow.{KeptRow}
use Rattle.sessions.specs.declared.store.lanes.Lane.{Lane}
use Rattle.lane_history.specs.SessionRows.{row_place}

-- the kept row has the place of its call, and the answer there
pub record IsRight (world : World) (h : List Entry) (kept : KeptRow) : Type 0 where
  pub place : row_place kept.row h ≡ Some kept.place
  pub answer : reply_at world h kept.place ≡ Some kept.answer

abbrev pub AreRight : World → List Entry → List KeptRow → Type 0
AreRight world h [] = ⊤
AreRight world h (k ∷ kept) = IsRight world h k × AreRight world h kept

-- the same for the rows of all lanes
abbrev pub AllRight : {I D O P : Type 0} → World → List Entry → List (Lane I D O P) → Type 0
AllRight world h [] = ⊤
AllRight world h (lane ∷ lanes) = AreRight world h lane.kept.items × AllRight world h lanes
