-- The texts of answers.
use Rattle.std.specs.Prelude.{ℕ, List, [], ◌++◌, codes}
use Rattle.std.specs.List.{join_by}
use Rattle.std.specs.Fmt.{decimal}
use Rattle.zorder.specs.declared.points.Point.{Point}
use Rattle.zorder.specs.declared.points.Placed.{Placed}
use Rattle.plain_list.specs.declared.ops.Answer.{Answer}
use Rattle.plain_list.specs.declared.ops.Answer.TheVariants as ans
use Rattle.plain_list.specs.declared.world.Stamped.{Stamped}

-- x:y
abbrev pub point_text : Point → List ℕ
point_text p = decimal p.x ++ codes ":" ++ decimal p.y

-- x:y:moment
abbrev pub stamped_text : Stamped → List ℕ
stamped_text s = point_text s.at ++ codes ":" ++ decimal s.moment

-- id:x:y
abbrev pub placed_text : Placed → List ℕ
placed_text m = decimal m.id ++ codes ":" ++ point_text m.at

-- ids and points with semicolons between them
abbrev pub listed_text : List Placed → List ℕ
listed_text list = join_by placed_text (codes ";") list

-- the word of an answer
abbrev pub word_text : Answer → List ℕ
word_text ans.Done = codes "done"
word_text (ans.Present s) = codes "present"
word_text ans.Full = codes "full"
word_text (ans.Moved s) = codes "moved"
word_text (ans.Stale s) = codes "stale"
word_text (ans.Gone s) = codes "gone"
word_text (ans.At s) = codes "at"
word_text ans.Absent = codes "absent"
word_text (ans.Found ms) = codes "found"
word_text (ans.Many n) = codes "many"

-- the detail of an answer after its word; points are in the order of the list
abbrev pub detail_text : Answer → List ℕ
detail_text ans.Done = []
detail_text (ans.Present s) = stamped_text s
detail_text ans.Full = []
detail_text (ans.Moved s) = stamped_text s
detail_text (ans.Stale s) = stamped_text s
detail_text (ans.Gone s) = stamped_text s
detail_text (ans.At s) = stamped_text s
detail_text ans.Absent = []
detail_text (ans.Found ms) = listed_text ms
detail_text (ans.Many n) = decimal n

-- a row's number, its place and the word of its answer, with a comma after each
abbrev pub front_text : ℕ → ℕ → Answer → List ℕ
front_text row place answer = decimal row ++ codes "," ++ decimal place ++ codes "," ++ word_text answer ++ codes ","

-- the line for a row, its place and its answer
unfoldable pub line_text : ℕ → ℕ → Answer → List ℕ
line_text row place answer = front_text row place answer ++ detail_text answer ++ codes "\n"

-- the title line of the answers
abbrev pub title_line : List ℕ
title_line = codes "row,place,answer,detail\n"
