-- Calls with their answers.
use Rattle.std.specs.Prelude.{◌≡◌, List, map}
use Rattle.plain_list.specs.declared.ops.Call.{Call}
use Rattle.plain_list.specs.declared.entries.Entry.{Entry}
use Rattle.plain_list.specs.declared.entries.Entry.TheVariants as entry
use Rattle.plain_list.specs.World.{World}
use Rattle.plain_list.specs.History.{replies}

-- the entry of a call
abbrev pub entry_of : Call → Entry
entry_of c = entry.Call c.session c.row c.op

-- each call's answer is the reply at its place
abbrev pub AreReplies : World → List Call → Type 0
AreReplies world calls = map (λ c. c.answer) calls ≡ replies world (map entry_of calls)
