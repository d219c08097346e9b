-- Worked examples of fresh logs.
use Rattle.std.specs.Prelude.{◌≡◌, true, false, List, [], ◌∷◌, length, map}
use Rattle.std.proofs.Common.{refl}
use Rattle.zorder.specs.Examples.{pt}
use Rattle.cell_format.specs.declared.cell.Cell.{Cell}
use Rattle.cell_format.specs.declared.cell.Cell.TheVariants.{Put, Move, Begin, Install}
use Rattle.plain_list.specs.Examples.{obj}
use Rattle.cell_format.specs.Spelling.{newest, header_text, body_of}
use Rattle.split_log.specs.LogText.{log_text}
use Rattle.zorder.specs.Name.{first_key}
use Rattle.log_state.specs.Recovers.{state_of}
use Rattle.log_compact.specs.Fresh.{inner_names, fresh_cells}
use Rattle.plain_list.specs.State.{ComesBySplits}
use Rattle.log_compact.specs.Walk.{new_names}
use Rattle.log_compact.specs.State.{IsStateOf}

-- Five puts, and the split of the whole space.
abbrev pub five : List Cell
five =
    Put 1 (pt 0 0) 0
    ∷ Put 2 (pt 2147483648 0) 0
    ∷ Put 3 (pt 0 2147483648) 0
    ∷ Put 4 (pt 2147483648 2147483648) 0
    ∷ Put 5 (pt 1 1) 0
    ∷ Begin 1 []
    ∷ Install 1
    ∷ []

abbrev pub fresh_of : List Cell → List Cell
fresh_of cells = fresh_cells 1 (state_of 1 cells).world (state_of 1 cells).leaves

fresh_five : fresh_of five
    ≡ Begin 1 [] ∷ Install 1 ∷ Put 1 (pt 0 0) 0 ∷ Put 2 (pt 2147483648 0) 0 ∷ Put 3 (pt 0 2147483648) 0 ∷ Put 4 (pt 2147483648 2147483648) 0 ∷ Put 5 (pt 1 1) 0 ∷ []
fresh_five = refl

fresh_five-length : length (log_text newest 1 (fresh_of five) 0) ≡ 241
unfolding header_text body_of first_key
fresh_five-length = refl

-- A begin alone leaves nothing to write.
fresh_begin : fresh_of (Begin 1 [] ∷ []) ≡ []
fresh_begin = refl

fresh_begin-length : length (log_text newest 1 (fresh_of (Begin 1 [] ∷ [])) 0) ≡ 17
unfolding header_text
fresh_begin-length = refl

-- An object that was moved is written once, with its last moment.
fresh_moved : fresh_of (Put 7 (pt 3 5) 5 ∷ Move 7 (pt 4 5) 9 ∷ []) ≡ Put 7 (pt 4 5) 9 ∷ []
fresh_moved = refl

-- A name comes before its extensions. Those in its zero half come before those in the other half.
inner_deep : inner_names 1 ((false ∷ false ∷ []) ∷ (false ∷ true ∷ false ∷ []) ∷ (false ∷ true ∷ true ∷ []) ∷ (true ∷ false ∷ []) ∷ (true ∷ true ∷ []) ∷ [])
    ≡ [] ∷ (false ∷ []) ∷ (false ∷ true ∷ []) ∷ (true ∷ []) ∷ []
inner_deep = refl

-- Each inner name comes at the first leaf under it.
walked_deep : map (new_names 1) ((false ∷ false ∷ []) ∷ (false ∷ true ∷ false ∷ []) ∷ (false ∷ true ∷ true ∷ []) ∷ (true ∷ false ∷ []) ∷ (true ∷ true ∷ []) ∷ [])
    ≡ ([] ∷ (false ∷ []) ∷ []) ∷ ((false ∷ true ∷ []) ∷ []) ∷ [] ∷ ((true ∷ []) ∷ []) ∷ [] ∷ []
unfolding first_key
walked_deep = refl

-- The same for splits by two bits at once.
inner_two : inner_names 2 ((false ∷ false ∷ []) ∷ (false ∷ true ∷ []) ∷ (true ∷ false ∷ []) ∷ (true ∷ true ∷ false ∷ false ∷ []) ∷ (true ∷ true ∷ false ∷ true ∷ []) ∷ (true ∷ true ∷ true ∷ false ∷ []) ∷ (true ∷ true ∷ true ∷ true ∷ []) ∷ [])
    ≡ [] ∷ (true ∷ true ∷ []) ∷ []
inner_two = refl

state_five : IsStateOf 1 (fresh_of five) (state_of 1 five).world (state_of 1 five).leaves
state_five = record { legal = refl; world_is = refl; leaves_are = refl; at_rest = refl }

-- The fresh log of leaves that two splits create.
state_deep : IsStateOf 1 (fresh_cells 1 (obj 7 3 5 9 ∷ []) ((false ∷ false ∷ []) ∷ (false ∷ true ∷ []) ∷ (true ∷ []) ∷ [])) (obj 7 3 5 9 ∷ []) ((false ∷ false ∷ []) ∷ (false ∷ true ∷ []) ∷ (true ∷ []) ∷ [])
state_deep = record { legal = refl; world_is = refl; leaves_are = refl; at_rest = refl }

state_quad : IsStateOf 2 (fresh_cells 2 [] ((false ∷ false ∷ []) ∷ (false ∷ true ∷ []) ∷ (true ∷ false ∷ []) ∷ (true ∷ true ∷ []) ∷ [])) [] ((false ∷ false ∷ []) ∷ (false ∷ true ∷ []) ∷ (true ∷ false ∷ []) ∷ (true ∷ true ∷ []) ∷ [])
state_quad = record { legal = refl; world_is = refl; leaves_are = refl; at_rest = refl }

by_splits : ComesBySplits 1 ((false ∷ false ∷ []) ∷ (false ∷ true ∷ []) ∷ (true ∷ []) ∷ [])
by_splits = record { names = [] ∷ (false ∷ []) ∷ []; leaves_are = refl }
