-- Worked values, computed.
use Rattle.std.specs.Prelude.{◌≡◌, ℕ, List, [], ◌∷◌, None, codes}
use Rattle.std.proofs.Common.{refl, inl, inr, get_or, ap, sym, ◌∙◌}
use Rattle.csv_rows.specs.Numbers.{number_in, is_between, is_number}
use Rattle.command_words.specs.Words.{AsksToPlay, IsLogged, NamesPair, SpellsBox, SpellsInit}

asks_for_64 : AsksToPlay (codes "play" ∷ codes "-" ∷ []) 64
asks_for_64 = (None, inl (refl, refl))

asks_for_4 : AsksToPlay (codes "play" ∷ codes "-" ∷ codes "--bucket" ∷ codes "004" ∷ []) 4
unfolding is_between is_number
asks_for_4 = (None, inr (codes "004", refl, refl))

three_is_none : number_in 4 4096 (codes "3") ≡ None
unfolding is_between is_number
three_is_none = refl

more_is_none : number_in 4 4096 (codes "4097") ≡ None
unfolding is_between is_number
more_is_none = refl

over_a_log : IsLogged (codes "play" ∷ codes "moves.log" ∷ [])
over_a_log = (codes "moves.log", 64, (refl, inl (refl, refl)))

makes_pairs : SpellsInit (codes "init" ∷ codes "moves.log" ∷ []) (codes "moves.log") 1
makes_pairs = inl (refl, refl)

makes_fours : SpellsInit (codes "init" ∷ codes "moves.log" ∷ codes "--quad" ∷ []) (codes "moves.log") 2
makes_fours = inr (refl, refl)

-- a box that is one column wide
column : SpellsBox (codes "5") (codes "0") (codes "5") (codes "9") (record { lo = record { x = 5; y = 0 }; hi = record { x = 5; y = 9 } })
unfolding is_between is_number
column = record { lo_x = refl; lo_y = refl; hi_x = refl; hi_y = refl }

-- 4 is no upper bound for a box that begins at 5
turned : number_in 5 4294967295 (codes "4") ≡ None
unfolding is_between is_number
turned = refl

-- a file can't follow itself
abbrev alone : List (List ℕ)
alone = codes "follow" ∷ codes "moves.log" ∷ codes "moves.log" ∷ []

none_alone : (file new : List ℕ) → NamesPair (codes "follow") alone file new → ⊥
none_alone file new names = names.differ (ap (λ (ws : List (List ℕ)). get_or ws 1 []) (sym names.spells) ∙ ap (λ (ws : List (List ℕ)). get_or ws 2 []) names.spells)
