-- The words of the command line.
use Rattle.std.specs.Prelude.{◌≡◌, ◌≢◌, ◌⊎◌, ℕ, ◌==◌, Bool, false, not, List, [], ◌∷◌, Option, Some, None, MatchOption, codes, IsTrue}
use Rattle.zorder.specs.declared.points.Region.{Region}
use Rattle.csv_rows.specs.Numbers.{number_in}
use Rattle.command_words.specs.declared.trials.Made.{Made}

-- The commands. Init: create a log in a file, with splits of this width. Check: inspect the log in a file. Play: play
-- rows over the log in a file, or over none, with buckets of this size. Show: list the objects of a file's log in a
-- box. Trial: play generated rows over the log in a file, or over none. Compact: write a file's log from scratch into
-- another file. Watch: report who enters and leaves fences along a file's log. Follow: make the second file follow the
-- log in the first.
pub data Command : Type 0 where
  Init : List ℕ → ℕ → Command
  Check : List ℕ → Command
  Play : Option (List ℕ) → ℕ → Command
  Show : List ℕ → Region → Command
  Trial : Option (List ℕ) → Made → Command
  Compact : List ℕ → List ℕ → Command
  Watch : List ℕ → Command
  Follow : List ℕ → List ℕ → Command

-- whether a word names a file: it is not empty and does not begin with `-`
abbrev pub is_file_name : List ℕ → Bool
is_file_name [] = false
is_file_name (c ∷ cs) = not (c == 45)

-- the words are this command and the name of this file
abbrev pub NamesFile : List ℕ → List (List ℕ) → List ℕ → Type 0
NamesFile command words file = (words ≡ command ∷ file ∷ []) × IsTrue (is_file_name file)

-- the words are no such words
abbrev pub NamesNoFile : List ℕ → List (List ℕ) → Type 0
NamesNoFile command words = (file : List ℕ) → NamesFile command words file → ⊥

-- the words of init, with `word` in the place of a file; the width is 1, or 2 with `--quad`
abbrev pub SpellsInit : List (List ℕ) → List ℕ → ℕ → Type 0
SpellsInit words word width = ((words ≡ codes "init" ∷ word ∷ []) × (width ≡ 1)) ⊎ ((words ≡ codes "init" ∷ word ∷ codes "--quad" ∷ []) × (width ≡ 2))

-- the words are no such words
abbrev pub SpellsNoInit : List (List ℕ) → Type 0
SpellsNoInit words = (word : List ℕ) (width : ℕ) → SpellsInit words word width → ⊥

-- the words of play, with `word` in the place of a file; the size is 64, or the number from 4 to 4,096 after `--bucket`
abbrev pub SpellsPlay : List (List ℕ) → List ℕ → ℕ → Type 0
SpellsPlay words word size =
    ((words ≡ codes "play" ∷ word ∷ []) × (size ≡ 64))
    ⊎ ((number : List ℕ) × (words ≡ codes "play" ∷ word ∷ codes "--bucket" ∷ number ∷ []) × (number_in 4 4096 number ≡ Some size))

-- the words are no such words
abbrev pub SpellsNoPlay : List (List ℕ) → Type 0
SpellsNoPlay words = (word : List ℕ) (size : ℕ) → SpellsPlay words word size → ⊥

-- two words are `--bucket` and a size from 4 to 4,096
abbrev pub SpellsSize : List ℕ → List ℕ → ℕ → Type 0
SpellsSize option number size = (option ≡ codes "--bucket") × (number_in 4 4096 number ≡ Some size)

-- the two words are no such words
abbrev pub SpellsNoSize : List ℕ → List ℕ → Type 0
SpellsNoSize option number = option ≡ codes "--bucket" → (size : ℕ) → number_in 4 4096 number ≡ Some size → ⊥

-- Some has the value that the words spell, and None means that they spell no value
abbrev pub ReadsWord : {T : Type 0} → (T → Type 0) → Option T → Type 0
ReadsWord {T = T} Spells result = MatchOption result ((value : T) → Spells value → ⊥) Spells

-- four words are the corners of a box, the lower first; numbers have at most 32 bits, and the corners are in order
pub record SpellsBox (x y a b : List ℕ) (region : Region) : Type 0 where
  pub lo_x : number_in 0 4294967295 x ≡ Some region.lo.x
  pub lo_y : number_in 0 4294967295 y ≡ Some region.lo.y
  pub hi_x : number_in region.lo.x 4294967295 a ≡ Some region.hi.x
  pub hi_y : number_in region.lo.y 4294967295 b ≡ Some region.hi.y

-- the words of show for this box, with `word` in the place of a file
abbrev pub SpellsShow : List (List ℕ) → List ℕ → Region → Type 0
SpellsShow words word region = (x y a b : List ℕ) × (words ≡ codes "show" ∷ word ∷ x ∷ y ∷ a ∷ b ∷ []) × SpellsBox x y a b region

-- the words are no such words
abbrev pub SpellsNoShow : List (List ℕ) → Type 0
SpellsNoShow words = (word : List ℕ) (region : Region) → SpellsShow words word region → ⊥

-- two words are the number of generated rows, from 1 to 65,536, and a seed of 64 bits
pub record SpellsMade (rows seed : List ℕ) (made : Made) : Type 0 where
  pub rows_are : number_in 1 65536 rows ≡ Some made.rows
  pub seed_is : number_in 0 18446744073709551615 seed ≡ Some made.seed

-- the words of trial for these rows, with `word` in the place of a file
abbrev pub SpellsTrial : List (List ℕ) → List ℕ → Made → Type 0
SpellsTrial words word made = (rows seed : List ℕ) × (words ≡ codes "trial" ∷ word ∷ rows ∷ seed ∷ []) × SpellsMade rows seed made

-- the words are no such words
abbrev pub SpellsNoTrial : List (List ℕ) → Type 0
SpellsNoTrial words = (word : List ℕ) (made : Made) → SpellsTrial words word made → ⊥

-- the words are this command, with `file` and `new` in the places of two files
abbrev pub SpellsPair : List ℕ → List (List ℕ) → List ℕ → List ℕ → Type 0
SpellsPair command words file new = words ≡ command ∷ file ∷ new ∷ []

-- the words are no such words
abbrev pub SpellsNoPair : List ℕ → List (List ℕ) → Type 0
SpellsNoPair command words = (file new : List ℕ) → SpellsPair command words file new → ⊥

-- the words are this command and two files whose names differ
pub record NamesPair (command : List ℕ) (words : List (List ℕ)) (file new : List ℕ) : Type 0 where
  pub spells : SpellsPair command words file new
  pub old_named : IsTrue (is_file_name file)
  pub new_named : IsTrue (is_file_name new)
  pub differ : file ≢ new

-- the words are no such words
abbrev pub NamesNoPair : List ℕ → List (List ℕ) → Type 0
NamesNoPair command words = (file new : List ℕ) → NamesPair command words file new → ⊥

-- the words of each command; the word `-` in the place of a file means no log
abbrev pub AsksFor : List (List ℕ) → Command → Type 0
AsksFor words (Init file width) = IsTrue (is_file_name file) × SpellsInit words file width
AsksFor words (Check file) = NamesFile (codes "check") words file
AsksFor words (Play None size) = SpellsPlay words (codes "-") size
AsksFor words (Play (Some file) size) = IsTrue (is_file_name file) × SpellsPlay words file size
AsksFor words (Show file region) = IsTrue (is_file_name file) × SpellsShow words file region
AsksFor words (Trial None made) = SpellsTrial words (codes "-") made
AsksFor words (Trial (Some file) made) = IsTrue (is_file_name file) × SpellsTrial words file made
AsksFor words (Compact file new) = NamesPair (codes "compact") words file new
AsksFor words (Watch file) = NamesFile (codes "watch") words file
AsksFor words (Follow file new) = NamesPair (codes "follow") words file new

-- the words of play with buckets of this size
abbrev pub AsksToPlay : List (List ℕ) → ℕ → Type 0
AsksToPlay words size = (file : Option (List ℕ)) × AsksFor words (Play file size)

-- the words are those of this command
abbrev pub IsInit : List (List ℕ) → Type 0
IsInit words = (file : List ℕ) × (width : ℕ) × AsksFor words (Init file width)

abbrev pub IsCheck : List (List ℕ) → Type 0
IsCheck words = (file : List ℕ) × AsksFor words (Check file)

abbrev pub IsPlay : List (List ℕ) → Type 0
IsPlay words = (size : ℕ) × AsksToPlay words size

abbrev pub IsShow : List (List ℕ) → Type 0
IsShow words = (file : List ℕ) × (region : Region) × AsksFor words (Show file region)

abbrev pub IsTrial : List (List ℕ) → Type 0
IsTrial words = (log : Option (List ℕ)) × (made : Made) × AsksFor words (Trial log made)

abbrev pub IsCompact : List (List ℕ) → Type 0
IsCompact words = (file new : List ℕ) × AsksFor words (Compact file new)

abbrev pub IsWatch : List (List ℕ) → Type 0
IsWatch words = (file : List ℕ) × AsksFor words (Watch file)

abbrev pub IsFollow : List (List ℕ) → Type 0
IsFollow words = (file new : List ℕ) × AsksFor words (Follow file new)

-- the words of play over no log
abbrev pub IsUnlogged : List (List ℕ) → Type 0
IsUnlogged words = (size : ℕ) × AsksFor words (Play None size)

-- the words of play over the log in a file
abbrev pub IsLogged : List (List ℕ) → Type 0
IsLogged words = (file : List ℕ) × (size : ℕ) × AsksFor words (Play (Some file) size)

-- the words are those of some command
abbrev pub IsAccepted : List (List ℕ) → Type 0
IsAccepted words = (command : Command) × AsksFor words command
