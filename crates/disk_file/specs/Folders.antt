-- The folder of a file's name.
use Rattle.std.specs.Prelude.{ℕ, List, [], ◌∷◌, length, ◌==◌, if◌then◌else◌, Option, Some, None}
use Rattle.std.specs.Path.{dot, path_parent}

-- If the name has no folder, it is the one in which the program runs.
abbrev pub folder_or_here : Option (List ℕ) → List ℕ
folder_or_here None = dot ∷ []
folder_or_here (Some folder) = if length folder == 0 then dot ∷ [] else folder

abbrev pub folder_of : List ℕ → List ℕ
folder_of name = folder_or_here (path_parent name)
