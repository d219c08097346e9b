-- Lines of the objects in a box.
use Rattle.std.proofs.Common.{◌≡◌, ◌∙◌, ℕ, Bool, true, false, cond, List, [], ◌∷◌, ◌++◌, refl, ap}
use Rattle.std.specs.List.{filter, flat_map}
use Rattle.zorder.specs.Region.{has_point}
use Rattle.zorder.specs.declared.points.Region.{Region}
use Rattle.plain_list.specs.declared.world.Member.{Member}
use Rattle.run_ends.specs.ObjectLines.{line_in, object_line, object_title, objects_text}

-- the line of an object in the box
pub line_in-inside : (region : Region) (m : Member) → has_point region m.at ≡ true → line_in region m ≡ object_line m
line_in-inside region m e = ap (λ b. cond b (object_line m) []) e

lines-tested : (b : Bool) (region : Region) (m : Member) (ms rest : List Member) → flat_map (line_in region) ms ≡ flat_map object_line rest
    → cond b (object_line m) [] ++ flat_map (line_in region) ms ≡ flat_map object_line (cond b (m ∷ rest) rest)
lines-tested true region m ms rest same = ap (λ l. object_line m ++ l) same
lines-tested false region m ms rest same = same

lines-filtered : (region : Region) (objects : List Member) → flat_map (line_in region) objects ≡ flat_map object_line (filter (λ (m : Member). has_point region m.at) objects)
lines-filtered region [] = refl
lines-filtered region (m ∷ ms) = lines-tested (has_point region m.at) region m ms (filter (λ (o : Member). has_point region o.at) ms) (lines-filtered region ms)

-- the text of objects behind the title
pub objects-text : (region : Region) (objects : List Member) (empty front : List ℕ) → empty ≡ [] → front ≡ empty ++ object_title → front ++ flat_map (line_in region) objects ≡ objects_text region objects
unfolding objects_text
objects-text region objects empty front none e =
    ap (λ l. l ++ flat_map (line_in region) objects) (e ∙ ap (λ l. l ++ object_title) none) ∙ ap (λ l. object_title ++ l) (lines-filtered region objects)
