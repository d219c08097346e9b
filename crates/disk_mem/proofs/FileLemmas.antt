-- The file after one call more.
use Rattle.std.proofs.Common.{◌≡◌, ℕ, ◌<◌, ◌+◌, List, [], ◌∷◌, ◌++◌, length, take, get_or, refl, sym, ap, ◌∙◌, Option, Some, None, Bool, true, false, ◌||◌, cond}
use Rattle.std.specs.Option.{option_to_list}
use Rattle.std.specs.List.{list_any}
use Rattle.disk_mem.specs.Pending.{is_in}
use Rattle.std.proofs.lemmas.List.{map_more, take_more}
use Rattle.disk_mem.specs.declared.touches.Touch.{Touch}
use Rattle.disk_mem.specs.Changes.{Change, File, held_after, changed, changed_by}
use Rattle.disk_mem.specs.Recorded.{change_of, changes_of, range_of, ranges_of}

pub changed_by-push : (f : File) (cs : List Change) (c : Change) → changed_by f (cs ++ c ∷ []) ≡ changed (changed_by f cs) c
changed_by-push f [] c = refl
changed_by-push f (x ∷ cs) c = changed_by-push (changed f x) cs c

-- one entry of a record more
pub changed_by-more : (f : File) (pieces : List ℕ) (touches : List Touch) (i : ℕ) (d : Touch) → i < length touches → changed_by f (changes_of pieces (take (i + 1) touches)) ≡ changed (changed_by f (changes_of pieces (take i touches))) (change_of pieces (get_or touches i d))
changed_by-more f pieces touches i d lt =
    ap (changed_by f) (map_more (change_of pieces) touches i d lt)
    ∙ changed_by-push f (changes_of pieces (take i touches)) (change_of pieces (get_or touches i d))

pub replay_more : (f : File) (pieces : List ℕ) (touches : List Touch) (i : ℕ) (d : Touch) (file new : List ℕ) → i < length touches → file ≡ (changed_by f (changes_of pieces (take i touches))).held → new ≡ held_after file (change_of pieces (get_or touches i d)) → new ≡ (changed_by f (changes_of pieces (take (i + 1) touches))).held
replay_more f pieces touches i d file new lt so_far step =
    step
    ∙ ap (λ (h : List ℕ). held_after h (change_of pieces (get_or touches i d))) so_far
    ∙ sym (ap (λ (g : File). g.held) (changed_by-more f pieces touches i d lt))

pub ranges_of-push : (before : List (ℕ × ℕ)) (ts : List Touch) (t : Touch) → ranges_of before (ts ++ t ∷ []) ≡ option_to_list (range_of t) ++ ranges_of before ts
ranges_of-push before [] t = refl
ranges_of-push before (x ∷ ts) t = ranges_of-push (option_to_list (range_of x) ++ before) ts t

pub ranges_of-more : (before : List (ℕ × ℕ)) (touches : List Touch) (i : ℕ) (d : Touch) → i < length touches → ranges_of before (take (i + 1) touches) ≡ option_to_list (range_of (get_or touches i d)) ++ ranges_of before (take i touches)
ranges_of-more before touches i d lt = ap (ranges_of before) (take_more touches i d lt) ∙ ranges_of-push before (take i touches) (get_or touches i d)

-- an entry that touches no range, and one that does
pub ranges_of-more_none : (touches : List Touch) (i : ℕ) (d : Touch) → i < length touches → range_of (get_or touches i d) ≡ None → ranges_of [] (take (i + 1) touches) ≡ ranges_of [] (take i touches)
ranges_of-more_none touches i d lt none = ranges_of-more [] touches i d lt ∙ ap (λ (r : Option (ℕ × ℕ)). option_to_list r ++ ranges_of [] (take i touches)) none

pub ranges_of-more_some : (touches : List Touch) (i : ℕ) (d : Touch) (r : ℕ × ℕ) → i < length touches → range_of (get_or touches i d) ≡ Some r → ranges_of [] (take (i + 1) touches) ≡ r ∷ ranges_of [] (take i touches)
ranges_of-more_some touches i d r lt some = ranges_of-more [] touches i d lt ∙ ap (λ (o : Option (ℕ × ℕ)). option_to_list o ++ ranges_of [] (take i touches)) some

pub cond-or : (a b : Bool) (x y : ℕ) → cond (a || b) x y ≡ cond a x (cond b x y)
cond-or true b x y = refl
cond-or false b x y = refl

-- a place of an image after one entry more, which touches a range, or none
pub painted-some : (touches : List Touch) (i : ℕ) (d : Touch) (r : ℕ × ℕ) (k byte start old new : ℕ) → i < length touches → range_of (get_or touches i d) ≡ Some r → old ≡ cond (list_any (is_in k) (ranges_of [] (take i touches))) byte start → new ≡ cond (is_in k r) byte old → new ≡ cond (list_any (is_in k) (ranges_of [] (take (i + 1) touches))) byte start
painted-some touches i d r k byte start old new lt some so_far step =
    step
    ∙ ap (cond (is_in k r) byte) so_far
    ∙ sym (cond-or (is_in k r) (list_any (is_in k) (ranges_of [] (take i touches))) byte start)
    ∙ sym (ap (λ (rs : List (ℕ × ℕ)). cond (list_any (is_in k) rs) byte start) (ranges_of-more_some touches i d r lt some))

pub painted-none : (touches : List Touch) (i : ℕ) (d : Touch) (k byte start old : ℕ) → i < length touches → range_of (get_or touches i d) ≡ None → old ≡ cond (list_any (is_in k) (ranges_of [] (take i touches))) byte start → old ≡ cond (list_any (is_in k) (ranges_of [] (take (i + 1) touches))) byte start
painted-none touches i d k byte start old lt none so_far =
    so_far ∙ sym (ap (λ (rs : List (ℕ × ℕ)). cond (list_any (is_in k) rs) byte start) (ranges_of-more_none touches i d lt none))
