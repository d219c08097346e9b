-- What a visitor has kept after it met all objects of a list.
use Rattle.std.proofs.Common.{◌≡◌, false, List, [], ◌∷◌, ◌++◌, sym, ap, ◌∙◌, append_assoc}
use Rattle.std.specs.List.{FoldsTo}
use Rattle.std.proofs.lemmas.List.{append-nil}
use Rattle.zorder.specs.declared.points.Placed.{Placed}
use Rattle.index_view.specs.Gathered.{Gathers}
use Rattle.index_view.specs.declared.gathered.Gathered.{Gathered}

pub all_gathered : (before : Gathered) (ms : List Placed) (after : Gathered) → FoldsTo Gathers before ms after → after.is_short ≡ false
    → (before.is_short ≡ false) × (after.objects.items ≡ before.objects.items ++ ms)
all_gathered before [] after folds whole =
    (ap (λ (g : Gathered). g.is_short) folds ∙ whole, sym (ap (λ (g : Gathered). g.objects.items) folds) ∙ sym (append-nil before.objects.items))
all_gathered before (m ∷ ms) after (mid, step, rest) whole =
    let later = all_gathered mid ms after rest whole in
    let first = step later.0 in
    (first.0, later.1 ∙ ap (λ (ns : List Placed). ns ++ ms) first.1 ∙ append_assoc before.objects.items (m ∷ []) ms)
