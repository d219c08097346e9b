use Rattle.std.proofs.Common.{◌≡◌, ℕ, List, sym, ◌∙◌, subst}
use Rattle.std.specs.List.{remove}
use Rattle.std.proofs.lemmas.List.Sorted.{searched}
use Rattle.fence_watch.specs.Guards.{AreRising}
use Rattle.fence_watch.specs.Watches.{without_id}
use Rattle.fence_watch.proofs.RisingIds.{never_fall, remove-without_id, without-parted}
use Rattle.fence_watch.proofs.ids.take_id.Goals as goal

pub returns-in-Ok : goal.returns-in-Ok
returns-in-Ok c =
    let ys = c.deref.result.now in
    let id = c.args.id in
    let same : ys ≡ c.args.ids.now.items = c.deref.ensures.value in
    let rising : AreRising ys = subst AreRising (sym same) c.requires.rising in
    let found = rw c.in-Ok.is at (searched ys id c.binary_search.result c.binary_search.ensures.position (λ i j le lt. never_fall ys rising i j 0 le lt)) in
    let taken : remove ys c.in-Ok.place ≡ without_id id ys = remove-without_id ys c.in-Ok.place id 0 rising found.0 found.1 in
    c.remove.ensures.items ∙ subst (λ (l : List ℕ). remove l c.in-Ok.place ≡ without_id id l) same taken

pub returns-in_default : goal.returns-in_default
returns-in_default c =
    let ys = c.deref.result.now in
    let id = c.args.id in
    let same : ys ≡ c.args.ids.now.items = c.deref.ensures.value in
    let rising : AreRising ys = subst AreRising (sym same) c.requires.rising in
    let found = rw c.in_default.is at (searched ys id c.binary_search.result c.binary_search.ensures.position (λ i j le lt. never_fall ys rising i j 0 le lt)) in
    subst (λ (l : List ℕ). l ≡ without_id id l) same (sym (without-parted id ys c.in_default.field-0 found.0 found.1 found.2))
