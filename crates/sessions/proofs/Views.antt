-- A snapshot of the index that a book had while its lock was held.
use Rattle.std.proofs.Common.{◌≡◌, ◌∙◌, ℕ, false, List, Result, Ok, Err, sym, ap, subst}
use Rattle.std.specs.Prelude.{IfOk}
use Rattle.plain_list.specs.World.{IsWorld, places_of}
use Rattle.plain_list.specs.History.{world_after, call_count}
use Rattle.plain_list.specs.State.{State, state_after}
use Rattle.plain_list.specs.declared.entries.Entry.{Entry}
use Rattle.index_layer.specs.Leaves.{Leaf}
use Rattle.index_layer.specs.Stands.{Stands}
use Rattle.disk_trait.specs.Drive.{Drive}
use Rattle.commit_book.specs.BookView.{BookView, StandsAfter}
use Rattle.commit_book.specs.IsBook.{IsBook}
use Rattle.commit_book.specs.declared.book.Snapshot.{Snapshot}
use Rattle.book_lock.specs.Pass.{Known}
use Rattle.sessions.specs.Shared.{HasWorld, origin_of, start_of}
use Rattle.sessions.specs.Steps.{WasTaken, has_given}
use Rattle.sessions.specs.Views.{IsView}
use Rattle.sessions.proofs.Origins.{start-of-origin}

-- it stands for what the pass has seen that took the book and gave it back
pub view-is : {D : Type 0} (drive : D → Drive) (w : ℕ) (b : BookView D) (old took back : Known) (leaves : List Leaf) (place : ℕ) → IsBook drive w b → HasWorld b → WasTaken drive b old took → back ≡ has_given took false b.entries
    → StandsAfter w b leaves → place ≡ call_count b.entries → IsView w leaves place back
view-is drive w b old took back leaves place is has was given stands place_is =
    let from : origin_of drive b ≡ back.origin = was.origin ∙ sym (ap (λ (k : Known). k.origin) given ∙ ap (λ (k : Known). k.origin) was.took_is) in
    let entries : b.entries ≡ back.seen = was.entries ∙ sym (ap (λ (k : Known). k.seen) given) in
    let start : b.opening ≡ start_of back.origin = sym (start-of-origin drive w b is.opening) ∙ ap start_of from in
    record {
      place_is = place_is ∙ ap call_count entries;
      world = subst IsWorld (λ i. world_after (start i).world (entries i)) has.world;
      stands = subst (λ (r : State × List Entry). Stands leaves (places_of (world_after r.0.world r.1)) (state_after w r.0 r.1).leaves) (λ i. (start i, entries i)) stands;
    }

-- the same of what was returned, where there was memory
pub views : {I P E D : Type 0} (leaves : I → List Leaf) (drive : D → Drive) (w : ℕ) (b : BookView D) (old took back : Known) (r : Result (Snapshot I P) E) → IsBook drive w b → HasWorld b → WasTaken drive b old took → back ≡ has_given took false b.entries
    → IfOk r (λ s. StandsAfter w b (leaves s.index)) → IfOk r (λ s. s.place ≡ call_count b.entries) → IfOk r (λ s. IsView w (leaves s.index) s.place back)
views leaves drive w b old took back (Ok s) is has was given stands place_is = view-is drive w b old took back (leaves s.index) s.place is has was given stands place_is
views leaves drive w b old took back (Err e) is has was given stands place_is = tt
