-- Copies that a book made while its lock was held are those of all that the pass has seen.
use Rattle.std.proofs.Common.{◌≡◌, ◌∙◌, ℕ, false, List, Result, Ok, Err, sym, ap, subst}
use Rattle.std.specs.Prelude.{IfOk}
use Rattle.plain_list.specs.World.{IsWorld}
use Rattle.plain_list.specs.History.{world_after, call_count}
use Rattle.plain_list.specs.State.{ComesBySplits, state_after}
use Rattle.plain_list.specs.declared.entries.Entry.{Entry}
use Rattle.index_layer.specs.Leaves.{Leaf, names_of}
use Rattle.point_table.specs.Sized.{StandsBySize}
use Rattle.disk_trait.specs.Drive.{Drive}
use Rattle.commit_book.specs.BookView.{BookView}
use Rattle.commit_book.specs.IsBook.{IsBook}
use Rattle.commit_book.specs.declared.book.rotation.Anew.{Anew}
use Rattle.commit_book.specs.declared.book.rotation.Content.{Content}
use Rattle.book_lock.specs.Pass.{Known}
use Rattle.book_lock.specs.declared.origin.Origin.{Origin}
use Rattle.sessions.specs.Contents.{IsContent, IsContentAnew}
use Rattle.sessions.specs.Shared.{origin_of, start_of}
use Rattle.sessions.specs.Steps.{WasTaken, has_given}
use Rattle.sessions.specs.Views.{IsWorldAt}
use Rattle.sessions.specs.declared.shared.WorldAt.{WorldAt}
use Rattle.sessions.proofs.Origins.{start-of-origin}

-- the objects after all that a pass has seen are those of the book that it took
pub world-seen : {D : Type 0} (drive : D → Drive) (b : BookView D) (origin : Origin) (seen : List Entry) → origin_of drive b ≡ origin → b.entries ≡ seen
    → world_after b.opening.world b.entries ≡ world_after origin.world seen
world-seen drive b origin seen from entries i = world_after (from i).world (entries i)

module _ {D : Type 0} (drive : D → Drive) (w : ℕ) (b : BookView D) (old took back : Known) (is : IsBook drive w b) (was : WasTaken drive b old took) (given : back ≡ has_given took false b.entries) where
  from : origin_of drive b ≡ back.origin
  from = was.origin ∙ sym (ap (λ (k : Known). k.origin) given ∙ ap (λ (k : Known). k.origin) was.took_is)

  pub entries-seen : b.entries ≡ back.seen
  entries-seen = was.entries ∙ sym (ap (λ (k : Known). k.seen) given)

  worlds : world_after b.opening.world b.entries ≡ world_after back.origin.world back.seen
  worlds = world-seen drive b back.origin back.seen from entries-seen

  start : b.opening ≡ start_of back.origin
  start = sym (start-of-origin drive w b is.opening) ∙ ap start_of from

  -- the objects that were copied, and the place of the last call, where there was memory
  pub worlds-at : {E : Type 0} (r : Result WorldAt E) → IfOk r (λ at. at.world ≡ world_after b.opening.world b.entries) → IfOk r (λ at. at.place ≡ call_count b.entries) → IfOk r (λ at. IsWorld at.world) → IfOk r (λ at. IsWorldAt at.world at.place back)
  worlds-at (Ok at) world place is_world = record { place_is = place ∙ ap call_count entries-seen; world_is = world ∙ worlds; is_world = is_world }
  worlds-at (Err e) world place is_world = tt

  -- the content that was copied, where there was memory
  pub contents : {E : Type 0} (r : Result Content E) → IfOk r (λ c. c.world ≡ world_after b.opening.world b.entries) → IfOk r (λ c. c.leaves ≡ (state_after w b.opening b.entries).leaves)
      → IfOk r (λ c. ComesBySplits w c.leaves) → IfOk r (λ c. IsWorld c.world) → IfOk r (λ c. IsContent w c back)
  contents (Ok c) world leaves comes is_world = record {
    world = world ∙ worlds;
    leaves = leaves ∙ (λ i. (state_after w (start i) (entries-seen i)).leaves);
    comes = comes;
    is_world = is_world;
  }
  contents (Err e) world leaves comes is_world = tt

  -- the index that was built and the copies beside it, where there was memory
  pub contents-anew : {I P E : Type 0} (leaves_of : I → List Leaf) (r : Result (Anew I P) E) → IfOk r (λ a. a.content.world ≡ world_after b.opening.world b.entries) → IfOk r (λ a. a.content.leaves ≡ names_of (leaves_of a.index))
      → IfOk r (λ a. StandsBySize w b.bucket a.content.world (leaves_of a.index)) → IfOk r (λ a. ComesBySplits w a.content.leaves) → IfOk r (λ a. IsWorld a.content.world)
      → IfOk r (λ a. IsContentAnew w (leaves_of a.index) a.content back)
  contents-anew leaves_of (Ok a) world leaves stands comes is_world = record {
    world = world ∙ worlds;
    leaves_are = leaves;
    stands = subst (λ (o : Origin). StandsBySize w o.bucket a.content.world (leaves_of a.index)) from stands;
    comes = comes;
    is_world = is_world;
  }
  contents-anew leaves_of (Err e) world leaves stands comes is_world = tt
