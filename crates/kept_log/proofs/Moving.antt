-- What a log that no fresh one may replace keeps: it has replaced no other log.
use Rattle.std.proofs.Common.{◌≡◌, ℕ, ◌+◌, false, List, [], ◌∷◌, length, Option, Some, None, refl, sym, ◌∙◌, subst}
use Rattle.std.proofs.lemmas.Bool.{true≢false}
use Rattle.plain_list.specs.declared.entries.Entry.{Entry}
use Rattle.plain_list.specs.State.{State}
use Rattle.disk_trait.specs.Drive.{Drive}
use Rattle.log_state.specs.Changes.{cells_of}
use Rattle.kept_log.specs.KeptView.{KeptView, Earlier}
use Rattle.std.specs.Option.{option_map}
use Rattle.kept_log.specs.Journal.{moves_from, KeepsWaiting, KeepsFrom, KeepsIn, OfOwn, OwnAllOrNone, LeavesEither, LeavesAllOrNone}
use Rattle.kept_log.proofs.Waiting.{in-moves, own-count}

module _ {D : Type 0} (drive : D → Drive) (w : ℕ) (s : State) (h : List Entry) (log : KeptView D) where
  unmoved-from : (earlier : Option (Earlier D)) → log.moves ≡ false → KeepsFrom drive w s h log earlier → earlier ≡ None
  unmoved-from None still kept = refl
  unmoved-from (Some e) still kept = absurd (true≢false (sym kept.moves ∙ still))

  pub unmoved : log.moves ≡ false → KeepsIn drive w s h (Some log) → log.earlier ≡ None
  unmoved still kept = unmoved-from log.earlier still kept

  pub unmoved-keeps : log.moves ≡ false → KeepsIn drive w s h (Some log) → KeepsWaiting drive w s h log
  unmoved-keeps still kept = subst (KeepsFrom drive w s h log) (unmoved still kept) kept

  pub keeps-unmoved : log.earlier ≡ None → KeepsWaiting drive w s h log → KeepsIn drive w s h (Some log)
  keeps-unmoved none kept = subst (KeepsFrom drive w s h log) (sym none) kept

  -- It has its first cells and those of the history.
  pub unmoved-count : log.moves ≡ false → KeepsIn drive w s h (Some log) → log.cells + length log.waiting ≡ log.first + length (cells_of s.world h)
  unmoved-count still kept = own-count drive w s h log (unmoved-keeps still kept)

-- Nothing that is kept changes when a fresh log may replace the log from now on.
pub keeps-moves : {D : Type 0} (drive : D → Drive) (w : ℕ) (s : State) (h : List Entry) (log : Option (KeptView D)) → KeepsIn drive w s h log
    → KeepsIn drive w s h (option_map moves_from log)
keeps-moves drive w s h log kept = in-moves drive w s h log kept

module _ {D : Type 0} (drive : D → Drive) (w : ℕ) (s : State) (h : List Entry) (old new : KeptView D) (none : old.earlier ≡ None) where
  -- What is claimed of a crash holds of the history itself.
  pub all-or-none-unmoved : (es : List Entry) → LeavesAllOrNone drive w s h es (Some old) (Some new) → OwnAllOrNone drive w s h es old new
  all-or-none-unmoved es leaves = subst (OfOwn w s h es (OwnAllOrNone drive w) old new) none leaves

  pub either-unmoved : (e : Entry) → LeavesEither drive w s h e (Some old) (Some new) → OwnAllOrNone drive w s h (e ∷ []) old new
  either-unmoved e leaves = all-or-none-unmoved (e ∷ []) leaves
