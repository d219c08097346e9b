-- A log keeps its history when entries are added.
use Rattle.std.proofs.Common.{◌≡◌, inl, inr, ⊎_elim, ℕ, zero, suc, ◌≤◌, List, [], ◌∷◌, ◌++◌, take, Option, Some, None, refl, sym, ◌∙◌, ap, subst, append_assoc}
use Rattle.std.proofs.lemmas.List.{append-nil}
use Rattle.cell_format.specs.declared.cell.Cell.{Cell}
use Rattle.plain_list.specs.declared.entries.Entry.{Entry}
use Rattle.plain_list.specs.World.{World}
use Rattle.plain_list.specs.State.{empty_state}
use Rattle.disk_trait.specs.Drive.{Drive}
use Rattle.disk_trait.specs.Moments.{LeavesOnly, LeavesNow, LeavesSince}
use Rattle.cell_format.specs.Spelling.{newest}
use Rattle.split_log.specs.LogText.{IsLog, HoldsCells, HoldsAllOrNone}
use Rattle.log_state.specs.Recovers.{Recovers, IsLegalCells, is_legal_cells}
use Rattle.log_state.specs.Changes.{cells_of, failed_cells, IsPrefixRecovered}
use Rattle.log_state.specs.Keeps.{KeepsHistory, RecoversAllOrNone}
use Rattle.log_state.proofs.LegalCells.{legal-front}

-- A prefix of a list is a prefix of a longer one.
more_taken : {A : Type 0} (xs ys : List A) (m : ℕ) → (k : ℕ) × (take m xs ≡ take k (xs ++ ys))
more_taken [] ys zero = (0, refl)
more_taken [] ys (suc m) = (0, refl)
more_taken (x ∷ xs) ys zero = (0, refl)
more_taken (x ∷ xs) ys (suc m) = let (k, e) = more_taken xs ys m in (suc k, ap (λ l. x ∷ l) e)

all_taken : {A : Type 0} (xs ys : List A) → (k : ℕ) × (xs ≡ take k (xs ++ ys))
all_taken [] ys = (0, refl)
all_taken (x ∷ xs) ys = let (k, e) = all_taken xs ys in (suc k, ap (λ l. x ∷ l) e)

-- An image that recovers to a prefix of the history's cells does so for a longer history too.
widened : (w : ℕ) (first : List Cell) (world : World) (h g : List Entry) (more : List Cell) (c : List ℕ)
    → cells_of world g ++ failed_cells g ≡ (cells_of world h ++ failed_cells h) ++ more
    → IsPrefixRecovered w first world h c → IsPrefixRecovered w first world g c
widened w first world h g more c same (m, recovers) =
    let (k, e) = more_taken (cells_of world h ++ failed_cells h) more m in
    (k, subst (λ l. Recovers w (first ++ l) c) (e ∙ ap (take k) (sym same)) recovers)

module _ (w : ℕ) (first : List Cell) (world : World) (h : List Entry) (more : List Cell) (t : ℕ) (d0 d1 : Drive) (earlier : t ≤ d0.clock)
    (sound : failed_cells h ≡ [])
    (legal : IsLegalCells w (first ++ (cells_of world h ++ more)))
    (kept : KeepsHistory w first world h t d0 None)
    (any_moment : LeavesOnly d0 d1 (HoldsAllOrNone w (first ++ cells_of world h) more)) where
  legal_before : IsLegalCells w (first ++ cells_of world h)
  legal_before = legal-front w empty_state (first ++ cells_of world h) more (ap (is_legal_cells w empty_state) (append_assoc first (cells_of world h) more) ∙ legal)

  -- Bytes that hold the cells, with the new ones or without, recover to them.
  pub recovers : (c : List ℕ) → HoldsAllOrNone w (first ++ cells_of world h) more c → RecoversAllOrNone w (first ++ cells_of world h) more c
  recovers c (inl holds) = inl (record { version = newest; known = inr refl; holds = holds; legal = legal_before })
  recovers c (inr holds) = inr (record { version = newest; known = inr refl; holds = holds; legal = ap (is_legal_cells w empty_state) (append_assoc first (cells_of world h) more) ∙ legal })

  -- At any moment of the append a crash leaves the cells from its start, with all of the new ones or without.
  pub either_since : LeavesOnly d0 d1 (RecoversAllOrNone w (first ++ cells_of world h) more)
  either_since = record {
    later = any_moment.later;
    each = λ c left. recovers c (any_moment.each c left);
    before = λ s c le left. ⊎_elim (λ was. inl was) (λ now. inr (recovers c now)) (any_moment.before s c le left);
  }

  module _ (g : List Entry) (same : cells_of world g ++ failed_cells g ≡ cells_of world h ++ more) where
    same_more : cells_of world g ++ failed_cells g ≡ (cells_of world h ++ failed_cells h) ++ more
    same_more = same ∙ ap (λ l. l ++ more) (sym (append-nil (cells_of world h)) ∙ ap (λ l. cells_of world h ++ l) (sym sound))

    either_prefix : (c : List ℕ) → RecoversAllOrNone w (first ++ cells_of world h) more c → IsPrefixRecovered w first world g c
    either_prefix c (inl before) = let (k, e) = all_taken (cells_of world h) more in
        (k, subst (λ l. Recovers w (first ++ l) c) (e ∙ ap (take k) (sym same)) before)
    either_prefix c (inr after) = let (k, e) = all_taken (cells_of world h ++ more) [] in
        (k, subst (λ l. Recovers w l c) (append_assoc first (cells_of world h) more ∙ ap (λ l. first ++ l) (e ∙ ap (take k) (append-nil (cells_of world h ++ more) ∙ sym same))) after)

    pub since_then : LeavesSince d1 t (IsPrefixRecovered w first world g)
    since_then c left = elim (any_moment.before t c earlier left) [
      | inl was ↦ widened w first world h g more c same_more (kept.any_moment c was)
      | inr now ↦ either_prefix c (recovers c now)
    ]

    -- The cells were added.
    pub kept_added : cells_of world g ≡ cells_of world h ++ more → LeavesNow d1 (HoldsCells newest w (first ++ (cells_of world h ++ more))) → (failed : Option ℕ)
        → IsLog w ((first ++ cells_of world h) ++ more) d1 → KeepsHistory w first world g t d1 failed
    kept_added cells now failed log = record {
      any_moment = since_then;
      at_end = λ c left. inl (record { version = newest; known = inr refl; holds = subst (λ l. HoldsCells newest w (first ++ l) c) (sym cells) (now c left); legal = ap (λ l. is_legal_cells w empty_state (first ++ l)) cells ∙ legal });
      log = λ none. subst (λ l. IsLog w l d1) (append_assoc first (cells_of world h) more ∙ ap (λ l. first ++ l) (sym cells)) log;
    }

    -- Their append failed, and the history records that.
    pub kept_failed : cells_of world g ≡ cells_of world h → (number : ℕ) → LeavesNow d1 (HoldsAllOrNone w (first ++ cells_of world h) more)
        → KeepsHistory w first world g t d1 (Some number)
    kept_failed cells number now = record {
      any_moment = since_then;
      at_end = λ c left. ⊎_elim
          (λ before. inl (subst (λ l. Recovers w (first ++ l) c) (sym cells) before))
          (λ after. inr (subst (λ l. Recovers w l c) (append_assoc first (cells_of world h) more ∙ ap (λ l. first ++ l) (sym same)) after))
          (recovers c (now c left));
      log = λ none. absurd (cc none);
    }

-- An entry without a cell changes nothing that the log keeps.
pub kept_quiet : (w : ℕ) (first : List Cell) (world : World) (h g : List Entry) (t : ℕ) (drive : Drive) (failed : Option ℕ)
    → cells_of world g ≡ cells_of world h → failed_cells g ≡ failed_cells h → KeepsHistory w first world h t drive failed → KeepsHistory w first world g t drive failed
kept_quiet w first world h g t drive failed cells lost kept = record {
  any_moment = λ c left. let (m, r) = kept.any_moment c left in (m, subst (λ l. Recovers w (first ++ take m l) c) (λ i. sym cells i ++ sym lost i) r);
  at_end = λ c left. ⊎_elim
      (λ before. inl (subst (λ l. Recovers w (first ++ l) c) (sym cells) before))
      (λ after. inr (subst (λ l. Recovers w (first ++ l) c) (λ i. sym cells i ++ sym lost i) after))
      (kept.at_end c left);
  log = λ none. subst (λ l. IsLog w (first ++ l) drive) (sym cells) (kept.log none);
}
