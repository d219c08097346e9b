-- What calls answered and which files were attached, over one call after the other.
use Rattle.std.proofs.Common.{ℕ, Bool, List, [], ◌++◌, inl, inr, ⊎_elim, ◌∙◌, sym, ap, append_assoc}
use Rattle.std.proofs.lemmas.List.{append-nil}
use Rattle.disk_trait.specs.Drive.{Drive, HasNoMore, Made, SameFile, AttachedOne, AttachedAtMost}

-- no call was made
pub made-none : (drive : Drive) → Made [] drive drive
made-none drive all told = (all, told, sym (append-nil all))

-- more calls behind these
pub made-then : (answers more : List Bool) (old mid new : Drive) → Made answers old mid → Made more mid new → Made (answers ++ more) old new
made-then answers more old mid new first last all told =
    let (between, told_between, all_is) = last all told in
    let (before, told_before, between_is) = first between told_between in
    (before, told_before, all_is ∙ ap (λ (l : List Bool). l ++ more) between_is ∙ append_assoc before answers more)

-- calls that are in no list, behind others and before others
pub made-still : (answers : List Bool) (old mid new : Drive) → Made answers old mid → HasNoMore mid.calls new.calls → Made answers old new
made-still answers old mid new first still all told = first all (still all told)

pub still-made : (answers : List Bool) (old mid new : Drive) → HasNoMore old.calls mid.calls → Made answers mid new → Made answers old new
still-made answers old mid new still last all told = let (before, told_before, all_is) = last all told in (before, still before told_before, all_is)

-- calls on the file that was attached, behind its attach and before it
module _ (name : List ℕ) (make : Bool) (old mid new : Drive) where
  pub attached-still : AttachedOne name make old mid → SameFile mid new → AttachedOne name make old new
  attached-still first still all told = first all (still all told)

  pub still-attached : SameFile old mid → AttachedOne name make mid new → AttachedOne name make old new
  still-attached still last all told = let (before, told_before, all_is) = last all told in (before, still before told_before, all_is)

  pub at_most-still : AttachedAtMost name make old mid → SameFile mid new → AttachedAtMost name make old new
  at_most-still first still = ⊎_elim (λ one. inl (attached-still one still)) (λ none. inr (λ all told. none all (still all told))) first
