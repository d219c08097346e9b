-- Splits that are tried one after another after a batch.
use Rattle.std.proofs.Common.{◌≡◌, ◌≤◌, ℕ, ◌+◌, Bool, List, [], ◌∷◌, ◌++◌, Some, refl, arith}
use Rattle.std.proofs.lemmas.List.{length-append}
use Rattle.book_lock.specs.Pass.{Known}
use Rattle.sessions.specs.Calls.{next_full}
use Rattle.sessions.specs.Runs.{HasLooked}
use Rattle.sessions.specs.Splits.{SamePass, SplitEnds}
use Rattle.sessions.specs.declared.faults.Split.{Split}
use Rattle.sessions.proofs.RunLemmas.{looked-twice}
use Rattle.sessions.proofs.SplitLemmas.{same-none}
use Rattle.sessions.proofs.StepLemmas.{same-later, same-seen}
use Rattle.store_client.specs.Batches.{TriesEach, TriesSome}

pub looked-none : (pass : Known) → HasLooked pass pass
looked-none pass = record { later = (same-none pass).0; alone = λ _. refl; pass_is = refl }

pub looked-same : (old new : Known) → HasLooked old new → SamePass old new
looked-same old new looked = same-seen old new new.seen looked.later looked.pass_is

-- what is seen after the last split
pub tries-looked : (w : ℕ) (old mid new : Known) (names : List (List Bool)) → TriesEach w old names mid → HasLooked mid new → TriesEach w old names new
tries-looked w old mid new [] tries looked = looked-twice old mid new tries looked
tries-looked w old mid new (name ∷ names) (seen, end, split, saw, full, ends, tries) looked = (seen, end, split, saw, full, ends, tries-looked w end mid new names tries looked)

-- one more split
pub tries-more : (w : ℕ) (old mid seen end : Known) (names : List (List Bool)) (name : List Bool) (split : Split) → TriesEach w old names mid → HasLooked mid seen → next_full w seen ≡ Some name → SplitEnds w name seen end split
    → TriesEach w old (names ++ name ∷ []) end
tries-more w old mid seen end [] name split tries looked full ends = (seen, end, split, looked-twice old mid seen tries looked, full, ends, looked-none end)
tries-more w old mid seen end (n ∷ names) name split (s, e, sp, saw, was, ended, tries) looked full ends = (s, e, sp, saw, was, ended, tries-more w e mid seen end names name split tries looked full ends)

-- the splits so far, of which there are no more than this
pub record Splitting (w count : ℕ) (old new : Known) : Type 0 where
  pub some : TriesSome w count old new
  pub same : SamePass old new

pub splitting-none : (w : ℕ) (pass : Known) → Splitting w 0 pass pass
splitting-none w pass = record { some = record { names = []; few = omega arith; tries = looked-none pass }; same = same-none pass }

pub splitting-looked : (w count : ℕ) (old mid new : Known) → Splitting w count old mid → HasLooked mid new → Splitting w count old new
splitting-looked w count old mid new so_far looked = record {
  some = record { names = so_far.some.names; few = so_far.some.few; tries = tries-looked w old mid new so_far.some.names so_far.some.tries looked };
  same = same-later old mid new so_far.same (looked-same mid new looked);
}

pub splitting-more : (w count : ℕ) (old mid seen end : Known) (name : List Bool) (split : Split) → Splitting w count old mid → HasLooked mid seen → next_full w seen ≡ Some name → SplitEnds w name seen end split → SamePass seen end
    → Splitting w (count + 1) old end
splitting-more w count old mid seen end name split so_far looked full ends same = record {
  some = record {
    names = so_far.some.names ++ name ∷ [];
    few = omega (arith, so_far.some.few, length-append so_far.some.names (name ∷ []));
    tries = tries-more w old mid seen end so_far.some.names name split so_far.some.tries looked full ends;
  };
  same = same-later old mid end so_far.same (same-later mid seen end (looked-same mid seen looked) same);
}

pub some-fewer : (w count most : ℕ) (old new : Known) → count ≤ most → TriesSome w count old new → TriesSome w most old new
some-fewer w count most old new less some = record { names = some.names; few = omega (arith, less, some.few); tries = some.tries }
