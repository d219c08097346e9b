-- What is found in a log that was written of a world and its leaves.
use Rattle.std.proofs.Common.{◌≡◌, inl, inr, ℕ, ◌+◌, ◌*◌, ◌≤◌, Bool, List, [], ◌∷◌, length, Option, Some, refl, sym, ◌∙◌, ap, subst, arith}
use Rattle.std.proofs.lemmas.List.{append-nil}
use Rattle.cell_format.specs.declared.cell.Cell.{Cell}
use Rattle.cell_format.specs.Spelling.{newest}
use Rattle.disk_trait.specs.Drive.{Drive}
use Rattle.disk_trait.proofs.Told.{told_before}
use Rattle.plain_list.specs.World.{World, IsWorld}
use Rattle.plain_list.specs.State.{ComesBySplits}
use Rattle.split_log.specs.LogText.{IsLog, IsLogOf, HoldsCells}
use Rattle.split_log.specs.LogView.{most_cells}
use Rattle.log_state.specs.Recovers.{Recovers, IsLegalCells}
use Rattle.zorder.specs.Width.{IsWidth}
use Rattle.recovery.specs.declared.seen.Seen.{Seen}
use Rattle.recovery.proofs.HeadLemmas.{index_version}
use Rattle.log_compact.specs.Fresh.{inner_names, fresh_cells}
use Rattle.log_compact.specs.Walk.{AreShort}
use Rattle.log_compact.specs.Compacting.{IsCompacted}
use Rattle.log_compact.specs.Beginning.{IsFresh, StandsFound}
use Rattle.log_compact.proofs.Forest.{forest_of, length-one, length-two}
use Rattle.log_compact.proofs.Inner.{inner_names-forest}
use Rattle.log_compact.proofs.Counting.{length-fresh_cells}
use Rattle.log_compact.proofs.FreshState.{fresh_state, fresh_begun}

-- There are at most as many inner names as leaves.
names-few : (w : ℕ) → IsWidth w → (leaves : List (List Bool)) → ComesBySplits w leaves → length (inner_names w leaves) ≤ length leaves
names-few w (inl one) leaves by =
    subst (λ v. ComesBySplits v leaves → length (inner_names v leaves) ≤ length leaves) (sym one)
    (λ by. let (inner, f) = forest_of 1 leaves by in
    omega (arith, ap length (inner_names-forest 1 (inl refl) leaves inner f), length-one ([] ∷ []) leaves inner f)) by
names-few w (inr both) leaves by =
    subst (λ v. ComesBySplits v leaves → length (inner_names v leaves) ≤ length leaves) (sym both)
    (λ by. let (inner, f) = forest_of 2 leaves by in
    omega (arith, ap length (inner_names-forest 2 (inr refl) leaves inner f), length-two ([] ∷ []) leaves inner f)) by

pub fresh-short : (w : ℕ) → IsWidth w → (world : World) (leaves : List (List Bool)) → ComesBySplits w leaves → length (fresh_cells w world leaves) ≤ length world + 2 * length leaves
fresh-short w width world leaves by = omega (arith, length-fresh_cells w world leaves, names-few w width leaves by)

-- With these numbers it is what is found.
module _ (w : ℕ) (width : IsWidth w) (seen : Seen) (world : IsWorld seen.world) (by : ComesBySplits w seen.leaves) (short : AreShort seen.leaves) where
  pub is-fresh : length (fresh_cells w seen.world seen.leaves) ≤ most_cells → seen.unfinished ≡ 0 → seen.cells ≡ length (fresh_cells w seen.world seen.leaves)
      → seen.begun ≡ length (inner_names w seen.leaves) → seen.version ≡ newest → IsFresh w seen
  is-fresh few unfinished cells begun version =
      let state = fresh_state w width seen.world seen.leaves world by short in
      record {
        splits = by;
        few = few;
        finds = record {
          world = sym state.world_is;
          leaves = sym state.leaves_are;
          unfinished = unfinished ∙ sym (ap length state.at_rest);
          begun = begun ∙ sym (fresh_begun w width seen.world seen.leaves world by short);
          count = cells;
        };
        version = version;
      }

-- If the bytes are known, the file is a log.
module _ (w : ℕ) (cells : List Cell) (old new : Drive) (made : IsCompacted w cells old new) (xs : List ℕ) (told : new.bytes ≡ Some xs) where
  there : IsLog w cells new
  there = let (bytes, before) = told_before old.bytes new.bytes xs made.told told in (made.log bytes before).1

  some_same : (a b : List ℕ) → ◌≡◌ {A = Option (List ℕ)} (Some a) (Some b) → a ≡ b
  some_same a b e = cc e

  same : there.bytes ≡ xs
  same = some_same there.bytes xs (sym there.told ∙ told)

  pub log-of : (count : ℕ) → length cells ≡ count → IsLogOf count xs
  log-of count long = subst (IsLogOf count) same (record { width = w; cells = cells; count_is = long; text = there.text })

  holds : HoldsCells newest w cells xs
  holds = record { front = there.bytes; rest = []; parts = sym same ∙ sym (append-nil there.bytes); text = there.text }

  recovers : IsLegalCells w cells → Recovers w cells xs
  recovers legal = record { version = newest; known = inr refl; holds = holds; legal = legal }

-- The log is the one that was to be found.
pub stands-found : (w : ℕ) (seen : Seen) (old new : Drive) → IsFresh w seen → IsLegalCells w (fresh_cells w seen.world seen.leaves)
    → IsCompacted w (fresh_cells w seen.world seen.leaves) old new → StandsFound w seen new
stands-found w seen old new fresh legal made =
    let cells : List Cell = fresh_cells w seen.world seen.leaves in
    record {
      found = record {
        cells = cells;
        legal = legal;
        few = fresh.few;
        finds = fresh.finds;
        wanted = record { least = omega (arith, fresh.version); most = omega (arith, fresh.version) };
        recovers = λ bytes told. recovers w cells old new made bytes told legal;
        named = λ bytes told. fresh.version ∙ sym (index_version newest w cells bytes (holds w cells old new made bytes told));
      };
      log = λ bytes told. (cells, sym fresh.finds.count, recovers w cells old new made bytes told legal, there w cells old new made bytes told);
    }
