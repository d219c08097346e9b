-- A leader's list that has grown. What holds of a list holds of a longer one that begins with it.
use Rattle.std.proofs.Common.{◌≡◌, ℕ, ◌≤◌, List, ◌++◌, length, take, min, sym, ◌∙◌, ap, subst, arith, length-append}
use Rattle.std.proofs.lemmas.List.{take-append-le, take_min}
use Rattle.cell_format.specs.declared.cell.Cell.{Cell}
use Rattle.disk_trait.specs.Drive.{Drive}
use Rattle.split_log.specs.LogText.{IsLog}
use Rattle.split_log.proofs.Commits.{widened}
use Rattle.log_state.specs.Recovers.{Recovers}
use Rattle.follower.specs.Holding.{FollowerView, HoldsFirst, LeavesFirst, RecoversFirst, AreLeading}

module _ (first more cells : List Cell) (grown : first ++ more ≡ cells) where
  -- The first cells of both are the same.
  same_first : (n : ℕ) → n ≤ length first → take n first ≡ take n cells
  same_first n le = sym (take-append-le n first more le) ∙ ap (take n) grown

  pub no_shorter : length first ≤ length cells
  no_shorter = omega (arith, length-append first more, ap length grown)

  pub holds-grown : {D : Type 0} (drive : D → Drive) (f : FollowerView D) → AreLeading f.width cells → HoldsFirst drive first f → HoldsFirst drive cells f
  holds-grown drive f leading holds = record {
    leading = leading;
    few = omega (arith, holds.few, no_shorter);
    sound = holds.sound;
    log = λ bytes told. subst (λ (l : List Cell). IsLog f.width l (drive f.disk)) (same_first f.state.held holds.few) (holds.log bytes told);
  }

  module _ (w least most : ℕ) (low : least ≤ length first) where
    recovers-grown : (image : List ℕ) → RecoversFirst w first least most image → RecoversFirst w cells least most image
    recovers-grown image is =
        let n : ℕ = min is.count (length first) in
        record {
          count = n;
          least_is = omega (arith, low, is.least_is);
          most_is = omega (arith, is.most_is);
          recovers = subst (λ (l : List Cell). Recovers w l image) (sym (take_min is.count first) ∙ same_first n (omega arith)) is.recovers;
          version = is.version;
        }

    pub leaves-grown : (old new : Drive) → LeavesFirst w first least most old new → LeavesFirst w cells least most old new
    leaves-grown old new leaves bytes told = widened old new (RecoversFirst w first least most) (RecoversFirst w cells least most) recovers-grown (leaves bytes told)
