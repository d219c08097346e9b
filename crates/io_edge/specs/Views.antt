-- Sources and sinks in memory: what they hold, and exactly what a read and a put do.
use Rattle.std.specs.Prelude.{◌≡◌, ℕ, min, List, ◌++◌, length, take, drop, Result, MatchResult}
use Rattle.io_edge.specs.FailPlan.{FailPlan, counted, failed}

pub record SourceView : Type 0 where
  pub left : List ℕ
  pub plan : FailPlan

pub record SinkView : Type 0 where
  pub taken : List ℕ
  -- how many bytes it takes in all
  pub room : ℕ
  pub plan : FailPlan

-- a read returns the next bytes, as many as are left and fit; a read that fails takes nothing
abbrev pub ReadsNext : {E : Type 0} → SourceView → SourceView → List ℕ → List ℕ → Result ℕ E → Type 0
ReadsNext old new before after result = MatchResult result
    (λ n. (n ≡ min (length before) (length old.left)) × (after ≡ take n old.left ++ drop n before) × (new ≡ record { left = drop n old.left; plan = counted old.plan }))
    (λ _. (after ≡ before) × (new ≡ record old { plan = failed (counted old.plan) }))

-- a put takes the whole piece; a put that fails takes nothing
abbrev pub PutsWhole : {T E : Type 0} → SinkView → SinkView → List ℕ → Result T E → Type 0
PutsWhole old new piece result = MatchResult result
    (λ _. new ≡ record old { taken = old.taken ++ piece; plan = counted old.plan })
    (λ _. new ≡ record old { plan = failed (counted old.plan) })
