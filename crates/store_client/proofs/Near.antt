-- Whether a store is near its end.
use Rattle.std.proofs.Common.{◌≡◌, ℕ, Bool, false, length, Option, ◌∙◌, ap}
use Rattle.book_lock.specs.Pass.{Known}
use Rattle.sessions.specs.Shared.{moves_of}
use Rattle.store_client.specs.Caller.{IsNearEnd, is_near, is_near_end}

-- If no fresh log may replace the log, the history determines the answer.
pub near-exact : (pass : Known) (near : Bool) → moves_of pass.origin ≡ false → IsNearEnd pass near → near ≡ is_near_end pass
near-exact pass near still is = is.near_is ∙ ap (λ (cells : Option ℕ). is_near pass.origin.kept cells (length pass.seen)) (is.counted still)
