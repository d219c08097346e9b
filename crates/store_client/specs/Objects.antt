-- Which operations and histories leave an object unchanged, and a find after another call.
use Rattle.std.specs.Prelude.{◌≡◌, ℕ, Bool, false, ◌==◌, List, [], ◌∷◌, ◌++◌, Ok, ⊤}
use Rattle.plain_list.specs.declared.ops.Op.{Op}
use Rattle.plain_list.specs.declared.ops.Op.TheVariants.{Put, Move, Remove, Find, Within, Near}
use Rattle.plain_list.specs.declared.entries.Entry.{Entry}
use Rattle.plain_list.specs.declared.entries.Entry.TheVariants.{Fail, Call, Begin, Install, Abandon}
use Rattle.store_client.specs.declared.client.Reply.{Reply}
use Rattle.store_client.specs.Caller.{Caller}
use Rattle.store_client.specs.Asked.{Asked, before_in}

-- Whether an operation may change this object.
abbrev pub may_change : ℕ → Op → Bool
may_change id (Put other at moment) = other == id
may_change id (Move other at moment) = other == id
may_change id (Remove other) = other == id
may_change id (Find other) = false
may_change id (Within region) = false
may_change id (Near at k) = false

-- Whether an operation may remove this object.
abbrev pub may_remove : ℕ → Op → Bool
may_remove id (Remove other) = other == id
may_remove id (Put other at moment) = false
may_remove id (Move other at moment) = false
may_remove id (Find other) = false
may_remove id (Within region) = false
may_remove id (Near at k) = false

-- No call of a history has such an operation.
abbrev pub HasNone : (Op → Bool) → List Entry → Type 0
HasNone is [] = ⊤
HasNone is (Call session row op ∷ h) = (is op ≡ false) × HasNone is h
HasNone is (Begin number name ∷ h) = HasNone is h
HasNone is (Install number ∷ h) = HasNone is h
HasNone is (Abandon number ∷ h) = HasNone is h
HasNone is (Fail cell lost ∷ h) = HasNone is h

-- A call of a store was answered, and later a find of an object in the same store, by any client. Between them the history
-- has no call that may do this to the object. The lemmas `own-put-stands`, `own-move-stands` and `moments-rise`
-- (proofs/Objects) say what the find returns then.
pub record FindsBehind (w id : ℕ) (op : Op) (may : Op → Bool) (old mid now later : Caller) (first second : Reply) : Type 0 where
  pub call : Asked w op old mid (Ok first)
  pub finds : Asked w (Find id) now later (Ok second)
  pub one : now.pass.origin ≡ old.pass.origin
  pub between : List Entry
  pub stands : before_in finds ≡ call.mid.seen ++ between
  pub none : HasNone may between
