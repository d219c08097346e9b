-- A store may be shared by threads, and a pass sent between them, where the index and the drive may be sent.
use denote.RattleType.{RattleType}
use denote.Param.Send.{IsSend, IsSync, plain_send, view_send, recorded_send, struct_send, recorded_sync, struct_sync, sendable}
use mathlib.Core.List.{[], ◌∷◌}
use mir.Syntax.{Sym}
use denote.Struct.Struct.{Struct}
use denote.Struct.Declared.{Declared, shape}
use denote.Struct.Tuple.{TupleAt, type_at}
use Rattle.index_layer.specs.declared.index.Index.{Ghosts}
use Rattle.disk_trait.specs.declared.disk.LogDisk.{Ghosts as DriveGhosts}
use Rattle.sessions.specs.declared.start.Start.{Ghosts as StartGhosts}
use Rattle.commit_book.proofs.Sent.{book_send}
use Rattle.book_lock.proofs.lock.BookLock.TheSendSync as lock
use Rattle.book_lock.proofs.pass.Pass.TheSendSync as pass
use Rattle.std.proofs.Crossing.{crosses, Box-send}
use Rattle.book_lock.specs.contracts.pass.Pass as Pass
use Rattle.sessions.proofs.store.lanes.KeptRow.TheSendSync as kept
use Rattle.sessions.proofs.shared.Turn.TheSendSync as turn
use Rattle.sessions.specs.contracts.store.Store as Store
use Rattle.sessions.specs.contracts.store.lanes.Lane as Lane
use Rattle.sessions.specs.contracts.shared.SharedBook as Shared
use Rattle.sessions.specs.contracts.shared.SharedBook.TheInside as inside

pub shared_send : (I D O P : RattleType) (g : Ghosts I.Denot P.Denot) (h : DriveGhosts D.Denot) (k : StartGhosts O.Denot) → IsSend I → IsSend D → IsSend O → IsSend (Shared.the_row I D O P g h k)
shared_send I D O P g h k i d o =
    view_send (inside.the_row I D O P g h k) _ _ _ _ (recorded_send (inside.the_field I D O P g h k).row _ _ (inside.the_type I D O P g h k).to_one
    (struct_send (shape (inside.the_type I D O P g h k)) (Box-send _ (book_send I D P g h i d), (search (sendable, crosses) depth 20, (search (sendable, crosses, turn.the_send) depth 20, (search (sendable, crosses) depth 8, tt))))))

pub store_send : (I D O P : RattleType) (g : Ghosts I.Denot P.Denot) (h : DriveGhosts D.Denot) (k : StartGhosts O.Denot) → IsSend I → IsSend D → IsSend O → IsSend (Store.the_row I D O P g h k)
store_send I D O P g h k i d o = search (sendable, shared_send, lock.the_send) depth 12

pub store_sync : (I D O P : RattleType) (g : Ghosts I.Denot P.Denot) (h : DriveGhosts D.Denot) (k : StartGhosts O.Denot) → IsSend I → IsSend D → IsSend O → IsSync (Store.the_row I D O P g h k)
store_sync I D O P g h k i d o = search (sendable, shared_send, lock.the_sync) depth 12

pub pass_send : (I D O P : RattleType) (g : Ghosts I.Denot P.Denot) (h : DriveGhosts D.Denot) (k : StartGhosts O.Denot) → IsSend I → IsSend D → IsSend O → IsSend (Pass.the_row (Shared.the_row I D O P g h k))
pass_send I D O P g h k i d o = search (sendable, shared_send, pass.the_send) depth 12

-- each field by itself
pub lane_send : (I D O P : RattleType) (g : Ghosts I.Denot P.Denot) (h : DriveGhosts D.Denot) (k : StartGhosts O.Denot) → IsSend I → IsSend D → IsSend O → IsSend (Lane.the_row I D O P g h k)
lane_send I D O P g h k i d o =
    let p : IsSend (Pass.the_row (Shared.the_row I D O P g h k)) = pass_send I D O P g h k i d o in
    recorded_send (Lane.the_field I D O P g h k).row _ _ (Lane.the_type I D O P g h k).to_one (struct_send (shape (Lane.the_type I D O P g h k))
    (plain_send _ _ _ _ _, (p, (search (sendable, crosses) depth 20, (search (sendable, crosses, kept.the_send) depth 20, (search (sendable, crosses) depth 20, tt))))))

-- a closure over four captures
pub closure_sync : (ν : Sym) (A B C D : RattleType) → IsSync A → IsSync B → IsSync C → IsSync D → IsSync (TupleAt ν (A ∷ B ∷ C ∷ D ∷ []))
closure_sync ν A B C D a b c d =
    let T : Declared = type_at ν (A ∷ B ∷ C ∷ D ∷ []) in
    recorded_sync (Struct (shape T)) T.D T.to T.to_one (struct_sync (shape T) (a, (b, (c, (d, tt)))))

-- for `search`, at each call that asks whether a store or a pass may cross
pub ruleset crossing = (sendable, shared_send, store_send, store_sync, pass_send, lane_send)
