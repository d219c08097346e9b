-- A client may go to another thread where the index and the drive may, and so may a worker whose work may. Then threads may
-- share a pool.
use denote.RattleType.{RattleType}
use denote.Ref.{NamedLft}
use denote.Param.Send.{IsSend, IsSync, plain_send, view_send, recorded_send, struct_send, shr_send, view_sync, recorded_sync, struct_sync, sendable}
use denote.Struct.Declared.{shape}
use Rattle.std.proofs.Crossing.{crosses}
use Rattle.index_layer.specs.declared.index.Index.{Ghosts}
use Rattle.disk_trait.specs.declared.disk.LogDisk.{Ghosts as DriveGhosts}
use Rattle.sessions.specs.declared.start.Start.{Ghosts as StartGhosts}
use Rattle.sessions.proofs.Sent.{store_sync, pass_send}
use Rattle.store_client.specs.contracts.client.Client as Client
use Rattle.store_client.specs.contracts.client.Client.TheInside as inside
use Rattle.store_client.specs.contracts.crowd.Worker as Worker
use Rattle.store_client.specs.contracts.pool.Desk as Desk
use Rattle.store_client.specs.contracts.pool.Pool as Pool
use Rattle.store_client.specs.contracts.pool.Pool.TheInside as pool

-- each field by itself
pub client_send : (κ : NamedLft) (I D O P : RattleType) (g : Ghosts I.Denot P.Denot) (h : DriveGhosts D.Denot) (k : StartGhosts O.Denot) → IsSend I → IsSend D → IsSend O → IsSend (Client.the_row κ I D O P g h k)
client_send κ I D O P g h k i d o =
    view_send (inside.the_row κ I D O P g h k) _ _ _ _ (recorded_send (inside.the_field κ I D O P g h k).row _ _ (inside.the_type κ I D O P g h k).to_one
    (struct_send (shape (inside.the_type κ I D O P g h k))
    (shr_send _ _ _ (store_sync I D O P g h k i d o), (pass_send I D O P g h k i d o, (search (sendable, crosses) depth 20, (plain_send _ _ _ _ _, (plain_send _ _ _ _ _, (plain_send _ _ _ _ _, (search (sendable, crosses) depth 30, tt)))))))))

pub worker_send : (κ : NamedLft) (I D O W P : RattleType) (g : Ghosts I.Denot P.Denot) (h : DriveGhosts D.Denot) (k : StartGhosts O.Denot) → IsSend I → IsSend D → IsSend O → IsSend W → IsSend (Worker.the_row κ I D O W P g h k)
worker_send κ I D O W P g h k i d o w =
    recorded_send (Worker.the_field κ I D O W P g h k).row _ _ (Worker.the_type κ I D O W P g h k).to_one (struct_send (shape (Worker.the_type κ I D O W P g h k))
    (client_send κ I D O P g h k i d o, (w, tt)))

pub desk_send : (κ : NamedLft) (I D O L P : RattleType) (g : Ghosts I.Denot P.Denot) (h : DriveGhosts D.Denot) (k : StartGhosts O.Denot) (l : _) → IsSend I → IsSend D → IsSend O → IsSend L → IsSend (Desk.the_row κ I D O L P g h k l)
desk_send κ I D O L P g h k l i d o s = search (sendable, crosses, client_send) depth 24

pub pool_sync : (κ : NamedLft) (I D O L P : RattleType) (g : Ghosts I.Denot P.Denot) (h : DriveGhosts D.Denot) (k : StartGhosts O.Denot) (l : _) → IsSend I → IsSend D → IsSend O → IsSend L → IsSync (Pool.the_row κ I D O L P g h k l)
pool_sync κ I D O L P g h k l i d o s =
    view_sync (pool.the_row κ I D O L P g h k l) _ _ _ _ (recorded_sync (pool.the_field κ I D O L P g h k l).row _ _ (pool.the_type κ I D O L P g h k l).to_one
    (struct_sync (shape (pool.the_type κ I D O L P g h k l))
    (search (sendable, crosses, desk_send) depth 20, (search (sendable, crosses) depth 20, tt))))
