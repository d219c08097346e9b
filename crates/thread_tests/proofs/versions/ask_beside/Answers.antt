use denote.RattleType.{RattleType}
use denote.Param.Send.{IsSend, IsSync, recorded_send, struct_send, param_send, arg_send, shr_send, mut_send}
use denote.Struct.Struct.{Struct}
use denote.Struct.Declared.{Declared, shape}
use denote.Struct.Tuple.{TupleAt, type_at}
use denote.Exit.{no}
use mathlib.Core.List.{[], ◌∷◌}
use mir.Syntax.{Sym, Dict}
use Rattle.std.specs.contracts.vec.Vec as Vec
use Rattle.std.specs.contracts.alloc.Global as Global
use Rattle.std.specs.contracts.impls.GlobalAllocator.TheImpl as allocated
use Rattle.std.specs.contracts.marker.Brand as Brand
use Rattle.std.proofs.marker.Brand.TheSendSync as brand
use Rattle.flat_index.specs.contracts.leaf.FlatLeaf as FlatLeaf
use Rattle.flat_index.specs.contracts.flat.FlatIndex as FlatIndex
use Rattle.flat_index.specs.contracts.flat.FlatIndexIndex.TheImpl as listed
use Rattle.flat_index.proofs.flat.FlatIndex.TheSendSync as flat
use Rattle.thread_tests.specs.contracts.numbered.Numbered as Numbered
use Rattle.thread_tests.specs.contracts.numbered.NumberedIndex.TheImpl as indexed
use Rattle.thread_tests.proofs.numbered.Numbered.TheSendSync as numbered
use Rattle.disk_mem.specs.contracts.disk.MemDisk as Drive
use Rattle.disk_mem.specs.contracts.disk.MemDiskLogDisk.TheImpl as logged
use Rattle.disk_mem.proofs.disk.MemDisk.TheSendSync as drive
use Rattle.book_lock.specs.contracts.pass.Pass as Pass
use Rattle.sessions.specs.contracts.store.Store as Store
use Rattle.sessions.specs.contracts.shared.SharedBook as Shared
use Rattle.sessions.specs.contracts.start.BrandStart.TheImpl as started
use Rattle.sessions.proofs.Sent.{store_sync, pass_send}
use Rattle.std.proofs.alloc.Global.TheSendSync as global
use Rattle.thread_tests.proofs.versions.ask_beside.Goals as goal

abbrev place : RattleType
place = Vec.the_row FlatLeaf.the_row Global.the_row allocated.ghosts

abbrev index : RattleType
index = Numbered.the_row FlatIndex.the_row place

index_send : IsSend index
index_send = numbered.the_send FlatIndex.the_row place flat.the_send

-- Threads may share a store over a numbered index, and a pass of it may go to another thread.
numbered_store_sync : (held dropped : Dict) → IsSync (Store.the_row index Drive.the_row Brand.the_row place (indexed.ghosts FlatIndex.the_row place listed.ghosts held dropped) logged.ghosts started.ghosts)
numbered_store_sync held dropped = store_sync index Drive.the_row Brand.the_row place (indexed.ghosts FlatIndex.the_row place listed.ghosts held dropped) logged.ghosts started.ghosts index_send drive.the_send brand.the_send

numbered_pass_send : (held dropped : Dict) → IsSend (Pass.the_row (Shared.the_row index Drive.the_row Brand.the_row place (indexed.ghosts FlatIndex.the_row place listed.ghosts held dropped) logged.ghosts started.ghosts))
numbered_pass_send held dropped = pass_send index Drive.the_row Brand.the_row place (indexed.ghosts FlatIndex.the_row place listed.ghosts held dropped) logged.ghosts started.ghosts index_send drive.the_send brand.the_send

-- A closure over five captures.
closure_send : (ν : Sym) (A B C D E : RattleType) → IsSend A → IsSend B → IsSend C → IsSend D → IsSend E → IsSend (TupleAt ν (A ∷ B ∷ C ∷ D ∷ E ∷ []))
closure_send ν A B C D E a b c d e =
    let T : Declared = type_at ν (A ∷ B ∷ C ∷ D ∷ E ∷ []) in
    recorded_send (Struct (shape T)) T.D T.to T.to_one (struct_send (shape T) (a, (b, (c, (d, (e, tt))))))

-- The index's ghost members don't depend on dictionaries, so any dictionary will do.
pub join_mut-answer-requires-send-F : goal.join_mut-answer-requires-send-F
join_mut-answer-requires-send-F g c κs within =
    param_send 1 _ (arg_send _ no _ (closure_send _ _ _ _ _ _ (shr_send _ _ _ c.type_bounds.sync-R) (shr_send _ _ _ global.the_sync) (shr_send _ _ _ (numbered_store_sync g.R.Wait-dict g.R.Wait-dict)) (shr_send _ _ _ c.type_bounds.sync-G) (mut_send _ _ _ (numbered_pass_send g.R.Wait-dict g.R.Wait-dict))))
