-- A recorded file keeps its record with one call more.
use Rattle.std.proofs.Common.{◌≡◌, ℕ, ◌≤◌, ◌+◌, ◌-◌, ◌^◌, List, [], ◌∷◌, ◌++◌, length, take, drop, refl, sym, ap, ◌∙◌, subst, arith, length-drop, length-append, Result, Ok, Err, OnOk, OnErr, IsOk, is_ok, if◌then◌else◌, Bool}
use Rattle.std.specs.List.{All}
use Rattle.std.proofs.lemmas.List.{take-append-le, drop-append-le, take_all, drop_at, map_push, take-map}
use Rattle.std.proofs.lemmas.List.Elements.{All-head, All-tail, All-push, All-weaker}
use Rattle.disk_mem.specs.declared.touches.Touch.{Touch}
use Rattle.disk_mem.specs.declared.touches.Touch.TheVariants.{Wrote, FailedWrite, DidCut, FailedCut, Synced, FailedSync}
use Rattle.disk_mem.specs.Changes.{Change, wrote, failed_write, did_cut, failed_cut, synced, failed_sync, File, held_after, over, started, changed_by, written}
use Rattle.disk_mem.specs.Recorded.{change_of, changes_of, IsStored, IsIdle, FileView, noted}
use Rattle.disk_mem.specs.Scans.{file_by}
use Rattle.disk_mem.proofs.FileLemmas.{changed_by-push}
use Rattle.disk_mem.specs.Kept.{IsRecordOf}
use Rattle.disk_mem.proofs.ScanLemmas.{file_by-push}

-- a call that can't fail
pub from_ok : {T E : Type 0} (r : Result T E) (P Q : Type 0) → OnOk r P → OnErr r Q → (Q → ⊥) → P
from_ok (Ok x) P Q ok err never = ok
from_ok (Err e) P Q ok err never = absurd (never err)

pub extended : {T E : Type 0} (r : Result T E) (new more same : List ℕ) → IsOk r → new ≡ (if is_ok r then more else same) → new ≡ more
extended r new more same ok is = is ∙ ap (λ (b : Bool). if b then more else same) ok

-- how many bytes a call writes
abbrev pub bytes_of : Change → ℕ
bytes_of (wrote at piece) = length piece
bytes_of (failed_write at n) = 0
bytes_of (did_cut n) = 0
bytes_of (failed_cut n) = 0
bytes_of synced = 0
bytes_of failed_sync = 0

written-cons : (c : Change) (cs : List Change) → written (c ∷ cs) ≡ bytes_of c + written cs
written-cons (wrote at piece) cs = refl
written-cons (failed_write at n) cs = omega arith
written-cons (did_cut n) cs = omega arith
written-cons (failed_cut n) cs = omega arith
written-cons synced cs = omega arith
written-cons failed_sync cs = omega arith

pub written-push : (cs : List Change) (c : Change) → written (cs ++ c ∷ []) ≡ written cs + bytes_of c
written-push [] c = omega (arith, written-cons c [])
written-push (x ∷ cs) c = omega (arith, written-cons x (cs ++ c ∷ []), written-push cs c, written-cons x cs)

idle-held : (pieces held : List ℕ) (t : Touch) → IsIdle t → held_after held (change_of pieces t) ≡ held
idle-held pieces held (Wrote at from len) idle = absurd idle
idle-held pieces held (FailedWrite at len) idle = refl
idle-held pieces held (DidCut len) idle = absurd idle
idle-held pieces held (FailedCut len) idle = refl
idle-held pieces held Synced idle = refl
idle-held pieces held FailedSync idle = refl

idle-bytes : (pieces : List ℕ) (t : Touch) → IsIdle t → bytes_of (change_of pieces t) ≡ 0
idle-bytes pieces (Wrote at from len) idle = absurd idle
idle-bytes pieces (FailedWrite at len) idle = refl
idle-bytes pieces (DidCut len) idle = absurd idle
idle-bytes pieces (FailedCut len) idle = refl
idle-bytes pieces Synced idle = refl
idle-bytes pieces FailedSync idle = refl

idle-stored : (n : ℕ) (t : Touch) → IsIdle t → IsStored n t
idle-stored n (Wrote at from len) idle = absurd idle
idle-stored n (FailedWrite at len) idle = idle
idle-stored n (DidCut len) idle = absurd idle
idle-stored n (FailedCut len) idle = tt
idle-stored n Synced idle = tt
idle-stored n FailedSync idle = tt

-- after a call that leaves what a read gives
pub held-idle : (first pieces : List ℕ) (ts : List Touch) (t : Touch) (held : List ℕ) → IsIdle t → held ≡ (file_by first pieces ts).held → held ≡ (file_by first pieces (ts ++ t ∷ [])).held
held-idle first pieces ts t held idle is =
    is
    ∙ sym (idle-held pieces (file_by first pieces ts).held t idle)
    ∙ sym (ap (λ (f : File). f.held) (file_by-push first pieces ts t))

pub written-idle : (pieces : List ℕ) (ts : List Touch) (t : Touch) (n : ℕ) → IsIdle t → n ≡ written (changes_of pieces ts) → n ≡ written (changes_of pieces (ts ++ t ∷ []))
written-idle pieces ts t n idle is =
    let push : written (changes_of pieces (ts ++ t ∷ [])) ≡ written (changes_of pieces ts) + bytes_of (change_of pieces t) = ap written (map_push (change_of pieces) ts t) ∙ written-push (changes_of pieces ts) (change_of pieces t) in
    omega (arith, push, is, idle-bytes pieces t idle)

pub stored-idle : (n : ℕ) (ts : List Touch) (t : Touch) → IsIdle t → All (IsStored n) ts → All (IsStored n) (ts ++ t ∷ [])
stored-idle n ts t idle stored = All-push (IsStored n) ts t stored (idle-stored n t idle)

-- after a cut
pub held-cut : (first pieces : List ℕ) (ts : List Touch) (n : ℕ) (held new : List ℕ) → held ≡ (file_by first pieces ts).held → new ≡ take n held → new ≡ (file_by first pieces (ts ++ DidCut n ∷ [])).held
held-cut first pieces ts n held new is cut =
    cut
    ∙ ap (take n) is
    ∙ sym (ap (λ (f : File). f.held) (file_by-push first pieces ts (DidCut n)))

pub written-cut : (pieces : List ℕ) (ts : List Touch) (n m : ℕ) → m ≡ written (changes_of pieces ts) → m ≡ written (changes_of pieces (ts ++ DidCut n ∷ []))
written-cut pieces ts n m is =
    let push : written (changes_of pieces (ts ++ DidCut n ∷ [])) ≡ written (changes_of pieces ts) + 0 = ap written (map_push (change_of pieces) ts (DidCut n)) ∙ written-push (changes_of pieces ts) (did_cut n) in
    omega (arith, push, is)

pub stored-cut : (m : ℕ) (ts : List Touch) (n : ℕ) → All (IsStored m) ts → All (IsStored m) (ts ++ DidCut n ∷ [])
stored-cut m ts n stored = All-push (IsStored m) ts (DidCut n) stored tt

-- more pieces leave the calls of the entries so far
change_of-grown : (pieces more : List ℕ) (t : Touch) → IsStored (length pieces) t → change_of (pieces ++ more) t ≡ change_of pieces t
change_of-grown pieces more (Wrote at from len) stored =
    let behind : from ≤ length pieces = omega (arith, stored.0) in
    let fits : len ≤ length (drop from pieces) = omega (arith, length-drop from pieces, stored.0) in
    ap (λ (xs : List ℕ). wrote at (take len xs)) (drop-append-le from pieces more behind) ∙ ap (wrote at) (take-append-le len (drop from pieces) more fits)
change_of-grown pieces more (FailedWrite at len) stored = refl
change_of-grown pieces more (DidCut len) stored = refl
change_of-grown pieces more (FailedCut len) stored = refl
change_of-grown pieces more Synced stored = refl
change_of-grown pieces more FailedSync stored = refl

changes_of-grown : (pieces more : List ℕ) (ts : List Touch) → All (IsStored (length pieces)) ts → changes_of (pieces ++ more) ts ≡ changes_of pieces ts
changes_of-grown pieces more [] stored = refl
changes_of-grown pieces more (t ∷ ts) stored =
    ap (λ (c : Change). c ∷ changes_of (pieces ++ more) ts) (change_of-grown pieces more t (All-head (IsStored (length pieces)) t ts stored))
    ∙ ap (λ (cs : List Change). change_of pieces t ∷ cs) (changes_of-grown pieces more ts (All-tail (IsStored (length pieces)) t ts stored))

change_of-written : (pieces piece : List ℕ) (at : ℕ) → change_of (pieces ++ piece) (Wrote at (length pieces) (length piece)) ≡ wrote at piece
change_of-written pieces piece at =
    ap (λ (xs : List ℕ). wrote at (take (length piece) xs)) (drop_at pieces piece (length pieces) refl) ∙ ap (wrote at) (take_all (length piece) piece (omega arith))

-- after a write
pub changes_of-written : (pieces piece : List ℕ) (ts : List Touch) (at : ℕ) → All (IsStored (length pieces)) ts → changes_of (pieces ++ piece) (ts ++ Wrote at (length pieces) (length piece) ∷ []) ≡ changes_of pieces ts ++ wrote at piece ∷ []
changes_of-written pieces piece ts at stored =
    map_push (change_of (pieces ++ piece)) ts (Wrote at (length pieces) (length piece))
    ∙ ap (λ (cs : List Change). cs ++ change_of (pieces ++ piece) (Wrote at (length pieces) (length piece)) ∷ []) (changes_of-grown pieces piece ts stored)
    ∙ ap (λ (c : Change). changes_of pieces ts ++ c ∷ []) (change_of-written pieces piece at)

pub held-written : (first pieces piece : List ℕ) (ts : List Touch) (at : ℕ) (held new : List ℕ) → All (IsStored (length pieces)) ts → held ≡ (file_by first pieces ts).held → new ≡ over at piece held → new ≡ (file_by first (pieces ++ piece) (ts ++ Wrote at (length pieces) (length piece) ∷ [])).held
held-written first pieces piece ts at held new stored is put =
    put
    ∙ ap (over at piece) is
    ∙ sym (ap (λ (f : File). f.held) (changed_by-push (started first) (changes_of pieces ts) (wrote at piece)))
    ∙ sym (ap (λ (cs : List Change). (changed_by (started first) cs).held) (changes_of-written pieces piece ts at stored))

pub written-written : (pieces piece : List ℕ) (ts : List Touch) (at : ℕ) → All (IsStored (length pieces)) ts → length pieces ≡ written (changes_of pieces ts) → length (pieces ++ piece) ≡ written (changes_of (pieces ++ piece) (ts ++ Wrote at (length pieces) (length piece) ∷ []))
written-written pieces piece ts at stored is =
    let push : written (changes_of (pieces ++ piece) (ts ++ Wrote at (length pieces) (length piece) ∷ [])) ≡ written (changes_of pieces ts) + length piece = ap written (changes_of-written pieces piece ts at stored) ∙ written-push (changes_of pieces ts) (wrote at piece) in
    omega (arith, push, is, length-append pieces piece)

stored-grown : (n m : ℕ) → n ≤ m → (t : Touch) → IsStored n t → IsStored m t
stored-grown n m le (Wrote at from len) stored = (omega (arith, le, stored.0), stored.1)
stored-grown n m le (FailedWrite at len) stored = stored
stored-grown n m le (DidCut len) stored = stored
stored-grown n m le (FailedCut len) stored = stored
stored-grown n m le Synced stored = stored
stored-grown n m le FailedSync stored = stored

pub stored-written : (pieces piece : List ℕ) (ts : List Touch) (at : ℕ) → at + length piece ≤ 2 ^ 40 → All (IsStored (length pieces)) ts → All (IsStored (length (pieces ++ piece))) (ts ++ Wrote at (length pieces) (length piece) ∷ [])
stored-written pieces piece ts at small stored =
    let grown : length pieces + length piece ≡ length (pieces ++ piece) = omega (arith, length-append pieces piece) in
    All-push (IsStored (length (pieces ++ piece))) ts (Wrote at (length pieces) (length piece)) (All-weaker (IsStored (length pieces)) (IsStored (length (pieces ++ piece))) (stored-grown (length pieces) (length (pieces ++ piece)) (omega (arith, grown))) ts stored) (omega (arith, grown), small)

-- a record with one entry more
pub IsRecordOf-note : (first held pieces : List ℕ) (ts us : List Touch) (t : Touch) → IsIdle t → IsRecordOf first held pieces ts → us ≡ ts ++ t ∷ [] → IsRecordOf first held pieces us
IsRecordOf-note first held pieces ts us t idle kept is = subst (IsRecordOf first held pieces) (sym is) (record {
  bytes = held-idle first pieces ts t held idle kept.bytes;
  lengths = written-idle pieces ts t (length pieces) idle kept.lengths;
  stored = stored-idle (length pieces) ts t idle kept.stored;
})

pub IsRecordOf-cut : (first held new pieces : List ℕ) (ts us : List Touch) (n : ℕ) → IsRecordOf first held pieces ts → new ≡ take n held → us ≡ ts ++ DidCut n ∷ [] → IsRecordOf first new pieces us
IsRecordOf-cut first held new pieces ts us n kept cut is = subst (IsRecordOf first new pieces) (sym is) (record {
  bytes = held-cut first pieces ts n held new kept.bytes cut;
  lengths = written-cut pieces ts n (length pieces) kept.lengths;
  stored = stored-cut (length pieces) ts n kept.stored;
})

pub IsRecordOf-write : (first held new pieces piece more : List ℕ) (ts us : List Touch) (at from : ℕ) → at + length piece ≤ 2 ^ 40 → IsRecordOf first held pieces ts → from ≡ length pieces → new ≡ over at piece held → more ≡ pieces ++ piece → us ≡ ts ++ Wrote at from (length piece) ∷ [] → IsRecordOf first new more us
IsRecordOf-write first held new pieces piece more ts us at from small kept here put grown is =
    let made : IsRecordOf first new (pieces ++ piece) (ts ++ Wrote at (length pieces) (length piece) ∷ []) = record {
      bytes = held-written first pieces piece ts at held new kept.stored kept.bytes put;
      lengths = written-written pieces piece ts at kept.stored kept.lengths;
      stored = stored-written pieces piece ts at small kept.stored;
    } in
    let placed : IsRecordOf first new (pieces ++ piece) us = subst (IsRecordOf first new (pieces ++ piece)) (sym (is ∙ ap (λ (k : ℕ). ts ++ Wrote at k (length piece) ∷ []) here)) made in
    subst (λ (ps : List ℕ). IsRecordOf first new ps us) (sym grown) placed

-- and the calls that it stands for
pub changes-written : (first held pieces piece more : List ℕ) (ts us : List Touch) (at from : ℕ) → IsRecordOf first held pieces ts → from ≡ length pieces → more ≡ pieces ++ piece → us ≡ ts ++ Wrote at from (length piece) ∷ [] → changes_of more us ≡ changes_of pieces ts ++ wrote at piece ∷ []
changes-written first held pieces piece more ts us at from kept here grown is =
    ap (λ (ps : List ℕ). changes_of ps us) grown
    ∙ ap (changes_of (pieces ++ piece)) (is ∙ ap (λ (k : ℕ). ts ++ Wrote at k (length piece) ∷ []) here)
    ∙ changes_of-written pieces piece ts at kept.stored

-- what contracts see of a file with one call more
pub view-noted : (v : FileView) (first : List ℕ) (cs ds : List Change) (c : Change) (room cap len cap' len' : ℕ) → record { first = first; changes = cs; room = room; spare = cap - len } ≡ v → ds ≡ cs ++ c ∷ [] → cap' ≡ cap → len' ≡ len + 1 → record { first = first; changes = ds; room = room; spare = cap' - len' } ≡ noted c v
view-noted v first cs ds c room cap len cap' len' view more same_cap same_len =
    let spare : cap' - len' ≡ cap - len - 1 = omega arith in
    let at_view : record { first = first; changes = ds; room = room; spare = cap' - len' } ≡ noted c (record { first = first; changes = cs; room = room; spare = cap - len }) = cc in
    subst (λ (w : FileView). record { first = first; changes = ds; room = room; spare = cap' - len' } ≡ noted c w) view at_view

-- the file after so many calls
pub file_by-take : (v : FileView) (first pieces : List ℕ) (ts : List Touch) (m : ℕ) → first ≡ v.first → changes_of pieces ts ≡ v.changes → file_by first pieces (take m ts) ≡ changed_by (started v.first) (take m v.changes)
file_by-take v first pieces ts m same_first same_changes =
    ap (λ (xs : List ℕ). changed_by (started xs) (changes_of pieces (take m ts))) same_first
    ∙ ap (changed_by (started v.first)) (sym (take-map (change_of pieces) m ts) ∙ ap (take m) same_changes)
