-- A scan goes on with its record.
use Rattle.std.proofs.Common.{◌≡◌, ℕ, ◌<◌, ◌≤◌, ◌+◌, min, max, List, [], ◌∷◌, ◌++◌, length, take, drop, get_or, refl, sym, ap, ◌∙◌, subst, arith, length-take, length-drop, length-append}
use Rattle.std.specs.List.{All}
use Rattle.std.proofs.lemmas.List.{take-append-le, drop-append-le, take_all, drop_all, map_push, take_more, length_push}
use Rattle.disk_mem.specs.declared.touches.Touch.{Touch}
use Rattle.disk_mem.specs.declared.touches.Touch.TheVariants.{Wrote, FailedWrite, DidCut, FailedCut, Synced, FailedSync}
use Rattle.disk_mem.specs.declared.scans.Scan.{Scan}
use Rattle.disk_mem.specs.Changes.{File, started, over, changed, changed_by}
use Rattle.disk_mem.specs.Recorded.{change_of, changes_of, IsStored, ranges_of}
use Rattle.disk_mem.specs.Scans.{file_by, IsScanOf, IsScan, scanned}
use Rattle.disk_mem.proofs.FileLemmas.{changed_by-push, ranges_of-push}

pub length-over : (at : ℕ) (piece old : List ℕ) → length (over at piece old) ≡ max (length old) (min at (length old) + length piece)
length-over at piece old = omega (arith, length-append (take at old ++ piece) (drop (at + length piece) old), length-append (take at old) piece, length-take at old, length-drop (at + length piece) old)

pub length-piece : (n from : ℕ) (pieces : List ℕ) → from + n ≤ length pieces → length (take n (drop from pieces)) ≡ n
length-piece n from pieces le = omega (arith, length-take n (drop from pieces), length-drop from pieces, le)

pub file_by-push : (first pieces : List ℕ) (ts : List Touch) (t : Touch) → file_by first pieces (ts ++ t ∷ []) ≡ changed (file_by first pieces ts) (change_of pieces t)
file_by-push first pieces ts t = ap (changed_by (started first)) (map_push (change_of pieces) ts t) ∙ changed_by-push (started first) (changes_of pieces ts) (change_of pieces t)

-- what the parts of a scan that speak of earlier entries say with one entry more, where it is no sync that succeeded
stable-push : (first pieces : List ℕ) (f : File) (ts : List Touch) (t : Touch) (s : Scan) → IsScanOf first pieces f ts s → f.pending.stable ≡ (file_by first pieces (take s.synced (ts ++ t ∷ []))).held
stable-push first pieces f ts t s scan = scan.stable ∙ sym (ap (λ (us : List Touch). (file_by first pieces us).held) (take-append-le s.synced ts (t ∷ []) scan.synced))

ranges-push : (first pieces : List ℕ) (f : File) (ts : List Touch) (t : Touch) (s : Scan) → IsScanOf first pieces f ts s → ranges_of [] (drop s.synced (ts ++ t ∷ [])) ≡ ranges_of [] (drop s.synced ts ++ t ∷ [])
ranges-push first pieces f ts t s scan = ap (ranges_of []) (drop-append-le s.synced ts (t ∷ []) scan.synced)

file-push : (first pieces : List ℕ) (f : File) (ts : List Touch) (t : Touch) (s : Scan) → IsScanOf first pieces f ts s → changed f (change_of pieces t) ≡ file_by first pieces (ts ++ t ∷ [])
file-push first pieces f ts t s scan = ap (λ (g : File). changed g (change_of pieces t)) scan.file ∙ sym (file_by-push first pieces ts t)

range-push : (first pieces : List ℕ) (f : File) (ts : List Touch) (at n : ℕ) (t : Touch) (s : Scan) → IsScanOf first pieces f ts s → ranges_of [] (drop s.synced ts ++ t ∷ []) ≡ (at, n) ∷ ranges_of [] (drop s.synced ts) → (m : ℕ) → m ≡ n → (at, m) ∷ f.pending.touched ≡ ranges_of [] (drop s.synced (ts ++ t ∷ []))
range-push first pieces f ts at n t s scan push m same =
    ap (λ (k : ℕ). (at, k) ∷ f.pending.touched) same
    ∙ ap (λ (rs : List (ℕ × ℕ)). (at, n) ∷ rs) scan.touched
    ∙ sym (ranges-push first pieces f ts t s scan ∙ push)

IsScanOf-push : (first pieces : List ℕ) (f : File) (ts : List Touch) (t : Touch) (s : Scan) → IsStored (length pieces) t → IsScanOf first pieces f ts s → IsScanOf first pieces (changed f (change_of pieces t)) (ts ++ t ∷ []) (scanned t (length ts) s)
IsScanOf-push first pieces f ts (Wrote at from n) s stored scan =
    let long : length (take n (drop from pieces)) ≡ n = length-piece n from pieces stored.0 in
    record {
      file = file-push first pieces f ts (Wrote at from n) s scan;
      len = omega (arith, length-over at (take n (drop from pieces)) f.held, long, scan.len);
      cut = scan.cut;
      least = scan.least;
      greatest = omega (arith, long, scan.greatest);
      synced = omega (arith, length_push ts (Wrote at from n), scan.synced);
      stable = stable-push first pieces f ts (Wrote at from n) s scan;
      touched = range-push first pieces f ts at n (Wrote at from n) s scan (ranges_of-push [] (drop s.synced ts) (Wrote at from n)) (length (take n (drop from pieces))) long;
    }
IsScanOf-push first pieces f ts (FailedWrite at n) s stored scan = record {
  file = file-push first pieces f ts (FailedWrite at n) s scan;
  len = scan.len;
  cut = scan.cut;
  least = scan.least;
  greatest = omega (arith, scan.greatest);
  synced = omega (arith, length_push ts (FailedWrite at n), scan.synced);
  stable = stable-push first pieces f ts (FailedWrite at n) s scan;
  touched = range-push first pieces f ts at n (FailedWrite at n) s scan (ranges_of-push [] (drop s.synced ts) (FailedWrite at n)) n refl;
}
IsScanOf-push first pieces f ts (DidCut n) s stored scan = record {
  file = file-push first pieces f ts (DidCut n) s scan;
  len = omega (arith, length-take n f.held, scan.len);
  cut = omega (arith, scan.cut);
  least = omega (arith, scan.least);
  greatest = scan.greatest;
  synced = omega (arith, length_push ts (DidCut n), scan.synced);
  stable = stable-push first pieces f ts (DidCut n) s scan;
  touched = scan.touched ∙ sym (ranges-push first pieces f ts (DidCut n) s scan ∙ ranges_of-push [] (drop s.synced ts) (DidCut n));
}
IsScanOf-push first pieces f ts (FailedCut n) s stored scan = record {
  file = file-push first pieces f ts (FailedCut n) s scan;
  len = scan.len;
  cut = omega (arith, scan.cut);
  least = omega (arith, scan.least);
  greatest = scan.greatest;
  synced = omega (arith, length_push ts (FailedCut n), scan.synced);
  stable = stable-push first pieces f ts (FailedCut n) s scan;
  touched = scan.touched ∙ sym (ranges-push first pieces f ts (FailedCut n) s scan ∙ ranges_of-push [] (drop s.synced ts) (FailedCut n));
}
IsScanOf-push first pieces f ts Synced s stored scan =
    let all : take (length ts + 1) (ts ++ Synced ∷ []) ≡ ts ++ Synced ∷ [] = take_all (length ts + 1) (ts ++ Synced ∷ []) (omega (arith, length_push ts Synced)) in
    record {
      file = file-push first pieces f ts Synced s scan;
      len = scan.len;
      cut = scan.len;
      least = scan.len;
      greatest = scan.len;
      synced = omega (arith, length_push ts Synced);
      stable = ap (λ (g : File). g.held) (file-push first pieces f ts Synced s scan) ∙ sym (ap (λ (us : List Touch). (file_by first pieces us).held) all);
      touched = sym (ap (ranges_of []) (drop_all (length ts + 1) (ts ++ Synced ∷ []) (omega (arith, length_push ts Synced))));
    }
IsScanOf-push first pieces f ts FailedSync s stored scan = record {
  file = file-push first pieces f ts FailedSync s scan;
  len = scan.len;
  cut = scan.cut;
  least = scan.least;
  greatest = scan.greatest;
  synced = omega (arith, length_push ts FailedSync, scan.synced);
  stable = stable-push first pieces f ts FailedSync s scan;
  touched = scan.touched ∙ sym (ranges-push first pieces f ts FailedSync s scan ∙ ranges_of-push [] (drop s.synced ts) FailedSync);
}

-- one entry of a record more
pub IsScan-more : (first pieces : List ℕ) (touches : List Touch) (i : ℕ) (d : Touch) (s : Scan) → i < length touches → IsStored (length pieces) (get_or touches i d) → IsScan first pieces (take i touches) s → IsScan first pieces (take (i + 1) touches) (scanned (get_or touches i d) i s)
IsScan-more first pieces touches i d s lt stored scan =
    let t : Touch = get_or touches i d in
    let ts : List Touch = take i touches in
    let long : length ts ≡ i = omega (arith, length-take i touches, lt) in
    let pushed : IsScanOf first pieces (changed (file_by first pieces ts) (change_of pieces t)) (ts ++ t ∷ []) (scanned t (length ts) s) = IsScanOf-push first pieces (file_by first pieces ts) ts t s stored scan in
    let placed : IsScanOf first pieces (file_by first pieces (ts ++ t ∷ [])) (ts ++ t ∷ []) (scanned t (length ts) s) = subst (λ (f : File). IsScanOf first pieces f (ts ++ t ∷ []) (scanned t (length ts) s)) (sym (file_by-push first pieces ts t)) pushed in
    let counted : IsScanOf first pieces (file_by first pieces (ts ++ t ∷ [])) (ts ++ t ∷ []) (scanned t i s) = subst (λ (n : ℕ). IsScanOf first pieces (file_by first pieces (ts ++ t ∷ [])) (ts ++ t ∷ []) (scanned t n s)) long placed in
    subst (λ (us : List Touch). IsScan first pieces us (scanned t i s)) (sym (take_more touches i d lt)) counted

pub IsScan-step : (first pieces : List ℕ) (touches : List Touch) (i : ℕ) (d : Touch) (s new : Scan) → i < length touches → All (IsStored (length pieces)) touches → IsScan first pieces (take i touches) s → new ≡ scanned (get_or touches i d) i s → IsScan first pieces (take (i + 1) touches) new
IsScan-step first pieces touches i d s new lt stored scan is =
    subst (λ (r : Scan). IsScan first pieces (take (i + 1) touches) r) (sym is) (IsScan-more first pieces touches i d s lt (stored i d lt) scan)

-- behind the last entry
pub IsScan-all : (first pieces : List ℕ) (touches : List Touch) (i : ℕ) (s : Scan) → length touches ≤ i → IsScan first pieces (take i touches) s → IsScan first pieces touches s
IsScan-all first pieces touches i s le scan = subst (λ (us : List Touch). IsScan first pieces us s) (take_all i touches le) scan

-- the last sync is one of the entries so far
synced-scanned : (t : Touch) (i : ℕ) (s : Scan) → s.synced ≤ i → (scanned t i s).synced ≤ i + 1
synced-scanned (Wrote at from n) i s le = omega arith
synced-scanned (FailedWrite at n) i s le = omega arith
synced-scanned (DidCut n) i s le = omega arith
synced-scanned (FailedCut n) i s le = omega arith
synced-scanned Synced i s le = omega arith
synced-scanned FailedSync i s le = omega arith

pub synced-step : (touches : List Touch) (i : ℕ) (d : Touch) (s new : Scan) → s.synced ≤ i → new ≡ scanned (get_or touches i d) i s → new.synced ≤ i + 1
synced-step touches i d s new le is = subst (λ (r : Scan). r.synced ≤ i + 1) (sym is) (synced-scanned (get_or touches i d) i s le)
