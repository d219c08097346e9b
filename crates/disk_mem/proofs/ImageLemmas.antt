-- An image that was painted is the one picked.
use Rattle.std.proofs.Common.{◌≡◌, ℕ, ◌<◌, ◌≤◌, ◌%◌, min, max, Bool, true, false, ◌||◌, cond, leb, List, [], ◌++◌, length, take, drop, get_or, refl, sym, ap, ◌∙◌, arith}
use Rattle.std.specs.List.{list_any}
use Rattle.std.proofs.lemmas.List.{take_all, drop_all, append-nil}
use Rattle.disk_mem.specs.declared.touches.Touch.{Touch}
use Rattle.disk_mem.specs.declared.scans.Scan.{Scan}
use Rattle.disk_mem.specs.Pending.{is_in, is_free, Picks, IsImage}
use Rattle.disk_mem.specs.Changes.{File}
use Rattle.disk_mem.specs.Recorded.{changes_of, ranges_of}
use Rattle.disk_mem.specs.Scans.{file_by, IsScan}
use Rattle.disk_mem.specs.Sound.{IsSound}
use Rattle.disk_mem.specs.Laws.{sound}

-- a whole list that was lent and came back
pub take-whole : (n : ℕ) (new items : List ℕ) → length new ≡ length items → length items ≤ n → take n (new ++ drop (length new) items) ≡ new
take-whole n new items same le =
    ap (λ (rest : List ℕ). take n (new ++ rest)) (drop_all (length new) items (omega arith))
    ∙ ap (take n) (append-nil new)
    ∙ take_all n new (omega arith)

cond-cond : (a b : Bool) (x y : ℕ) → cond b x (cond a x y) ≡ cond (a || b) x y
cond-cond true true x y = refl
cond-cond false true x y = refl
cond-cond true false x y = refl
cond-cond false false x y = refl

-- the least cut lies within the stable bytes
pub cut-stable : (first pieces : List ℕ) (touches : List Touch) (s : Scan) (stable : List ℕ) → IsScan first pieces touches s → stable ≡ (file_by first pieces (take s.synced touches)).held → s.cut ≤ length stable
cut-stable first pieces touches s stable scan is =
    let within : (file_by first pieces touches).pending.cut ≤ length (file_by first pieces touches).pending.stable = (sound first (changes_of pieces touches)).stable_to_cut in
    let same : stable ≡ (file_by first pieces touches).pending.stable = is ∙ sym scan.stable in
    omega (arith, within, scan.cut, ap length same)

pub picks : (first pieces : List ℕ) (touches : List Touch) (s : Scan) (len : ℕ) (fill stable base image : List ℕ) → IsScan first pieces touches s → stable ≡ (file_by first pieces (take s.synced touches)).held → length base ≡ max s.least (min len s.greatest) → ((i : ℕ) → i < max s.least (min len s.greatest) → get_or base i 0 ≡ cond (leb s.cut i) (get_or fill (i % length fill) 0) (get_or stable i 0)) → length image ≡ length base → ((i : ℕ) → i < length base → get_or image i 0 ≡ cond (list_any (is_in i) (ranges_of [] (drop s.synced touches))) (get_or fill (i % length fill) 0) (get_or base i 0)) → Picks (file_by first pieces touches).pending len fill image
picks first pieces touches s len fill stable base image scan is long bytes same painted = record {
  long = omega (arith, long, same, scan.least, scan.greatest);
  bytes = λ i lt.
      let byte : ℕ = get_or fill (i % length fill) 0 in
      let in_base : i < length base = omega (arith, lt, same) in
      let in_len : i < max s.least (min len s.greatest) = omega (arith, in_base, long) in
      painted i in_base
      ∙ ap (λ (x : ℕ). cond (list_any (is_in i) (ranges_of [] (drop s.synced touches))) byte x) (bytes i in_len)
      ∙ cond-cond (leb s.cut i) (list_any (is_in i) (ranges_of [] (drop s.synced touches))) byte (get_or stable i 0)
      ∙ ap (λ (rs : List (ℕ × ℕ)). cond (leb s.cut i || list_any (is_in i) rs) byte (get_or stable i 0)) (sym scan.touched)
      ∙ ap (λ (n : ℕ). cond (leb n i || list_any (is_in i) (file_by first pieces touches).pending.touched) byte (get_or stable i 0)) scan.cut
      ∙ ap (λ (xs : List ℕ). cond (is_free (file_by first pieces touches).pending i) byte (get_or xs i 0)) (is ∙ sym scan.stable);
}

-- what is picked is an image
pub IsImage-picks : (f : File) (len : ℕ) (fill image : List ℕ) → IsSound f → Picks f.pending len fill image → IsImage f.pending image
IsImage-picks f len fill image sound picked = record {
  no_shorter = omega (arith, picked.long, sound.image.no_shorter, sound.image.no_longer);
  no_longer = omega (arith, picked.long, sound.image.no_shorter, sound.image.no_longer);
  kept = λ i lt free. picked.bytes i lt ∙ ap (λ (b : Bool). cond b (get_or fill (i % length fill) 0) (get_or f.pending.stable i 0)) free;
}
