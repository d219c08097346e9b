-- Worked values of the crash model.
use Rattle.std.specs.Prelude.{◌≡◌, true, false, [], ◌∷◌}
use Rattle.std.proofs.Common.{refl}
use Rattle.disk_mem.specs.Pending.{Pending, settled, after_write, after_cut, is_free, nearest, filled}
use Rattle.disk_mem.specs.Changes.{started, changed_by, wrote, failed_write, did_cut, synced, failed_sync}

-- the bytes 5 and 6, and a write of three bytes behind the first
abbrev written_behind : Pending
written_behind = after_write 1 3 (settled (5 ∷ 6 ∷ []))

first_byte-fixed : is_free written_behind 0 ≡ false
first_byte-fixed = refl

second_byte-free : is_free written_behind 1 ≡ true
second_byte-free = refl

least_length : nearest written_behind 0 ≡ 2
least_length = refl

greatest_length : nearest written_behind 9 ≡ 4
greatest_length = refl

stable_byte : filled written_behind (8 ∷ 9 ∷ []) 0 ≡ 5
stable_byte = refl

filled_byte : filled written_behind (8 ∷ 9 ∷ []) 1 ≡ 9
filled_byte = refl

-- a cut frees what stands behind it
cut_free : is_free (after_cut 1 (settled (5 ∷ 6 ∷ []))) 1 ≡ true
cut_free = refl

-- a write that failed leaves what a read gives, and a sync that failed leaves the write pending
failed-read : (changed_by (started (5 ∷ [])) (failed_write 0 1 ∷ failed_sync ∷ [])).held ≡ 5 ∷ []
failed-read = refl

failed-free : is_free (changed_by (started (5 ∷ [])) (failed_write 0 1 ∷ failed_sync ∷ [])).pending 0 ≡ true
failed-free = refl

-- a sync that succeeds fixes what was written and cut
synced-bytes : (changed_by (started (5 ∷ 6 ∷ [])) (wrote 1 (7 ∷ 8 ∷ []) ∷ did_cut 2 ∷ synced ∷ [])).pending ≡ settled (5 ∷ 7 ∷ [])
synced-bytes = refl
