-- A trie whose stem a key is under, as a change of it begins: what is done below the stem is done to the whole.
use Rattle.std.proofs.Common.{◌≡◌, ◌≤◌, ◌-◌, ◌++◌, ◌∙◌, ℕ, Bool, true, Result, OnOk, IfOk, length, sym, ap, subst}
use Rattle.zorder.specs.Bits.{low_bits}
use Rattle.zorder.specs.Key.{is_under}
use Rattle.bucket_versions.specs.declared.row.Row.{Row}
use Rattle.bucket_versions.specs.Rows.{Rows, has_row}
use Rattle.bit_trie.specs.Tries.{Trie, height, graft, changed_at, rows_at}
use Rattle.bit_trie.specs.Ways.{Fits}
use Rattle.kd_trie.specs.declared.stem.Stemmed.{Stemmed}
use Rattle.kd_trie.specs.Nodes.{seen}
use Rattle.kd_trie.specs.Stems.{way_of, stem_over}
use Rattle.kd_trie.specs.Wholes.{sides_of, whole}
use Rattle.kd_trie.proofs.StemLemmas.{under-stem, fits-under, made-under, counted-under, changed-under, graft-under, rows-under}

-- so many bits of the key are left below the stem of a trie that holds this one
pub record Opened (key left : ℕ) (s : Stemmed) (old : Trie) : Type 0 where
  pub begun : whole s ≡ old
  pub fits : Fits left (seen s.root)
  pub path : low_bits 64 key ≡ way_of (sides_of s.stem) ++ low_bits left key

pub opened : (s : Stemmed) (key len : ℕ) (old : Trie) → whole s ≡ old → is_under s.stem.name key ≡ true → len ≡ length s.stem.name → height old ≤ 64 → Opened key (64 - len) s old
opened s key len old begun under long h =
    let rest : 64 - len ≡ 64 - length s.stem.name = ap (λ (n : ℕ). 64 - n) long in
    record {
      begun = begun;
      fits = fits-under s.stem.name (sides_of s.stem) (seen s.root) (64 - len) s.stem.named rest (subst (λ (t : Trie). height t ≤ 64) (sym begun) h);
      path = under-stem s.stem.name (sides_of s.stem) key (64 - len) s.stem.named under rest;
    }

module _ {key left : ℕ} {s : Stemmed} {old : Trie} (o : Opened key left s old) where
  pub graft-made : {A E : Type 0} (r : Result A E) (part root last : Trie) → last ≡ stem_over (sides_of s.stem) root → OnOk r (root ≡ graft (low_bits left key) part (seen s.root)) → OnOk r (last ≡ graft (low_bits 64 key) part old)
  graft-made r part root last ended made =
      made-under r (sides_of s.stem) (λ t. graft (low_bits 64 key) part t) (λ t. graft (low_bits left key) part t) (seen s.root) root old last o.begun ended
      (graft-under (sides_of s.stem) key left o.path part (seen s.root)) made

  pub changed-made : {A E : Type 0} (r : Result A E) (change : Rows → Rows) (root last : Trie) → last ≡ stem_over (sides_of s.stem) root → OnOk r (root ≡ changed_at (low_bits left key) change (seen s.root)) → OnOk r (last ≡ changed_at (low_bits 64 key) change old)
  changed-made r change root last ended made =
      made-under r (sides_of s.stem) (λ t. changed_at (low_bits 64 key) change t) (λ t. changed_at (low_bits left key) change t) (seen s.root) root old last o.begun ended
      (changed-under (sides_of s.stem) key left o.path change (seen s.root)) made

  pub counted : {E : Type 0} (r : Result ℕ E) (root last : Trie) → last ≡ stem_over (sides_of s.stem) root → IfOk r (λ n. n ≡ length (rows_at (low_bits left key) root)) → IfOk r (λ n. n ≡ length (rows_at (low_bits 64 key) last))
  counted r root last ended is = counted-under r (sides_of s.stem) key left root last o.path ended is

  -- whether a row stands there is the same below the stem, also behind a change that is the same there
  pub row-there : (row : Row) (b : Bool) (change under : Trie → Trie) → change (whole s) ≡ stem_over (sides_of s.stem) (under (seen s.root)) → has_row row (rows_at (low_bits 64 key) (change old)) ≡ b
      → has_row row (rows_at (low_bits left key) (under (seen s.root))) ≡ b
  row-there row b change under same has =
      ap (has_row row) (sym (rows-under (sides_of s.stem) key left o.path (under (seen s.root))))
      ∙ ap (λ (t : Trie). has_row row (rows_at (low_bits 64 key) t)) (sym same ∙ ap change o.begun)
      ∙ has
