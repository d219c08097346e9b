use Rattle.std.proofs.Common.{◌≡◌, ◌≤◌, List, ℕ, length, take, get_or, sym, ◌∙◌, arith}
use Rattle.recovery.proofs.HeadLemmas.{read_head, is_header, head_stands}
use Rattle.recovery.proofs.heads.read_head.Goals as goal

pub returns-clause-ok : goal.returns-clause-ok
returns-clause-ok g c =
    let into : List ℕ = c.read.new.into in
    let bytes = c.in_ok-got.ensures.bytes in
    let marks = c.has_marks.ensures.yes c.if-not-has_marks.false in (
      omega (arith, c.if-len-lt17.false),
      λ xs told.
          let long : 17 ≤ length xs = omega (arith, c.if-len-lt17.false, c.requires.len xs told) in
          let front : into ≡ take 16 xs = read_head c.in_ok-got.got into xs c.read.auto.into bytes.0 c.if-got-lt16.false (bytes.1 xs told).1 in
          head_stands xs long (get_or into 8 0) (get_or into 9 0) (sym front ∙ is_header into c.read.auto.into marks.0 marks.1),
    )
