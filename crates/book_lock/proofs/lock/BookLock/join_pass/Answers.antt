use Rattle.std.proofs.Common.{◌≡◌, ℕ, List, ap, arith}
use Rattle.book_lock.specs.Own.{times, merge}
use Rattle.book_lock.specs.Pass.{Known}
use Rattle.book_lock.specs.Steps.{Sat}
use Rattle.book_lock.proofs.Positions.{times-merge}
use Rattle.book_lock.proofs.lock.BookLock.join_pass.Goals as goal

pub returns-clause-counts : goal.returns-clause-counts
returns-clause-counts g c p =
    let a : List ℕ = c.into.inside.seat.me.0.own in
    let b : List ℕ = c.other.inside.seat.me.0.own in
    let e : times p c.absorb.new.seat.me.0.own ≡ times p (merge b a) = ap (λ (m : Sat g.row.V.Denot). times p m.0.own) c.absorb.ensures.seat.1 in
    let m = times-merge p b a in
    let x : times p a ≡ times p c.args.into.now.own = ap (λ (k : Known). times p k.own) c.into.view_is in
    let y : times p b ≡ times p c.args.other.own = ap (λ (k : Known). times p k.own) c.other.view_is in
    omega arith
