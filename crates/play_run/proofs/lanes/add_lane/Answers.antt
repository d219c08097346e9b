use Rattle.std.proofs.Common.{◌≡◌, ◌∙◌, ℕ, [], None, refl, sym, ap, arith}
use Rattle.book_lock.specs.Pass.{Known}
use Rattle.play_run.specs.inside.Dealt.{fresh_pass}
use Rattle.play_run.proofs.lanes.add_lane.Goals as goal

pub returns-in-Ok-clause-ok : goal.returns-in-Ok-clause-ok
returns-in-Ok-clause-ok g c =
    let old = c.args.pass.now in
    let by = c.split_pass.ensures in
    let fresh : record old { own = []; parts = 1 } ≡ fresh_pass old.lock old.origin 1 =
    λ i. record { lock = old.lock; seen = c.requires.fresh.0 i; own = []; origin = old.origin; parts = 1; holds = c.requires.lock.1 i } in
    record {
      lane = record { session = c.args.session; pass = c.split_pass.result; rows = c.args.own; kept = c.in_ok-kept.kept; fault = None };
      lanes = c.in-Ok.ensures.items;
      dealt = record {
        session_is = refl;
        rows_are = refl;
        pass_is = by.new ∙ fresh;
        kept = c.in_ok-kept.ensures.items;
        room = omega (arith, c.in_ok-kept.ensures.len, c.in_ok-kept.ensures.capacity, c.len.ensures, c.args.own.ok.0);
        fault = refl;
      };
      pass = by.old ∙ ap (λ (n : ℕ). record old { parts = n }) (sym (ap (λ (k : Known). k.parts) by.old));
      parts = omega (arith, ap (λ (k : Known). k.parts) by.old, c.requires.parts);
    }
