-- The draws of a linear congruential generator.
use Rattle.std.specs.Prelude.{ℕ, zero, suc, ◌+◌, ◌*◌, ◌/◌, ◌%◌, ◌^◌}

-- the state after one draw
abbrev pub next_state : ℕ → ℕ
next_state state = (state * 6364136223846793005 + 1442695040888963407) % 2 ^ 64

-- the state after n draws
abbrev pub after_draws : ℕ → ℕ → ℕ
after_draws zero seed = seed
after_draws (suc n) seed = next_state (after_draws n seed)

-- the number drawn, if this is the state after the draw: the upper half of the state
abbrev pub drawn : ℕ → ℕ
drawn state = state / 2 ^ 32

-- the draw after n others
abbrev pub draw_at : ℕ → ℕ → ℕ
draw_at seed n = drawn (after_draws (suc n) seed)
