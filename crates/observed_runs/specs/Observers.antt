-- The steps of observers.
use Rattle.std.specs.Prelude.{ℕ, ◌+◌, List, nat_lt, nat_eq, slice_index, if◌then◌else◌}
use Rattle.csp_base.specs.Members.{has}

-- an event of the set leads to the next place of the lap, and from the last to the first
abbrev pub lap_step : List ℕ → ℕ → ℕ → ℕ → ℕ
lap_step events last place e = if has events e then (if nat_lt place last then place + 1 else 0) else place

-- an event of the set turns 0 to 1, and 1 to 0
abbrev pub parity_step : List ℕ → ℕ → ℕ → ℕ
parity_step events state e = if has events e then (if nat_eq state 0 then 1 else 0) else state

-- The holder of what is taken and given back in turn: `holders` says of each event whose it is, 0 where it is no one's. The
-- first event that is someone's makes him the holder, the next one makes it free, 0, again.
abbrev pub holder_step : List ℕ → ℕ → ℕ → ℕ
holder_step holders state e = if nat_eq (slice_index holders e) 0 then state else (if nat_eq state 0 then slice_index holders e else 0)
