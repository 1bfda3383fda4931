-- Which calls of an object in memory fail.
use Rattle.std.specs.Prelude.{◌≡◌, ℕ, ◌+◌, ◌-◌, ◌^◌, min, nat_le, ◌==◌, ◌||◌, Bool, false}
use Rattle.std.specs.List.{list_any}
use Rattle.std.specs.Option.{option_map_or}
use Rattle.jet_io.specs.declared.schedule.Schedule.{Schedule}

-- the number of the next call; the first is 1
abbrev pub next_call : Schedule → ℕ
next_call s = s.called + 1

-- the next call fails: it is listed, or the stop has come
abbrev pub fails_next : Schedule → Bool
fails_next s = list_any (λ n. n == next_call s) s.failing.items || option_map_or (λ stop. nat_le stop (next_call s)) s.stop false

-- One call later. No list of 64-bit numbers has a call from 2^64 on, so there the number may stay.
pub record IsOneCallLater (old new : Schedule) : Type 0 where
  pub called : new.called ≡ min (old.called + 1) (2 ^ 64 - 1)
  pub failing : new.failing.items ≡ old.failing.items
  pub stop : new.stop ≡ old.stop
