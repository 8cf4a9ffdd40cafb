-- The meter that counts heights. It stops at the largest number of 64 bits; no search comes near it. Assumes nothing: these are definitions.
use Rattle.std.specs.Prelude.{ℕ, ◌+◌, ◌-◌, ◌^◌, min}
use Rattle.height.specs.declared.meter.Meter.{Meter}

abbrev pub counted : ℕ → ℕ → ℕ
counted had more = min (had + more) (2 ^ 64 - 1)

abbrev pub unused : Meter
unused = record { heights = 0 }

-- after one height more
abbrev pub raised : Meter → Meter
raised m = record { heights = counted m.heights 1 }
