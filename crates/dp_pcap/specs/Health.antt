-- The health of a device, as contracts see it.
use Rattle.std.specs.Prelude.{ℕ, ◌+◌, Bool, true, false}

-- whether a device is broken, how many calls it had, and how many of them failed
pub record State : Type 0 where
  pub is_broken : Bool
  pub calls : ℕ
  pub failures : ℕ

-- a device that is sound, and not called yet
abbrev pub fresh : State
fresh = record { is_broken = false; calls = 0; failures = 0 }

-- the device after one more call
abbrev pub called : State → State
called s = record s { calls = s.calls + 1 }

-- the device after that call failed
abbrev pub failed : State → State
failed s = record s { is_broken = true; failures = s.failures + 1 }
