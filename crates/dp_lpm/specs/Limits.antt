-- The numbers of tables, which the code has as constants.
use Rattle.std.specs.Prelude.{◌≡◌, ◌^◌}
use Rattle.dp_lpm.specs.declared.limits.TheConstants.{ADDRESSES, FIRST_BITS, FIRST_ENTRIES, GROUP_ENTRIES, HOPS, MAX_DEPTH, MAX_GROUPS, MAX_HOP}
use Rattle.dp_lpm.specs.declared.limits.TheConstants.{MAX_RULES, MAX_TABLES}

-- an address has 32 bits, of which the first 24 choose one entry and the last 8 one of a group's
pub record HasNumbers : Type 0 where
  pub bits : (MAX_DEPTH ≡ 32) × (FIRST_BITS ≡ 24)
  pub entries : (ADDRESSES ≡ 2 ^ 32) × (FIRST_ENTRIES ≡ 2 ^ 24) × (GROUP_ENTRIES ≡ 2 ^ 8)
  pub hops : (HOPS ≡ 2 ^ 24) × (MAX_HOP ≡ 16777215)
  pub most : (MAX_RULES ≡ 65536) × (MAX_GROUPS ≡ 256) × (MAX_TABLES ≡ 4)
