-- A `Source` as contracts see it.
use Rattle.std.specs.Prelude.{ℕ, Bool}
use Rattle.dp_pcap.specs.declared.byte_order.Order.{Order}
use Rattle.dp_pcap.specs.declared.time.Unit.{Unit as TimeUnit}

-- the state of a capture that is being read: its byte order and unit, the offset of the next record, the number of records read, and whether
-- another may follow
pub record SourceState : Type 0 where
  pub order : Order
  pub unit : TimeUnit
  pub offset : ℕ
  pub given : ℕ
  pub is_open : Bool
