-- Sharing groups: registers whose packets have the same buffers and, together, all references to them. A group is named by its least register.
use Rattle.std.specs.Prelude.{◌≡◌, ℕ, ◌-◌, Bool, true, false, ◌&&◌, ◌==◌, nat_le, if◌then◌else◌, List, [], ◌∷◌, map, count_by, Option, Some, None}
use Rattle.std.specs.Prelude.{is_some, position, slice_get}
use Rattle.std.specs.List.{AllByRecursion, list_all, list_any}
use Rattle.std.specs.Option.{option_map_or}
use Rattle.std.proofs.Math.Bool.{beq}
use Rattle.dp_model.specs.declared.row.Fact.{Fact}
use Rattle.dp_model.specs.declared.row.Fact.TheVariants.{Empty, Held}
pub use Rattle.dp_model.specs.Facts.{share_of_group}
use Rattle.dp_model.specs.Facts.{loose, sole, first_group}
use Rattle.dp_model.specs.Buffers.{Number}
use Rattle.dp_model.specs.Packets.{Segment, Packet, refs}

-- ---- the words

-- the group of a register, if it belongs to one
abbrev pub group_of : Fact → Option ℕ
group_of Empty = None
group_of (Held share head tail first last segs) = if nat_le first_group share then Some (share - first_group) else None

-- whether a register belongs to the group
abbrev pub is_in : ℕ → Fact → Bool
is_in g Empty = false
is_in g (Held share head tail first last segs) = share == share_of_group g

-- the number of registers in a group, and the least of them
abbrev pub group_size : List Fact → ℕ → ℕ
group_size facts g = count_by (is_in g) facts

abbrev pub least_member : List Fact → ℕ → Option ℕ
least_member facts g = position (is_in g) facts

-- ---- which groups there are

-- g has at least two registers, and g is the least
abbrev pub is_group : List Fact → ℕ → Bool
is_group facts g = nat_le 2 (group_size facts g) && option_map_or (λ p. p == g) (least_member facts g) false

-- each group to which a register belongs is well formed
abbrev pub are_groups : List Fact → Bool
are_groups facts = list_all (λ fact. option_map_or (is_group facts) (group_of fact) true) facts

-- whether any register belongs to a group
abbrev pub have_groups : List Fact → Bool
have_groups facts = list_any (λ fact. is_some (group_of fact)) facts

-- ---- entailment

-- the test passes at each index of two lists of the same length
abbrev pub at_each_index : {A B : Type 0} → (A → B → Bool) → List A → List B → Bool
at_each_index test [] [] = true
at_each_index test (x ∷ xs) (y ∷ ys) = test x y && at_each_index test xs ys
at_each_index test [] (y ∷ ys) = false
at_each_index test (x ∷ xs) [] = false

-- the group has the same registers in both rows
abbrev pub same_registers : List Fact → List Fact → ℕ → Bool
same_registers facts others g = at_each_index (λ fact other. beq (is_in g fact) (is_in g other)) facts others

-- each group of the second row is a group of the same registers in the first
abbrev pub keeps_groups : List Fact → List Fact → Bool
keeps_groups facts others = list_all (λ other. option_map_or (same_registers facts others) (group_of other) true) others

-- ---- changing the shares of registers

abbrev pub reshared_fact : ℕ → ℕ → Fact → Fact
reshared_fact g share Empty = Empty
reshared_fact g share (Held old head tail first last segs) =
    Held (if old == share_of_group g then share else old) head tail first last segs

-- all registers of the group get a new share
abbrev pub reshared : ℕ → ℕ → List Fact → List Fact
reshared g share facts = map (reshared_fact g share) facts

-- the new share of the registers that remain in a group: a single one is sole, else the least of them names the group
abbrev pub share_left : List Fact → ℕ → ℕ
share_left facts g = if group_size facts g == 1 then sole else option_map_or share_of_group (least_member facts g) loose

-- ---- what a group says

-- whether the register with this number belongs to the group
abbrev pub belongs : List Fact → ℕ → ℕ → Bool
belongs facts g p = option_map_or (is_in g) (slice_get facts p) false

-- the buffers of a packet, in order
abbrev pub buffers_of : Packet → List Number
buffers_of k = map (λ s. s.buffer) k

-- each register of the group holds a packet with exactly these buffers, each of which has as many references as the group has registers
pub record GroupHolds (live : List Segment) (facts : List Fact) (packets : List (Option Packet)) (g : ℕ) : Type 0 where
  pub buffers : List Number
  pub same : (p : ℕ) → belongs facts g p ≡ true → (packet : Packet) × (slice_get packets p ≡ Some (Some packet)) × (buffers_of packet ≡ buffers)
  pub counted : AllByRecursion (λ b. refs live b ≡ group_size facts g) buffers
