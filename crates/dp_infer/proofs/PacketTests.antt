-- A test of a packet passes where more is known of it.
use Rattle.std.proofs.Common.{◌≡◌, ℕ, zero, suc, ◌≤◌, Bool, true, false, ◌&&◌, ◌||◌, ◌==◌, List, [], ◌∷◌, Option, Some, None, refl, arith, ⊎_elim}
use Rattle.std.specs.Prelude.{nat_le, is_some, slice_get}
use Rattle.std.specs.List.{AllZip, list_all}
use Rattle.std.specs.Option.{option_map_or}
use Rattle.std.proofs.Math.Bool.{or-true}
use Rattle.std.proofs.lemmas.Bool.{leb-true, le-leb, and_parts, eq-eqb, or_cases, eqb-true}
use Rattle.dp_model.specs.declared.row.Fact.{Fact}
use Rattle.dp_model.specs.declared.row.Fact.TheVariants.{Empty, Held}
use Rattle.dp_model.specs.declared.row.Row.{Row}
use Rattle.dp_model.specs.declared.registers.Operand.TheVariants.{Register}
use Rattle.dp_model.specs.declared.row.Holding.{Holding}
use Rattle.dp_model.specs.Rows.{holding, held_at, is_empty, entails_option}
use Rattle.dp_model.specs.declared.needs.Bytes.{Bytes}
use Rattle.dp_model.specs.declared.needs.Measure.{Measure}
use Rattle.dp_model.specs.declared.needs.Measure.TheVariants.{Headroom, Tailroom, First, Last}
use Rattle.dp_model.specs.declared.needs.Written.{Written}
use Rattle.dp_model.specs.declared.needs.Written.TheVariants.{Head, Tail}
use Rattle.dp_model.specs.Rules.{holds_with, is_held, is_empty_at, size_of, beyond, has_bytes, owns}
use Rattle.dp_infer.proofs.Sharing.{sole_more, owns_more}
use Rattle.dp_infer.proofs.Stronger.{StrongerHolding, StrongerOption, StrongerFact, Stronger, both_are, stronger_option, option_test, option_further}
use Rattle.dp_infer.proofs.Registers.{bound_at, held_both}
use Rattle.dp_infer.proofs.Changes.{AreWellFormed, facts_fit, facts_segs}

-- ---- tests of a packet

pub holds_go : (test test' : Holding → Bool) (x y : Option Holding) → StrongerOption x y
    → ((h k : Holding) → x ≡ Some h → StrongerHolding h k → test' k ≡ true → test h ≡ true)
    → option_map_or test' y false ≡ true → option_map_or test x false ≡ true
holds_go test test' None None o each e = e
holds_go test test' (Some x) (Some y) o each e = each x y refl o e
holds_go test test' x y o each e = absurd o

pub holds_keeps : (a b : Row) (p : ℕ) (test test' : Holding → Bool) → Stronger a b → AreWellFormed a
    → ((h k : Holding) → 1 ≤ h.segs → StrongerHolding h k → test' k ≡ true → test h ≡ true)
    → holds_with b p test' ≡ true → holds_with a p test ≡ true
holds_keeps a b p test test' s fits each e =
    holds_go test test' (held_at a p) (held_at b p) (held_both a b p s) (λ h k is. each h k (facts_segs a.facts p h (facts_fit a fits) is)) e

-- where the packet is in the register, if there is one
pub packet_keeps : (a b : Row) (o : Option ℕ) (test test' : Holding → Bool) → Stronger a b → AreWellFormed a
    → ((h k : Holding) → 1 ≤ h.segs → StrongerHolding h k → test' k ≡ true → test h ≡ true)
    → option_map_or (λ p. holds_with b p test') o true ≡ true → option_map_or (λ p. holds_with a p test) o true ≡ true
packet_keeps a b None test test' s fits each e = e
packet_keeps a b (Some p) test test' s fits each e = holds_keeps a b p test test' s fits each e

pub below_keeps : (m m' n : ℕ) → m ≤ m' → nat_le m' n ≡ true → nat_le m n ≡ true
below_keeps m m' n le e = le-leb m n (omega (arith, leb-true m' n e))

-- ---- held and empty registers

pub some_keeps : (x y : Option Holding) → StrongerOption x y → is_some y ≡ true → is_some x ≡ true
some_keeps None None o e = e
some_keeps (Some x) y o e = refl
some_keeps None (Some y) o e = absurd o

pub held_keeps : (a b : Row) (p : ℕ) → Stronger a b → is_held b p ≡ true → is_held a p ≡ true
held_keeps a b p s e = some_keeps (held_at a p) (held_at b p) (held_both a b p s) e

pub all_held_keeps : (a b : Row) (ps : List ℕ) → Stronger a b → list_all (is_held b) ps ≡ true → list_all (is_held a) ps ≡ true
all_held_keeps a b [] s e = refl
all_held_keeps a b (p ∷ ps) s e =
    let (here, rest) = and_parts (is_held b p) (list_all (is_held b) ps) e in
    both_are (held_keeps a b p s here) (all_held_keeps a b ps s rest)

pub empty_keeps : (f g : Fact) → StrongerFact f g → is_empty g ≡ true → is_empty f ≡ true
empty_keeps Empty g o e = refl
empty_keeps (Held share head tail first last segs) Empty o e = absurd o
empty_keeps (Held share head tail first last segs) (Held s h t f l n) o e = absurd cc

pub empty_at_go : (fs gs : List Fact) (p : ℕ) → AllZip StrongerFact fs gs → option_map_or is_empty (slice_get gs p) false ≡ true →
    option_map_or is_empty (slice_get fs p) false ≡ true
empty_at_go [] [] p o e = e
empty_at_go (f ∷ fs) (g ∷ gs) zero o e = empty_keeps f g o.0 e
empty_at_go (f ∷ fs) (g ∷ gs) (suc p) o e = empty_at_go fs gs p o.1 e
empty_at_go x y p o e = absurd o

pub empty_at_keeps : (a b : Row) (p : ℕ) → Stronger a b → is_empty_at b p ≡ true → is_empty_at a p ≡ true
empty_at_keeps a b p s e = empty_at_go a.facts b.facts p s.facts e

pub all_empty_keeps : (fs gs : List Fact) → AllZip StrongerFact fs gs → list_all is_empty gs ≡ true → list_all is_empty fs ≡ true
all_empty_keeps [] [] o e = refl
all_empty_keeps (f ∷ fs) (g ∷ gs) o e =
    let (here, rest) = and_parts (is_empty g) (list_all is_empty gs) e in
    both_are (empty_keeps f g o.0 here) (all_empty_keeps fs gs o.1 rest)
all_empty_keeps x y o e = absurd o

-- ---- bytes, sole buffers and rings

size_more : (part : Measure) (h k : Holding) → StrongerHolding h k → size_of part k ≤ size_of part h
size_more Headroom h k m = m.head
size_more Tailroom h k m = m.tail
size_more First h k m = m.first
size_more Last h k m = m.last

beyond_less : (a b : Row) (index : Option ℕ) (n : ℕ) → Stronger a b → beyond a index n ≤ beyond b index n
beyond_less a b None n s = omega arith
beyond_less a b (Some r) n s = omega (arith, bound_at a b (Register r) s)

-- there are as many bytes, or as much room
pub bytes_test : (a b : Row) (n : Bytes) → Stronger a b → (h k : Holding) → 1 ≤ h.segs → StrongerHolding h k → has_bytes b n k ≡ true → has_bytes a n h ≡ true
bytes_test a b n s h k some m t = le-leb (beyond a n.index n.count) (size_of n.part h) (omega (
  arith,
  beyond_less a b n.index n.count s,
  size_more n.part h k m,
  leb-true (beyond b n.index n.count) (size_of n.part k) t,
))

-- the last buffer is referred to once
append_test : (h k : Holding) → 1 ≤ h.segs → StrongerHolding h k → ((k.share == 2) || ((k.share == 1) && (k.segs == 1))) ≡ true →
    ((h.share == 2) || ((h.share == 1) && (h.segs == 1))) ≡ true
append_test h k some m e = ⊎_elim
    (λ two. rw (eq-eqb h.share 2 (sole_more h.share k.share m.share (eqb-true k.share 2 two))) refl)
    (λ one.
    let (first, single) = and_parts (k.share == 1) (k.segs == 1) one in
    let same : h.segs ≡ 1 = omega (arith, m.segs, some, eqb-true k.segs 1 single) in
    ⊎_elim
    (λ is. let here : (h.share == 1) ≡ true = is in rw (here, eq-eqb h.segs 1 same) (or-true (h.share == 2)))
    (λ is. rw is refl)
    (or_cases (h.share == 1) (h.share == 2) (owns_more h.share k.share m.share (rw first refl))))
    (or_cases (k.share == 2) ((k.share == 1) && (k.segs == 1)) e)

-- the part that is written has one reference
pub owned_test : (part : Written) (h k : Holding) → 1 ≤ h.segs → StrongerHolding h k → owns part k ≡ true → owns part h ≡ true
owned_test Head h k some m t = owns_more h.share k.share m.share t
owned_test Tail h k some m t = append_test h k some m t

pub ring_keeps : (a b : Row) (p : ℕ) (declared : Option Fact) → Stronger a b
    → option_map_or (λ fact. entails_option (held_at b p) (holding fact)) declared false ≡ true →
    option_map_or (λ fact. entails_option (held_at a p) (holding fact)) declared false ≡ true
ring_keeps a b p None s e = e
ring_keeps a b p (Some fact) s e =
    option_test (held_at a p) (holding fact) (option_further (held_at a p) (held_at b p) (holding fact) (held_both a b p s)
    (stronger_option (held_at b p) (holding fact) e))
