-- An instruction on a stronger row needs no more, and leads to rows that are stronger.
use Rattle.std.proofs.Common.{◌≡◌, true, Bool, ℕ, suc, ◌+◌, ◌-◌, ◌*◌, ◌^◌, ◌<◌, ◌≤◌, max, List, [], ◌∷◌, length, Option, Some, None, refl, arith}
use Rattle.std.specs.Prelude.{nat_le, nat_lt}
use Rattle.std.specs.List.{AllZip, list_all}
use Rattle.std.specs.Option.{option_map_or}
use Rattle.std.proofs.lemmas.Bool.{lt-ltb, and_parts}
use Rattle.dp_model.specs.declared.row.Row.{Row}
use Rattle.dp_model.specs.declared.row.Lead.{Lead}
use Rattle.dp_model.specs.declared.registers.Operand.TheVariants.{Register}
use Rattle.dp_model.specs.declared.instr.Instr.{Instr}
use Rattle.dp_model.specs.declared.instr.Instr.TheVariants.{Alloc, Free, Clone, Prepend, Adj, Append, Trim, Chain, IfHead, IfTail, IfLen, IfLast, Load, Store}
use Rattle.dp_model.specs.declared.instr.Instr.TheVariants.{LoadX, StoreX, Tx, Enq, Exit}
use Rattle.dp_model.specs.Arithmetic.{bytes_in}
use Rattle.dp_model.specs.Environments.{Environment, room_at}
use Rattle.dp_model.specs.declared.row.Holding.{Holding}
use Rattle.dp_model.specs.Needs.{label_of}
use Rattle.dp_model.specs.Rows.{holding, bound, with_fact, with_bound, changed, after_clone, after_prepend, after_adj, after_append, after_trim}
use Rattle.dp_model.specs.Rows.{after_alloc, onward, fork, leads, after_free, after_leave, after_chained, fact_of_ring}
use Rattle.dp_model.specs.declared.needs.Bytes.{Bytes}
use Rattle.dp_model.specs.declared.needs.Target.{Target}
use Rattle.dp_model.specs.declared.needs.Target.TheVariants.{Vacant, Distinct}
use Rattle.dp_model.specs.declared.needs.Written.{Written}
use Rattle.dp_model.specs.Needs.{needs}
use Rattle.dp_model.specs.Rules.{holds_with, packet_passes, target_fits, targets_fit, has_bytes, bytes_fit, owns, share_fits, segments_fit, may_leave, may_end}
use Rattle.dp_model.specs.Laws.Calculations.{Calculation, Sets, Jumps, GoesTo, Finds, Handles_packets, calculates, calculation_of}
use Rattle.dp_model.specs.Laws.Groups.{sole_no_group}
use Rattle.dp_infer.proofs.Stronger.{StrongerHolding, Stronger, holding_same, both_are}
use Rattle.dp_infer.proofs.Registers.{bound_at, bound_set, fact_set}
use Rattle.dp_infer.proofs.Changes.{AreWellFormed, changed_keeps, single_more, clone_keeps, free_keeps, leave_keeps', chain_keeps}
use Rattle.dp_infer.proofs.Sharing.{keeps_out}
use Rattle.dp_infer.proofs.PacketTests.{holds_keeps, packet_keeps, bytes_test, owned_test, below_keeps, empty_at_keeps, all_empty_keeps, ring_keeps}

-- ---- what the rules ask

target_keeps : (a b : Row) (o : Option Target) → Stronger a b → option_map_or (target_fits b) o true ≡ true → option_map_or (target_fits a) o true ≡ true
target_keeps a b None s e = e
target_keeps a b (Some (Vacant p)) s e = empty_at_keeps a b p s e
target_keeps a b (Some (Distinct p q)) s e = e

pub targets_keep : (a b : Row) (i : Instr) → Stronger a b → targets_fit b i ≡ true → targets_fit a i ≡ true
targets_keep a b i s e = target_keeps a b (needs i).target s e

bytes_enough : (a b : Row) (i : Instr) (o : Option Bytes) → Stronger a b → AreWellFormed a
    → option_map_or (λ n. packet_passes b i (has_bytes b n)) o true ≡ true → option_map_or (λ n. packet_passes a i (has_bytes a n)) o true ≡ true
bytes_enough a b i None s fits e = e
bytes_enough a b i (Some n) s fits e = packet_keeps a b (needs i).packet (has_bytes a n) (has_bytes b n) s fits (bytes_test a b n s) e

pub bytes_keep : (a b : Row) (i : Instr) → Stronger a b → AreWellFormed a → bytes_fit b i ≡ true → bytes_fit a i ≡ true
bytes_keep a b i s fits e = bytes_enough a b i (needs i).bytes s fits e

part_owned : (a b : Row) (i : Instr) (o : Option Written) → Stronger a b → AreWellFormed a
    → option_map_or (λ part. packet_passes b i (owns part)) o true ≡ true → option_map_or (λ part. packet_passes a i (owns part)) o true ≡ true
part_owned a b i None s fits e = e
part_owned a b i (Some part) s fits e = packet_keeps a b (needs i).packet (owns part) (owns part) s fits (owned_test part) e

pub share_keeps : (a b : Row) (i : Instr) → Stronger a b → AreWellFormed a → share_fits b i ≡ true → share_fits a i ≡ true
share_keeps a b i s fits e = part_owned a b i (needs i).written s fits e

pub segments_keep : (a b : Row) (i : Instr) → Stronger a b → AreWellFormed a → segments_fit b i ≡ true → segments_fit a i ≡ true
segments_keep a b (Chain p q) s fits e =
    holds_keeps a b p (λ h. holds_with a q (λ t. nat_le (h.segs + t.segs) 64)) (λ h. holds_with b q (λ t. nat_le (h.segs + t.segs) 64)) s fits
    (λ h k some m t. holds_keeps a b q (λ u. nat_le (h.segs + u.segs) 64) (λ u. nat_le (k.segs + u.segs) 64) s fits
    (λ u v more o r. below_keeps (h.segs + u.segs) (k.segs + v.segs) 64 (omega (arith, m.segs, o.segs)) r) t) e
segments_keep a b _ s fits e = refl

pub leave_keeps : (env : Environment) (a b : Row) (i : Instr) → Stronger a b → may_leave env b i ≡ true → may_leave env a i ≡ true
leave_keeps env a b (Tx p r l) s e =
    below_keeps (suc (bound a (Register r))) (suc (bound b (Register r))) (length env.ports) (omega (arith, bound_at a b (Register r) s)) e
leave_keeps env a b (Enq p ring l) s e = ring_keeps a b p (fact_of_ring env.rings ring) s e
leave_keeps env a b _ s e = refl

pub end_keeps : (a b : Row) (i : Instr) → Stronger a b → may_end b i ≡ true → may_end a i ≡ true
end_keeps a b Exit s e = all_empty_keeps a.facts b.facts s.facts e
end_keeps a b _ s e = refl

-- ---- where an instruction leads

-- to the same label, with a stronger row
abbrev pub StrongerLead : Lead → Lead → Type 0
StrongerLead x y = (x.to ≡ y.to) × Stronger x.row y.row

-- the row after an instruction keeps entailment; the target of `clone` is empty
abbrev Keeps : Instr → (Row → Row) → Type 0
Keeps i after = (a b : Row) → Stronger a b → AreWellFormed a → AreWellFormed b → targets_fit b i ≡ true → Stronger (after a) (after b)

-- on; on or to the named label; to that label; or nowhere
data Leading (env : Environment) (label : ℕ) (i : Instr) : Type 0 where
  On : (after : Row → Row) → ((row : Row) → leads env label row i ≡ onward label (after row)) → Keeps i after → Leading env label i
  Forks : (l : ℕ) (after at_l : Row → Row) → label_of i ≡ Some l → ((row : Row) → leads env label row i ≡ fork label (after row) l (at_l row)) →
      Keeps i after → Keeps i at_l → Leading env label i
  To : (l : ℕ) → label_of i ≡ Some l → ((row : Row) → leads env label row i ≡ record { to = l; row = row } ∷ []) → Leading env label i
  Ends : ((row : Row) → leads env label row i ≡ []) → Leading env label i

prepend_more : (n : ℕ) (h k : Holding) → 1 ≤ h.segs → StrongerHolding h k → StrongerHolding (after_prepend n h) (after_prepend n k)
prepend_more n h k some m =
    let single = single_more h k n some m.segs in
    record { share = m.share; head = omega arith; tail = m.tail; first = omega arith; last = omega arith; segs = m.segs }

adj_more : (n : ℕ) (h k : Holding) → 1 ≤ h.segs → StrongerHolding h k → StrongerHolding (after_adj n h) (after_adj n k)
adj_more n h k some m =
    record { share = m.share; head = omega arith; tail = m.tail; first = omega arith; last = omega arith; segs = m.segs }

append_more : (n : ℕ) (h k : Holding) → 1 ≤ h.segs → StrongerHolding h k → StrongerHolding (after_append n h) (after_append n k)
append_more n h k some m =
    let single = single_more h k n some m.segs in
    record { share = m.share; head = m.head; tail = omega arith; first = omega arith; last = omega arith; segs = m.segs }

trim_more : (n : ℕ) (h k : Holding) → 1 ≤ h.segs → StrongerHolding h k → StrongerHolding (after_trim n h) (after_trim n k)
trim_more n h k some m =
    record { share = m.share; head = m.head; tail = omega arith; first = omega arith; last = omega arith; segs = m.segs }

module _ (env : Environment) (label : ℕ) (i : Instr) where
  -- the packet of a register changes
  edits : (p : ℕ) (f : Holding → Holding) → ((row : Row) → leads env label row i ≡ onward label (changed row p f)) → ((h : Holding) → (f h).share ≡ h.share)
      → ((h k : Holding) → 1 ≤ h.segs → StrongerHolding h k → StrongerHolding (f h) (f k)) → Leading env label i
  edits p f is keep each = On (λ row. changed row p f) is (λ a b s fits fits' target. changed_keeps a b p f f s fits keep keep each)

  -- a least number is tested
  tests : (p l : ℕ) (f : Holding → Holding) → label_of i ≡ Some l → ((row : Row) → leads env label row i ≡ fork label (changed row p f) l row) →
      ((h : Holding) → (f h).share ≡ h.share) → ((h k : Holding) → 1 ≤ h.segs → StrongerHolding h k → StrongerHolding (f h) (f k)) → Leading env label i
  tests p l f names is keep each = Forks l (λ row. changed row p f) (λ row. row) names is
      (λ a b s fits fits' target. changed_keeps a b p f f s fits keep keep each) (λ a b s fits fits' target. s)

  -- a register gets a bound
  bounds : (r n : ℕ) → ((row : Row) → leads env label row i ≡ onward label (with_bound row r n)) → Leading env label i
  bounds r n is = On (λ row. with_bound row r n) is (λ a b s fits fits' target. bound_set a b r n n s (omega arith))

  -- a packet moves to a list, or stays where that is full
  leaves : (p l : ℕ) → label_of i ≡ Some l → ((row : Row) → leads env label row i ≡ fork label (after_leave row p) l row) → Leading env label i
  leaves p l names is = Forks l (λ row. after_leave row p) (λ row. row) names is (λ a b s fits fits' target. leave_keeps' a b p s)
      (λ a b s fits fits' target. s)

  -- a calculation
  counts : (kind : Calculation i) → calculates kind ≡ true → Leading env label i
  counts (Sets r x number top does to within grows plain) is = On (λ row. with_bound row r (top (bound row (Register r)) (bound row x))) (to env label)
      (λ a b s fits fits' target. bound_set a b r _ _ s (grows _ _ _ _ (bound_at a b (Register r) s) (bound_at a b x s)))
  counts (Jumps r x l test top names does to within grows plain) is = Forks l (λ row. row)
      (λ row. with_bound row r (top (bound row (Register r)) (bound row x))) names (to env label) (λ a b s fits fits' target. s)
      (λ a b s fits fits' target. bound_set a b r _ _ s (grows _ _ _ _ (bound_at a b (Register r) s) (bound_at a b x s)))
  counts (GoesTo l names does to plain) is = To l names (to env label)
  counts (Finds r table x l names does to there plain) is = Forks l (λ row. with_bound row r 16777215) (λ row. row) names (to env label)
      (λ a b s fits fits' target. bound_set a b r 16777215 16777215 s (omega arith)) (λ a b s fits fits' target. s)
  counts (Handles_packets none) is = cc is

leading : (env : Environment) (label : ℕ) (i : Instr) → Leading env label i
unfolding calculation_of
leading env label (Alloc p pool l) =
    let new = after_alloc (room_at env.pools pool) in
    Forks l (λ row. with_fact row p new) (λ row. row) refl (λ row. refl) (λ a b s fits fits' target. fact_set a b p new new s (holding_same (holding new))
    (keeps_out a.facts b.facts p new new sole_no_group sole_no_group s.groups)) (λ a b s fits fits' target. s)
leading env label (Free p) = On (λ row. after_free row p) (λ row. refl) (λ a b s fits fits' target. free_keeps a b p s fits fits')
leading env label (Clone p q pool l) = Forks l (λ row. after_clone row p q) (λ row. row) refl (λ row. refl)
    (λ a b s fits fits' target. clone_keeps a b p q s fits fits' target) (λ a b s fits fits' target. s)
leading env label (Prepend p n) = edits env label (Prepend p n) p (after_prepend n) (λ row. refl) (λ h. refl) (prepend_more n)
leading env label (Adj p n) = edits env label (Adj p n) p (after_adj n) (λ row. refl) (λ h. refl) (adj_more n)
leading env label (Append p n) = edits env label (Append p n) p (after_append n) (λ row. refl) (λ h. refl) (append_more n)
leading env label (Trim p n) = edits env label (Trim p n) p (after_trim n) (λ row. refl) (λ h. refl) (trim_more n)
leading env label (Chain p q) = On (λ row. after_chained row p q) (λ row. refl) (λ a b s fits fits' target. chain_keeps a b p q s fits)
leading env label (IfHead p n l) = tests env label (IfHead p n l) p l (λ h. record h { head = max h.head n }) refl (λ row. refl) (λ h. refl)
    (λ h k some m. record { share = m.share; head = omega (arith, m.head); tail = m.tail; first = m.first; last = m.last; segs = m.segs })
leading env label (IfTail p n l) = tests env label (IfTail p n l) p l (λ h. record h { tail = max h.tail n }) refl (λ row. refl) (λ h. refl)
    (λ h k some m. record { share = m.share; head = m.head; tail = omega (arith, m.tail); first = m.first; last = m.last; segs = m.segs })
leading env label (IfLen p n l) = tests env label (IfLen p n l) p l (λ h. record h { first = max h.first n }) refl (λ row. refl) (λ h. refl)
    (λ h k some m. record { share = m.share; head = m.head; tail = m.tail; first = omega (arith, m.first); last = m.last; segs = m.segs })
leading env label (IfLast p n l) = tests env label (IfLast p n l) p l (λ h. record h { last = max h.last n }) refl (λ row. refl) (λ h. refl)
    (λ h k some m. record { share = m.share; head = m.head; tail = m.tail; first = m.first; last = omega (arith, m.last); segs = m.segs })
leading env label (Load r p off w) = bounds env label (Load r p off w) r (2 ^ (8 * bytes_in w) - 1) (λ row. refl)
leading env label (Store p off w r) = On (λ row. row) (λ row. refl) (λ a b s fits fits' target. s)
leading env label (LoadX r p x off w) = bounds env label (LoadX r p x off w) r (2 ^ (8 * bytes_in w) - 1) (λ row. refl)
leading env label (StoreX p x off w r) = On (λ row. row) (λ row. refl) (λ a b s fits fits' target. s)
leading env label (Tx p r l) = leaves env label (Tx p r l) p l refl (λ row. refl)
leading env label (Enq p ring l) = leaves env label (Enq p ring l) p l refl (λ row. refl)
leading env label Exit = Ends (λ row. refl)
leading env label i = counts env label i (calculation_of i) refl

-- a stronger row leads to stronger rows
pub leads_keep : (env : Environment) (label : ℕ) (a b : Row) (i : Instr) → Stronger a b → AreWellFormed a → AreWellFormed b → targets_fit b i ≡ true →
    AllZip StrongerLead (leads env label a i) (leads env label b i)
leads_keep env label a b i s fits fits' target = go (leading env label i)
  where
    go : Leading env label i → AllZip StrongerLead (leads env label a i) (leads env label b i)
    go (On after is keeps) = rw (is a, is b) ((refl, keeps a b s fits fits' target), tt)
    go (Forks l after at_l names is keeps keeps') = rw (is a, is b) ((refl, keeps a b s fits fits' target), ((refl, keeps' a b s fits fits' target), tt))
    go (To l names is) = rw (is a, is b) ((refl, s), tt)
    go (Ends is) = rw (is a, is b) tt

-- the labels to which an instruction leads are the same
pub labels_keep : (test : ℕ → Bool) (xs ys : List Lead) → AllZip StrongerLead xs ys → list_all (λ to. test to.to) ys ≡ true → list_all (λ to. test to.to) xs
    ≡ true
labels_keep test [] [] z e = refl
labels_keep test (x ∷ xs) (y ∷ ys) ((same, _), others) e =
    let (here, rest) = and_parts (test y.to) (list_all (λ to. test to.to) ys) e in
    both_are (rw same here) (labels_keep test xs ys others rest)
labels_keep test x y z e = absurd z

-- in a forward program each instruction leads to later labels
pub forward_leads : (env : Environment) (label : ℕ) (row : Row) (i : Instr) → ((to : ℕ) → label_of i ≡ Some to → label < to) →
    list_all (λ to. nat_lt label to.to) (leads env label row i) ≡ true
forward_leads env label row i forward = go (leading env label i)
  where
    next : nat_lt label (label + 1) ≡ true
    next = lt-ltb label (label + 1) (omega arith)

    go : Leading env label i → list_all (λ to. nat_lt label to.to) (leads env label row i) ≡ true
    go (On after is keeps) = rw (is row) (both_are next refl)
    go (Forks l after at_l names is keeps keeps') = rw (is row) (both_are next (both_are (lt-ltb label l (forward l names)) refl))
    go (To l names is) = rw (is row) (both_are (lt-ltb label l (forward l names)) refl)
    go (Ends is) = rw (is row) refl
