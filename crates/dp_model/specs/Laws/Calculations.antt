-- Internal: instructions that handle no packet: what they do to the numbers, where they lead, and what is known there.
use Rattle.std.proofs.Common.{◌≡◌, ◌⊎◌, ℕ, zero, suc, ◌+◌, ◌-◌, ◌*◌, ◌/◌, ◌%◌, ◌^◌, ◌<◌, ◌≤◌, min, max, Bool, true, false, List, [], ◌∷◌, Option, Some, None}
use Rattle.std.proofs.Common.{refl, sym, ◌∙◌, ap, arith, inl, inr}
use Rattle.std.specs.Option.{option_map_or}
use Rattle.std.specs.Prelude.{slice_get, slice_set, slice_index, nat_lt, ◌==◌, bit_and, bit_or, bit_xor}
use Rattle.std.proofs.lemmas.Bool.{ltb-true, eqb-true}
use Rattle.std.proofs.lemmas.Option.{same_Some}
use Rattle.std.proofs.lemmas.Nat.{and_le_l, and_le_r, or_lt, xor_lt, le-div}
use Rattle.std.proofs.Math.Nat.{mod-le, mul-le-mul_right, two-pow-succ, one-le-pow, div-mul-le_self}
use Rattle.dp_model.specs.declared.row.Row.{Row}
use Rattle.dp_model.specs.declared.registers.Operand.{Operand}
use Rattle.dp_model.specs.declared.registers.Operand.TheVariants.{Register, Constant}
use Rattle.dp_model.specs.declared.instr.Instr.{Instr}
use Rattle.dp_model.specs.declared.instr.Instr.TheVariants.{Set, Mov, Add, Sub, And, Or, Xor, Shl, Shr, Jmp, Jeq, Jlt, Lookup}
use Rattle.dp_model.specs.Limits.{max_hop}
use Rattle.dp_model.specs.Arithmetic.{wrapped, value, all_ones, ones_within, greatest}
use Rattle.dp_model.specs.Environments.{Environment}
use Rattle.dp_model.specs.Prefixes.{Route, hop_for}
use Rattle.dp_model.specs.Needs.{label_of}
use Rattle.dp_model.specs.Rows.{leads, onward, fork, bound, with_bound}
use Rattle.dp_model.specs.Rules.{indices_exist}
use Rattle.dp_model.specs.Machine.{Setting, State, Move, Acts, moves_to, calculated, sets, jumps, finds}

-- ---- numbers and their bounds

-- f of larger numbers is no smaller
abbrev pub Grows : (ℕ → ℕ → ℕ) → Type 0
Grows top = (m n m' n' : ℕ) → m ≤ m' → n ≤ n' → top m n ≤ top m' n'

pub wrapped_le : (n : ℕ) → (wrapped n ≤ n) × (wrapped n ≤ greatest)
wrapped_le n = (mod-le n (2 ^ 64), omega arith)

pub ones_enough : (limit n : ℕ) → n ≤ limit → n ≤ ones_within limit n
ones_enough limit zero le = omega arith
ones_enough zero (suc n) le = absurd (omega arith)
ones_enough (suc limit) (suc n) le = omega (arith, ones_enough limit (suc n / 2) (omega arith))

pub ones_are : (limit n : ℕ) → (k : ℕ) × (ones_within limit n + 1 ≡ 2 ^ k)
ones_are limit zero = (0, refl)
ones_are zero (suc n) = (0, refl)
ones_are (suc limit) (suc n) = let (k, e) = ones_are limit (suc n / 2) in (suc k, omega (arith, e, two-pow-succ k))

-- both numbers have bits only where `all_ones` has
within_ones : (m n : ℕ) → (k : ℕ) × (m < 2 ^ k) × (n < 2 ^ k) × (all_ones (max m n) + 1 ≡ 2 ^ k)
within_ones m n =
    let above = ones_enough (max m n) (max m n) (omega arith) in
    let (k, e) = ones_are (max m n) (max m n) in
    (k, omega (arith, above, e), omega (arith, above, e), e)

pub or_within : (m n : ℕ) → bit_or m n ≤ all_ones (max m n)
or_within m n = let (k, left, right, e) = within_ones m n in omega (arith, or_lt k m n left right, e)

pub xor_within : (m n : ℕ) → bit_xor m n ≤ all_ones (max m n)
xor_within m n = let (k, left, right, e) = within_ones m n in omega (arith, xor_lt k m n left right, e)

ones_more : (limit limit' m n : ℕ) → m ≤ n → n ≤ limit' → ones_within limit m ≤ ones_within limit' n
ones_more limit limit' zero n le fit = omega arith
ones_more zero limit' (suc m) n le fit = omega arith
ones_more (suc limit) limit' (suc m) zero le fit = absurd (omega arith)
ones_more (suc limit) zero (suc m) (suc n) le fit = absurd (omega arith)
ones_more (suc limit) (suc limit') (suc m) (suc n) le fit =
    let half = ones_more limit limit' (suc m / 2) (suc n / 2) (omega arith) (omega arith) in
    omega (arith, half)

pub ones_grow : Grows (λ m n. all_ones (max m n))
ones_grow m n m' n' le le' = ones_more (max m n) (max m' n') (max m n) (max m' n') (omega (arith, le, le')) (omega arith)

pub shifted_more : (m n k : ℕ) → m ≤ n → m / 2 ^ k ≤ n / 2 ^ k
shifted_more m n k le = le-div (m / 2 ^ k) n (2 ^ k) (omega (arith, one-le-pow k 2 (omega arith))) (omega (arith, le, div-mul-le_self m (2 ^ k)))

-- ---- the instructions

-- what an instruction that handles no packet does
abbrev pub Plain : Setting → State → Option (ℕ × List ℕ) → Move → Type 0
Plain c s o m = (after : ℕ × List ℕ) × (o ≡ Some after) × (m ≡ moves_to after.0 (record s { numbers = after.1 }))

abbrev pub IsPlain : Instr → Type 0
IsPlain i = (setting : Setting) (label : ℕ) (s : State) (m : Move) →
    (Acts setting label s i m → Plain setting s (calculated setting.tables label s.numbers i) m)
    × (Plain setting s (calculated setting.tables label s.numbers i) m → Acts setting label s i m)

abbrev pub same : {A : Type 0} → (A → A) × (A → A)
same = (λ a. a, λ a. a)

-- What an instruction writes to a register r, from r and an operand, and what is known of it; where it jumps, and what is known of r there
pub data Calculation (i : Instr) : Type 0 where
  Sets : (r : ℕ) (x : Operand) (number top : ℕ → ℕ → ℕ)
      → ((tables : List (List Route)) (label : ℕ) (ns : List ℕ) → calculated tables label ns i ≡ sets label ns r (number (slice_index ns r) (value ns x)))
      → ((env : Environment) (label : ℕ) (row : Row) → leads env label row i ≡ onward label (with_bound row r (top (bound row (Register r)) (bound row x))))
      → ((m n : ℕ) → number m n ≤ top m n) → Grows top → IsPlain i → Calculation i
  Jumps : (r : ℕ) (x : Operand) (l : ℕ) (test : ℕ → ℕ → Bool) (top : ℕ → ℕ → ℕ) → label_of i ≡ Some l
      → ((tables : List (List Route)) (label : ℕ) (ns : List ℕ) → calculated tables label ns i ≡ jumps (test (slice_index ns r) (value ns x)) label l ns)
      → ((env : Environment) (label : ℕ) (row : Row) → leads env label row i
      ≡ fork label row l (with_bound row r (top (bound row (Register r)) (bound row x))))
      → ((m n : ℕ) → test m n ≡ true → m ≤ top m n) → Grows top → IsPlain i → Calculation i
  GoesTo : (l : ℕ) → label_of i ≡ Some l
      → ((tables : List (List Route)) (label : ℕ) (ns : List ℕ) → calculated tables label ns i ≡ Some (l, ns))
      → ((env : Environment) (label : ℕ) (row : Row) → leads env label row i ≡ record { to = l; row = row } ∷ []) → IsPlain i → Calculation i
  Finds : (r table x l : ℕ) → label_of i ≡ Some l
      → ((tables : List (List Route)) (label : ℕ) (ns : List ℕ) → calculated tables label ns i
      ≡ finds (slice_get tables table) (slice_index ns x % 2 ^ 32) label r l ns)
      → ((env : Environment) (label : ℕ) (row : Row) → leads env label row i ≡ fork label (with_bound row r max_hop) l row)
      → ((env : Environment) → indices_exist env i ≡ nat_lt table env.tables) → IsPlain i → Calculation i
  Handles_packets : ((tables : List (List Route)) (label : ℕ) (ns : List ℕ) → calculated tables label ns i ≡ None) → Calculation i

abbrev pub calculates : {i : Instr} → Calculation i → Bool
calculates (Handles_packets none) = false
calculates _ = true

-- each instruction is one of these, or handles packets
unfoldable pub calculation_of : (i : Instr) → Calculation i
calculation_of (Set r n) = Sets r (Constant n) (λ m n. n) (λ m n. n) (λ tables label ns. refl) (λ env label row. refl) (λ m n. omega arith)
    (λ m n m' n' le le'. le') (λ c label s m. same)
calculation_of (Mov r s) = Sets r (Register s) (λ m n. n) (λ m n. n) (λ tables label ns. refl) (λ env label row. refl) (λ m n. omega arith)
    (λ m n m' n' le le'. le') (λ c label s m. same)
calculation_of (Add r x) = Sets r x (λ m n. wrapped (m + n)) (λ m n. min (m + n) greatest) (λ tables label ns. refl) (λ env label row. refl)
    (λ m n. omega (arith, wrapped_le (m + n))) (λ m n m' n' le le'. omega (arith, le, le')) (λ c label s m. same)
calculation_of (Sub r x) = Sets r x (λ m n. wrapped (m + (2 ^ 64 - n))) (λ m n. greatest) (λ tables label ns. refl) (λ env label row. refl)
    (λ m n. (wrapped_le (m + (2 ^ 64 - n))).1) (λ m n m' n' le le'. omega arith) (λ c label s m. same)
calculation_of (And r x) = Sets r x bit_and min (λ tables label ns. refl) (λ env label row. refl) (λ m n. omega (arith, and_le_l m n, and_le_r m n))
    (λ m n m' n' le le'. omega (arith, le, le')) (λ c label s m. same)
calculation_of (Or r x) = Sets r x bit_or (λ m n. all_ones (max m n)) (λ tables label ns. refl) (λ env label row. refl) or_within ones_grow
    (λ c label s m. same)
calculation_of (Xor r x) = Sets r x bit_xor (λ m n. all_ones (max m n)) (λ tables label ns. refl) (λ env label row. refl) xor_within ones_grow
    (λ c label s m. same)
calculation_of (Shl r k) = Sets r (Constant k) (λ m n. wrapped (m * 2 ^ k)) (λ m n. min (m * 2 ^ k) greatest) (λ tables label ns. refl)
    (λ env label row. refl) (λ m n. omega (arith, wrapped_le (m * 2 ^ k))) (λ m n m' n' le le'. omega (arith, mul-le-mul_right (2 ^ k) le))
    (λ c label s m. same)
calculation_of (Shr r k) = Sets r (Constant k) (λ m n. m / 2 ^ k) (λ m n. m / 2 ^ k) (λ tables label ns. refl) (λ env label row. refl) (λ m n. omega arith)
    (λ m n m' n' le le'. shifted_more m m' k le) (λ c label s m. same)
calculation_of (Jmp l) = GoesTo l refl (λ tables label ns. refl) (λ env label row. refl) (λ c label s m. same)
calculation_of (Jeq r x l) = Jumps r x l (λ m n. m == n) min refl (λ tables label ns. refl) (λ env label row. refl)
    (λ m n yes. omega (arith, eqb-true m n yes)) (λ m n m' n' le le'. omega (arith, le, le')) (λ c label s m. same)
calculation_of (Jlt r k l) = Jumps r (Constant k) l nat_lt (λ m n. min m (n - 1)) refl (λ tables label ns. refl) (λ env label row. refl)
    (λ m n yes. omega (arith, ltb-true m n yes)) (λ m n m' n' le le'. omega (arith, le, le')) (λ c label s m. same)
calculation_of (Lookup r table x l) = Finds r table x l refl (λ tables label ns. refl) (λ env label row. refl) (λ env. refl) (λ c label s m. same)
calculation_of _ = Handles_packets (λ tables label ns. refl)

-- ---- where they lead

first_is : (l : ℕ) (ns : List ℕ) (after : ℕ × List ℕ) → Some (l, ns) ≡ Some after → after.0 ≡ l
first_is l ns after e = sym (ap (λ (x : ℕ × List ℕ). x.0) (same_Some (l, ns) after e))

-- the next label, or the one that the instruction names
pub calculated_next : (i : Instr) (tables : List (List Route)) (label : ℕ) (ns : List ℕ) (after : ℕ × List ℕ) → calculated tables label ns i ≡ Some after →
    (after.0 ≡ label + 1) ⊎ (label_of i ≡ Some after.0)
calculated_next i tables label ns after e = go (calculation_of i)
  where
    named : (l : ℕ) → label_of i ≡ Some l → Some (l, ns) ≡ Some after → (after.0 ≡ label + 1) ⊎ (label_of i ≡ Some after.0)
    named l names is = inr (names ∙ ap Some (sym (first_is l ns after is)))

    jumped : (b : Bool) (l : ℕ) → label_of i ≡ Some l → jumps b label l ns ≡ Some after → (after.0 ≡ label + 1) ⊎ (label_of i ≡ Some after.0)
    jumped true l names is = named l names is
    jumped false l names is = inl (first_is (label + 1) ns after is)

    found : (o : Option (List Route)) (ip r l : ℕ) → label_of i ≡ Some l → finds o ip label r l ns ≡ Some after →
        (after.0 ≡ label + 1) ⊎ (label_of i ≡ Some after.0)
    found None ip r l names is = cc is
    found (Some routes) ip r l names is = hop (hop_for routes ip) is
      where
        hop : (h : Option ℕ) → option_map_or (λ hop. sets label ns r hop) h (Some (l, ns)) ≡ Some after →
            (after.0 ≡ label + 1) ⊎ (label_of i ≡ Some after.0)
        hop None is = named l names is
        hop (Some h) is = inl (first_is (label + 1) (slice_set ns r h) after is)

    go : Calculation i → (after.0 ≡ label + 1) ⊎ (label_of i ≡ Some after.0)
    go (Sets r x number top does to within grows plain) =
        inl (first_is (label + 1) (slice_set ns r (number (slice_index ns r) (value ns x))) after (sym (does tables label ns) ∙ e))
    go (Jumps r x l test top names does to within grows plain) = jumped (test (slice_index ns r) (value ns x)) l names (sym (does tables label ns) ∙ e)
    go (GoesTo l names does to plain) = named l names (sym (does tables label ns) ∙ e)
    go (Finds r table x l names does to there plain) =
        found (slice_get tables table) (slice_index ns x % 2 ^ 32) r l names (sym (does tables label ns) ∙ e)
    go (Handles_packets none) = let no : None ≡ Some after = sym (none tables label ns) ∙ e in cc
