-- The names of zones, and their order.
use Rattle.std.proofs.Common.{◌≡◌, ℕ, zero, suc, ◌+◌, ◌*◌, ◌<◌, ◌≤◌, Bool, true, false, cond, ◌||◌, List, [], ◌∷◌, ◌++◌, length, refl, sym, ap, subst, ◌∙◌}
use Rattle.std.proofs.Common.{arith}
use Rattle.std.specs.Prelude.{codes}
use Rattle.std.specs.Str.{bytes_eq}
use Rattle.std.proofs.lemmas.Bool.{false_from_ne_true}
use Rattle.std.proofs.lemmas.List.{map-append, length-map}
use Rattle.std.proofs.lemmas.Slice.Eq.{bytes_eq-Decides}
use Rattle.dp_zone.specs.Names.{is_name}
use Rattle.dp_zone.specs.Zones.{Reserved, is_named, has_name, without_name}
use Rattle.dp_pool.specs.Making.{object_name, queue_name}
use Rattle.dp_engine.specs.declared.names.ListKind.{ListKind}
use Rattle.dp_engine.specs.declared.names.ListKind.TheVariants.{Port, Ring}
use Rattle.dp_engine.specs.Names.{pool_name, ring_name, rank, AllBefore, first_of, first_pool, IsNext}
use Rattle.dp_engine.specs.Builders.{names_of}

-- ---- computed for each digit

each_digit : (P : ℕ → Type 0) → P 0 → P 1 → P 2 → P 3 → P 4 → P 5 → P 6 → P 7 → (k : ℕ) → k < 8 → P k
each_digit P a b c d e f g h zero low = a
each_digit P a b c d e f g h (suc zero) low = b
each_digit P a b c d e f g h (suc (suc zero)) low = c
each_digit P a b c d e f g h (suc (suc (suc zero))) low = d
each_digit P a b c d e f g h (suc (suc (suc (suc zero)))) low = e
each_digit P a b c d e f g h (suc (suc (suc (suc (suc zero))))) low = f
each_digit P a b c d e f g h (suc (suc (suc (suc (suc (suc zero)))))) low = g
each_digit P a b c d e f g h (suc (suc (suc (suc (suc (suc (suc zero))))))) low = h
each_digit P a b c d e f g h (suc (suc (suc (suc (suc (suc (suc (suc k)))))))) low = absurd (omega arith)

ring_named : (kind : ListKind) (k : ℕ) → k < 8 → is_name (ring_name kind k) ≡ true
ring_named Port k low = each_digit (λ i. is_name (ring_name Port i) ≡ true) refl refl refl refl refl refl refl refl k low
ring_named Ring k low = each_digit (λ i. is_name (ring_name Ring i) ≡ true) refl refl refl refl refl refl refl refl k low

ring_rank : (kind : ListKind) (k : ℕ) → k < 8 → rank (ring_name kind k) ≡ first_of kind + 10 * k
ring_rank Port k low = each_digit (λ i. rank (ring_name Port i) ≡ 1485 + 10 * i) refl refl refl refl refl refl refl refl k low
ring_rank Ring k low = each_digit (λ i. rank (ring_name Ring i) ≡ 2485 + 10 * i) refl refl refl refl refl refl refl refl k low

object_named : (k : ℕ) → k < 8 → is_name (object_name (pool_name k)) ≡ true
object_named k low = each_digit (λ i. is_name (object_name (pool_name i)) ≡ true) refl refl refl refl refl refl refl refl k low

queue_named : (k : ℕ) → k < 8 → is_name (queue_name (pool_name k)) ≡ true
queue_named k low = each_digit (λ i. is_name (queue_name (pool_name i)) ≡ true) refl refl refl refl refl refl refl refl k low

object_rank : (k : ℕ) → k < 8 → rank (object_name (pool_name k)) ≡ 3489 + 10 * k
object_rank k low = each_digit (λ i. rank (object_name (pool_name i)) ≡ 3489 + 10 * i) refl refl refl refl refl refl refl refl k low

queue_rank : (k : ℕ) → k < 8 → rank (queue_name (pool_name k)) ≡ 3490 + 10 * k
queue_rank k low = each_digit (λ i. rank (queue_name (pool_name i)) ≡ 3490 + 10 * i) refl refl refl refl refl refl refl refl k low

-- ---- names that come before one

pub before_later : (r s : ℕ) (names : List (List ℕ)) → r ≤ s → AllBefore r names → AllBefore s names
before_later r s [] more all = tt
before_later r s (n ∷ names) more all = (let here = all.0 in omega arith, before_later r s names more all.1)

pub before_more : (r : ℕ) (names : List (List ℕ)) (name : List ℕ) → AllBefore r names → rank name < r → AllBefore r (names ++ name ∷ [])
before_more r [] name all low = (low, tt)
before_more r (n ∷ names) name all low = (all.0, before_more r names name all.1 low)

pub length_more : (names : List (List ℕ)) (name : List ℕ) → length (names ++ name ∷ []) ≡ length names + 1
length_more [] name = refl
length_more (n ∷ names) name = let more = length_more names name in omega arith

-- none of them is that one
pub fresh : (name : List ℕ) (table : List Reserved) → AllBefore (rank name) (names_of table) → has_name name table ≡ false
fresh name [] all = refl
fresh name (r ∷ table) all =
    let off : bytes_eq r.name name ≡ false = false_from_ne_true (bytes_eq r.name name) (λ on. let same = ap rank ((bytes_eq-Decides r.name name).0 on) in
    let low = all.0 in omega arith) in
    ap (λ (b : Bool). b || has_name name table) off ∙ fresh name table all.1

-- ---- the next zones of a builder

pub spare_next : IsNext (codes "spare") []
spare_next = record { named = refl; after = tt; few = omega arith }

pub spare_first : AllBefore 1485 (codes "spare" ∷ [])
spare_first = (omega arith, tt)

pub ring_next : (kind : ListKind) (k : ℕ) (names : List (List ℕ)) → k < 8 → AllBefore (first_of kind + 10 * k) names → length names < 64 →
    IsNext (ring_name kind k) names
ring_next kind k names low all room = record {
  named = ring_named kind k low;
  after = subst (λ (r : ℕ). AllBefore r names) (sym (ring_rank kind k low)) all;
  few = room;
}

pub ring_taken : (kind : ListKind) (k : ℕ) (names new : List (List ℕ)) → k < 8 → AllBefore (first_of kind + 10 * k) names → new ≡ names ++ ring_name kind k ∷ []
    → AllBefore (first_of kind + 10 * (k + 1)) new × (length new ≡ length names + 1)
ring_taken kind k names new low all is =
    let at = ring_rank kind k low in (
      subst (AllBefore (first_of kind + 10 * (k + 1))) (sym is) (before_more (first_of kind + 10 * (k + 1)) names (ring_name kind k)
          (before_later (first_of kind + 10 * k) (first_of kind + 10 * (k + 1)) names (omega arith) all) (omega arith)),
      ap length is ∙ length_more names (ring_name kind k),
    )

pub object_next : (k : ℕ) (names : List (List ℕ)) → k < 8 → AllBefore (first_pool + 10 * k) names → length names + 2 ≤ 64 →
    IsNext (object_name (pool_name k)) names
object_next k names low all room = record {
  named = object_named k low;
  after = subst (λ (r : ℕ). AllBefore r names) (sym (object_rank k low)) (before_later (3485 + 10 * k) (3489 + 10 * k) names (omega arith) all);
  few = omega arith;
}

pub queue_next : (k : ℕ) (names : List (List ℕ)) → k < 8 → AllBefore (first_pool + 10 * k) names → length names + 2 ≤ 64 →
    IsNext (queue_name (pool_name k)) (names ++ object_name (pool_name k) ∷ [])
queue_next k names low all room =
    let at = object_rank k low in record {
      named = queue_named k low;
      after = subst (λ (r : ℕ). AllBefore r (names ++ object_name (pool_name k) ∷ [])) (sym (queue_rank k low))
          (before_more (3490 + 10 * k) names (object_name (pool_name k)) (before_later (3485 + 10 * k) (3490 + 10 * k) names (omega arith) all)
          (omega arith));
      few = let more = length_more names (object_name (pool_name k)) in omega arith;
    }

pub two_more : (k : ℕ) (names : List (List ℕ)) → length (names ++ object_name (pool_name k) ∷ queue_name (pool_name k) ∷ []) ≡ length names + 2
two_more k [] = refl
two_more k (n ∷ names) = let more = two_more k names in omega arith

pub pool_taken : (k : ℕ) (names new : List (List ℕ)) → k < 8 → AllBefore (first_pool + 10 * k) names →
    new ≡ names ++ object_name (pool_name k) ∷ queue_name (pool_name k) ∷ []
    → AllBefore (first_pool + 10 * (k + 1)) new × (length new ≡ length names + 2)
pool_taken k names new low all is =
    let object = object_rank k low in let queue = queue_rank k low in
    let later = before_later (3485 + 10 * k) (3485 + 10 * (k + 1)) names (omega arith) all in
    (subst (AllBefore (first_pool + 10 * (k + 1))) (sym is) (both names later (omega arith) (omega arith)), ap length is ∙ two_more k names)
  where
    both : (names : List (List ℕ)) → AllBefore (3485 + 10 * (k + 1)) names → rank (object_name (pool_name k)) < 3485 + 10 * (k + 1) →
        rank (queue_name (pool_name k)) < 3485 + 10 * (k + 1)
        → AllBefore (3485 + 10 * (k + 1)) (names ++ object_name (pool_name k) ∷ queue_name (pool_name k) ∷ [])
    both [] all a b = (a, (b, tt))
    both (n ∷ names) all a b = (all.0, both names all.1 a b)

-- ---- the names in a table

pub name_reserved : (old new : List Reserved) (r : Reserved) (name : List ℕ) → new ≡ old ++ r ∷ [] → r.name ≡ name → names_of new ≡ names_of old ++ name ∷ []
name_reserved old new r name is same = ap names_of is ∙ map-append (λ (x : Reserved). x.name) old (r ∷ []) ∙ ap (λ (n : List ℕ). names_of old ++ n ∷ []) same

pub names_counted : (table : List Reserved) → length (names_of table) ≡ length table
names_counted table = length-map table (λ r. r.name)

pub without_before : (r : ℕ) (name : List ℕ) (table : List Reserved) → AllBefore r (names_of table) → AllBefore r (names_of (without_name name table))
without_before r name [] all = tt
without_before r name (x ∷ table) all = go (is_named name x) (without_before r name table all.1)
  where
    go : (b : Bool) → AllBefore r (names_of (without_name name table)) → AllBefore r (names_of (cond b table (x ∷ without_name name table)))
    go true rest = all.1
    go false rest = (all.0, rest)

pub without_few : (name : List ℕ) (table : List Reserved) → length (names_of (without_name name table)) ≤ length (names_of table)
without_few name [] = omega arith
without_few name (x ∷ table) = go (is_named name x) (without_few name table)
  where
    go : (b : Bool) → length (names_of (without_name name table)) ≤ length (names_of table) →
        length (names_of (cond b table (x ∷ without_name name table))) ≤ suc (length (names_of table))
    go true rest = omega arith
    go false rest = omega arith
