-- Entailment as a relation: one row says all that another does.
use Rattle.std.proofs.Common.{◌≡◌, ℕ, suc, ◌≤◌, Bool, true, ◌&&◌, List, [], ◌∷◌, Option, Some, None, refl, ap, length, arith}
use Rattle.std.specs.Prelude.{nat_le}
use Rattle.std.specs.List.{AllZip}
use Rattle.std.proofs.lemmas.Bool.{leb-true, le-leb, and_parts}
use Rattle.dp_model.specs.declared.row.Fact.{Fact}
use Rattle.dp_model.specs.declared.row.Row.{Row}
use Rattle.dp_infer.proofs.Sharing.{KeepsGroups, keeps_from, keeps_test, keeps_further, share_same, share_further}
use Rattle.dp_model.specs.declared.row.Holding.{Holding}
use Rattle.dp_model.specs.Rows.{holding, entails_share, entails_holding, entails_option, entails_fact, at_each_index, entails}

-- the first says at least what the second does
pub record StrongerHolding (a b : Holding) : Type 0 where
  pub share : entails_share a.share b.share ≡ true
  pub head : b.head ≤ a.head
  pub tail : b.tail ≤ a.tail
  pub first : b.first ≤ a.first
  pub last : b.last ≤ a.last
  pub segs : a.segs ≤ b.segs

abbrev pub StrongerOption : Option Holding → Option Holding → Type 0
StrongerOption None None = Unit {0}
StrongerOption (Some a) (Some b) = StrongerHolding a b
StrongerOption None (Some b) = ⊥
StrongerOption (Some a) None = ⊥

abbrev pub StrongerFact : Fact → Fact → Type 0
StrongerFact a b = StrongerOption (holding a) (holding b)

abbrev pub AtMost : ℕ → ℕ → Type 0
AtMost m n = m ≤ n

pub record Stronger (a b : Row) : Type 0 where
  pub live : a.live ≡ true
  pub other_live : b.live ≡ true
  pub facts : AllZip StrongerFact a.facts b.facts
  pub groups : KeepsGroups a.facts b.facts
  pub bounds : AllZip AtMost a.bounds b.bounds

-- ---- from the tests and back

pub both_are : {a b : Bool} → a ≡ true → b ≡ true → (a && b) ≡ true
both_are p q = rw (p, q) refl

pub stronger_holding : (a b : Holding) → entails_holding a b ≡ true → StrongerHolding a b
stronger_holding a b e =
    let (e1, segs) = and_parts _ _ e in let (e2, last) = and_parts _ _ e1 in let (e3, first) = and_parts _ _ e2 in
    let (e4, tail) = and_parts _ _ e3 in let (share, head) = and_parts _ _ e4 in
    record {
      share = share;
      head = leb-true b.head a.head head;
      tail = leb-true b.tail a.tail tail;
      first = leb-true b.first a.first first;
      last = leb-true b.last a.last last;
      segs = leb-true a.segs b.segs segs;
    }

pub holding_test : (a b : Holding) → StrongerHolding a b → entails_holding a b ≡ true
holding_test a b h = rw (
  h.share,
  le-leb b.head a.head h.head,
  le-leb b.tail a.tail h.tail,
  le-leb b.first a.first h.first,
  le-leb b.last a.last h.last,
  le-leb a.segs b.segs h.segs,
) refl

pub stronger_option : (a b : Option Holding) → entails_option a b ≡ true → StrongerOption a b
stronger_option None None e = tt
stronger_option (Some a) (Some b) e = stronger_holding a b e
stronger_option x y e = absurd cc

pub option_test : (a b : Option Holding) → StrongerOption a b → entails_option a b ≡ true
option_test None None h = refl
option_test (Some a) (Some b) h = holding_test a b h
option_test x y h = absurd h

pub zip_from : {A B : Type 0} (test : A → B → Bool) (R : A → B → Type 0) → ((x : A) (y : B) → test x y ≡ true → R x y) → (xs : List A) (ys : List B) →
    at_each_index test xs ys ≡ true → AllZip R xs ys
zip_from test R each [] [] e = tt
zip_from test R each (x ∷ xs) (y ∷ ys) e = let (here, rest) = and_parts (test x y) (at_each_index test xs ys) e in
    (each x y here, zip_from test R each xs ys rest)
zip_from test R each x y e = absurd cc

pub zip_test : {A B : Type 0} (test : A → B → Bool) (R : A → B → Type 0) → ((x : A) (y : B) → R x y → test x y ≡ true) → (xs : List A) (ys : List B) →
    AllZip R xs ys → at_each_index test xs ys ≡ true
zip_test test R each [] [] h = refl
zip_test test R each (x ∷ xs) (y ∷ ys) h = both_are (each x y h.0) (zip_test test R each xs ys h.1)
zip_test test R each x y h = absurd h

pub zip_length : {A B : Type 0} (R : A → B → Type 0) (xs : List A) (ys : List B) → AllZip R xs ys → length xs ≡ length ys
zip_length R [] [] h = refl
zip_length R (x ∷ xs) (y ∷ ys) h = ap suc (zip_length R xs ys h.1)
zip_length R x y h = absurd h

pub stronger : (a b : Row) → entails a b ≡ true → Stronger a b
stronger a b e =
    let (e0, bounds) = and_parts _ _ e in let (e1, groups) = and_parts _ _ e0 in let (e2, facts) = and_parts _ _ e1 in
    let (live, other_live) = and_parts a.live b.live e2 in
    record {
      live = live;
      other_live = other_live;
      facts = zip_from entails_fact StrongerFact (λ x y h. stronger_option (holding x) (holding y) h) a.facts b.facts facts;
      groups = keeps_from a.facts b.facts groups;
      bounds = zip_from nat_le AtMost leb-true a.bounds b.bounds bounds;
    }

pub row_test : (a b : Row) → Stronger a b → entails a b ≡ true
row_test a b h = rw (
  h.live,
  h.other_live,
  zip_test entails_fact StrongerFact (λ x y k. option_test (holding x) (holding y) k) a.facts b.facts h.facts,
  keeps_test a.facts b.facts (zip_length StrongerFact a.facts b.facts h.facts) h.groups,
  zip_test nat_le AtMost le-leb a.bounds b.bounds h.bounds,
) refl

-- ---- reflexive and transitive

pub holding_same : (a : Option Holding) → StrongerOption a a
holding_same None = tt
holding_same (Some a) =
    record { share = share_same a.share; head = omega arith; tail = omega arith; first = omega arith; last = omega arith; segs = omega arith }

pub option_further : (a b c : Option Holding) → StrongerOption a b → StrongerOption b c → StrongerOption a c
option_further None None None h k = tt
option_further (Some a) (Some b) (Some c) h k =
    let share = share_further a.share b.share c.share h.share k.share in
    record { share = share; head = omega arith; tail = omega arith; first = omega arith; last = omega arith; segs = omega arith }
option_further None (Some b) c h k = absurd h
option_further (Some a) None c h k = absurd h
option_further x y z h k = absurd k

pub zip_further : {A : Type 0} (R : A → A → Type 0) → ((x y z : A) → R x y → R y z → R x z) → (xs ys zs : List A) → AllZip R xs ys → AllZip R ys zs →
    AllZip R xs zs
zip_further R each [] [] [] h k = tt
zip_further R each (x ∷ xs) (y ∷ ys) (z ∷ zs) h k = (each x y z h.0 k.0, zip_further R each xs ys zs h.1 k.1)
zip_further R each [] (y ∷ ys) zs h k = absurd h
zip_further R each (x ∷ xs) [] zs h k = absurd h
zip_further R each x y z h k = absurd k

pub further : (a b c : Row) → Stronger a b → Stronger b c → Stronger a c
further a b c h k = record {
  live = h.live;
  other_live = k.other_live;
  facts = zip_further StrongerFact (λ x y z. option_further (holding x) (holding y) (holding z)) a.facts b.facts c.facts h.facts k.facts;
  groups = keeps_further a.facts b.facts c.facts h.groups k.groups;
  bounds = zip_further AtMost (λ m n o p q. omega arith) a.bounds b.bounds c.bounds h.bounds k.bounds;
}
