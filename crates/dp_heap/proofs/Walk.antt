-- A walk along a list of free elements, and over the lists.
use Rattle.std.proofs.Common.{◌≡◌, ℕ, zero, suc, ◌+◌, ◌<◌, ◌≤◌, cond, eqb, eqb-true, ltb, List, [], ◌∷◌, ◌++◌, length, refl, ap, subst}
use Rattle.std.proofs.Common.{◌∙◌, arith}
use Rattle.std.specs.Prelude.{slice_index}
use Rattle.std.proofs.lemmas.Bool.{eq-eqb, ltb-true, ltb-false, ne_eqb}
use Rattle.std.proofs.lemmas.List.{length-append}
use Rattle.dp_region.specs.Region.{RegionView, number_at}
use Rattle.dp_region.specs.Laws.{by_test}
use Rattle.std.proofs.lemmas.Bool.Decides.{nat_tests}
use Rattle.dp_heap.specs.declared.elements.Element.{Element}
use Rattle.dp_heap.specs.declared.elements.State.TheVariants.{Free}
use Rattle.dp_heap.specs.Elements.{end_of, CanHold, NothingFits}
use Rattle.dp_heap.specs.Edits.{IsIn}
use Rattle.dp_heap.specs.Laid.{element_at, elements_in, Laid, IsLaid}
use Rattle.dp_heap.specs.Lists.{none, class_of, Linked, times, belongs, belong, Listed, NoneHolds, NoneBelow}
use Rattle.dp_heap.proofs.Laid.{first_offset}
use Rattle.dp_heap.proofs.Cut.{here, e_bound}
use Rattle.dp_heap.proofs.Undo.{free_state}
use Rattle.dp_heap.proofs.Belong.{bit, class_small, same_one, times-append, times_split, member, belongs_of}
use Rattle.dp_heap.proofs.Listing.{Header, header_of}

-- how many elements of a list are left from p on, if they are at most n
abbrev pub steps_left : ℕ → List ℕ → ℕ → ℕ
steps_left zero xs p = zero
steps_left (suc n) xs p = cond (eqb p none) zero (suc (steps_left n xs (number_at xs (p + 16) 4)))

pub steps_are : (n : ℕ) (xs : List ℕ) (w h : ℕ) (ps : List ℕ) → Linked xs w h ps → ((q : ℕ) → 1 ≤ times q ps → q < none) → length ps ≤ n →
    steps_left n xs h ≡ length ps
steps_are zero xs w h [] l far few = refl
steps_are zero xs w h (p ∷ ps) l far few = absurd (let few' : suc (length ps) ≤ zero = few in omega arith)
steps_are (suc n) xs w h [] l far few = rw (eq-eqb h none l)
steps_are (suc n) xs w h (p ∷ ps) l far few =
    let one = same_one p in let low = far p (omega arith) in let few' : suc (length ps) ≤ suc n = few in
    let at = l.first in let differ = ne_eqb h none (λ is. absurd (omega arith)) in
    let rest = steps_are n xs p (number_at xs (p + 16) 4) ps l.rest (λ q k. far q (omega arith)) (omega arith) in
    rw (differ, at) (ap suc rest)

-- a list has no more elements than there are
module _ (c : ℕ) where
  belongs_small : (p : ℕ) (e : Element) → belongs c p e ≤ bit (eqb e.offset p)
  belongs_small p e = grind (arith, nat_tests)

  pub few_enough : (es : List Element) (ps : List ℕ) → ((p : ℕ) → times p ps ≤ belong c p es) → length ps ≤ length es
  few_enough [] [] h = omega arith
  few_enough [] (p ∷ ps) h = let k : bit (eqb p p) + times p ps ≤ 0 = h p in let one = same_one p in absurd (omega arith)
  few_enough (e ∷ es) ps h = by_test (ltb 0 (times e.offset ps))
      (λ t. let s = times_split e.offset ps (let some = ltb-true 0 (times e.offset ps) t in omega arith) in
      let rest = few_enough es (s.before ++ s.after) (λ p.
      let k = h p in let j = times-append p s.before s.after in let i = ap (times p) s.is ∙ times-append p s.before (e.offset ∷ s.after) in
      let small = belongs_small p e in omega arith) in
      let n1 = ap length s.is ∙ length-append s.before (e.offset ∷ s.after) in let n2 = length-append s.before s.after in
      let n3 : length (e.offset ∷ s.after) ≡ suc (length s.after) = refl in let n4 : length (e ∷ es) ≡ suc (length es) = refl in omega arith)
      (λ t. let none' = ltb-false 0 (times e.offset ps) t in
      let rest = few_enough es ps (λ p. let k = h p in by_test (eqb e.offset p)
      (λ same. let z : times p ps ≡ times e.offset ps = rw (eqb-true e.offset p same) in omega arith)
      (λ other. let small = belongs_small p e in let no : bit (eqb e.offset p) ≡ 0 = ap bit other in omega arith)) in
      let n4 : length (e ∷ es) ≡ suc (length es) = refl in omega arith)

pub count_bound : (xs : List ℕ) (es : List Element) (low high : ℕ) → Laid xs low high es → low + length es ≤ high
count_bound xs [] low high l = let same : low ≡ high = l in let z : low + 0 ≤ high = omega arith in z
count_bound xs (e ∷ es) low high l =
    let at = first_offset xs e low l.read in let some = l.large in let rest = count_bound xs es (end_of e) high l.rest in
    let n : length (e ∷ es) ≡ suc (length es) = refl in omega arith

-- the walk over the list c has come to p: those at `seen` cannot hold the block, and `left` are to come
pub record Walked (xs : List ℕ) (c n a p : ℕ) : Type 0 where
  pub seen : List ℕ
  pub left : List ℕ
  pub before : ℕ
  pub linked : Linked xs before p left
  pub all : (q : ℕ) → times q seen + times q left ≡ belong c q (elements_in xs)
  pub never : (q : ℕ) → 1 ≤ times q seen → (d : ℕ) → CanHold (element_at xs q) n a d → ⊥

pub walk_begins : (xs heads : List ℕ) (c n a : ℕ) → c < 5 → Listed xs heads (elements_in xs) [] → Walked xs c n a (slice_index heads c)
walk_begins xs heads c n a small w =
    record {
      seen = [];
      left = w.lists c;
      before = none;
      linked = w.linked c small;
      all =
          λ q. let count = w.counted c q in let z : times q [] ≡ 0 = refl in
          let y : belong c q [] ≡ 0 = refl in omega arith;
      never = λ q h. absurd (let h' : 1 ≤ 0 = h in omega arith);
    }

-- the element that the walk has reached
pub record Free_at (r : RegionView) (c p : ℕ) : Type 0 where
  pub before : List Element
  pub after : List Element
  pub split : elements_in r.bytes ≡ before ++ element_at r.bytes p ∷ after
  pub free : (element_at r.bytes p).state ≡ Free
  pub class : class_of (element_at r.bytes p).size ≡ c
  pub bound : p + (element_at r.bytes p).size ≤ 1073741824
  pub header : Header r p

pub free_at : (r : RegionView) → IsLaid r → (c p : ℕ) → 1 ≤ belong c p (elements_in r.bytes) → Free_at r c p
free_at r laid c p h =
    let m = member c p (elements_in r.bytes) h in
    let is : m.it ≡ element_at r.bytes p = (here r laid m.before m.it m.after m.split).read ∙ ap (element_at r.bytes) m.counted.at in
    let b = (e_bound r laid m.before m.it m.after m.split).0 in let most = laid.size.1 in let fits : end_of m.it ≤ 1073741824 = omega arith in
    record {
      before = m.before;
      after = m.after;
      split = m.split ∙ ap (λ (x : Element). m.before ++ x ∷ m.after) is;
      free = subst (λ (x : Element). x.state ≡ Free) is (free_state m.it m.it.state refl m.counted.free);
      class = subst (λ (x : Element). class_of x.size ≡ c) is m.counted.class;
      bound = subst (λ (x : Element). end_of x ≤ 1073741824) is fits;
      header = subst (Header r) m.counted.at (header_of r laid m.before m.it m.after m.split);
    }

module _ (r : RegionView) (laid : IsLaid r) (c n a p : ℕ) (w : Walked r.bytes c n a p) where
  left_far : (q : ℕ) → 1 ≤ times q w.left → q < none
  left_far q h = let count = w.all q in let room = (free_at r laid c q (omega arith)).header.room in let most = laid.size.1 in omega arith

  left_few : length w.left ≤ length r.bytes
  left_few =
      let few = few_enough c (elements_in r.bytes) w.left (λ q. let count = w.all q in omega arith) in
      let bound = count_bound r.bytes (elements_in r.bytes) 0 (length r.bytes) laid.laid in omega arith

  pub found_at : (p ≡ none → ⊥) → Free_at r c p
  found_at differ = at w.left w.linked (λ k. let count = w.all p in omega arith)
    where
      at : (ps : List ℕ) → Linked r.bytes w.before p ps → (1 ≤ times p ps → 1 ≤ belong c p (elements_in r.bytes)) → Free_at r c p
      at [] l some = absurd (differ l)
      at (q ∷ ps) l some = let one : bit (eqb q p) ≡ 1 = ap (λ (k : ℕ). bit (eqb q k)) l.first ∙ same_one q in free_at r laid c p (some (omega arith))

  -- one step leaves one element less
  pub record Onward : Type 0 where
    pub more : Walked r.bytes c n a (number_at r.bytes (p + 16) 4)
    pub less : length more.left < length w.left

  pub onward : (p ≡ none → ⊥) → ((d : ℕ) → CanHold (element_at r.bytes p) n a d → ⊥) → Onward
  onward differ never = at w.left w.linked refl
    where
      at : (ps : List ℕ) → Linked r.bytes w.before p ps → w.left ≡ ps → Onward
      at [] l is = absurd (differ l)
      at (q ∷ ps) l is =
          let same = l.first in record {
            more = record {
              seen = p ∷ w.seen;
              left = ps;
              before = p;
              linked = rw same l.rest;
              all =
                  λ m. let count = w.all m in let rest = ap (times m) is in let one : bit (eqb p m) ≡ bit (eqb q m) = ap (λ (k : ℕ). bit (eqb k m)) same in
                  omega arith;
              never =
                  λ m h d can. by_test (eqb p m)
                  (λ t. never d (rw (eqb-true p m t) can))
                  (λ t. let no : bit (eqb p m) ≡ 0 = ap bit t in w.never m (omega arith) d can);
            };
            less = let all = ap length is in let n' : length (q ∷ ps) ≡ suc (length ps) = refl in omega arith;
          }

  pub steps_of : steps_left (length r.bytes) r.bytes p ≡ length w.left
  steps_of = steps_are (length r.bytes) r.bytes w.before p w.left w.linked left_far left_few

  -- at the end no element of the list has room for the block
  pub walk_ended : p ≡ none → NoneHolds c n a (elements_in r.bytes)
  walk_ended is e in_it class d can =
      let h = here r laid in_it.before e in_it.after in_it.split in
      let some : 1 ≤ belong c e.offset (elements_in r.bytes) =
      rw (← class, in_it.split) (belongs_of in_it.before e in_it.after can.0) in
      let count = w.all e.offset in let nothing = empty w.left w.linked left_far e.offset in
      w.never e.offset (omega arith) d (rw h.read at can)
    where
      empty : (ps : List ℕ) → Linked r.bytes w.before p ps → ((q : ℕ) → 1 ≤ times q ps → q < none) → (m : ℕ) → times m ps ≡ 0
      empty [] l far m = refl
      empty (q ∷ ps) l far m = let one = same_one q in let low = far q (omega arith) in let at = l.first in absurd (omega arith)

pub smaller : (r : RegionView) (laid : IsLaid r) (c n a p : ℕ) (w : Walked r.bytes c n a p) → (p ≡ none → ⊥) →
    ((d : ℕ) → CanHold (element_at r.bytes p) n a d → ⊥)
    → steps_left (length r.bytes) r.bytes (number_at r.bytes (p + 16) 4) < steps_left (length r.bytes) r.bytes p
smaller r laid c n a p w differ never =
    let o = onward r laid c n a p w differ never in let less = o.less in
    let old = steps_of r laid c n a p w in let new = steps_of r laid c n a (number_at r.bytes (p + 16) 4) o.more in omega arith

-- a larger element is in no earlier list
pub class_up : (n m : ℕ) → n ≤ m → class_of n ≤ class_of m
class_up n m le = grind (arith, nat_tests)

pub nothing_fits : (n a : ℕ) (es : List Element) → ((e : Element) → IsIn e es → (d : ℕ) → CanHold e n a d → ⊥) → NothingFits n a es
nothing_fits n a [] never = tt
nothing_fits n a (e ∷ es) never = (
  never e (record { before = []; after = es; split = refl }),
  nothing_fits n a es
      (λ x in_it. never x (record { before = e ∷ in_it.before; after = in_it.after; split = ap (λ (ys : List Element). e ∷ ys) in_it.split })),
)

-- the lists from that of the least size up to c have no element with room for a block
pub record Past (xs : List ℕ) (n a c : ℕ) : Type 0 where
  pub from : class_of (n + 64) ≤ c
  pub to : c ≤ 5
  pub none_holds : (d : ℕ) → class_of (n + 64) ≤ d → d < c → NoneHolds d n a (elements_in xs)

pub past_begins : (xs : List ℕ) (n a : ℕ) → Past xs n a (class_of (n + 64))
past_begins xs n a = let small = class_small (n + 64) in record { from = omega arith; to = omega arith; none_holds = λ d le lt. absurd (omega arith) }

pub past_more : (xs : List ℕ) (n a c : ℕ) → Past xs n a c → c < 5 → NoneHolds c n a (elements_in xs) → Past xs n a (c + 1)
past_more xs n a c w lt none' =
    record {
      from = omega arith;
      to = omega arith;
      none_holds = λ d le less. by_test (ltb d c)
          (λ t. w.none_holds d le (ltb-true d c t))
          (λ t. let over = ltb-false d c t in let same : c ≡ d = omega arith in rw (← same) none');
    }

-- an element of an even smaller list is too small
pub past_below : (xs : List ℕ) (n a c : ℕ) → Past xs n a c → NoneBelow c n a (elements_in xs)
past_below xs n a c w b less e in_it is d can =
    let (_, _, lo, hi) = can in let up = class_up (n + 64) e.size (omega arith) in w.none_holds b (omega arith) less e in_it is d can

pub past_all : (xs : List ℕ) (n a c : ℕ) → Past xs n a c → 5 ≤ c → NothingFits n a (elements_in xs)
past_all xs n a c w over = nothing_fits n a (elements_in xs) (λ e in_it d can.
    let (_, _, lo, hi) = can in let small = class_small e.size in
    let up = class_up (n + 64) e.size (omega arith) in w.none_holds (class_of e.size) up (omega arith) e in_it refl d can)
