-- A free element leaves its list.
use Rattle.std.proofs.Common.{◌≡◌, ℕ, ◌+◌, ◌%◌, ◌<◌, ◌≤◌, true, cond, eqb, eqb-true, List, [], ◌∷◌, ◌++◌, length, set, refl, sym, ap, ◌∙◌, arith}
use Rattle.std.proofs.Common.{inl, inr}
use Rattle.std.specs.Prelude.{◌⊎◌, slice_index}
use mathlib.Core.Logic.{⊎_elim}
use Rattle.std.proofs.lemmas.Bool.{eqb-false}
use Rattle.std.proofs.lemmas.List.{get_or-set_same, get_or-set_other, length-set}
use Rattle.dp_region.specs.Region.{RegionView, number_at}
use Rattle.dp_region.specs.Laws.{by_test}
use Rattle.dp_heap.specs.declared.elements.Element.{Element}
use Rattle.dp_heap.specs.Elements.{is_free}
use Rattle.dp_heap.specs.Edits.{IsIn}
use Rattle.dp_heap.specs.Laid.{elements_in, IsLaid}
use Rattle.dp_heap.specs.Lists.{none, class_of, with_link, Linked, times, belongs, belong, Listed}
use Rattle.dp_heap.proofs.Belong.{class_small, times-append, Split, times_split, belongs_of, belongs_is}
use Rattle.dp_heap.proofs.Links.{length-with_link, link-same, link-other, link-apart, linked_stay, head_in, last_of, last_in, last_among, beside, first_or}
use Rattle.dp_heap.proofs.Links.{unlinked}
use Rattle.dp_heap.proofs.Listing.{relinked, linking, Header, header_of, listed_header, few, other_list, link_header, link_listed, link_small}

module _ (r : RegionView) (laid : IsLaid r) (e : Element) (here : IsIn e (elements_in r.bytes)) (free : is_free e ≡ true)
    (heads : List ℕ) (off : List Element) (w : Listed r.bytes heads (elements_in r.bytes) off) (among : belong (class_of e.size) e.offset off ≡ 0) where
  abbrev xs : List ℕ
  xs = r.bytes

  abbrev pub p : ℕ
  p = e.offset

  abbrev pub c : ℕ
  c = class_of e.size

  abbrev pub v : ℕ
  v = number_at xs (p + 16) 4

  abbrev pub u : ℕ
  u = number_at xs (p + 20) 4

  abbrev pub y1 : List ℕ
  y1 = with_link xs 16 u v

  abbrev pub ys : List ℕ
  ys = with_link y1 20 v u

  pub own : Header r p
  own = header_of r laid here.before e here.after here.split

  cut : Split p (w.lists c)
  cut = times_split p (w.lists c)
      (let count = w.counted c p in let some = ap (belong c p) here.split in let one = belongs_of here.before e here.after free in omega arith)

  chain : Linked xs none (slice_index heads c) (cut.before ++ p ∷ cut.after)
  chain = rw cut.is at (w.linked c (class_small e.size))

  around : (u ≡ last_of none cut.before) × Linked xs p v cut.after
  around = beside xs none (slice_index heads c) cut.before p cut.after chain

  -- how often an offset is in the list
  parts : (q : ℕ) → times q (w.lists c) ≡ times q cut.before + times q (p ∷ cut.after)
  parts q = ap (times q) cut.is ∙ times-append q cut.before (p ∷ cut.after)

  u_is : (u ≡ none) ⊎ (1 ≤ times u cut.before)
  u_is = let is = around.0 in ⊎_elim (λ z. inl (is ∙ z)) (λ k. inr (rw is k)) (last_in none cut.before)

  v_is : (v ≡ none) ⊎ (1 ≤ times v cut.after)
  v_is = head_in xs p v cut.after around.1

  u_in : (u ≡ none) ⊎ (1 ≤ times u (w.lists c))
  u_in = ⊎_elim (λ z. inl z) (λ k. let s = parts u in inr (omega arith)) u_is

  v_in : (v ≡ none) ⊎ (1 ≤ times v (w.lists c))
  v_in = ⊎_elim (λ z. inl z) (λ k. let s = parts v in inr (omega arith)) v_is

  pub u_header : u < length xs → Header r u
  u_header = link_header r laid heads off w c u u_in

  pub v_header : v < length xs → Header r v
  v_header = link_header r laid heads off w c v v_in

  once : (q : ℕ) → times q (w.lists c) ≤ 1
  once q = let f = few r laid heads off w c q in omega arith

  u_past : times u cut.after ≡ 0
  u_past = ⊎_elim
      (λ z. let never : 1 ≤ times u cut.after → ⊥ = (λ some. let s = parts u in
      let k = (listed_header r laid heads off w c u (omega arith)).room in let most = laid.size.1 in omega arith) in omega (arith, never))
      (λ k. let s = parts u in let o = once u in omega arith) u_is

  v_before : times v cut.before ≡ 0
  v_before = ⊎_elim
      (λ z. let never : 1 ≤ times v cut.before → ⊥ = (λ some. let s = parts v in
      let k = (listed_header r laid heads off w c v (omega arith)).room in let most = laid.size.1 in omega arith) in omega (arith, never))
      (λ k. let s = parts v in let o = once v in omega arith) v_is

  pub long1 : length y1 ≡ length xs
  long1 = length-with_link xs 16 u v (λ lt. (u_header lt).room) (omega arith)

  long : length ys ≡ length xs
  long = let n = long1 in length-with_link y1 20 v u (λ lt. let k = (v_header (omega arith)).room in omega arith) (omega arith) ∙ n

  u1 : u < length xs → (u % 64 ≡ 0) × (u + 64 ≤ length xs)
  u1 lt = let k = u_header lt in (k.step, k.room)

  v1 : v < length y1 → (v % 64 ≡ 0) × (v + 64 ≤ length y1)
  v1 lt = let n = long1 in let k = v_header (omega arith) in let room = k.room in (k.step, omega arith)

  -- words elsewhere stay
  stays : (q j : ℕ) → q % 64 ≡ 0 → q + 64 ≤ length xs → j ≤ 60 → (q ≡ u → (j + 4 ≤ 16) ⊎ (20 ≤ j)) → (q ≡ v → (j + 4 ≤ 20) ⊎ (24 ≤ j)) →
      number_at ys (q + j) 4 ≡ number_at xs (q + j) 4
  stays q j step room small a b =
      let n1 = long1 in
      link-apart y1 20 v u q j v1 (omega arith) step (omega arith) small (λ is. b (sym is))
      ∙ link-apart xs 16 u v q j u1 (omega arith) step room small (λ is. a (sym is))

  pub left_laid : IsLaid (record r { bytes = ys }) × (elements_in ys ≡ elements_in xs)
  left_laid = relinked r laid ys long (λ k room low.
      let n1 = long1 in
      link-other y1 20 v u (λ lt. (v1 lt).1) (omega arith) k (omega arith) (λ lt. linking v k 20 (v1 lt).0 low (omega arith) (omega arith))
      ∙ link-other xs 16 u v (λ lt. (u1 lt).1) (omega arith) k room (λ lt. linking u k 16 (u1 lt).0 low (omega arith) (omega arith)))

  new_next : 1 ≤ times u cut.before → number_at ys (u + 16) 4 ≡ v
  new_next in_it =
      let s = parts u in let k = listed_header r laid heads off w c u (omega arith) in let room = k.room in let n1 = long1 in
      link-apart y1 20 v u u 16 v1 (omega arith) k.step (omega arith) (omega arith) (λ is. inl (omega arith))
      ∙ link-same xs 16 u v (λ _. room) (omega arith) (omega arith) (link_small r laid heads off w c v v_in)

  new_back : 1 ≤ times v cut.after → number_at ys (v + 20) 4 ≡ u
  new_back in_it =
      let s = parts v in let k = listed_header r laid heads off w c v (omega arith) in let room = k.room in let n1 = long1 in
      link-same y1 20 v u (λ _. omega arith) (omega arith) (omega arith) (link_small r laid heads off w c u u_in)

  rest : Linked ys none (first_or v (slice_index heads c) cut.before) (cut.before ++ cut.after)
  rest = unlinked xs ys p u v cut.after refl u_past none (slice_index heads c) cut.before chain (sym around.0) v_before
      (λ q. let s = parts q in let o = once q in let j = times-append q cut.before cut.after in omega arith)
      (λ q in_it differ. let s = parts q in let j = times-append q cut.before cut.after in
      let k = listed_header r laid heads off w c q (omega arith) in
      stays q 16 k.step k.room (omega arith) (λ is. absurd (differ is)) (λ is. inl (omega arith)))
      (λ q in_it differ. let s = parts q in let j = times-append q cut.before cut.after in
      let k = listed_header r laid heads off w c q (omega arith) in
      stays q 20 k.step k.room (omega arith) (λ is. inr (omega arith)) (λ is. absurd (differ is)))
      new_next new_back

  first_is : (b : List ℕ) → u ≡ last_of none b → ((q : ℕ) → 1 ≤ times q b → q < none) → (u ≡ none → first_or v (slice_index heads c) b ≡ v)
      × ((u ≡ none → ⊥) → first_or v (slice_index heads c) b ≡ slice_index heads c)
  first_is [] is far = (λ _. refl, λ differ. absurd (differ is))
  first_is (q ∷ b) is far = (λ z. let h = far (last_of none (q ∷ b)) (last_among none q b) in absurd (omega arith), λ _. refl)

  heads_are : (u ≡ none → first_or v (slice_index heads c) cut.before ≡ v)
      × ((u ≡ none → ⊥) → first_or v (slice_index heads c) cut.before ≡ slice_index heads c)
  heads_are = first_is cut.before around.0 (λ q in_it. let s = parts q in let k = (listed_header r laid heads off w c q (omega arith)).room in
      let most = laid.size.1 in omega arith)

  abbrev lists : ℕ → List ℕ
  lists d = cond (eqb d c) (cut.before ++ cut.after) (w.lists d)

  other_linked : (d : ℕ) → d < 5 → (d ≡ c → ⊥) → Linked ys none (slice_index heads d) (w.lists d)
  other_linked d small differ = linked_stay xs ys none (slice_index heads d) (w.lists d) (w.linked d small) (λ q in_it.
      let k = listed_header r laid heads off w d q in_it in let room = k.room in
      let far : (m : ℕ) → (m ≡ none) ⊎ (1 ≤ times m (w.lists c)) → q ≡ m → ⊥ = (λ m m_in is. let in_c = link_listed r laid heads off w c m m_in (omega arith) in
      let no = other_list r laid heads off w c d m (λ same. differ (sym same)) (omega arith) in
      let no' : times q (w.lists d) ≡ 0 = rw is no in absurd (omega arith)) in (
        stays q 16 k.step room (omega arith) (λ is. absurd (far u u_in is)) (λ is. inl (omega arith)),
        stays q 20 k.step room (omega arith) (λ is. inr (omega arith)) (λ is. absurd (far v v_in is)),
      ))

  linked : (new : List ℕ) → slice_index new c ≡ first_or v (slice_index heads c) cut.before →
      ((d : ℕ) → (d ≡ c → ⊥) → slice_index new d ≡ slice_index heads d) → (d : ℕ) → d < 5 → Linked ys none (slice_index new d) (lists d)
  linked new at others d small = by_test (eqb d c)
      (λ t. rw (t, eqb-true d c t, at) rest)
      (λ t. let differ = eqb-false d c t in
      rw (t, others d differ) (other_linked d small differ))

  counted : (d q : ℕ) → times q (lists d) + belong d q (e ∷ off) ≡ belong d q (elements_in ys)
  counted d q =
      let old = w.counted d q in let is = belongs_is d q e free in let same = ap (belong d q) left_laid.1 in by_test (eqb d c)
      (λ t. let at = eqb-true d c t in let kept : times q (lists d) ≡ times q (cut.before ++ cut.after) = rw t in
      let j = times-append q cut.before cut.after in let s = parts q in
      let whole : times q (w.lists d) ≡ times q (w.lists c) = rw at in
      let one : belongs d q e ≡ cond (eqb p q) 1 0 = rw t at is in omega arith)
      (λ t. let kept : times q (lists d) ≡ times q (w.lists d) = rw t in
      let no : belongs d q e ≡ 0 = rw t at is in omega arith)

  pub left_first : u ≡ none → Listed ys (set heads c v) (elements_in ys) (e ∷ off)
  left_first is = record {
    lists = lists;
    five = length-set heads c v ∙ w.five;
    linked = linked (set heads c v) (get_or-set_same heads c v 0 (let n = w.five in let s = class_small e.size in omega arith)
        ∙ sym (heads_are.0 is)) (λ d differ. get_or-set_other heads c d v 0 differ);
    counted = counted;
  }

  pub left_later : (u ≡ none → ⊥) → Listed ys heads (elements_in ys) (e ∷ off)
  left_later differ = record { lists = lists; five = w.five; linked = linked heads (sym (heads_are.1 differ)) (λ d _. refl); counted = counted }
