-- A free element enters its list at the front.
use Rattle.std.proofs.Common.{◌≡◌, ℕ, ◌+◌, ◌%◌, ◌<◌, ◌≤◌, Bool, true, cond, eqb, eqb-true, List, ◌∷◌, length, set, refl, sym, ap, ◌∙◌, arith}
use Rattle.std.proofs.Common.{inl, inr, lit<}
use Rattle.std.specs.Prelude.{◌⊎◌, slice_index}
use mathlib.Core.Logic.{⊎_elim}
use Rattle.std.proofs.lemmas.Bool.{eqb-false}
use Rattle.std.proofs.lemmas.List.{get_or-set_same, get_or-set_other, length-set}
use Rattle.dp_region.specs.Region.{RegionView, number_at}
use Rattle.dp_region.specs.Laws.{by_test}
use Rattle.dp_heap.specs.declared.elements.Element.{Element}
use Rattle.dp_heap.specs.Elements.{is_free}
use Rattle.dp_heap.specs.Edits.{IsIn}
use Rattle.dp_heap.specs.Laid.{elements_in, IsLaid}
use Rattle.dp_heap.specs.Lists.{none, class_of, with_link, Linked, times, belongs, belong, Listed}
use Rattle.dp_heap.proofs.Belong.{class_small, belongs_here, belongs_is}
use Rattle.dp_heap.proofs.Links.{length-with_link, link-same, link-other, link-apart, linked_stay, restart}
use Rattle.dp_heap.proofs.Listing.{relinked, linking, Header, header_of, listed_header, few, other_list, head_of, link_header, link_listed, link_small}

module _ (r : RegionView) (laid : IsLaid r) (e : Element) (here : IsIn e (elements_in r.bytes)) (free : is_free e ≡ true)
    (heads : List ℕ) (off : List Element) (w : Listed r.bytes heads (elements_in r.bytes) (e ∷ off)) where
  abbrev xs : List ℕ
  xs = r.bytes

  abbrev pub p : ℕ
  p = e.offset

  abbrev pub c : ℕ
  c = class_of e.size

  abbrev pub h : ℕ
  h = slice_index heads c

  abbrev pub y1 : List ℕ
  y1 = with_link xs 16 p h

  abbrev pub y2 : List ℕ
  y2 = with_link y1 20 p none

  abbrev pub ys : List ℕ
  ys = with_link y2 20 h p

  pub own : Header r p
  own = header_of r laid here.before e here.after here.split

  head : (h ≡ none) ⊎ (1 ≤ times h (w.lists c))
  head = head_of r laid heads (e ∷ off) w c (class_small e.size)

  pub first : h < length xs → Header r h
  first = link_header r laid heads (e ∷ off) w c h head

  -- it was in no list
  absent : (d : ℕ) → times p (w.lists d) ≡ 0
  absent d = let one = belongs_here e free in by_test (eqb c d)
      (λ t. let is = eqb-true c d t in let f = few r laid heads (e ∷ off) w c p in
      let no : times p (w.lists c) ≡ 0 = omega arith in rw (← is) no)
      (λ t. other_list r laid heads (e ∷ off) w c d p (eqb-false c d t) (omega arith))

  differs : (d q : ℕ) → 1 ≤ times q (w.lists d) → q ≡ p → ⊥
  differs d q in_it is = let no : times q (w.lists d) ≡ 0 = rw is (absent d) in absurd (omega arith)

  h_differs : h ≡ p → ⊥
  h_differs is = let o = own.room in ⊎_elim (λ z. let most = laid.size.1 in absurd (omega arith)) (λ in_it. differs c h in_it is) head

  pub long1 : length y1 ≡ length xs
  long1 = let o = own.room in length-with_link xs 16 p h (λ _. o) (omega arith)

  pub long2 : length y2 ≡ length xs
  long2 = let o = own.room in let n = long1 in length-with_link y1 20 p none (λ _. omega arith) (omega arith) ∙ n

  long : length ys ≡ length xs
  long = let n = long2 in length-with_link y2 20 h p (λ lt. let f = (first (omega arith)).room in omega arith) (omega arith) ∙ n

  p1 : p < length xs → (p % 64 ≡ 0) × (p + 64 ≤ length xs)
  p1 lt = (own.step, own.room)

  p2 : p < length y1 → (p % 64 ≡ 0) × (p + 64 ≤ length y1)
  p2 lt = let n = long1 in let o = own.room in (own.step, omega arith)

  h2 : h < length y2 → (h % 64 ≡ 0) × (h + 64 ≤ length y2)
  h2 lt = let n = long2 in let f = first (omega arith) in let o = f.room in (f.step, omega arith)

  -- words elsewhere stay
  stays : (q j : ℕ) → q % 64 ≡ 0 → q + 64 ≤ length xs → j ≤ 60 → (q ≡ p → (j + 4 ≤ 16) ⊎ (24 ≤ j)) → (q ≡ h → (j + 4 ≤ 20) ⊎ (24 ≤ j)) →
      number_at ys (q + j) 4 ≡ number_at xs (q + j) 4
  stays q j step room small a b =
      let n1 = long1 in let n2 = long2 in
      link-apart y2 20 h p q j h2 (omega arith) step (omega arith) small (λ is. b (sym is))
      ∙ link-apart y1 20 p none q j p2 (omega arith) step (omega arith) small (λ is. ⊎_elim (λ k. inl (omega arith)) (λ k. inr k) (a (sym is)))
      ∙ link-apart xs 16 p h q j p1 (omega arith) step room small (λ is. ⊎_elim (λ k. inl k) (λ k. inr (omega arith)) (a (sym is)))

  next : number_at ys (p + 16) 4 ≡ h
  next =
      let o = own.room in let n1 = long1 in let n2 = long2 in
      link-apart y2 20 h p p 16 h2 (omega arith) own.step (omega arith) (omega arith) (λ is. inl (omega arith))
      ∙ link-apart y1 20 p none p 16 p2 (omega arith) own.step (omega arith) (omega arith) (λ is. inl (omega arith))
      ∙ link-same xs 16 p h (λ _. o) (omega arith) (omega arith) (link_small r laid heads (e ∷ off) w c h head)

  back : number_at ys (p + 20) 4 ≡ none
  back =
      let o = own.room in let n1 = long1 in let n2 = long2 in
      link-apart y2 20 h p p 20 h2 (omega arith) own.step (omega arith) (omega arith) (λ is. absurd (h_differs is))
      ∙ link-same y1 20 p none (λ _. omega arith) (omega arith) (omega arith) (lit< tt)

  first_back : h < length xs → number_at ys (h + 20) 4 ≡ p
  first_back lt =
      let o = own.room in let most = laid.size.1 in let n2 = long2 in let f = (first lt).room in
      link-same y2 20 h p (λ _. omega arith) (omega arith) (omega arith) (omega arith)

  pub entered_laid : IsLaid (record r { bytes = ys }) × (elements_in ys ≡ elements_in xs)
  entered_laid = relinked r laid ys long (λ k room low.
      let n1 = long1 in let n2 = long2 in
      link-other y2 20 h p (λ lt. (h2 lt).1) (omega arith) k (omega arith) (λ lt. linking h k 20 (h2 lt).0 low (omega arith) (omega arith))
      ∙ link-other y1 20 p none (λ lt. (p2 lt).1) (omega arith) k (omega arith) (λ lt. linking p k 20 (p2 lt).0 low (omega arith) (omega arith))
      ∙ link-other xs 16 p h (λ lt. (p1 lt).1) (omega arith) k room (λ lt. linking p k 16 (p1 lt).0 low (omega arith) (omega arith)))

  abbrev lists : ℕ → List ℕ
  lists d = cond (eqb d c) (p ∷ w.lists c) (w.lists d)

  abbrev new : List ℕ
  new = set heads c p

  front : Linked ys none p (p ∷ w.lists c)
  front = record {
    first = refl;
    back = back;
    rest = rw next
        (restart xs ys none p h (w.lists c) (w.linked c (class_small e.size)) (let f = few r laid heads (e ∷ off) w c h in omega arith)
        (λ in_it. first_back (let k = (listed_header r laid heads (e ∷ off) w c h in_it).room in omega arith))
        (λ q in_it differ. let k = listed_header r laid heads (e ∷ off) w c q in_it in
        stays q 20 k.step k.room (omega arith) (λ is. absurd (differs c q in_it is)) (λ is. absurd (differ is)))
        (λ q in_it. let k = listed_header r laid heads (e ∷ off) w c q in_it in
        stays q 16 k.step k.room (omega arith) (λ is. absurd (differs c q in_it is)) (λ is. inl (omega arith))));
  }

  linked : (d : ℕ) → d < 5 → Linked ys none (slice_index new d) (lists d)
  linked d small = by_test (eqb d c)
      (λ t. rw (t, eqb-true d c t, get_or-set_same heads c p 0 (let n = w.five in let s = class_small e.size in omega arith)) front)
      (λ t. let differ = eqb-false d c t in
      rw (t, get_or-set_other heads c d p 0 differ) (
      (linked_stay xs ys none (slice_index heads d) (w.lists d) (w.linked d small) (λ q in_it.
      let k = listed_header r laid heads (e ∷ off) w d q in_it in let room = k.room in
      let far : q ≡ h → ⊥ = (λ is. let in_c = link_listed r laid heads (e ∷ off) w c h head (omega arith) in
      let no = other_list r laid heads (e ∷ off) w c d h (λ same. differ (sym same)) (omega arith) in
      let no' : times q (w.lists d) ≡ 0 = rw is no in absurd (omega arith)) in (
        stays q 16 k.step room (omega arith) (λ is. absurd (differs d q in_it is)) (λ is. inl (omega arith)),
        stays q 20 k.step room (omega arith) (λ is. absurd (differs d q in_it is)) (λ is. absurd (far is)),
      )))))

  counted : (d q : ℕ) → times q (lists d) + belong d q off ≡ belong d q (elements_in ys)
  counted d q =
      let old = w.counted d q in let is = belongs_is d q e free in
      let new' : times q (lists d) ≡ belongs d q e + times q (w.lists d) = by_test (eqb d c)
      (λ t. let same = eqb-true d c t in ap (λ (b : Bool). times q (cond b (p ∷ w.lists c) (w.lists d))) t
      ∙ ap (λ (k : ℕ). cond (eqb p q) 1 0 + times q (w.lists k)) (sym same)
      ∙ ap (λ (k : ℕ). k + times q (w.lists d)) (sym (is ∙ ap (λ (b : Bool). cond b (cond (eqb p q) 1 0) 0) t)))
      (λ t. let no : belongs d q e ≡ 0 = rw t at is in
      let kept : times q (lists d) ≡ times q (w.lists d) = rw t in omega arith) in
      let same = ap (belong d q) entered_laid.1 in omega arith

  pub entered : Listed ys new (elements_in ys) off
  entered = record { lists = lists; five = length-set heads c p ∙ w.five; linked = linked; counted = counted }
