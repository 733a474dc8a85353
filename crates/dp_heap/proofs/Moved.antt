-- The lists, after unlisted elements were replaced by others.
use Rattle.std.proofs.Common.{◌≡◌, ℕ, ◌+◌, ◌<◌, ◌≤◌, false, eqb, ltb, List, [], ◌∷◌, ◌++◌, length, refl, sym, ap, subst, ◌∙◌, arith, inl, inr}
use Rattle.std.specs.Prelude.{◌≢◌, ◌-◌, slice_index, not}
use Rattle.std.proofs.lemmas.Bool.{ltb-true, ltb-false, true≢false, and_parts, not-true}
use Rattle.dp_region.specs.Region.{RegionView, number_at}
use Rattle.dp_region.specs.Laws.{by_test}
use Rattle.dp_heap.specs.declared.elements.Element.{Element}
use Rattle.dp_heap.specs.Elements.{is_free, end_of, data_of, freed, both, joined}
use Rattle.dp_heap.specs.declared.elements.State.TheVariants.{Free}
use Rattle.dp_heap.specs.Edits.{onto, lower, upper, Emptied, Replaces}
use Rattle.dp_heap.specs.Laid.{element_at, elements_in, Laid, IsLaid}
use Rattle.dp_heap.specs.Lists.{none, class_of, belong, IsOff, Listed, Outside}
use Rattle.dp_heap.proofs.Laid.{first_offset, laid_bound, laid_split}
use Rattle.dp_heap.proofs.Cut.{front, here, e_bound}
use Rattle.dp_heap.proofs.Found.{below_last, below_bound, below_split, below_read}
use Rattle.dp_heap.proofs.Belong.{member, belong-append, belongs_off}
use Rattle.dp_heap.proofs.Links.{linked_stay}

-- an element lies between
between : (xs : List ℕ) (es before : List Element) (e : Element) (after : List Element) (low high : ℕ) → es ≡ before ++ e ∷ after → Laid xs low high es →
    (low ≤ e.offset) × (e.offset + 64 ≤ high)
between xs es before e after low high split l =
    let s = laid_split xs before (e ∷ after) low high (rw split at l) in
    let at = first_offset xs e s.middle s.above.read in let some = s.above.large in let b1 = laid_bound xs before low s.middle s.below in
    let b2 = laid_bound xs after (end_of e) high s.above.rest in (omega arith, omega arith)

module _ (xs ys : List ℕ) (before os after ps : List Element) (low high : ℕ) (ordered : low ≤ high) (below : Laid xs 0 low before)
    (above : Laid xs high (length xs) after) (same : Outside low high xs ys) where
  pub moved : (heads : List ℕ) (off next : List Element) → ((c p : ℕ) → belong c p os ≡ belong c p off) → ((c p : ℕ) → belong c p ps ≡ belong c p next)
      → Listed xs heads (before ++ (os ++ after)) off → Listed ys heads (before ++ (ps ++ after)) next
  moved heads off next was is w = record {
    lists = w.lists;
    five = w.five;
    linked = λ c small. linked_stay xs ys none (slice_index heads c) (w.lists c) (w.linked c small) (λ q in_it.
        let count = w.counted c q in let a1 = belong-append c q before (os ++ after) in let a2 = belong-append c q os after in
        let gone = was c q in by_test (ltb 0 (belong c q before))
        (λ t. let some = ltb-true 0 (belong c q before) t in let m = member c q before (omega arith) in let at = m.counted.at in
        let b = between xs before m.before m.it m.after 0 low m.split below in
        let b1 = b.1 in let end = laid_bound xs after high (length xs) above in
        (same (q + 16) (omega arith) (inl (omega arith)) (inl (omega arith)), same (q + 20) (omega arith) (inl (omega arith)) (inl (omega arith))))
        (λ t. let none' = ltb-false 0 (belong c q before) t in let m = member c q after (omega arith) in let at = m.counted.at in
        let b = between xs after m.before m.it m.after high (length xs) m.split above in
        let b0 = b.0 in let b1 = b.1 in (
          same (q + 16) (omega arith) (inr (omega arith)) (inr (omega arith)),
          same (q + 20) (omega arith) (inr (omega arith)) (inr (omega arith)),
        )));
    counted = λ c p.
        let count = w.counted c p in let a1 = belong-append c p before (os ++ after) in let a2 = belong-append c p os after in
        let b1 = belong-append c p before (ps ++ after) in let b2 = belong-append c p ps after in
        let gone = was c p in let come = is c p in omega arith;
  }

-- ps in the place of e
pub swapped : (r : RegionView) → IsLaid r → (before : List Element) (e : Element) (after : List Element) → elements_in r.bytes ≡ before ++ e ∷ after →
    (ys : List ℕ) (ps : List Element) → elements_in ys ≡ before ++ (ps ++ after)
    → Outside e.offset (end_of e) r.bytes ys → (heads : List ℕ) (off next : List Element) → ((c p : ℕ) → belong c p (e ∷ []) ≡ belong c p off) →
    ((c p : ℕ) → belong c p ps ≡ belong c p next)
    → Listed r.bytes heads (elements_in r.bytes) off → Listed ys heads (elements_in ys) next
swapped r laid before e after split ys ps new same heads off next was is w =
    rw new (moved r.bytes ys before (e ∷ []) after ps e.offset (end_of e) (omega arith) (front r laid before e after split)
    (here r laid before e after split).rest same heads off next was is
    (rw split at w))

pub busy_none : (e : Element) → is_free e ≡ false → (c p : ℕ) → belong c p (e ∷ []) ≡ belong c p []
busy_none e busy c p = let no = belongs_off c p e (λ all. true≢false (sym all.free ∙ busy)) in omega arith

-- one element is in no list: z, which is x
pub off_at : (r : RegionView) (heads : List ℕ) (before after : List Element) {x z : Element} → IsLaid r → elements_in r.bytes ≡ before ++ x ∷ after → z ≡ x
    → x.state ≡ Free → Listed r.bytes heads (elements_in r.bytes) (x ∷ []) → IsOff r heads z
off_at r heads before after laid split is free listed =
    rw is (record { laid = laid; inside = record { before = before; after = after; split = split }; free = free; listed = listed })

-- e is split in two
pub after_cut : (r : RegionView) (heads : List ℕ) (e : Element) → IsOff r heads e → (mid : ℕ) (ys : List ℕ)
    → Replaces e (lower e mid ∷ upper e mid ∷ []) (elements_in r.bytes) (elements_in ys) → Outside e.offset (end_of e) r.bytes ys
    → Listed ys heads (elements_in ys) (lower e mid ∷ upper e mid ∷ []) × Listed ys heads (elements_in ys) (upper e mid ∷ lower e mid ∷ [])
after_cut r heads e off mid ys pieces same =
    let l = off.inside in let low = lower e mid in let high = upper e mid in let new = pieces l.before l.after l.split in
    let now = swapped r off.laid l.before e l.after l.split ys (low ∷ high ∷ []) new same heads (e ∷ []) in
    (now (low ∷ high ∷ []) (λ c p. refl) (λ c p. refl) off.listed, now (high ∷ low ∷ []) (λ c p. refl) (λ c p. omega arith) off.listed)

-- two neighbours become one
pub after_join : (r : RegionView) → IsLaid r → (before : List Element) (x y : Element) (after : List Element) → elements_in r.bytes ≡ before
    ++ x ∷ y ∷ after → (new : RegionView) → IsLaid new → elements_in new.bytes ≡ before ++ both x y ∷ after
    → (z : Element) → z ≡ both x y → Outside x.offset (end_of z) r.bytes new.bytes → (heads : List ℕ) (off : List Element) →
    ((c p : ℕ) → belong c p (x ∷ y ∷ []) ≡ belong c p off) → Listed r.bytes heads (elements_in r.bytes) off
    → IsOff new heads z
after_join r laid before x y after split new fit now z is same heads off was w =
    let h = here r laid before x (y ∷ after) split in let at = first_offset r.bytes y (end_of x) h.rest.read in
    let ends : end_of y ≡ end_of (both x y) = omega arith in let some = h.large in
    let listed = moved r.bytes new.bytes before (x ∷ y ∷ []) after (both x y ∷ []) x.offset (end_of (both x y)) (omega arith)
    (front r laid before x (y ∷ after) split) (rw ends at h.rest.rest) (rw is at same) heads off (both x y ∷ []) was (λ c p. refl) (rw split at w) in
    off_at new heads before after fit now is refl (rw now listed)

-- x begins at another offset
pub elsewhere : (e x : Element) → (e.offset ≡ x.offset → ⊥) → belong (class_of x.size) x.offset (e ∷ []) ≡ 0
elsewhere e x differ = let no = belongs_off (class_of x.size) x.offset e (λ all. differ all.at) in omega arith

-- y lies right below e, and e alone is unlisted
pub record Neighbour (r : RegionView) (before : List Element) (e : Element) (after : List Element) (y : Element) : Type 0 where
  pub front : List Element
  pub split : elements_in r.bytes ≡ front ++ y ∷ e ∷ after
  pub joins : (rest : List Element) → onto before rest ≡ front ++ joined y rest
  pub elsewhere : belong (class_of y.size) y.offset (e ∷ []) ≡ 0

module _ (r : RegionView) (laid : IsLaid r) (before : List Element) (e : Element) (after : List Element) (split : elements_in r.bytes ≡ before
    ++ e ∷ after) (y : Element) where
  pub above_elsewhere : y ≡ element_at r.bytes (end_of e) → belong (class_of y.size) y.offset (e ∷ []) ≡ 0
  above_elsewhere is = let some = (e_bound r laid before e after split).1 in
      let at = ap (λ (x : Element). x.offset) is in elsewhere e y (λ same. absurd (omega arith))

  pub neighbour : (size : ℕ) → (e.offset ≢ 0) → size ≡ number_at r.bytes (e.offset + 12) 4 → y ≡ element_at r.bytes (e.offset - size) →
      Neighbour r before e after y
  neighbour size differ kept read =
      let some : 0 < e.offset = omega (arith, differ) in
      let b = below_last r laid before e after split some in
      let is = read ∙ below_read r laid before e after split some size kept in
      let bound = below_bound r laid before e after split some in let ends = bound.0 in let large = bound.1 in
      let at = ap (λ (x : Element). x.offset) is in
      record {
        front = b.before;
        split = below_split r laid before e after split some ∙ ap (λ (x : Element). b.before ++ x ∷ e ∷ after) (sym is);
        joins = λ rest. b.joins rest ∙ ap (λ (x : Element). b.before ++ joined x rest) (sym is);
        elsewhere = elsewhere e y (λ same. absurd (omega arith));
      }

-- an element loses its block
pub emptied_listed : (r : RegionView) → IsLaid r → (d : ℕ) (x : Element) (ys : List ℕ) → Emptied d x (elements_in r.bytes) (elements_in ys) →
    Outside x.offset (end_of x) r.bytes ys → (heads : List ℕ) → Listed r.bytes heads (elements_in r.bytes) []
    → Listed ys heads (elements_in ys) (x ∷ [])
emptied_listed r laid d x ys h same heads w =
    let e = h.it in let busy : is_free e ≡ false = not-true (is_free e) (and_parts (not (is_free e)) (eqb (data_of e) d) h.block).0 in
    swapped r laid h.before e h.after h.split ys (freed e ∷ []) h.now (rw h.is at same) heads []
    (x ∷ []) (busy_none e busy) (λ c p. ap (λ (z : Element). belong c p (z ∷ [])) (sym h.is)) w
