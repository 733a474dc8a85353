-- Lists of offsets that are linked, after links were written.
use Rattle.std.proofs.Common.{◌≡◌, ℕ, ◌+◌, ◌%◌, ◌^◌, ◌<◌, ◌≤◌, Bool, cond, eqb, ltb, List, [], ◌∷◌, ◌++◌, length, refl, sym, ap, subst, ◌∙◌, arith}
use Rattle.std.proofs.Common.{inl, inr}
use Rattle.std.specs.Prelude.{◌⊎◌}
use mathlib.Core.Logic.{⊎_elim}
use Rattle.std.proofs.lemmas.Bool.{cond_both, ltb-true, lt-ltb}
use Rattle.dp_region.specs.Laws.{length-with_number, number_at-same, number_at-other}
use Rattle.dp_region.specs.Region.{number_at, with_number}
use Rattle.dp_heap.specs.Lists.{none, with_link, Linked, times}
use Rattle.dp_heap.proofs.Belong.{bit, same_one, times-append}

module _ (xs : List ℕ) (k p n : ℕ) (fits : p < length xs → p + 64 ≤ length xs) (small : k ≤ 60) where
  abbrev put : List ℕ
  put = with_number xs (p + k) 4 n

  pub length-with_link : length (with_link xs k p n) ≡ length xs
  length-with_link = cond_both (ltb p (length xs)) put xs (λ ys. length ys ≡ length xs)
      (λ t. let room = fits (ltb-true p (length xs) t) in length-with_number xs (p + k) n (omega arith)) (λ t. refl)

  pub link-same : p < length xs → n < 2 ^ 32 → number_at (with_link xs k p n) (p + k) 4 ≡ n
  link-same in_it few =
      let room = fits in_it in
      ap (λ (t : Bool). number_at (cond t put xs) (p + k) 4) (lt-ltb p (length xs) in_it) ∙ number_at-same xs (p + k) n (omega arith) few

  pub link-other : (q : ℕ) → q + 4 ≤ length xs → (p < length xs → (q + 4 ≤ p + k) ⊎ (p + k + 4 ≤ q)) → number_at (with_link xs k p n) q 4 ≡ number_at xs q 4
  link-other q room off = cond_both (ltb p (length xs)) put xs (λ ys. number_at ys q 4 ≡ number_at xs q 4)
      (λ t. let in_it = ltb-true p (length xs) t in let whole = fits in_it in
      number_at-other xs (p + k) n (omega arith) q room (⊎_elim (λ a. inl a) (λ a. inr (omega arith)) (off in_it))) (λ t. refl)

-- words of different headers do not overlap
pub apart_words : (p q k j : ℕ) → p % 64 ≡ 0 → q % 64 ≡ 0 → k ≤ 60 → j ≤ 60 → (p ≡ q → (j + 4 ≤ k) ⊎ (k + 4 ≤ j)) → (q + j + 4 ≤ p + k) ⊎ (p + k + 4 ≤ q + j)
apart_words p q k j a b c d off = grind arith

-- the word at j of the header at q stays
pub link-apart : (xs : List ℕ) (k p n q j : ℕ) → (p < length xs → (p % 64 ≡ 0) × (p + 64 ≤ length xs)) → k ≤ 60 → q % 64 ≡ 0 → q + 64 ≤ length xs → j ≤ 60
    → (p ≡ q → (j + 4 ≤ k) ⊎ (k + 4 ≤ j)) → number_at (with_link xs k p n) (q + j) 4 ≡ number_at xs (q + j) 4
link-apart xs k p n q j fits small step room few off = link-other xs k p n (λ h. (fits h).1) small (q + j) (omega arith)
    (λ h. apart_words p q k j (fits h).0 step small few off)

-- the first is the head
pub head_in : (xs : List ℕ) (w h : ℕ) (ps : List ℕ) → Linked xs w h ps → (h ≡ none) ⊎ (1 ≤ times h ps)
head_in xs w h [] l = inl l
head_in xs w h (p ∷ ps) l = let is = l.first in let one : bit (eqb p h) ≡ 1 = ap (λ (k : ℕ). cond (eqb p k) 1 0) is ∙ same_one p in inr (omega arith)

-- the last of ps, or w
abbrev pub last_of : ℕ → List ℕ → ℕ
last_of w [] = w
last_of w (p ∷ ps) = last_of p ps

pub last_in : (w : ℕ) (ps : List ℕ) → (last_of w ps ≡ w) ⊎ (1 ≤ times (last_of w ps) ps)
last_in w [] = inl refl
last_in w (p ∷ ps) = ⊎_elim (λ is. let one : bit (eqb p (last_of p ps)) ≡ 1 = ap (λ (k : ℕ). cond (eqb p k) 1 0) is ∙ same_one p in
    inr (omega arith)) (λ h. inr (omega arith)) (last_in p ps)

pub last_among : (w p : ℕ) (ps : List ℕ) → 1 ≤ times (last_of w (p ∷ ps)) (p ∷ ps)
last_among w p ps = ⊎_elim (λ is. let one : bit (eqb p (last_of p ps)) ≡ 1 = ap (λ (k : ℕ). cond (eqb p k) 1 0) is ∙ same_one p in
    omega arith) (λ h. omega arith) (last_in p ps)

-- what the element at p holds of its neighbours in the list
pub beside : (xs : List ℕ) (w h : ℕ) (b : List ℕ) (p : ℕ) (a : List ℕ) → Linked xs w h (b ++ p ∷ a) →
    (number_at xs (p + 20) 4 ≡ last_of w b) × Linked xs p (number_at xs (p + 16) 4) a
beside xs w h [] p a l = (l.back, l.rest)
beside xs w h (q ∷ b) p a l = beside xs q (number_at xs (q + 16) 4) b p a l.rest

module _ (xs ys : List ℕ) where
  pub linked_stay : (w h : ℕ) (ps : List ℕ) → Linked xs w h ps → ((p : ℕ) → 1 ≤ times p ps → (number_at ys (p + 16) 4 ≡ number_at xs (p + 16) 4)
      × (number_at ys (p + 20) 4 ≡ number_at xs (p + 20) 4)) → Linked ys w h ps
  linked_stay w h [] l same = l
  linked_stay w h (p ∷ ps) l same =
      let one = same_one p in let s = same p (omega arith) in
      record {
        first = l.first;
        back = s.1 ∙ l.back;
        rest = rw s.0 (linked_stay p (number_at xs (p + 16) 4) ps l.rest (λ q h. same q (omega arith)));
      }

  -- another element before the first
  pub restart : (w u h : ℕ) (ps : List ℕ) → Linked xs w h ps → times h ps ≤ 1 → (1 ≤ times h ps → number_at ys (h + 20) 4 ≡ u)
      → ((q : ℕ) → 1 ≤ times q ps → (q ≡ h → ⊥) → number_at ys (q + 20) 4 ≡ number_at xs (q + 20) 4) →
      ((q : ℕ) → 1 ≤ times q ps → number_at ys (q + 16) 4 ≡ number_at xs (q + 16) 4) → Linked ys u h ps
  restart w u h [] l few first back next = l
  restart w u h (p ∷ ps) l few first back next =
      let is = l.first in let one = same_one p in let some : 1 ≤ times h (p ∷ ps) = rw is (omega arith) in
      let few' : times p (p ∷ ps) ≤ 1 = subst (λ (k : ℕ). times k (p ∷ ps) ≤ 1) is few in record {
        first = is;
        back = ap (λ (k : ℕ). number_at ys (k + 20) 4) (sym is) ∙ first some;
        rest = rw (next p (omega arith))
            (linked_stay p (number_at xs (p + 16) 4) ps l.rest (λ q in_it. (
              next q (omega arith),
              back q (omega arith) (λ same. let at : q ≡ p = same ∙ is in
                  let more : 1 ≤ times p ps = subst (λ (k : ℕ). 1 ≤ times k ps) at in_it in absurd (omega arith)),
            )));
      }

-- h, or the last of the list before it
abbrev pub first_or : ℕ → ℕ → List ℕ → ℕ
first_or v h [] = v
first_or v h (p ∷ ps) = h

module _ (xs ys : List ℕ) (p u v : ℕ) (a : List ℕ) (next : number_at xs (p + 16) 4 ≡ v) (past : times u a ≡ 0) where
  pub unlinked : (w h : ℕ) (b : List ℕ) → Linked xs w h (b ++ p ∷ a) → last_of w b ≡ u → times v b ≡ 0 → ((q : ℕ) → times q (b ++ a) ≤ 1)
      → ((q : ℕ) → 1 ≤ times q (b ++ a) → (q ≡ u → ⊥) → number_at ys (q + 16) 4 ≡ number_at xs (q + 16) 4)
      → ((q : ℕ) → 1 ≤ times q (b ++ a) → (q ≡ v → ⊥) → number_at ys (q + 20) 4 ≡ number_at xs (q + 20) 4)
      → (1 ≤ times u b → number_at ys (u + 16) 4 ≡ v) → (1 ≤ times v a → number_at ys (v + 20) 4 ≡ u) → Linked ys w (first_or v h b) (b ++ a)
  unlinked w h [] l last before few N B N' B' =
      rw last
      (restart xs ys p u v a (rw next at l.rest) (few v) B' B
      (λ q h'. N q h' (λ is. let no : times q a ≡ 0 = ap (λ (k : ℕ). times k a) is ∙ past in absurd (omega arith))))
  unlinked w h (q ∷ []) l last before few N B N' B' =
      let one = same_one q in let here : 1 ≤ times q (q ∷ []) = omega arith in
      let rest = unlinked q (number_at xs (q + 16) 4) [] l.rest last refl (λ k. let f = few k in
      omega arith) (λ k h'. N k (omega arith)) (λ k h'. B k (omega arith)) (λ h'. absurd (let h'' : 1 ≤ 0 = h' in omega arith)) B' in
      let to : number_at ys (q + 16) 4 ≡ v = ap (λ (k : ℕ). number_at ys (k + 16) 4) last ∙ N' (subst (λ (k : ℕ). 1 ≤ times k (q ∷ [])) last here) in record {
        first = l.first;
        back = B q (omega arith) (λ is. let no : times q (q ∷ []) ≡ 0 = ap (λ (k : ℕ). times k (q ∷ [])) is ∙ before in absurd (omega arith))
            ∙ l.back;
        rest = rw to rest;
      }
  unlinked w h (q ∷ r ∷ b) l last before few N B N' B' =
      let one = same_one q in
      let rest = unlinked q (number_at xs (q + 16) 4) (r ∷ b) l.rest last (omega arith) (λ k. let f = few k in
      omega arith) (λ k h'. N k (omega arith)) (λ k h'. B k (omega arith)) (λ h'. N' (omega arith)) B' in
      let inner : 1 ≤ times u (r ∷ b) = subst (λ (k : ℕ). 1 ≤ times k (r ∷ b)) last (last_among q r b) in
      let differ : q ≡ u → ⊥ = (λ is. let f = few q in let more : 1 ≤ times q (r ∷ b) = subst (λ (k : ℕ). 1 ≤ times k (r ∷ b)) (sym is) inner in
      let s = times-append q (r ∷ b) a in absurd (omega arith)) in record {
        first = l.first;
        back = B q (omega arith) (λ is. let no : times q (q ∷ r ∷ b) ≡ 0 = ap (λ (k : ℕ). times k (q ∷ r ∷ b)) is ∙ before in absurd (omega arith))
            ∙ l.back;
        rest = rw (N q (omega arith) differ) rest;
      }
