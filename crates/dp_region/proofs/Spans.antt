-- Adding and removing spans.
use Rattle.std.proofs.Common.{◌≡◌, ℕ, ◌+◌, ◌<◌, ◌≤◌, Bool, true, false, cond, ◌&&◌, ◌||◌, leb, ltb, eqb, List, [], ◌∷◌, refl, sym, ap, subst, ◌∙◌, arith}
use mathlib.Core.Logic.{⊎_elim}
use Rattle.std.proofs.lemmas.Bool.{ltb-true, ltb-false, leb-true, lt-ltb, le-leb, eq-eqb, cases_lt, and_parts, and_from, or_parts, or_from, or_left, or_right}
use Rattle.std.proofs.lemmas.Bool.{false_from_ne_true, both_ways, true≢false}
use Rattle.dp_region.specs.Spans.{Span, is_span, listed, covers, is_lent, IsUnlent, with_span, without_span, spaced, Spaced}
use Rattle.dp_region.specs.Laws.{is_span-true, covers-below, covers-above, by_test}

pub is_span-same : (r : Span) → is_span r r ≡ true
is_span-same r = and_from (eqb r.0 r.0) (eqb r.1 r.1) (eq-eqb r.0 r.0 refl) (eq-eqb r.1 r.1 refl)

or_swap : (x y z : Bool) → (x || (y || z)) ≡ (y || (x || z))
or_swap true true z = refl
or_swap true false z = refl
or_swap false true z = refl
or_swap false false z = refl

pub covers-in : (r : Span) (k : ℕ) → r.0 ≤ k → k < r.0 + r.1 → covers r k ≡ true
covers-in r k p q = and_from (leb r.0 k) (ltb k (r.0 + r.1)) (le-leb r.0 k p) (lt-ltb k (r.0 + r.1) q)

pub listed-with : (q r : Span) (ls : List Span) → listed q (with_span r ls) ≡ (is_span q r || listed q ls)
listed-with q r [] = refl
listed-with q r (s ∷ ss) = by_test (ltb r.0 s.0)
    (λ e. rw e)
    (λ e. rw (e, listed-with q r ss) (or_swap (is_span q s) (is_span q r) (listed q ss)))

pub is_lent-with : (r : Span) (ls : List Span) (k : ℕ) → is_lent (with_span r ls) k ≡ (covers r k || is_lent ls k)
is_lent-with r [] k = refl
is_lent-with r (s ∷ ss) k = by_test (ltb r.0 s.0)
    (λ e. rw e)
    (λ e. rw (e, is_lent-with r ss k) (or_swap (covers s k) (covers r k) (is_lent ss k)))

-- the first of spaced spans, and the others
pub record First (low high : ℕ) (r : Span) (rs : List Span) : Type 0 where
  pub above : low ≤ r.0
  pub some : 0 < r.1
  pub rest : Spaced (r.0 + r.1) high rs

pub spaced_out : (low high : ℕ) (r : Span) (rs : List Span) → Spaced low high (r ∷ rs) → First low high r rs
spaced_out low high r rs t =
    let first = and_parts (leb low r.0) (ltb 0 r.1 && spaced (r.0 + r.1) high rs) t in
    let rest = and_parts (ltb 0 r.1) (spaced (r.0 + r.1) high rs) first.1 in
    record { above = leb-true low r.0 first.0; some = ltb-true 0 r.1 rest.0; rest = rest.1 }

pub spaced_in : (low high : ℕ) (r : Span) (rs : List Span) → low ≤ r.0 → 0 < r.1 → Spaced (r.0 + r.1) high rs → Spaced low high (r ∷ rs)
spaced_in low high r rs above some rest =
    and_from (leb low r.0) (ltb 0 r.1 && spaced (r.0 + r.1) high rs) (le-leb low r.0 above)
    (and_from (ltb 0 r.1) (spaced (r.0 + r.1) high rs) (lt-ltb 0 r.1 some) rest)

pub spaced_lower : (ls : List Span) (low low' high : ℕ) → low' ≤ low → Spaced low high ls → Spaced low' high ls
spaced_lower [] low low' high below t = let l = leb-true low high t in le-leb low' high (omega arith)
spaced_lower (r ∷ rs) low low' high below t = let parts = spaced_out low high r rs t in
    let above = parts.above in spaced_in low' high r rs (omega arith) parts.some parts.rest

pub spaced_bound : (ls : List Span) (low high : ℕ) → Spaced low high ls → low ≤ high
spaced_bound [] low high t = leb-true low high t
spaced_bound (r ∷ rs) low high t = let parts = spaced_out low high r rs t in let above = parts.above in
    let rest = spaced_bound rs (r.0 + r.1) high parts.rest in omega arith

-- nothing below low is lent
pub unlent_below : (ls : List Span) (low high k : ℕ) → Spaced low high ls → k < low → is_lent ls k ≡ false
unlent_below [] low high k t h = refl
unlent_below (r ∷ rs) low high k t h =
    let parts = spaced_out low high r rs t in let above = parts.above in
    or_from (covers r k) (is_lent rs k) (covers-below r k (omega arith)) (unlent_below rs (r.0 + r.1) high k parts.rest (omega arith))

-- the bounds of a span of the list
pub record Bounds (from to : ℕ) (q : Span) : Type 0 where
  pub low : from ≤ q.0
  pub some : 0 < q.1
  pub high : q.0 + q.1 ≤ to

pub listed_bounds : (q : Span) (ls : List Span) (low high : ℕ) → Spaced low high ls → listed q ls ≡ true → Bounds low high q
listed_bounds q [] low high t e = absurd (true≢false (sym e))
listed_bounds q (r ∷ rs) low high t e =
    let parts = spaced_out low high r rs t in let above = parts.above in
    by_test (is_span q r)
    (λ same. let bound = spaced_bound rs (r.0 + r.1) high parts.rest in
    rw (is_span-true q r same) (record { low = above; some = parts.some; high = bound }))
    (λ other. let rest = listed_bounds q rs (r.0 + r.1) high parts.rest (rw other at e) in
    let first = rest.low in record { low = omega arith; some = rest.some; high = rest.high })

-- its bytes are lent
pub listed_lent : (q : Span) (ls : List Span) (k : ℕ) → listed q ls ≡ true → q.0 ≤ k → k < q.0 + q.1 → is_lent ls k ≡ true
listed_lent q [] k e l h = absurd (true≢false (sym e))
listed_lent q (r ∷ rs) k e l h = by_test (is_span q r)
    (λ same. or_left (covers r k) (is_lent rs k) (subst (λ (s : Span). covers s k ≡ true) (is_span-true q r same) (covers-in q k l h)))
    (λ other. or_right (covers r k) (is_lent rs k) (listed_lent q rs k (rw other at e) l h))

pub unlent_unlisted : (ls : List Span) (p n : ℕ) → 0 < n → IsUnlent ls p n → listed (p, n) ls ≡ false
unlent_unlisted ls p n some free = false_from_ne_true (listed (p, n) ls)
    (λ e. both_ways (is_lent ls p) (free p (omega arith) (omega arith)) (listed_lent (p, n) ls p e (omega arith) (omega arith)))

pub spaced_with : (ls : List Span) (low high p n : ℕ) → Spaced low high ls → low ≤ p → 0 < n → p + n ≤ high → IsUnlent ls p n →
    Spaced low high (with_span (p, n) ls)
spaced_with [] low high p n t above some fits free = spaced_in low high (p, n) [] above some (le-leb (p + n) high fits)
spaced_with (s ∷ ss) low high p n t above some fits free =
    let parts = spaced_out low high s ss t in let first = parts.above in let more = parts.some in
    let off = λ (k : ℕ) (a : p ≤ k) (b : k < p + n). or_parts (covers s k) (is_lent ss k) (free k a b) in
    by_test (ltb p s.0)
    (λ e. let before = ltb-true p s.0 e in
    let apart : p + n ≤ s.0 = ⊎_elim (λ (h : s.0 < p + n). absurd (both_ways (covers s s.0) (off s.0 (omega arith) h).0
    (covers-in s s.0 (omega arith) (omega arith)))) (λ h. h) (cases_lt s.0 (p + n)) in
    rw e
    (spaced_in low high (p, n) (s ∷ ss) above some (spaced_in (p + n) high s ss apart parts.some parts.rest)))
    (λ e. let after = ltb-false p s.0 e in
    let apart : s.0 + s.1 ≤ p = ⊎_elim (λ (h : p < s.0 + s.1). absurd (both_ways (covers s p) (off p (omega arith) (omega arith)).0 (covers-in s p after h)))
    (λ h. h) (cases_lt p (s.0 + s.1)) in
    rw e
    (spaced_in low high s (with_span (p, n) ss) parts.above parts.some
    (spaced_with ss (s.0 + s.1) high p n parts.rest apart some fits (λ k a b. (off k a b).1))))

module _ (r : Span) where
  pub spaced_without : (ls : List Span) (low high : ℕ) → Spaced low high ls → Spaced low high (without_span r ls)
  spaced_without [] low high t = t
  spaced_without (s ∷ ss) low high t =
      let parts = spaced_out low high s ss t in let above = parts.above in let some = parts.some in by_test (is_span r s)
      (λ e. rw e
      (spaced_lower ss (s.0 + s.1) low high (omega arith) parts.rest))
      (λ e. rw e
      (spaced_in low high s (without_span r ss) parts.above parts.some (spaced_without ss (s.0 + s.1) high parts.rest)))

  -- removing r changes nothing outside r
  pub lent_without : (ls : List Span) (k : ℕ) → covers r k ≡ false → is_lent (without_span r ls) k ≡ is_lent ls k
  lent_without [] k out = refl
  lent_without (s ∷ ss) k out = by_test (is_span r s)
      (λ e. ap (λ (t : Bool). is_lent (cond t ss (s ∷ without_span r ss)) k) e
      ∙ sym (ap (λ (t : Bool). t || is_lent ss k) (subst (λ (q : Span). covers q k ≡ false) (is_span-true r s e) out)))
      (λ e. ap (λ (t : Bool). is_lent (cond t ss (s ∷ without_span r ss)) k) e ∙ ap (λ (t : Bool). covers s k || t) (lent_without ss k out))

  -- after removing r nothing inside it is lent
  pub unlent_without : (ls : List Span) (low high : ℕ) → Spaced low high ls → listed r ls ≡ true → IsUnlent (without_span r ls) r.0 r.1
  unlent_without [] low high t e k a b = refl
  unlent_without (s ∷ ss) low high t e k a b =
      let parts = spaced_out low high s ss t in by_test (is_span r s)
      (λ same. ap (λ (t : Bool). is_lent (cond t ss (s ∷ without_span r ss)) k) same ∙
      unlent_below ss (s.0 + s.1) high k parts.rest (subst (λ (q : Span). k < q.0 + q.1) (is_span-true r s same) b))
      (λ other.
      let rest = rw other at e in
      let first = (listed_bounds r ss (s.0 + s.1) high parts.rest rest).low in
      ap (λ (t : Bool). is_lent (cond t ss (s ∷ without_span r ss)) k) other ∙
      or_from (covers s k) (is_lent (without_span r ss) k) (covers-above s k (omega arith)) (unlent_without ss (s.0 + s.1) high parts.rest rest k a b))

  pub unlisted_without : (ls : List Span) (low high : ℕ) → Spaced low high ls → listed r (without_span r ls) ≡ false
  unlisted_without [] low high t = refl
  unlisted_without (s ∷ ss) low high t =
      let parts = spaced_out low high s ss t in by_test (is_span r s)
      (λ same. let some : 0 < r.1 = subst (λ (q : Span). 0 < q.1) (sym (is_span-true r s same)) parts.some in
      ap (λ (t : Bool). listed r (cond t ss (s ∷ without_span r ss))) same ∙
      false_from_ne_true (listed r ss) (λ e. let above = (listed_bounds r ss (s.0 + s.1) high parts.rest e).low in
      let above' : r.0 + r.1 ≤ r.0 = subst (λ (q : Span). q.0 + q.1 ≤ r.0) (sym (is_span-true r s same)) above in absurd (omega arith)))
      (λ other. ap (λ (t : Bool). listed r (cond t ss (s ∷ without_span r ss))) other
      ∙ or_from (is_span r s) (listed r (without_span r ss)) other (unlisted_without ss (s.0 + s.1) high parts.rest))

  pub listed_without : (q : Span) (ls : List Span) → is_span q r ≡ false → listed q (without_span r ls) ≡ listed q ls
  listed_without q [] other = refl
  listed_without q (s ∷ ss) other = by_test (is_span r s)
      (λ e. ap (λ (t : Bool). listed q (cond t ss (s ∷ without_span r ss))) e
      ∙ sym (ap (λ (t : Bool). t || listed q ss) (subst (λ (z : Span). is_span q z ≡ false) (is_span-true r s e) other)))
      (λ e. ap (λ (t : Bool). listed q (cond t ss (s ∷ without_span r ss))) e ∙ ap (λ (t : Bool). is_span q s || t) (listed_without q ss other))
