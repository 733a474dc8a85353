-- What the elements lend before and after one of them gets a block or loses it.
use Rattle.std.proofs.Common.{◌≡◌, ℕ, ◌+◌, ◌-◌, ◌<◌, ◌≤◌, Bool, true, false, List, [], ◌∷◌, ◌++◌, refl, sym, ap, arith, inr}
use Rattle.std.proofs.lemmas.Bool.{lt-ltb, le-ltb, true≢false}
use Rattle.dp_region.specs.Spans.{Span, IsUnlent, is_span, listed, with_span, without_span}
use Rattle.dp_region.specs.Laws.{is_span-true, by_test}
use Rattle.dp_heap.specs.declared.elements.Element.{Element}
use Rattle.dp_heap.specs.declared.elements.State.{State}
use Rattle.dp_heap.specs.declared.elements.State.TheVariants.{Free}
use Rattle.dp_heap.specs.Elements.{is_free, end_of, data_of, freed}
use Rattle.dp_heap.specs.Edits.{marked}
use Rattle.dp_heap.specs.Laid.{Laid, LendsOne, Lends}
use Rattle.dp_heap.proofs.Laid.{first_offset, laid_bound, laid_split, one_unlent, lent_above, free_lends}

-- what is lent does not depend on where e is
one_map : (t : Bool) (x : Element) (P Q : List Span → Type 0) (ls : List Span) → ((zs : List Span) → P zs → Q zs) → LendsOne t x P ls → LendsOne t x Q ls
one_map true x P Q ls f o = f ls o
one_map false x P Q [] f o = o
one_map false x P Q (l ∷ ls) f o = record { start = o.start; end = o.end; some = o.some; others = f ls o.others }

pub lends_swap : (before : List Element) (e : Element) (after ys : List Element) (ls : List Span) → ((zs : List Span) → Lends (e ∷ after) zs → Lends ys zs) →
    Lends (before ++ e ∷ after) ls → Lends (before ++ ys) ls
lends_swap [] e after ys ls f o = f ls o
lends_swap (x ∷ before) e after ys ls f o = one_map (is_free x) x (Lends (before ++ e ∷ after)) (Lends (before ++ ys)) ls
    (λ zs r. lends_swap before e after ys zs f r) o

pub free_is : (e : Element) → e.state ≡ Free → is_free e ≡ true
free_is e h = ap (λ (s : State). is_free (record e { state = s })) h

-- no byte of a free element is lent
pub free_unlent : (xs : List ℕ) (before : List Element) (e : Element) (after : List Element) (low high : ℕ) (ls : List Span) →
    Laid xs low high (before ++ e ∷ after) → Lends (before ++ e ∷ after) ls → is_free e ≡ true → IsUnlent ls e.offset e.size
free_unlent xs [] e after low high ls l o free k a b = lent_above xs after (end_of e) high ls k l.rest (free_lends (is_free e) e (Lends after) ls free o) b
free_unlent xs (x ∷ before) e after low high ls l o free k a b =
    let s = laid_split xs before (e ∷ after) (end_of x) high l.rest in
    let at = first_offset xs e s.middle s.above.read in let bound = laid_bound xs before (end_of x) s.middle s.below in
    one_unlent (is_free x) x (Lends (before ++ e ∷ after)) ls k o (inr (omega arith))
    (λ ss r. free_unlent xs before e after (end_of x) high ss l.rest r free k a b)

-- the lent spans lie from low on
first_lent : (xs : List ℕ) (es : List Element) (low high : ℕ) (l : Span) (ls : List Span) → Laid xs low high es → Lends es (l ∷ ls) → low ≤ l.0
first_lent xs [] low high l ls laid o = absurd o
first_lent xs (e ∷ es) low high l ls laid o = by_state (is_free e) o (first_lent xs es (end_of e) high l ls laid.rest)
  where
    by_state : (t : Bool) → LendsOne t e (Lends es) (l ∷ ls) → (Lends es (l ∷ ls) → end_of e ≤ l.0) → low ≤ l.0
    by_state true o' rest = let p = first_offset xs e low laid.read in let far = rest o' in omega arith
    by_state false o' rest = let p = first_offset xs e low laid.read in let at = o'.start in omega arith

before_all : (xs : List ℕ) (es : List Element) (low high : ℕ) (s : Span) (ls : List Span) → Laid xs low high es → Lends es ls → s.0 < low →
    with_span s ls ≡ s ∷ ls
before_all xs es low high s [] laid o h = refl
before_all xs es low high s (l ∷ ls) laid o h =
    let far = first_lent xs es low high l ls laid o in
    rw (lt-ltb s.0 l.0 (omega arith))

-- e lends the span at d in addition
pub lends_more : (xs : List ℕ) (before : List Element) (e : Element) (after : List Element) (low high d n : ℕ) (ls : List Span) →
    Laid xs low high (before ++ e ∷ after) → Lends (before ++ e ∷ after) ls
    → is_free e ≡ true → e.offset + 64 ≤ d → 0 < n → d + n ≤ end_of e → Lends (before ++ marked e d ∷ after) (with_span (d, n) ls)
lends_more xs [] e after low high d n ls laid o free lo some hi =
    let rest = free_lends (is_free e) e (Lends after) ls free o in
    let starts : d ≡ e.offset + (d - 64 - e.offset) + 64 = omega arith in
    rw (before_all xs after (end_of e) high (d, n) ls laid.rest rest (omega arith))
    (record { start = starts; end = hi; some = some; others = rest })
lends_more xs (x ∷ before) e after low high d n ls laid o free lo some hi =
    by_state (is_free x) ls o (λ zs r. lends_more xs before e after (end_of x) high d n zs laid.rest r free lo some hi)
  where
    past : end_of x ≤ e.offset
    past =
        let s = laid_split xs before (e ∷ after) (end_of x) high laid.rest in
        let at = first_offset xs e s.middle s.above.read in let bound = laid_bound xs before (end_of x) s.middle s.below in omega arith

    by_state : (t : Bool) (zs : List Span) → LendsOne t x (Lends (before ++ e ∷ after)) zs
        → ((ws : List Span) → Lends (before ++ e ∷ after) ws → Lends (before ++ marked e d ∷ after) (with_span (d, n) ws))
        → LendsOne t x (Lends (before ++ marked e d ∷ after)) (with_span (d, n) zs)
    by_state true zs o' rest = rest zs o'
    by_state false [] o' rest = absurd o'
    by_state false (l ∷ zs) o' rest =
        let p = past in let end = o'.end in
        rw (le-ltb d l.0 (omega arith))
        (record { start = o'.start; end = o'.end; some = o'.some; others = rest zs o'.others })

-- the spans in the list lie from low on
lent_from : (xs : List ℕ) (es : List Element) (low high : ℕ) (q : Span) (ls : List Span) → Laid xs low high es → Lends es ls → listed q ls ≡ true → low ≤ q.0
lent_from xs [] low high q [] laid o is = absurd (true≢false (sym is))
lent_from xs [] low high q (l ∷ ls) laid o is = absurd o
lent_from xs (e ∷ es) low high q ls laid o is = by_state (is_free e) ls o is (λ zs r i. lent_from xs es (end_of e) high q zs laid.rest r i)
  where
    by_state : (t : Bool) (zs : List Span) → LendsOne t e (Lends es) zs → listed q zs ≡ true →
        ((ws : List Span) → Lends es ws → listed q ws ≡ true → end_of e ≤ q.0) → low ≤ q.0
    by_state true zs o' is' more = let p = first_offset xs e low laid.read in let far = more zs o' is' in omega arith
    by_state false [] o' is' more = absurd o'
    by_state false (l ∷ zs) o' is' more = let p = first_offset xs e low laid.read in by_test (is_span q l)
        (λ same. let at : q.0 ≡ l.0 = ap (λ (s : Span). s.0) (is_span-true q l same) in let starts = o'.start in omega arith)
        (λ other. let far = more zs o'.others (rw other at is') in omega arith)

-- e no longer lends its span
pub lends_less : (xs : List ℕ) (before : List Element) (e : Element) (after : List Element) (low high : ℕ) (q : Span) (ls : List Span) →
    Laid xs low high (before ++ e ∷ after) → Lends (before ++ e ∷ after) ls
    → is_free e ≡ false → data_of e ≡ q.0 → listed q ls ≡ true → (q.0 + q.1 ≤ end_of e) × Lends (before ++ freed e ∷ after) (without_span q ls)
lends_less xs [] e after low high q ls laid o busy at is = here' (is_free e) ls busy o is
  where
    here' : (t : Bool) (zs : List Span) → t ≡ false → LendsOne t e (Lends after) zs → listed q zs ≡ true →
        (q.0 + q.1 ≤ end_of e) × Lends (freed e ∷ after) (without_span q zs)
    here' true zs b o' is' = absurd (true≢false b)
    here' false [] b o' is' = absurd o'
    here' false (l ∷ zs) b o' is' = by_test (is_span q l)
        (λ same. (
          rw (is_span-true q l same) o'.end,
          rw same o'.others,
        ))
        (λ other. let far = lent_from xs after (end_of e) high q zs laid.rest o'.others (rw other at is') in
        let starts = o'.start in let ends = o'.end in let some = o'.some in absurd (omega arith))
lends_less xs (x ∷ before) e after low high q ls laid o busy at is =
    there (is_free x) ls o is (λ zs r i. lends_less xs before e after (end_of x) high q zs laid.rest r busy at i)
  where
    past : end_of x ≤ e.offset
    past =
        let s = laid_split xs before (e ∷ after) (end_of x) high laid.rest in
        let p = first_offset xs e s.middle s.above.read in let bound = laid_bound xs before (end_of x) s.middle s.below in omega arith

    there : (t : Bool) (zs : List Span) → LendsOne t x (Lends (before ++ e ∷ after)) zs → listed q zs ≡ true
        → ((ws : List Span) → Lends (before ++ e ∷ after) ws → listed q ws ≡ true →
        (q.0 + q.1 ≤ end_of e) × Lends (before ++ freed e ∷ after) (without_span q ws))
        → (q.0 + q.1 ≤ end_of e) × LendsOne t x (Lends (before ++ freed e ∷ after)) (without_span q zs)
    there true zs o' is' more = more zs o' is'
    there false [] o' is' more = absurd o'
    there false (l ∷ zs) o' is' more = by_test (is_span q l)
        (λ same. let eq : q.0 ≡ l.0 = ap (λ (s : Span). s.0) (is_span-true q l same) in let p = past in let starts = o'.start in let ends = o'.end in
        let some = o'.some in absurd (omega arith))
        (λ other. let r = more zs o'.others (rw other at is') in (
          r.0,
          rw other (record { start = o'.start; end = o'.end; some = o'.some; others = r.1 }),
        ))
