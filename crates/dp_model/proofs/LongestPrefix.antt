-- The two definitions of the longest prefix agree: the search depth by depth from the deepest on, and the deepest that matches.
use Rattle.std.proofs.Common.{◌≡◌, ◌⊎◌, ℕ, zero, suc, ◌-◌, ◌/◌, ◌^◌, ◌≤◌, Bool, true, false, cond, ◌&&◌, ◌||◌, List, [], ◌∷◌, Option, Some, None, refl, sym}
use Rattle.std.proofs.Common.{◌∙◌, ap, subst, arith, inl, inr, ⊎_elim}
use Rattle.std.specs.Prelude.{find, slice_get, Contains, ◌==◌}
use Rattle.std.specs.List.{list_any, AllByRecursion}
use Rattle.std.proofs.lemmas.Bool.{and_parts, and_from, eqb-true, eq-eqb, cases_Bool, cases_lt, both_ways}
use Rattle.std.proofs.lemmas.Option.{same_Some}
use Rattle.dp_model.specs.Prefixes.{Route, is_match, hop_or, hop_within, hop_for, LooksUp, IsTable}

-- ---- elements of a list

contains_here : {X : Type 0} (x : X) (xs : List X) → Contains (x ∷ xs) x
contains_here x xs = (0, omega arith, refl)

contains_later : {X : Type 0} (y x : X) (xs : List X) → Contains xs x → Contains (y ∷ xs) x
contains_later y x xs (k, le, is) = (suc k, omega (arith, le), is)

contains_cases : {X : Type 0} (y x : X) (xs : List X) → Contains (y ∷ xs) x → (y ≡ x) ⊎ Contains xs x
contains_cases y x xs (zero, le, is) = inl is
contains_cases y x xs (suc k, le, is) = inr (k, omega (arith, le), is)

contained_at : {X : Type 0} (xs : List X) (x : X) → Contains xs x → (k : ℕ) × (slice_get xs k ≡ Some x)
contained_at [] x (k, le, is) = absurd (omega (arith, le))
contained_at (y ∷ xs) x (zero, le, is) = (zero, ap Some is)
contained_at (y ∷ xs) x (suc k, le, is) = let (i, e) = contained_at xs x (k, omega (arith, le), is) in (suc i, e)

all_contained : {X : Type 0} (P : X → Type 0) (xs : List X) (x : X) → AllByRecursion P xs → Contains xs x → P x
all_contained P [] x all (k, le, is) = absurd (omega (arith, le))
all_contained P (y ∷ xs) x all there = ⊎_elim (λ same. subst P same all.0) (λ later. all_contained P xs x all.1 later) (contains_cases y x xs there)

-- ---- what a search finds

found : (test : Route → Bool) (routes : List Route) (route : Route) → find test routes ≡ Some route → Contains routes route × (test route ≡ true)
found test [] route e = cc
found test (x ∷ routes) route e = go (test x) refl (found test routes route)
  where
    go : (b : Bool) → test x ≡ b → (find test routes ≡ Some route → Contains routes route × (test route ≡ true)) → Contains (x ∷ routes) route
        × (test route ≡ true)
    go true t later =
        let same : x ≡ route = same_Some x route (sym (ap (λ b. cond b (Some x) (find test routes)) t) ∙ e) in
        subst (λ r. Contains (x ∷ routes) r × (test r ≡ true)) same (contains_here x routes, t)
    go false t later =
        let (there, is) = later (sym (ap (λ b. cond b (Some x) (find test routes)) t) ∙ e) in
        (contains_later x route routes there, is)

not_found : (test : Route → Bool) (routes : List Route) (route : Route) → find test routes ≡ None → Contains routes route → test route ≡ false
not_found test [] route e (k, le, is) = absurd (omega (arith, le))
not_found test (x ∷ routes) route e there = go (test x) refl (not_found test routes route)
  where
    go : (b : Bool) → test x ≡ b → (find test routes ≡ None → Contains routes route → test route ≡ false) → test route ≡ false
    go true t later = let impossible : Some x ≡ None = sym (ap (λ b. cond b (Some x) (find test routes)) t) ∙ e in cc
    go false t later = ⊎_elim
        (λ same. subst (λ r. test r ≡ false) same t)
        (λ other. later (sym (ap (λ b. cond b (Some x) (find test routes)) t) ∙ e) other)
        (contains_cases x route routes there)

-- ---- depth by depth

-- what an answer says of the routes no deeper than that
abbrev Says : List Route → ℕ → ℕ → Option ℕ → Type 0
Says routes ip depth (Some hop) =
    (route : Route) × Contains routes route × (is_match ip route ≡ true) × (route.depth ≤ depth) × (route.hop ≡ hop)
    × ((other : Route) → Contains routes other → is_match ip other ≡ true → other.depth ≤ depth → other.depth ≤ route.depth)
Says routes ip depth None = (other : Route) → Contains routes other → 1 ≤ other.depth → other.depth ≤ depth → is_match ip other ≡ false

abbrev at_depth : ℕ → ℕ → Route → Bool
at_depth ip depth route = (route.depth == depth) && is_match ip route

-- a route no deeper than d has depth d or less
deeper : (routes : List Route) (ip depth : ℕ) (other : Route) → find (at_depth ip (suc depth)) routes ≡ None → Contains routes other →
    is_match ip other ≡ true → other.depth ≤ suc depth → other.depth ≤ depth
deeper routes ip depth other none there fits le = ⊎_elim
    (λ less. omega (arith, less))
    (λ more.
    let same : other.depth ≡ suc depth = omega (arith, more, le) in
    let hit : at_depth ip (suc depth) other ≡ true = and_from (other.depth == suc depth) (is_match ip other) (eq-eqb other.depth (suc depth) same) fits in
    absurd (both_ways (at_depth ip (suc depth) other) (not_found (at_depth ip (suc depth)) routes other none there) hit))
    (cases_lt other.depth (suc depth))

says_more : (routes : List Route) (ip depth : ℕ) (o : Option ℕ) → find (at_depth ip (suc depth)) routes ≡ None → Says routes ip depth o →
    Says routes ip (suc depth) o
says_more routes ip depth (Some hop) none (route, there, fits, le, is, best) =
    (route, there, fits, omega (arith, le), is, λ other here also below. best other here also (deeper routes ip depth other none here also below))
says_more routes ip depth None none never = λ other here one below. ⊎_elim
    (λ fits. never other here one (deeper routes ip depth other none here fits below))
    (λ misses. misses)
    (cases_Bool (is_match ip other))

says : (routes : List Route) (ip depth : ℕ) → Says routes ip depth (hop_within depth routes ip)
says routes ip zero = λ other here one below. absurd (omega (arith, one, below))
says routes ip (suc depth) = go (find (at_depth ip (suc depth)) routes) refl (says routes ip depth)
  where
    go : (o : Option Route) → find (at_depth ip (suc depth)) routes ≡ o → Says routes ip depth (hop_within depth routes ip) →
        Says routes ip (suc depth) (hop_or o (hop_within depth routes ip))
    go None e later = says_more routes ip depth (hop_within depth routes ip) e later
    go (Some route) e later =
        let (there, hit) = found (at_depth ip (suc depth)) routes route e in
        let (level, fits) = and_parts (route.depth == suc depth) (is_match ip route) hit in
        let same : route.depth ≡ suc depth = eqb-true route.depth (suc depth) level in
        (route, there, fits, omega (arith, same), refl, λ other here also below. omega (arith, below, same))

-- ---- the two definitions

none_matches : (routes : List Route) (ip : ℕ) → ((other : Route) → Contains routes other → is_match ip other ≡ false) → list_any (is_match ip) routes ≡ false
none_matches [] ip never = refl
none_matches (x ∷ routes) ip never =
    ap (λ b. b || list_any (is_match ip) routes) (never x (contains_here x routes))
    ∙ none_matches routes ip (λ other here. never other (contains_later x other routes here))

looked_up : (routes : List Route) (ip : ℕ) (o : Option ℕ) → IsTable routes → Says routes ip 32 o → LooksUp routes ip o
looked_up routes ip (Some hop) table (route, there, fits, le, is, best) = (
  route,
  record {
    there = there;
    fits = fits;
    deepest = λ other here also.
        best other here also (all_contained (λ r. (1 ≤ r.depth) × (r.depth ≤ 32)) routes other table.depths here).1;
  },
  is,
)
looked_up routes ip None table never =
    none_matches routes ip (λ other here. let (one, few) = all_contained (λ r. (1 ≤ r.depth) × (r.depth ≤ 32)) routes other table.depths here in
    never other here one few)

-- the search's answer is the deepest route's hop
pub hop_looks_up : (routes : List Route) (ip : ℕ) → IsTable routes → LooksUp routes ip (hop_for routes ip)
hop_looks_up routes ip table = looked_up routes ip (hop_for routes ip) table (says routes ip 32)

some_matches : (routes : List Route) (ip : ℕ) (route : Route) → Contains routes route → is_match ip route ≡ true → list_any (is_match ip) routes ≡ true
some_matches [] ip route (k, le, is) fits = absurd (omega (arith, le))
some_matches (x ∷ routes) ip route there fits = ⊎_elim
    (λ same. ap (λ b. b || list_any (is_match ip) routes) (subst (λ r. is_match ip r ≡ true) (sym same) fits))
    (λ later. or_later (is_match ip x) (some_matches routes ip route later fits))
    (contains_cases x route routes there)
  where
    or_later : (b : Bool) → list_any (is_match ip) routes ≡ true → (b || list_any (is_match ip) routes) ≡ true
    or_later true e = refl
    or_later false e = e

-- there is only one such answer
pub one_answer : (routes : List Route) (ip : ℕ) (o u : Option ℕ) → IsTable routes → LooksUp routes ip o → LooksUp routes ip u → o ≡ u
one_answer routes ip None None table a b = refl
one_answer routes ip None (Some hop) table a (route, best, _) = absurd
    (both_ways (list_any (is_match ip) routes) a (some_matches routes ip route best.there best.fits))
one_answer routes ip (Some hop) None table (route, best, _) b = absurd
    (both_ways (list_any (is_match ip) routes) b (some_matches routes ip route best.there best.fits))
one_answer routes ip (Some hop) (Some other) table (r, a, is) (s, b, also) =
    let depth : r.depth ≡ s.depth = omega (arith, b.deepest r a.there a.fits, a.deepest s b.there b.fits) in
    let mine : r.prefix ≡ ip / 2 ^ (32 - r.depth) = eqb-true r.prefix (ip / 2 ^ (32 - r.depth)) a.fits in
    let theirs : s.prefix ≡ ip / 2 ^ (32 - s.depth) = eqb-true s.prefix (ip / 2 ^ (32 - s.depth)) b.fits in
    let prefix : r.prefix ≡ s.prefix = mine ∙ (ap (λ d. ip / 2 ^ (32 - d)) depth ∙ sym theirs) in
    let (i, at_i) = contained_at routes r a.there in
    let (j, at_j) = contained_at routes s b.there in
    let same : r ≡ s = same_Some r s (sym at_i ∙ (ap (slice_get routes) (table.once i j r s at_i at_j prefix depth) ∙ at_j)) in
    ap Some (sym is ∙ (ap (λ (route : Route). route.hop) same ∙ also))

-- so a look-up returns what the function does, and nothing else
pub readings_agree : (routes : List Route) (ip : ℕ) (answer : Option ℕ) → IsTable routes → (LooksUp routes ip answer → answer ≡ hop_for routes ip)
    × (answer ≡ hop_for routes ip → LooksUp routes ip answer)
readings_agree routes ip answer table = (
  λ looks. one_answer routes ip answer (hop_for routes ip) table looks (hop_looks_up routes ip table),
  λ is. subst (LooksUp routes ip) (sym is) (hop_looks_up routes ip table),
)
