-- Inserting, replacing or removing a rule changes the routes at one prefix and depth.
use Rattle.std.proofs.Common.{◌≡◌, ◌≢◌, ℕ, zero, suc, ◌<◌, false, ◌&&◌, List, [], ◌∷◌, ◌++◌, length, take, drop, Option, None, refl, sym}
use Rattle.std.proofs.Common.{arith}
use Rattle.std.specs.Prelude.{◌==◌, slice_set}
use Rattle.std.specs.List.{AllByRecursion}
use Rattle.std.specs.Option.{option_or}
use Rattle.std.proofs.lemmas.List.{take-append-drop, map-append, set_split}
use Rattle.std.proofs.lemmas.List.Folds.{find-append}
use Rattle.dp_lpm.specs.declared.rule.Rule.{Rule}
use Rattle.dp_lpm.specs.Routes.{route_at, ChangesAt}
use Rattle.dp_lpm.specs.Rules.{rank, rank_of, rule_at, routes_of, IsFound, IsMissing}

-- no rule of the list has the rank
abbrev pub Misses : ℕ → List Rule → Type 0
Misses key rules = AllByRecursion (λ r. rank_of r ≢ key) rules

-- the rules of the list have this prefix and depth
abbrev pub AreAt : ℕ → ℕ → List Rule → Type 0
AreAt prefix depth rules = AllByRecursion (λ r. (r.depth ≡ depth) × (r.prefix ≡ prefix)) rules

-- some rules of one prefix and depth in the list become others
pub record Splice (old new : List Rule) (prefix depth : ℕ) : Type 0 where
  pub first : List Rule
  pub last : List Rule
  pub out : List Rule
  pub into : List Rule
  pub old_is : old ≡ first ++ (out ++ last)
  pub new_is : new ≡ first ++ (into ++ last)
  pub first_misses : Misses (rank depth prefix) first
  pub last_misses : Misses (rank depth prefix) last
  pub out_there : AreAt prefix depth out
  pub into_there : AreAt prefix depth into

-- ---- what a search finds

pub misses_none : (rules : List Rule) (prefix depth : ℕ) → Misses (rank depth prefix) rules → route_at (routes_of rules) prefix depth ≡ None
misses_none [] prefix depth misses = refl
misses_none (r ∷ rules) prefix depth misses = grind (arith, misses_none rules prefix depth misses.1)

-- rules of one prefix and depth have no other
others_none : (rules : List Rule) (prefix depth p d : ℕ) → AreAt prefix depth rules → ((d == depth) && (p == prefix)) ≡ false → route_at (routes_of rules) p d
    ≡ None
others_none [] prefix depth p d there other = refl
others_none (r ∷ rules) prefix depth p d there other = grind (arith, others_none rules prefix depth p d there.1 other)

-- the route of three lists in a row
three : (first middle last : List Rule) (p d : ℕ) → route_at (routes_of (first ++ (middle ++ last))) p d
    ≡ option_or (route_at (routes_of first) p d) (option_or (route_at (routes_of middle) p d) (route_at (routes_of last) p d))
three first middle last p d = simp (map-append, find-append)

or_none : {X : Type 0} (o : Option X) → option_or o None ≡ o
or_none o = grind arith

-- where the lists before and after have no such rule, the one between has it
pub here_at : (first middle last : List Rule) (prefix depth : ℕ) → Misses (rank depth prefix) first → Misses (rank depth prefix) last →
    route_at (routes_of (first ++ (middle ++ last))) prefix depth ≡ route_at (routes_of middle) prefix depth
here_at first middle last prefix depth front beyond = simp (three, misses_none, or_none)

-- a splice changes the routes at its prefix and depth
pub splice_changes : (old new : List Rule) (prefix depth : ℕ) (s : Splice old new prefix depth) →
    ChangesAt (routes_of old) (routes_of new) prefix depth (route_at (routes_of s.into) prefix depth)
splice_changes old new prefix depth s = record {
  here = rw s.new_is (here_at s.first s.into s.last prefix depth s.first_misses s.last_misses);
  others = λ p d other. rw (s.new_is, s.old_is) (simp (
    three,
    others_none s.into prefix depth p d s.into_there other,
    others_none s.out prefix depth p d s.out_there other,
  ));
}

-- ---- the three splices

pub all_below : (rules : List Rule) (key : ℕ) → AllByRecursion (λ r. rank_of r < key) rules → Misses key rules
all_below [] key all = tt
all_below (r ∷ rules) key all = ((λ e. omega arith), all_below rules key all.1)

pub all_above : (rules : List Rule) (key : ℕ) → AllByRecursion (λ r. key < rank_of r) rules → Misses key rules
all_above [] key all = tt
all_above (r ∷ rules) key all = ((λ e. omega arith), all_above rules key all.1)

-- the list before an index, the rule there, and the list after
pub at_index : (rules : List Rule) (index : ℕ) → index < length rules → rules ≡ take index rules ++ (rule_at rules index ∷ drop (suc index) rules)
at_index [] index there = absurd (omega arith)
at_index (r ∷ rules) zero there = refl
at_index (r ∷ rules) (suc index) there = rw (← at_index rules index (omega arith))

abbrev pub put_splice : (rules : List Rule) (index : ℕ) (r : Rule) → IsMissing rules r.depth r.prefix index →
    Splice rules (take index rules ++ r ∷ drop index rules) r.prefix r.depth
put_splice rules index r missing = record {
  first = take index rules;
  last = drop index rules;
  out = [];
  into = r ∷ [];
  old_is = sym (take-append-drop index rules);
  new_is = refl;
  first_misses = all_below (take index rules) (rank r.depth r.prefix) missing.parts.lower;
  last_misses = all_above (drop index rules) (rank r.depth r.prefix) missing.parts.upper;
  out_there = tt;
  into_there = ((refl, refl), tt);
}

-- the rule that is found is replaced by the given one, or removed
abbrev pub found_splice : (rules into : List Rule) (index prefix depth : ℕ) → IsFound rules depth prefix index → AreAt prefix depth into →
    Splice rules (take index rules ++ (into ++ drop (suc index) rules)) prefix depth
found_splice rules into index prefix depth found there = record {
  first = take index rules;
  last = drop (suc index) rules;
  out = rule_at rules index ∷ [];
  into = into;
  old_is = at_index rules index found.there;
  new_is = refl;
  first_misses = all_below (take index rules) (rank depth prefix) found.parts.lower;
  last_misses = all_above (drop (suc index) rules) (rank depth prefix) found.parts.upper;
  out_there = ((found.depth_is, found.prefix_is), tt);
  into_there = there;
}

abbrev pub replace_splice : (rules : List Rule) (index : ℕ) (r : Rule) → IsFound rules r.depth r.prefix index →
    Splice rules (slice_set rules index r) r.prefix r.depth
replace_splice rules index r found =
    rw (set_split rules index r found.there) (found_splice rules (r ∷ []) index r.prefix r.depth found ((refl, refl), tt))

abbrev pub remove_splice : (rules : List Rule) (index prefix depth : ℕ) → IsFound rules depth prefix index →
    Splice rules (take index rules ++ drop (suc index) rules) prefix depth
remove_splice rules index prefix depth found = found_splice rules [] index prefix depth found tt
