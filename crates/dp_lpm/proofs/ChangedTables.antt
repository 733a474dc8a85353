-- One of several tables changes.
use Rattle.std.proofs.Common.{◌≡◌, ℕ, zero, suc, ◌<◌, List, [], ◌∷◌, length, map, Some, refl, sym, ◌∙◌, ap, subst, arith}
use Rattle.std.specs.Prelude.{Result, Ok, Err, OnOk, IfErr, slice_get, slice_set, slice_index_or}
use Rattle.std.specs.List.{AllByRecursion, refill}
use Rattle.std.proofs.lemmas.Option.{get_or_from_slice_get}
use Rattle.std.proofs.lemmas.List.{map-set, length-map}
use Rattle.dp_model.specs.Laws.Lists.{get_within, map_get, set_itself}
use Rattle.dp_lpm.specs.declared.error.LpmError.{LpmError}
use Rattle.dp_lpm.specs.declared.ruled_table.RuledTable.{RuledTable}
use Rattle.dp_lpm.specs.Routes.{RouteTable, HasSmallHops}
use Rattle.dp_lpm.specs.Kept.{IsKept, shown}
use Rattle.dp_lpm.specs.Changes.{HasTable, ChangesTable}
use Rattle.dp_lpm.proofs.Looking.{small_hops}

-- what is as long as what it is filled up from stays
refill_all : {X : Type 0} (xs ws : List X) → length ws ≡ length xs → refill (length xs) xs ws ≡ ws
refill_all [] [] e = refl
refill_all [] (w ∷ ws) e = absurd (omega (arith, e))
refill_all (x ∷ xs) [] e = absurd (omega (arith, e))
refill_all (x ∷ xs) (w ∷ ws) e = ap (λ l. w ∷ l) (refill_all xs ws (omega (arith, e)))

long_set : {X : Type 0} (xs : List X) (k : ℕ) (x : X) → length (slice_set xs k x) ≡ length xs
long_set [] k x = refl
long_set (y ∷ xs) zero x = refl
long_set (y ∷ xs) (suc k) x = ap suc (long_set xs k x)

all_set : {X : Type 0} (P : X → Type 0) (xs : List X) (k : ℕ) (x : X) → P x → AllByRecursion P xs → AllByRecursion P (slice_set xs k x)
all_set P [] k x here all = tt
all_set P (y ∷ xs) zero x here all = (here, all.1)
all_set P (y ∷ xs) (suc k) x here all = (all.0, all_set P xs k x here all.1)

on_ok_map : {A E P Q : Type 0} (r : Result A E) → (P → Q) → OnOk r P → OnOk r Q
on_ok_map (Ok x) f h = f h
on_ok_map (Err e) f h = tt

if_err_map : {A E : Type 0} {P Q : E → Type 0} (r : Result A E) → ((e : E) → P e → Q e) → IfErr r P → IfErr r Q
if_err_map (Ok x) f h = tt
if_err_map (Err e) f h = f e h

-- where one of these is written back
module _ (items read : List RuledTable) (tables : List RouteTable) (k at : ℕ) (other new : RuledTable) (view : map shown items ≡ tables)
    (read_is : read ≡ items) (at_is : at ≡ k) (inside : k < length tables) where
  -- what was read
  abbrev old : RuledTable
  old = slice_index_or read at other

  abbrev written : List RouteTable
  written = map shown (refill (length items) items (slice_set read at new))

  less : k < length items
  less = let long = ap length view in omega (arith, inside, long, length-map items shown)

  there : slice_get items k ≡ Some old
  there =
      let (x, is) = get_within items k less in
      let same : slice_index_or items k other ≡ x = get_or_from_slice_get items k x other is in
      let here : old ≡ slice_index_or items k other = ap (λ l. slice_index_or l at other) read_is ∙ ap (λ n. slice_index_or items n other) at_is in
      is ∙ ap Some (sym same ∙ sym here)

  shown_there : slice_get tables k ≡ Some (shown old)
  shown_there = subst (λ ts. slice_get ts k ≡ Some (shown old)) view (map_get shown items k old there)

  filled : refill (length items) items (slice_set read at new) ≡ slice_set items k new
  filled =
      let set : slice_set read at new ≡ slice_set items k new = ap (λ l. slice_set l at new) read_is ∙ ap (λ n. slice_set items n new) at_is in
      ap (refill (length items) items) set ∙ refill_all items (slice_set items k new) (long_set items k new)

  written_is : written ≡ slice_set tables k (shown new)
  written_is = ap (map shown) filled ∙ (map-set shown items k new ∙ ap (λ l. slice_set l k (shown new)) view)

  changed : {A : Type 0} (result : Result A LpmError) (P : RouteTable → RouteTable → Type 0) → OnOk result (P (shown old) (shown new))
      → OnOk result (ChangesTable k tables written P)
  changed result P = on_ok_map result
      (λ changes. record { was = shown old; there = shown_there; now = shown new; changes = changes; new_is = written_is })

  refused : {A : Type 0} (result : Result A LpmError) (P : RouteTable → LpmError → Type 0)
      → IfErr result (λ e. P (shown old) e × (new ≡ old)) → IfErr result (λ e. HasTable k tables (λ t. P t e) × (written ≡ tables))
  refused result P = if_err_map result (λ e (is, same). (
    record { table = shown old; there = shown_there; is = is },
    written_is ∙ (ap (λ (t : RuledTable). slice_set tables k (shown t)) same ∙ set_itself tables k (shown old) shown_there),
  ))

  low : AllByRecursion IsKept items → IsKept new → AllByRecursion HasSmallHops written
  low all kept = subst (λ l. AllByRecursion HasSmallHops (map shown l)) (sym filled) (small_hops (slice_set items k new) (all_set IsKept items k new kept all))

  -- what a call of the table, of which this is known, does to the tables
  pub called : {A : Type 0} (result : Result A LpmError) (P : RouteTable → RouteTable → Type 0) (Q : RouteTable → LpmError → Type 0)
      → OnOk result (P (shown old) (shown new)) → IfErr result (λ e. Q (shown old) e × (new ≡ old)) → AllByRecursion IsKept items → IsKept new → record {
        ok : OnOk result (ChangesTable k tables written P);
        err : IfErr result (λ e. HasTable k tables (λ t. Q t e) × (written ≡ tables));
        hops : AllByRecursion HasSmallHops written;
        many : length written ≡ length tables;
      }
  called result P Q ok err all kept = record {
    ok = changed result P ok;
    err = refused result Q err;
    hops = low all kept;
    many = ap length written_is ∙ long_set tables k (shown new);
  }
