-- Looking up and inserting labels by their bytes.
use Rattle.std.proofs.Common.{Ordering, ◌≡◌, ℕ, cond, List, [], ◌∷◌, Some, refl, sym, ap, ◌∙◌, Bor}
use Rattle.std.specs.Ordering.{nat_cmp, is_eq, eq_by_cmp}
use Rattle.std.specs.Cmp.{eq_by_cmp_equiv}
use Rattle.std.specs.Cmp.Lexicographic.{slice_cmp, nat_list_cmp_total}
use Rattle.std.specs.BTreeMap as tree
use Rattle.std.specs.BTreeMap.{BTreeMap}
use Rattle.std.specs.FinMap as map
use Rattle.std.specs.Map.{lookup}
use Rattle.std.specs.Str.{bytes_eq}
use Rattle.std.proofs.lemmas.Map.Text.{btree_map_updates_str, is_eq-slice_cmp}
use Rattle.dp_lang.specs.LabelMaps.{by_bytes}

abbrev pub Labels : Type 0
Labels = map.FinMap (slice_cmp nat_cmp) ℕ

abbrev pub cmp : List ℕ → List ℕ → Ordering
cmp = slice_cmp nat_cmp

-- what a look-up by bytes finds
pub find-by_bytes : (q : List ℕ) (es : List (Bor (List ℕ) × ℕ)) → map.find cmp q (by_bytes es) ≡ lookup (λ k. is_eq (cmp q k.now)) es
find-by_bytes q [] = refl
find-by_bytes q (e ∷ es) = ap (cond (is_eq (cmp q e.0.now)) (Some e.1)) (find-by_bytes q es)

pub get-by_bytes : (q : List ℕ) (es : List (Bor (List ℕ) × ℕ)) → map.get (map.from_entries {R = cmp} (by_bytes es)) q ≡ lookup (λ k. is_eq (cmp q k.now)) es
get-by_bytes q es = map.get-from_entries nat_list_cmp_total (by_bytes es) q ∙ find-by_bytes q es

same-bytes : (name q : List ℕ) → bytes_eq name q ≡ eq_by_cmp cmp q name
same-bytes name q = sym (is_eq-slice_cmp name q) ∙ (eq_by_cmp_equiv nat_list_cmp_total).symm name q

-- a map after an insertion
pub insert-by_bytes : (m n : BTreeMap (Bor (List ℕ)) ℕ) (name : List ℕ) (number : ℕ)
    → tree.UpdatesBy (λ x y. cmp x.now y.now) (λ k. cmp name k.now) m n (Some number)
    → map.from_entries {R = cmp} (by_bytes n.entries) ≡ map.insert (map.from_entries (by_bytes m.entries)) name number
insert-by_bytes m n name number up =
    map.same_map nat_list_cmp_total (map.slice_cmp-IsAntisymmetric map.nat_cmp-IsAntisymmetric) _ _ (λ q.
    get-by_bytes q n.entries ∙ btree_map_updates_str name m n (Some number) up q
    ∙ ap (λ b. cond b (Some number) (lookup (λ k. is_eq (cmp q k.now)) m.entries)) (same-bytes name q)
    ∙ ap (cond (eq_by_cmp cmp q name) (Some number)) (sym (get-by_bytes q m.entries))
    ∙ sym (map.get-insert nat_list_cmp_total _ name number q))
