-- The elements of an array, and the keys of a table.
use Rattle.std.proofs.Common.{◌≡◌, ◌∙◌, ℕ, Bool, true, ◌||◌, List, [], ◌∷◌, Bor, map, string_bytes, refl, sym, ap}
use Rattle.std.proofs.lemmas.List.Folds.{list_all-map}
use Rattle.std.specs.List.{list_all, list_any}
use Rattle.std.specs.Map.{keys_of}
use Rattle.std.specs.Str.{bytes_eq}
use Rattle.toml.proofs.Views.{Entry}
use Rattle.toml.specs.Data.{Data}
use Rattle.toml.specs.View.{view, items_of, members_view}
use Rattle.toml.specs.declared.value.Value.{Value}
use Rattle.dp_load.specs.Keys.{array_elements, elements_of, is_array, is_array_of, is_among, has_only}

pub array_elements_items : (ds : List Data) → array_elements (items_of ds) ≡ ds
array_elements_items [] = refl
array_elements_items (d ∷ ds) = ap (λ (rest : List Data). d ∷ rest) (array_elements_items ds)

pub all_elements : (kind : Data → Bool) (d : Data) (vs : List Value) (b : Bool) → is_array d ≡ true → map view vs ≡ elements_of d →
    b ≡ list_all (λ v. kind (view v)) vs → b ≡ is_array_of kind d
all_elements kind d vs b array same e = e ∙ sym (list_all-map kind view vs) ∙ rw (same, array) refl

any_text : (key : List ℕ) (keys : List (Bor (List ℕ))) → list_any (λ known. bytes_eq known.now key) keys ≡ is_among (map (λ known. known.now) keys) key
any_text key [] = refl
any_text key (k ∷ keys) = ap (λ (b : Bool). bytes_eq k.now key || b) (any_text key keys)

pub all_keys : (keys : List (Bor (List ℕ))) (es : List Entry) → list_all (λ key. list_any (λ known. bytes_eq known.now (string_bytes key)) keys) (keys_of es)
    ≡ has_only (map (λ known. known.now) keys) (members_view es)
all_keys keys [] = refl
all_keys keys (e ∷ es) = rw (any_text (string_bytes e.0) keys, all_keys keys es) refl
