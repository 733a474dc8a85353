-- The bytes of a row read as that row.
use Rattle.std.proofs.Common.{◌≡◌, ℕ, zero, suc, ◌*◌, ◌^◌, ◌<◌, Bool, true, false, cond, eqb, List, [], ◌∷◌, ◌++◌, length, drop, refl, ap, ◌∙◌, append_assoc}
use Rattle.std.proofs.Common.{arith}
use Rattle.std.specs.List.{flat_map, AllByRecursion}
use Rattle.std.specs.Int.{w64, to_be_bytes, bytes_high_first, byte_at}
use Rattle.std.proofs.lemmas.List.{append-nil, take_at, drop_at, length-append}
use Rattle.std.proofs.lemmas.Nat.{from_be_bytes-to_be_bytes_2, from_be_bytes-to_be_bytes_8}
use Rattle.hex.specs.Hex.{IsBytes}
use Rattle.dp_model.specs.declared.row.Fact.{Fact}
use Rattle.dp_model.specs.declared.row.Fact.TheVariants.{Empty, Held}
use Rattle.dp_model.specs.declared.row.Row.{Row}
use Rattle.dp_cert.specs.Spelling.{fact_bytes, row_bytes, FactInRange, IsRow}
use Rattle.dp_cert.specs.declared.cert.Version.{Version}
use Rattle.dp_cert.specs.Reading.{fact_in, bound_in, parts_in, facts_in, bounds_in, row_in}

-- ---- bytes

abbrev pub Low : List ℕ → Type 0
Low bytes = AllByRecursion (λ b. b < 256) bytes

pub Low-append : (xs ys : List ℕ) → Low xs → Low ys → Low (xs ++ ys)
Low-append [] ys h k = k
Low-append (x ∷ xs) ys h k = (h.0, Low-append xs ys h.1 k)

pub byte_low : (k n : ℕ) → byte_at k n < 256
byte_low zero n = omega arith
byte_low (suc k) n = omega arith

pub Low-be : (k n : ℕ) → Low (bytes_high_first k n)
Low-be zero n = tt
Low-be (suc k) n = (byte_low k n, Low-be k n)

pub Low-flat : {A : Type 0} (P : A → Type 0) (f : A → List ℕ) (xs : List A) → ((x : A) → P x → Low (f x)) → AllByRecursion P xs → Low (flat_map f xs)
Low-flat P f [] each h = tt
Low-flat P f (x ∷ xs) each h = Low-append (f x) (flat_map f xs) (each x h.0) (Low-flat P f xs each h.1)

pub IsBytes-from : (bytes : List ℕ) → Low bytes → IsBytes bytes
IsBytes-from [] h i = omega arith
IsBytes-from (b ∷ bytes) h zero = h.0
IsBytes-from (b ∷ bytes) h (suc i) = IsBytes-from bytes h.1 i

-- ---- facts and bounds

pub length-fact : (f : Fact) → length (fact_bytes f) ≡ 11
length-fact Empty = refl
length-fact (Held share head tail first last segs) = refl

pub Low-fact : (f : Fact) → FactInRange f → Low (fact_bytes f)
Low-fact Empty h = (
  omega arith,
  (
    omega arith,
    (
      omega arith,
      (
        omega arith,
        (omega arith, (omega arith, (omega arith, (omega arith, (omega arith, (omega arith, (omega arith, tt))))))),
      ),
    ),
  ),
)
Low-fact (Held share head tail first last segs) h = (
  omega arith,
  (
    omega arith,
    (omega arith, (omega arith, (omega arith, (omega arith, (omega arith, (omega arith, (omega arith, (omega arith, (omega arith, tt))))))))),
  ),
)

pub fact_again : (f : Fact) → FactInRange f → fact_in (fact_bytes f) ≡ f
unfolding fact_in
fact_again Empty h = refl
fact_again (Held share head tail first last segs) (_, head_fits, tail_fits, first_fits, last_fits, _) =
    let back = from_be_bytes-to_be_bytes_2 in
    rw (back head head_fits, back tail tail_fits, back first first_fits, back last last_fits) refl

pub bound_again : (n : ℕ) → n < 2 ^ 64 → bound_in (to_be_bytes w64 n) ≡ n
unfolding bound_in
bound_again n h = from_be_bytes-to_be_bytes_8 n h

pub parts_again : {A : Type 0} (P : A → Type 0) (part : List ℕ → A) (f : A → List ℕ) (width : ℕ) → ((x : A) → length (f x) ≡ width) →
    ((x : A) → P x → part (f x) ≡ x)
    → (xs : List A) (rest : List ℕ) → AllByRecursion P xs → parts_in part width (length xs) (flat_map f xs ++ rest) ≡ xs
unfolding parts_in
parts_again P part f width len again [] rest h = refl
parts_again P part f width len again (x ∷ xs) rest h =
    let e : (f x ++ flat_map f xs) ++ rest ≡ f x ++ (flat_map f xs ++ rest) = append_assoc (f x) (flat_map f xs) rest in
    rw (
      e,
      take_at (f x) (flat_map f xs ++ rest) width (len x),
      drop_at (f x) (flat_map f xs ++ rest) width (len x),
      again x h.0,
      parts_again P part f width len again xs rest h.1,
    ) refl

pub length-flat : {A : Type 0} (f : A → List ℕ) (width : ℕ) → ((x : A) → length (f x) ≡ width) → (xs : List A) → length (flat_map f xs) ≡ width * length xs
length-flat f width len [] = omega arith
length-flat f width len (x ∷ xs) = omega (arith, length-append (f x) (flat_map f xs), len x, length-flat f width len xs)

-- ---- rows

pub flag : (b : Bool) → eqb (cond b 1 0) 1 ≡ b
flag true = refl
flag false = refl

pub length-row : {version : Version} (row : Row) → IsRow version row → length (row_bytes row) ≡ 153
length-row row fits =
    let a = length-flat fact_bytes 11 length-fact row.facts in
    let b = length-flat (to_be_bytes w64) 8 (λ n. refl) row.bounds in
    omega (arith, a, b, fits.eight_facts, fits.eight_bounds, length-append (flat_map fact_bytes row.facts) (flat_map (to_be_bytes w64) row.bounds))

pub low_flag : (b : Bool) → cond b 1 0 < 256
low_flag true = omega arith
low_flag false = omega arith

pub Low-row : {version : Version} (row : Row) → IsRow version row → Low (row_bytes row)
Low-row row fits = (
  low_flag row.live,
  Low-append (flat_map fact_bytes row.facts) (flat_map (to_be_bytes w64) row.bounds)
      (Low-flat FactInRange fact_bytes row.facts Low-fact fits.facts) (Low-flat (λ n. n < 2 ^ 64) (to_be_bytes w64) row.bounds (λ n h. Low-be 8 n) fits.bounds),
)

pub row_again : {version : Version} (row : Row) → IsRow version row → row_in (row_bytes row) ≡ row
unfolding row_in facts_in bounds_in
row_again row fits =
    let a = flat_map fact_bytes row.facts in
    let b = flat_map (to_be_bytes w64) row.bounds in
    let made : Bool → List Fact → List ℕ → Row = λ l f n. record { live = l; facts = f; bounds = n } in
    let front : parts_in fact_in 11 8 (a ++ b) ≡ row.facts = rw fits.eight_facts at
    (parts_again FactInRange fact_in fact_bytes 11 length-fact fact_again row.facts b fits.facts) in
    let back : parts_in bound_in 8 8 b ≡ row.bounds = rw (
      fits.eight_bounds,
      append-nil b,
    ) at (parts_again (λ n. n < 2 ^ 64) bound_in (to_be_bytes w64) 8 (λ n. refl) bound_again row.bounds [] fits.bounds) in
    let far : drop 89 (row_bytes row) ≡ b = drop_at (cond row.live 1 0 ∷ a) b 89
    (omega (arith, length-flat fact_bytes 11 length-fact row.facts, fits.eight_facts)) in
    ap (λ (l : Bool). made l (parts_in fact_in 11 8 (a ++ b)) (parts_in bound_in 8 8 (drop 89 (row_bytes row)))) (flag row.live)
    ∙ ap (λ (f : List Fact). made row.live f (parts_in bound_in 8 8 (drop 89 (row_bytes row)))) front
    ∙ ap (λ (x : List ℕ). made row.live row.facts (parts_in bound_in 8 8 x)) far
    ∙ ap (λ (n : List ℕ). made row.live row.facts n) back
