-- Taking files from a buffer, one after the other.
use Rattle.std.proofs.Common.{◌≡◌, ℕ, ◌+◌, ◌≤◌, List, [], ◌∷◌, ◌++◌, length, take, drop, sym, ◌∙◌, ap, subst, arith, append_assoc, append-nil, length-append}
use Rattle.std.proofs.Common.{take_at, drop_at}
use Rattle.std.specs.Prelude.{Result, Ok, Err, IfOk, IfErr, is_err, is_ok, false, if◌then◌else◌}
use Rattle.std.specs.List.{AllByRecursion}
use Rattle.std.specs.Str.{IsUtf8}
use Rattle.dp_load.specs.declared.listed.NamedBytes.{NamedBytes}
use Rattle.dp_host.specs.declared.packed.TheConstants.{MAX_FILES}
use Rattle.dp_host.specs.Packing.{AreFiles, ArePacked, BeginsWithFile, BeginsWithNoFile, NotPacked, first_number}

-- the names are UTF-8
abbrev pub AreNamed : List NamedBytes → Type 0
AreNamed files = AllByRecursion (λ (file : NamedBytes). IsUtf8 file.name.now) files

pub named_more : (files : List NamedBytes) (file : NamedBytes) → AreNamed files → IsUtf8 file.name.now → AreNamed (files ++ file ∷ [])
named_more [] file names name = (name, tt)
named_more (f ∷ files) file (first, names) name = (first, named_more files file names name)

-- whatever files follow these, the whole buffer has all of them
abbrev pub Taken : List ℕ → List NamedBytes → List ℕ → Type 0
Taken packed files rest = (later : List NamedBytes) → AreFiles rest later → AreFiles packed (files ++ later)

pub taken_more : (packed rest after : List ℕ) (files : List NamedBytes) (file : NamedBytes) → BeginsWithFile rest file after → Taken packed files rest →
    Taken packed (files ++ file ∷ []) after
taken_more packed rest after files file begins taken later are =
    subst (AreFiles packed) (sym (append_assoc files (file ∷ []) later)) (taken (file ∷ later) (after, begins, are))

-- no bytes are left after these files
pub all_packed : (packed rest : List ℕ) (files : List NamedBytes) (k : ℕ) → Taken packed files rest → rest ≡ [] → length files ≡ k → k ≤ MAX_FILES
    → AreNamed files → ArePacked packed files
all_packed packed rest files k taken none many most names = record {
  are_files = subst (AreFiles packed) (append-nil files) (taken [] none);
  few = omega (arith, many, most);
  names = names;
}

-- what was pushed is there
pub pushed : {A E : Type 0} (r : Result A E) (xs ys zs : List NamedBytes) → false ≡ is_err r → zs ≡ (if is_ok r then xs else ys) → zs ≡ xs
pushed (Ok x) xs ys zs e is = is
pushed (Err x) xs ys zs e is = cc

-- ---- the parts of a file

head_is : (bytes : List ℕ) (file : NamedBytes) (more : List ℕ) (b : BeginsWithFile bytes file more) → take 8 bytes ≡ b.head
head_is bytes file more b = ap (take 8) b.spelled ∙ take_at b.head (file.name.now ++ (file.bytes.now ++ more)) 8 b.eight

rest_is : (bytes : List ℕ) (file : NamedBytes) (more : List ℕ) → BeginsWithFile bytes file more → drop 8 bytes ≡ file.name.now ++ (file.bytes.now ++ more)
rest_is bytes file more b = ap (drop 8) b.spelled ∙ drop_at b.head (file.name.now ++ (file.bytes.now ++ more)) 8 b.eight

pub long_is : (bytes : List ℕ) (file : NamedBytes) (more : List ℕ) → BeginsWithFile bytes file more
    → length bytes ≡ 8 + (length file.name.now + (length file.bytes.now + length more))
long_is bytes file more b = omega (
  arith,
  ap length b.spelled,
  b.eight,
  length-append b.head (file.name.now ++ (file.bytes.now ++ more)),
  length-append file.name.now (file.bytes.now ++ more),
  length-append file.bytes.now more,
)

pub name_long : (bytes : List ℕ) (file : NamedBytes) (more : List ℕ) → BeginsWithFile bytes file more
    → length file.name.now ≡ first_number (take 8 bytes)
name_long bytes file more b = sym (ap first_number (head_is bytes file more b) ∙ b.name_length)

pub bytes_long : (bytes : List ℕ) (file : NamedBytes) (more : List ℕ) → BeginsWithFile bytes file more
    → length file.bytes.now ≡ first_number (drop 4 (take 8 bytes))
bytes_long bytes file more b = sym (ap (λ h. first_number (drop 4 h)) (head_is bytes file more b) ∙ b.bytes_length)

pub name_is : (bytes : List ℕ) (file : NamedBytes) (more : List ℕ) → BeginsWithFile bytes file more
    → take (first_number (take 8 bytes)) (drop 8 bytes) ≡ file.name.now
name_is bytes file more b =
    ap (take (first_number (take 8 bytes))) (rest_is bytes file more b)
    ∙ take_at file.name.now (file.bytes.now ++ more) (first_number (take 8 bytes)) (name_long bytes file more b)

abbrev after_first : List ℕ → List ℕ
after_first bytes = drop (first_number (drop 4 (take 8 bytes))) (drop (first_number (take 8 bytes)) (drop 8 bytes))

-- what follows the first file is known from the bytes
after_is : (bytes : List ℕ) (file : NamedBytes) (more : List ℕ) → BeginsWithFile bytes file more → after_first bytes ≡ more
after_is bytes file more b =
    let name = first_number (take 8 bytes) in
    let size = first_number (drop 4 (take 8 bytes)) in
    ap (λ l. drop size (drop name l)) (rest_is bytes file more b)
    ∙ ap (drop size) (drop_at file.name.now (file.bytes.now ++ more) name (name_long bytes file more b))
    ∙ drop_at file.bytes.now more size (bytes_long bytes file more b)

-- ---- files that may be left

-- whatever files the whole buffer has, those after this many are in the rest
abbrev pub Left : List ℕ → List ℕ → ℕ → Type 0
Left packed rest k =
    (all : List NamedBytes) → ArePacked packed all → (later : List NamedBytes) × AreFiles rest later × (k + length later ≤ MAX_FILES) × AreNamed later

pub left_first : (packed : List ℕ) → Left packed packed 0
left_first packed all are = (all, are.are_files, omega (arith, are.few), are.names)

left_after : (rest after : List ℕ) (file : NamedBytes) (k : ℕ) → BeginsWithFile rest file after → (later : List NamedBytes) → AreFiles rest later
    → k + length later ≤ MAX_FILES → AreNamed later
    → (others : List NamedBytes) × AreFiles after others × (k + 1 + length others ≤ MAX_FILES) × AreNamed others
left_after rest after file k begins [] none few names = absurd (omega (arith, ap length none, long_is rest file after begins))
left_after rest after file k begins (f ∷ later) (more, b, are) few (name, names) =
    (later, subst (λ l. AreFiles l later) (sym (after_is rest f more b) ∙ after_is rest file after begins) are, omega (arith, few), names)

pub left_more : (packed rest after : List ℕ) (file : NamedBytes) (k : ℕ) → BeginsWithFile rest file after → Left packed rest k → Left packed after (k + 1)
left_more packed rest after file k begins left all are =
    let (later, files, few, names) = left all are in left_after rest after file k begins later files few names

none_in : (rest : List ℕ) → BeginsWithNoFile rest → (rest ≡ [] → ⊥) → (later : List NamedBytes) → AreFiles rest later → AreNamed later → ⊥
none_in rest none some [] is names = some is
none_in rest none some (f ∷ later) (more, b, are) (name, names) = none f more name b

-- bytes are left, but no file
pub none_left : (packed rest : List ℕ) (k : ℕ) → Left packed rest k → BeginsWithNoFile rest → (rest ≡ [] → ⊥) → NotPacked packed
none_left packed rest k left none some all are = let (later, files, few, names) = left all are in none_in rest none some later files names

too_many_in : (rest : List ℕ) (k : ℕ) → MAX_FILES ≤ k → (rest ≡ [] → ⊥) → (later : List NamedBytes) → AreFiles rest later → k + length later ≤ MAX_FILES → ⊥
too_many_in rest k all some [] is few = some is
too_many_in rest k all some (f ∷ later) is few = absurd (omega (arith, all, few))

-- bytes are left after all the files that there may be
pub too_many : (packed rest : List ℕ) (k : ℕ) → Left packed rest k → MAX_FILES ≤ k → (rest ≡ [] → ⊥) → NotPacked packed
too_many packed rest k left all some files are = let (later, is, few, names) = left files are in too_many_in rest k all some later is few

-- ---- results

pub ok_then : {A E : Type 0} (P Q : A → Type 0) (r : Result A E) → ((x : A) → P x → Q x) → IfOk r P → IfOk r Q
ok_then P Q (Ok x) f p = f x p
ok_then P Q (Err e) f p = tt

pub err_then : {A E : Type 0} (P Q : E → Type 0) (r : Result A E) → ((e : E) → P e → Q e) → IfErr r P → IfErr r Q
err_then P Q (Ok x) f p = tt
err_then P Q (Err e) f p = f e p
