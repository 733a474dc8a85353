-- The region of a file has a permitted size.
use Rattle.std.proofs.Common.{◌≡◌, ℕ, ◌≤◌, ◌%◌, ℤ, Bool, true, false, Option, Some, None, Result, Ok, Err, pos, negsuc, refl, ap, sym, ◌∙◌, subst}
use Rattle.std.specs.Prelude.{nat_le, ◌==◌, ◌&&◌, if◌then◌else◌, option_and_then, ok_or, codes}
use Rattle.std.proofs.lemmas.Bool.{and_parts, leb-true, eqb-true}
use Rattle.std.proofs.lemmas.Option.{same_Some}
use Rattle.toml.specs.Data.{Members, as_integer, get_member}
use Rattle.dp_region.specs.Region.{IsRegionSize}
use Rattle.dp_load.specs.Keys.{up_to}
use Rattle.dp_load.specs.declared.error.Part.TheVariants.{Top}
use Rattle.dp_load.specs.Setup.{Setup, is_top, setup_in, region_in, region_if, and_then}

then_some : {A B : Type 0} (f : A → Option B) (o : Option A) (y : B) → option_and_then f o ≡ Some y → (x : A) × (o ≡ Some x) × (f x ≡ Some y)
then_some f None y e = absurd cc
then_some f (Some x) y e = (x, refl, e)

if_some : {A : Type 0} (b : Bool) (o : Option A) (y : A) → (if b then o else None) ≡ Some y → (b ≡ true) × (o ≡ Some y)
if_some true o y e = (refl, e)
if_some false o y e = absurd cc

then_ok : {A B E : Type 0} (r : Result A E) (f : A → Result B E) (y : B) → and_then r f ≡ Ok y → (x : A) × (r ≡ Ok x) × (f x ≡ Ok y)
then_ok (Ok x) f y e = (x, refl, e)
then_ok (Err z) f y e = absurd cc

was_some : {A E : Type 0} (o : Option A) (z : E) (x : A) → ok_or o z ≡ Ok x → o ≡ Some x
was_some None z x e = absurd cc
was_some (Some w) z x e = cc

up_to_most : (most : ℕ) (i : ℤ) (n : ℕ) → up_to most i ≡ Some n → n ≤ most
up_to_most most (pos m) n e =
    let (least, is) = if_some (nat_le m most) (Some m) n e in
    subst (λ k. k ≤ most) (same_Some m n is) (leb-true m most least)
up_to_most most (negsuc m) n e = absurd cc

region_size : (top : Members) (r : ℕ) → region_in top ≡ Some r → IsRegionSize r
region_size top r e =
    let (is_top, e1) = if_some (is_top top) _ r e in
    let (n, at, e2) = then_some region_if _ r e1 in
    let (whole, e3) = if_some (nat_le 4096 n && n % 64 == 0) (Some n) r e2 in
    let (least, multiple) = and_parts (nat_le 4096 n) (n % 64 == 0) whole in
    let (i, there, e4) = then_some (up_to 1073741824) (option_and_then as_integer (get_member (codes "region") top)) n at in
    subst IsRegionSize (same_Some n r e3) (leb-true 4096 n least, up_to_most 1073741824 i n e4, eqb-true (n % 64) 0 multiple)

-- whatever else is read, the region is the one that was read first
nested : {P T Q W E : Type 0} (a : Result P E) (b : Result T E) (c : Result Q E) (d : Result W E) (k : P → T → Q → W → Setup) (region : ℕ) →
    ((p : P) (t : T) (q : Q) (w : W) → (k p t q w).region ≡ region) → (s : Setup)
    → and_then a (λ p. and_then b (λ t. and_then c (λ q. and_then d (λ w. Ok (k p t q w))))) ≡ Ok s → s.region ≡ region
nested (Err z) b c d k region all s e = absurd cc
nested (Ok p) (Err z) c d k region all s e = absurd cc
nested (Ok p) (Ok t) (Err z) d k region all s e = absurd cc
nested (Ok p) (Ok t) (Ok q) (Err z) k region all s e = absurd cc
nested {E = E} (Ok p) (Ok t) (Ok q) (Ok w) k region all s e = ap (λ (x : Setup). x.region) (sym (same_ok (k p t q w) s e)) ∙ all p t q w
  where
    same_ok : (x y : Setup) → ◌≡◌ {A = Result Setup E} (Ok x) (Ok y) → x ≡ y
    same_ok x y e = cc

pub setup_region : (top : Members) (s : Setup) → setup_in top ≡ Ok s → IsRegionSize s.region
setup_region top s e =
    let (region, r, e1) = then_ok (ok_or (region_in top) (Top, 0)) _ s e in
    let same : s.region ≡ region = nested _ _ _ _ (λ pools tables rings ports.
    record { region = region; pools = pools; tables = tables; rings = rings; ports = ports }) region (λ p t q w. refl) s e1 in
    subst IsRegionSize (sym same) (region_size top region (was_some (region_in top) (Top, 0) region r))
