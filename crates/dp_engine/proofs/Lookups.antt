-- What tables return.
use Rattle.std.proofs.Common.{◌≡◌, ℕ, zero, suc, ◌%◌, ◌^◌, ◌<◌, List, [], ◌∷◌, length, Option, Some, subst, arith}
use Rattle.std.specs.Prelude.{slice_get, slice_index, option_map}
use Rattle.std.proofs.lemmas.Option.{none-some}
use Rattle.dp_model.specs.declared.instr.Instr.TheVariants.{Lookup}
use Rattle.dp_model.specs.Prefixes.{hop_for}
use Rattle.dp_model.specs.Machine.{Setting, State, Move, Acts, finds}
use Rattle.dp_lpm.specs.Routes.{RouteTable}
use Rattle.dp_engine.specs.Steps.{routes_of}

-- a table's look-up returns what its routes do
pub hop_at : (tables : List RouteTable) (k ip : ℕ) (hop : Option ℕ) → option_map (λ (t : RouteTable). hop_for t.routes ip) (slice_get tables k) ≡ Some hop
    → option_map (λ routes. hop_for routes ip) (slice_get (routes_of tables) k) ≡ Some hop
hop_at [] k ip hop is = absurd (none-some hop is)
hop_at (t ∷ tables) zero ip hop is = is
hop_at (t ∷ tables) (suc k) ip hop is = hop_at tables k ip hop is

-- an instruction with a table finds it
finds_in : (tables : List RouteTable) (k ip label r l : ℕ) (xs : List ℕ) (after : ℕ × List ℕ) → finds (slice_get (routes_of tables) k) ip label r l xs
    ≡ Some after → k < length tables
finds_in [] zero ip label r l xs after e = absurd (none-some after e)
finds_in [] (suc k) ip label r l xs after e = absurd (none-some after e)
finds_in (t ∷ tables) zero ip label r l xs after e = omega arith
finds_in (t ∷ tables) (suc k) ip label r l xs after e = let rest = finds_in tables k ip label r l xs after e in omega (arith, rest)

pub table_there : (c : Setting) (tables : List RouteTable) (label : ℕ) (s : State) (r table x l : ℕ) → c.tables ≡ routes_of tables
    → (m : Move) × Acts c label s (Lookup r table x l) m → table < length tables
table_there c tables label s r table x l are (m, (after, found, state)) =
    finds_in tables table (slice_index s.numbers x % 2 ^ 32) label r l s.numbers after
    (subst (λ ts. finds (slice_get ts table) (slice_index s.numbers x % 2 ^ 32) label r l s.numbers ≡ Some after) are found)
