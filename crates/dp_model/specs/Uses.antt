-- Uses of a pipeline whose routes change between records: stretches, each a run with the routes of its moment.
use Rattle.std.specs.Prelude.{◌≡◌, Bool, List, [], ◌∷◌, ◌++◌}
use Rattle.std.specs.List.{AllByRecursion}
use Rattle.dp_model.specs.Prefixes.{Route}
use Rattle.dp_model.specs.Machine.{Setting, World}
use Rattle.dp_model.specs.Meaning.{TablesFit}
use Rattle.dp_model.specs.Runs.{Nodes, Arrival, Observed, Run, joined}
use Rattle.dp_model.specs.Safety.{IsAtRest, Beginning, IsOfRun, IsSafeBeginning}

-- the setting with other tables
abbrev pub with_tables : List (List Route) → Setting → Setting
with_tables tables setting = record setting { tables = tables }

-- a stretch: the routes of its tables, the records that came while they were so, and what it showed
pub record Stretch (T : Type 0) : Type 0 where
  pub tables : List (List Route)
  pub arrivals : List (Arrival T)
  pub shown : Observed T

-- stretches, the latest first: a run for each, with its routes, from the world that the earlier ones left
abbrev pub Uses : {T : Type 0} → Setting → Nodes → List (Stretch T) → World → World → Type 0
Uses setting nodes [] w w' = w' ≡ w
Uses setting nodes (s ∷ earlier) w w' =
    (mid : World) × Uses setting nodes earlier w mid × Run (with_tables s.tables setting) nodes s.arrivals mid s.shown w'

-- what is shown by one and then the other
abbrev pub shown_then : {T : Type 0} → Observed T → Observed T → Observed T
shown_then now later = record {
  answers = now.answers ++ later.answers;
  outcomes = now.outcomes ++ later.outcomes;
  captures = joined now.captures later.captures;
}

-- two stretches as one, with the tables of the first
abbrev pub joined_stretch : {T : Type 0} → Stretch T → Stretch T → Stretch T
joined_stretch a b = record { tables = a.tables; arrivals = a.arrivals ++ b.arrivals; shown = shown_then a.shown b.shown }

-- the tables of each stretch are as the environment says
abbrev pub AllFit : {T : Type 0} → Setting → List (Stretch T) → Type 0
AllFit {T} setting stretches = AllByRecursion (λ (s : Stretch T). TablesFit (with_tables s.tables setting)) stretches

-- the answers to all allocation calls, in the order of the calls
abbrev pub answers_of : {T : Type 0} → List (Stretch T) → List Bool
answers_of [] = []
answers_of (s ∷ earlier) = answers_of earlier ++ s.shown.answers

-- a node run of this use begins in this way: in a stretch, after those before it
pub record IsOfUse {T : Type 0} (setting : Setting) (nodes : Nodes) (stretches : List (Stretch T)) (w : World) (b : Beginning) : Type 0 where
  pub later : List (Stretch T)
  pub stretch : Stretch T
  pub earlier : List (Stretch T)
  pub stretches_are : stretches ≡ later ++ (stretch ∷ earlier)
  pub last : World
  pub uses : Uses setting nodes earlier w last
  pub of_run : IsOfRun (with_tables stretch.tables setting) nodes stretch.arrivals last b

-- what holds of uses of every pipeline, whatever records come and however routes change
pub record KeepsUsesSafe {T : Type 0} (setting : Setting) (nodes : Nodes) (stretches : List (Stretch T)) (w : World) : Type 0 where
  -- their node runs are safe, with the routes of their moment
  pub runs : (b : Beginning) (of : IsOfUse setting nodes stretches w b) → IsSafeBeginning (with_tables of.stretch.tables setting) b
  -- and after such a use the next record can come, with any tables that fit
  pub rests : (tables : List (List Route)) (w' : World) → TablesFit (with_tables tables setting) → Uses setting nodes stretches w w'
      → IsAtRest (with_tables tables setting) w'
