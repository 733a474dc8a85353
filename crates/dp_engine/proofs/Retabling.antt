-- A change of routes keeps what holds of contexts and of engines.
use Rattle.std.proofs.Common.{◌≡◌, ℕ, ◌≤◌, List, [], ◌∷◌, length, map, Option, Some, None, refl, sym, ◌∙◌, ap, subst, arith}
use Rattle.std.specs.Prelude.{slice_get, option_map, option_and_then}
use Rattle.std.specs.List.{AllByRecursion}
use Rattle.std.proofs.lemmas.List.{length-map}
use Rattle.std.proofs.lemmas.Option.{same_Some}
use Rattle.dp_model.specs.declared.instr.Instr.{Instr}
use Rattle.dp_model.specs.Limits.{max_hop}
use Rattle.dp_model.specs.Meaning.{TablesFit}
use Rattle.dp_model.specs.Prefixes.{Route}
use Rattle.dp_lpm.specs.Routes.{RouteTable, HasSmallHops}
use Rattle.dp_engine.specs.declared.report.Tallies.{Tallies}
use Rattle.dp_engine.specs.Engines.{IsEngine}
use Rattle.dp_engine.specs.Handles.{Core}
use Rattle.dp_engine.specs.Memories.{EngineMemoryView}
use Rattle.dp_engine.specs.Rerouting.{IsRetabled, retabled}
use Rattle.dp_engine.specs.Schemes.{Scheme, IsScheme, scheme_in}
use Rattle.dp_engine.specs.Steps.{SettingParts, routes_of}

small : (tables : List RouteTable) → AllByRecursion HasSmallHops tables
    → AllByRecursion (AllByRecursion (λ (route : Route). route.hop ≤ max_hop)) (routes_of tables)
small [] all = tt
small (t ∷ tables) all = (all.0, small tables all.1)

module _ (s : Scheme) (old now : List RouteTable) (are : s.setting.tables ≡ routes_of old) (many : length now ≡ length old)
    (hops : AllByRecursion HasSmallHops now) (is : IsScheme s) where
  retabled_fits : TablesFit (retabled now s).setting
  retabled_fits = record {
    count = length-map now (λ (t : RouteTable). t.routes)
        ∙ (many ∙ (sym (length-map old (λ (t : RouteTable). t.routes)) ∙ (ap length (sym are) ∙ is.tables_fit.count)));
    hops = small now hops;
  }

  retabled_scheme : IsScheme (retabled now s)
  retabled_scheme =
      let p = is.pipeline in
      record {
        pipeline = record {
          limits = p.limits;
          checked = record { ports = p.checked.ports; rings = p.checked.rings; rooms = p.checked.rooms; facts = p.checked.facts };
          ports = p.ports;
          rings = p.rings;
        };
        tables_fit = retabled_fits;
        ports = is.ports;
        rings = is.rings;
      }

module _ (setting : SettingParts) {now : SettingParts} {ports rings : List (List Instr)} (kept : now ≡ record setting { tables = now.tables })
    (many : length now.tables ≡ length setting.tables) (hops : AllByRecursion HasSmallHops now.tables)
    (is : IsScheme (scheme_in setting.env setting.tables ports rings setting.pattern)) where
  -- a context whose setting has other tables
  pub retabled_context : IsScheme (scheme_in now.env now.tables ports rings now.pattern)
  retabled_context = rw kept (retabled_scheme (scheme_in setting.env setting.tables ports rings setting.pattern) setting.tables now.tables refl many hops is)

  pub is_retabled : {s : Scheme} → scheme_in setting.env setting.tables ports rings setting.pattern ≡ s
      → IsRetabled s (scheme_in now.env now.tables ports rings now.pattern)
  is_retabled same =
      rw kept (subst (λ (old : Scheme). IsRetabled old (retabled now.tables (scheme_in setting.env setting.tables ports rings setting.pattern))) same (record {
        new_is = refl;
        fits = retabled_fits (scheme_in setting.env setting.tables ports rings setting.pattern) setting.tables now.tables refl many hops is;
      }))

pub retabled_engine : (s new : Scheme) (core : Core) (memory : EngineMemoryView) (turns : ℕ) (tallies : List Tallies) (left : List ℕ) → IsRetabled s new
    → IsEngine s core memory turns tallies left → IsEngine new core memory turns tallies left
retabled_engine s new core memory turns tallies left is e =
    let rest = e.rests.rest in
    let fits : TablesFit (retabled new.tables s).setting = subst (λ (n : Scheme). TablesFit n.setting) is.new_is is.fits in
    subst (λ (n : Scheme). IsEngine n core memory turns tallies left) (sym is.new_is) (record {
      within = e.within;
      rests = record {
        idle = e.rests.idle;
        pools = e.rests.pools;
        fits = e.rests.fits;
        rest = record {
          ready = record {
            world = record { rings = rest.ready.world.rings; outboxes = rest.ready.world.outboxes };
            tables = fits;
            within = record { rooms = rest.ready.within.rooms; bytes = rest.ready.within.bytes; lie = rest.ready.within.lie };
          };
          owned = rest.owned;
          packets = rest.packets;
        };
      };
      stand = e.stand;
      limit = e.limit;
      ports = e.ports;
      rings = e.rings;
      records = e.records;
      calls = e.calls;
      cuts = e.cuts;
      packets = e.packets;
    })

-- what a look-up returned
pub hop_found : {A B : Type 0} (f : A → Option B) (o : Option A) (result : Option B) → option_map f o ≡ Some result → result ≡ option_and_then f o
hop_found f None result is = absurd cc
hop_found f (Some x) result is = sym (same_Some (f x) result is)
