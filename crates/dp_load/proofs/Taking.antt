-- One more route, and one more table.
use Rattle.std.proofs.Common.{◌≡◌, ◌∙◌, ℕ, ◌+◌, ◌<◌, List, [], ◌∷◌, ◌++◌, Some, length, map, take, get_or, refl, sym, ap}
use Rattle.std.specs.Prelude.{slice_get}
use Rattle.std.proofs.lemmas.List.{take-map, take_more, map_push}
use Rattle.std.proofs.lemmas.Option.{slice_get-map, slice_get-get_or}
use Rattle.toml.specs.Data.{Data}
use Rattle.toml.specs.View.{view}
use Rattle.toml.specs.declared.value.Value.{Value}
use Rattle.dp_lpm.specs.Routes.{RouteTable}
use Rattle.dp_load.specs.declared.error.PipeError.{PipeError}
use Rattle.dp_load.specs.declared.error.PipeError.TheVariants as errors
use Rattle.dp_load.specs.declared.setup.TablePart as code
use Rattle.dp_load.specs.Routes.{Takes, TakesAll}
use Rattle.dp_load.specs.Setup.{TablePart}
use Rattle.dp_load.specs.Config.{HasItsRoutes, HaveTheirRoutes, IsFillFault, IsTablesFault}
use Rattle.dp_load.specs.Views.{values, table_part}

-- the first elements, seen through a view, and one more
take_seen : {A B : Type 0} (see : A → B) (xs : List A) (i : ℕ) (x : A) → i < length xs → get_or xs i x ≡ x → take (i + 1) (map see xs) ≡ take i (map see xs)
    ++ see x ∷ []
take_seen {B = B} see xs i x lt here =
    take-map see (i + 1) xs ∙ rw (take_more xs i x lt, here) (map_push see (take i xs) x) ∙ ap (λ (ys : List B). ys ++ see x ∷ []) (sym (take-map see i xs))

pub get_seen : {A B : Type 0} (see : A → B) (xs : List A) (i : ℕ) (x : A) → i < length xs → get_or xs i x ≡ x → slice_get (map see xs) i ≡ Some (see x)
get_seen see xs i x lt here = slice_get-map see xs i ∙ rw (slice_get-get_or xs i x lt, here) refl

takes_more : (old middle new : RouteTable) (values : List Data) (value : Data) → TakesAll old middle values → Takes middle new value →
    TakesAll old new (values ++ value ∷ [])
takes_more old middle new [] value same t = (new, rw same t, refl)
takes_more old middle new (v ∷ values) value (next, first, others) t = (next, first, takes_more next middle new values value others t)

pub route_more : (old middle new : RouteTable) (vs : List Value) (i : ℕ) (v : Value) → i < length vs → get_or vs i v ≡ v
    → TakesAll old middle (take i (values vs)) → Takes middle new (view v) → TakesAll old new (take (i + 1) (values vs))
route_more old middle new vs i v lt here before t = rw (take_seen view vs i v lt here) (takes_more old middle new (take i (values vs)) (view v) before t)

hold_more : (ts : List TablePart) (tables : List RouteTable) (t : TablePart) (table : RouteTable) → HaveTheirRoutes ts tables → HasItsRoutes t table →
    HaveTheirRoutes (ts ++ t ∷ []) (tables ++ table ∷ [])
hold_more [] [] t table h here = (here, tt)
hold_more [] (x ∷ tables) t table h here = absurd h
hold_more (s ∷ ts) [] t table h here = absurd h
hold_more (s ∷ ts) (x ∷ tables) t table (first, others) here = (first, hold_more ts tables t table others here)

pub table_more : (ts : List code.TablePart) (tables : List RouteTable) (i : ℕ) (t : code.TablePart) (table : RouteTable) → i < length ts → get_or ts i t ≡ t
    → HaveTheirRoutes (take i (map table_part ts)) tables → HasItsRoutes (table_part t) table → HaveTheirRoutes (take (i + 1) (map table_part ts))
    (tables ++ table ∷ [])
table_more ts tables i t table lt here before h = rw (take_seen table_part ts i t lt here)
    (hold_more (take i (map table_part ts)) tables (table_part t) table before h)

-- a table that is not filled
fault_at : (ts : List TablePart) (tables : List RouteTable) (i : ℕ) (t : TablePart) (e : PipeError) → HaveTheirRoutes (take i ts) tables
    → slice_get ts i ≡ Some t →
    IsFillFault i t e → IsTablesFault ts e
fault_at ts tables i t errors.Memory before here h = tt
fault_at ts tables i t errors.NotToml before here h = absurd h
fault_at ts tables i t (errors.BadKey kind index) before here h = absurd h
fault_at ts tables i t (errors.BadEnv cause) before here h = absurd h
fault_at ts tables i t (errors.BadTable table route cause) before here (same, refused) =
    record { filled = tables; before = rw same before; here = rw (same, here) refused }
fault_at ts tables i t (errors.File entry) before here h = absurd h
fault_at ts tables i t (errors.Asm entry fault) before here h = absurd h
fault_at ts tables i t (errors.BadCert entry fault) before here h = absurd h
fault_at ts tables i t (errors.NotInferred node label rule) before here h = absurd h
fault_at ts tables i t (errors.Refused node label rule) before here h = absurd h

pub table_fault : (ts : List code.TablePart) (tables : List RouteTable) (i : ℕ) (t : code.TablePart) (e : PipeError) → i < length ts → get_or ts i t ≡ t
    → HaveTheirRoutes (take i (map table_part ts)) tables → IsFillFault i (table_part t) e → IsTablesFault (map table_part ts) e
table_fault ts tables i t e lt here before h = fault_at (map table_part ts) tables i (table_part t) e before (get_seen table_part ts i t lt here) h
