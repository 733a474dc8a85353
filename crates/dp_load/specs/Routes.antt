-- How routes are written, and how they are added to a table.
use Rattle.std.specs.Prelude.{◌≡◌, ℕ, ◌+◌, ◌-◌, ◌*◌, ◌&&◌, ◌==◌, nat_le, List, [], ◌∷◌, length, take, slice_get, Option, Some, None, option_and_then}
use Rattle.std.specs.Prelude.{option_map, if◌then◌else◌}
use Rattle.std.specs.Char.{is_ascii_digit}
use Rattle.std.specs.List.{list_all, before_first, after_first}
use Rattle.toml.specs.Data.{Data, as_str}
use Rattle.dp_lpm.specs.Faults.{added, add_fault}
use Rattle.dp_lpm.specs.Routes.{RouteTable, Puts}
use Rattle.dp_load.specs.declared.error.RouteError.{RouteError}
use Rattle.dp_load.specs.declared.error.RouteError.TheVariants.{Refused, Unreadable}
use Rattle.dp_load.specs.declared.routes.Route.{Route}

-- the number that decimal digits make after those of n
abbrev pub decimal_after : ℕ → List ℕ → ℕ
decimal_after n [] = n
decimal_after n (digit ∷ digits) = decimal_after (n * 10 + (digit - 48)) digits

-- the number that 1 to n decimal digits make
abbrev pub number_in : ℕ → List ℕ → Option ℕ
number_in most digits =
    if (nat_le 1 (length digits) && nat_le (length digits) most) && list_all is_ascii_digit digits
    then Some (decimal_after 0 digits) else None

-- a number that is at most 255
abbrev pub byte_if : ℕ → Option ℕ
byte_if n = if nat_le n 255 then Some n else None

-- one byte of an address
abbrev pub byte_in : List ℕ → Option ℕ
byte_in digits = option_and_then byte_if (number_in 3 digits)

-- a text split at the first occurrence of a byte; the whole text and an empty one if there is none
abbrev pub before : ℕ → List ℕ → List ℕ
before byte text = before_first (λ b. b == byte) text

abbrev pub after : ℕ → List ℕ → List ℕ
after byte text = after_first (λ b. b == byte) text

-- an address, `A.B.C.D`
abbrev pub address_in : List ℕ → Option ℕ
address_in text =
    option_and_then (λ a. option_and_then (λ b. option_and_then (λ c. option_map (λ d. ((a * 256 + b) * 256 + c) * 256 + d)
    (byte_in (after 46 (after 46 (after 46 text)))))
    (byte_in (before 46 (after 46 (after 46 text)))))
    (byte_in (before 46 (after 46 text))))
    (byte_in (before 46 text))

-- a route, `A.B.C.D/DEPTH HOP`
abbrev pub route_in : List ℕ → Option Route
route_in text =
    option_and_then (λ ip. option_and_then (λ depth. option_map (λ hop. record { ip = ip; depth = depth; hop = hop })
    (number_in 8 (after 32 text)))
    (number_in 2 (after 47 (before 32 text))))
    (address_in (before 47 (before 32 text)))

-- the route in a value of a file
abbrev pub route_of : Data → Option Route
route_of d = option_and_then route_in (as_str d)

-- why a table refuses a value as a route
abbrev pub refusal : RouteTable → Option Route → Option RouteError
refusal table None = Some Unreadable
refusal table (Some route) = option_map Refused (add_fault table route.ip route.depth route.hop)

-- the table with a value added as a route
abbrev pub PutsIn : RouteTable → RouteTable → Option Route → Type 0
PutsIn old new None = ⊥
PutsIn old new (Some route) = Puts old new (added route.ip route.depth route.hop)

-- one value is added as a route
pub record Takes (old new : RouteTable) (value : Data) : Type 0 where
  pub free : refusal old (route_of value) ≡ None
  pub puts : PutsIn old new (route_of value)

-- the values are added as routes, in order
abbrev pub TakesAll : RouteTable → RouteTable → List Data → Type 0
TakesAll old new [] = old ≡ new
TakesAll old new (value ∷ values) = (middle : RouteTable) × Takes old middle value × TakesAll middle new values

-- the value at the index is the first that is refused, and why
pub record IsFirstRefused (old : RouteTable) (values : List Data) (index : ℕ) (cause : RouteError) : Type 0 where
  pub reached : RouteTable
  pub before : TakesAll old reached (take index values)
  pub refused : option_and_then (λ value. refusal reached (route_of value)) (slice_get values index) ≡ Some cause
