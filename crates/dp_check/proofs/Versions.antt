-- No rule reads the version of a certificate.
use Rattle.std.proofs.Common.{◌≡◌, ◌↔◌, ℕ, Bool, List, [], ◌∷◌, Option, Some, None, refl, sym, ◌∙◌, ap}
use Rattle.std.specs.Prelude.{not, find, slice_get, if◌then◌else◌}
use Rattle.dp_model.specs.declared.row.Row.{Row}
use Rattle.dp_model.specs.declared.env.Entry.{Entry}
use Rattle.dp_model.specs.declared.instr.Instr.{Instr}
use Rattle.dp_model.specs.Environments.{Environment}
use Rattle.dp_model.specs.declared.rule.Rule.{Rule}
use Rattle.dp_model.specs.declared.rule.Rule.TheVariants.{J1, J2, J3, J4, J5, J6, J7, J8, J9, J10, J11}
use Rattle.dp_model.specs.Rules.{Question, holds_if_live, holds, rules_of, fault_at, IsAccepted, IsRefused}
use Rattle.dp_cert.specs.declared.cert.Version.{Version}
use Rattle.dp_cert.specs.declared.cert.Version.TheVariants.{One, Two}
use Rattle.dp_cert.specs.Spelling.{Certificate, number_of_version, raised}
use Rattle.dp_check.specs.Faults.{question, IsWith}

-- a question has one certificate
same_version : (a b : Version) → number_of_version a ≡ number_of_version b → a ≡ b
same_version One One e = refl
same_version Two Two e = refl
same_version One Two e = cc
same_version Two One e = cc

pub same_certificate : (program : List Instr) (env : Environment) (entry : Entry) (a b : Certificate) → IsWith (question program a env entry) b → a ≡ b
same_certificate program env entry a b is =
    let rows : a.rows ≡ b.rows = ap (λ (q : Question). q.rows) is in
    let version = same_version a.version b.version (ap (λ (q : Question). q.version) is) in
    ap (λ rs. record { version = a.version; rows = rs }) rows ∙ ap (λ v. record { version = v; rows = b.rows }) version

abbrev of_version : Question → ℕ → Question
of_version q version = record q { version = version }

live_same : (q : Question) (version label : ℕ) (o : Option Instr) (p : Option Row) (rule : Rule) → holds_if_live (of_version q version) label o p rule
    ≡ holds_if_live q label o p rule
live_same q version label None p rule = refl
live_same q version label (Some i) None rule = refl
live_same q version label (Some i) (Some row) J1 = refl
live_same q version label (Some i) (Some row) J2 = refl
live_same q version label (Some i) (Some row) J3 = refl
live_same q version label (Some i) (Some row) J4 = refl
live_same q version label (Some i) (Some row) J5 = refl
live_same q version label (Some i) (Some row) J6 = refl
live_same q version label (Some i) (Some row) J7 = refl
live_same q version label (Some i) (Some row) J8 = refl
live_same q version label (Some i) (Some row) J9 = refl
live_same q version label (Some i) (Some row) J10 = refl
live_same q version label (Some i) (Some row) J11 = refl

holds_same : (q : Question) (version label : ℕ) (rule : Rule) → holds (of_version q version) label rule ≡ holds q label rule
holds_same q version label J1 = refl
holds_same q version label J2 = refl
holds_same q version label J3 = live_same q version label (slice_get q.program label) (slice_get q.rows label) J3
holds_same q version label J4 = live_same q version label (slice_get q.program label) (slice_get q.rows label) J4
holds_same q version label J5 = live_same q version label (slice_get q.program label) (slice_get q.rows label) J5
holds_same q version label J6 = live_same q version label (slice_get q.program label) (slice_get q.rows label) J6
holds_same q version label J7 = live_same q version label (slice_get q.program label) (slice_get q.rows label) J7
holds_same q version label J8 = live_same q version label (slice_get q.program label) (slice_get q.rows label) J8
holds_same q version label J9 = live_same q version label (slice_get q.program label) (slice_get q.rows label) J9
holds_same q version label J10 = live_same q version label (slice_get q.program label) (slice_get q.rows label) J10
holds_same q version label J11 = live_same q version label (slice_get q.program label) (slice_get q.rows label) J11

find_same : (p q : Rule → Bool) (rules : List Rule) → ((rule : Rule) → p rule ≡ q rule) → find p rules ≡ find q rules
find_same p q [] same = refl
find_same p q (rule ∷ rules) same =
    ap (λ b. if b then Some rule else find p rules) (same rule) ∙ ap (λ o. if q rule then Some rule else o) (find_same p q rules same)

fault_same : (q : Question) (version label : ℕ) → fault_at (of_version q version) label ≡ fault_at q label
fault_same q version label =
    find_same (λ rule. not (holds (of_version q version) label rule)) (λ rule. not (holds q label rule)) (rules_of label)
    (λ rule. ap not (holds_same q version label rule))

pub raised_accepted : (program : List Instr) (cert : Certificate) (env : Environment) (entry : Entry) →
    (IsAccepted (question program cert env entry)) ↔ (IsAccepted (question program (raised cert) env entry))
raised_accepted program cert env entry =
    let same = fault_same (question program cert env entry) 2 in
    (λ accepted label. same label ∙ accepted label, λ accepted label. sym (same label) ∙ accepted label)

pub raised_refused : (program : List Instr) (cert : Certificate) (env : Environment) (entry : Entry) (label : ℕ) (rule : Rule) →
    (IsRefused (question program cert env entry) label rule) ↔ (IsRefused (question program (raised cert) env entry) label rule)
raised_refused program cert env entry label rule =
    let same = fault_same (question program cert env entry) 2 in (
      λ (here, before). (same label ∙ here, λ earlier less. same earlier ∙ before earlier less),
      λ (here, before). (
        sym (same label)
            ∙ here,
        λ earlier less. sym (same earlier) ∙ before earlier less,
      ),
    )
