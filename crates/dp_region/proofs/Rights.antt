-- The rights to give spans back: handing one out, and taking it back. Assumes `Logic`.
use Rattle.std.proofs.Common.{◌≡◌, ℕ, Bool, true, false, not, ◌||◌, List, [], refl, sym, ap, subst, ◌∙◌}
use mathlib.Core.Option.{Option, none, some}
use mathlib.Mathlib.Data.Part.{Part, ◌∈◌}
use seplogic.Ra.Pcs.{OpDef}
use seplogic.Ra.Ura.{Ura}
use seplogic.Ra.Constructions.Opt
use seplogic.Ra.Instances.Excl
use seplogic.Ra.IProd.{mem-op_iff}
use base.Logic.{SProp, ent, sep, ex, guard, emp, upd, via, guard_i}
use base.Fml.{GName, fown}
use types.Keyed.{token}
use types.Logic.{Logic, sem}
use types.Owned.{basic, own_new, own_sum, own_join}
use Rattle.dp_region.specs.Spans.{Span, is_span, listed, with_span, without_span, Spaced}
use Rattle.dp_region.specs.Ownership.{Home, Rights, right_if, ticket, tickets_but}
use Rattle.dp_region.specs.Laws.{is_span-true, by_test}
use Rattle.dp_region.proofs.Spans.{is_span-same, listed-with, unlisted_without, listed_without}

abbrev Row : Type 0
Row = Span → Option (Unit {0})

abbrev cell : Option (Unit {0}) → Option (Unit {0}) → Part {0, 0} (Option (Unit {0}))
cell = Opt.op token.op

abbrev one : Span → Row
one r q = right_if (is_span q r)

abbrev pub others : List Span → Row
others ls q = right_if (not (listed q ls))

rows : (f g h : Row) → ((q : Span) → h q ∈ cell (f q) (g q)) → h ∈ Rights.op f g
rows f g h = (mem-op_iff {A = λ (_ : Span). Option (Unit {0})} (λ _. cell) {f = f} {g = g} {h = h}).1

sums : (s x y : Bool) → (s ≡ true → (x ≡ false) × (y ≡ true)) → (s ≡ false → y ≡ x) → right_if (not x) ∈ cell (right_if s) (right_if (not y))
sums true x y here there =
    let p = here refl in subst (λ (z : Bool). right_if (not x) ∈ cell (some tt) (right_if (not z))) (sym p.1)
    (subst (λ (z : Bool). right_if (not z) ∈ cell (some tt) none) (sym p.0) (Opt.mem-op-none token.op (some tt)))
sums false x y here there = subst (λ (z : Bool). right_if (not x) ∈ cell none (right_if (not z))) (sym (there refl))
    (Opt.mem-none-op token.op (right_if (not x)))

-- the right of r is handed out
handed : (r : Span) (ls : List Span) → listed r ls ≡ false → others ls ∈ Rights.op (one r) (others (with_span r ls))
handed r ls new = rows (one r) (others (with_span r ls)) (others ls) (λ q. sums (is_span q r) (listed q ls) (listed q (with_span r ls))
    (λ e. (ap (λ (s : Span). listed s ls) (is_span-true q r e) ∙ new, listed-with q r ls ∙ ap (λ (t : Bool). t || listed q ls) e))
    (λ e. listed-with q r ls ∙ ap (λ (t : Bool). t || listed q ls) e))

-- the right of r is back
back : (r : Span) (ls : List Span) (low high : ℕ) → Spaced low high ls → listed r ls ≡ true → others (without_span r ls) ∈ Rights.op (one r) (others ls)
back r ls low high t out = rows (one r) (others ls) (others (without_span r ls)) (λ q. sums (is_span q r) (listed q (without_span r ls)) (listed q ls)
    (λ e. let same = is_span-true q r e in
    (ap (λ (s : Span). listed s (without_span r ls)) same ∙ unlisted_without r ls low high t, ap (λ (s : Span). listed s ls) same ∙ out))
    (λ e. sym (listed_without r q ls e)))

module _ {M : Type 1} {𝓤 : Ura M} (𝓛 : Logic 𝓤) where
  pub tickets_new : ent 𝓤 (emp 𝓤) (upd 𝓤 (ex 𝓤 (λ (γ : GName). sem 𝓛 (fown Rights γ (others [])))))
  tickets_new = own_new 𝓛 Rights (others [])

  module _ (h : Home) (r : Span) (ls : List Span) where
    pub ticket_out : listed r ls ≡ false → ent 𝓤 (sem 𝓛 (tickets_but h ls)) (sep 𝓤 (sem 𝓛 (ticket h r)) (sem 𝓛 (tickets_but h (with_span r ls))))
    ticket_out new = 𝓛.algebras.own_cut Rights h.rights (one r) (others (with_span r ls)) (others ls) (handed r ls new)

    clash : listed r ls ≡ false → OpDef Rights.op (one r) (others ls) → ⊥
    clash new d = Excl.not-OpDef tt tt
        (subst (λ (x : Option (Unit {0})). OpDef cell (some tt) x) (ap (λ (t : Bool). right_if (not t)) new)
        (subst (λ (x : Option (Unit {0})). OpDef cell x (others ls r)) (ap right_if (is_span-same r)) (d r)))

    abbrev Both : SProp 𝓤
    Both = sep 𝓤 (sem 𝓛 (ticket h r)) (sem 𝓛 (tickets_but h ls))

    -- the span of a ticket that someone holds is lent
    pub ticket_known : ent 𝓤 Both (guard 𝓤 (listed r ls ≡ true) Both)
    ticket_known = own_sum 𝓛 Rights h.rights (one r) (others ls) (guard 𝓤 (listed r ls ≡ true) Both) (λ c m.
        guard_i 𝓤 (listed r ls ≡ true) Both (by_test (listed r ls) (λ e. e) (λ e. absurd (clash e m.0))))

    pub ticket_in : (low high : ℕ) → Spaced low high ls → listed r ls ≡ true → ent 𝓤 Both (sem 𝓛 (tickets_but h (without_span r ls)))
    ticket_in low high t out = own_join 𝓛 Rights h.rights (one r) (others ls) (others (without_span r ls)) (back r ls low high t out)

  -- all the rights, under a new name
  pub tickets_made : ent 𝓤 (emp 𝓤) (𝓛.H.⇛ (ex 𝓤 (λ (γ : GName). sem 𝓛 (fown Rights γ (others [])))))
  tickets_made = via 𝓤 _ tickets_new (basic 𝓛 _)
