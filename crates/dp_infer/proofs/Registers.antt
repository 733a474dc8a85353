-- Registers of two rows, the first stronger than the second.
use Rattle.std.proofs.Common.{ℕ, zero, suc, ◌≤◌, List, [], ◌∷◌, arith, get_or, set}
use Rattle.std.specs.Prelude.{slice_get, option_and_then}
use Rattle.std.specs.List.{AllZip}
use Rattle.dp_model.specs.declared.row.Fact.{Fact}
use Rattle.dp_model.specs.declared.row.Row.{Row}
use Rattle.dp_model.specs.declared.registers.Operand.{Operand}
use Rattle.dp_model.specs.declared.registers.Operand.TheVariants.{Register, Constant}
use Rattle.dp_model.specs.Rows.{holding, held_at, bound, with_bound, with_fact}
use Rattle.dp_infer.proofs.Sharing.{KeepsGroups}
use Rattle.dp_infer.proofs.Stronger.{StrongerOption, StrongerFact, AtMost, Stronger}

pub zip_set : {A B : Type 0} (R : A → B → Type 0) (xs : List A) (ys : List B) (i : ℕ) (x : A) (y : B) → AllZip R xs ys → R x y →
    AllZip R (set xs i x) (set ys i y)
zip_set R [] [] i x y h r = tt
zip_set R (a ∷ xs) (b ∷ ys) zero x y h r = (r, h.1)
zip_set R (a ∷ xs) (b ∷ ys) (suc i) x y h r = (h.0, zip_set R xs ys i x y h.1 r)
zip_set R z u i x y h r = absurd h

bounds_at : (ms ns : List ℕ) (i : ℕ) → AllZip AtMost ms ns → get_or ms i 0 ≤ get_or ns i 0
bounds_at [] [] i h = omega arith
bounds_at (m ∷ ms) (n ∷ ns) zero h = h.0
bounds_at (m ∷ ms) (n ∷ ns) (suc i) h = bounds_at ms ns i h.1
bounds_at x y i h = absurd h

-- operands are bounded as well
pub bound_at : (a b : Row) (x : Operand) → Stronger a b → bound a x ≤ bound b x
bound_at a b (Register r) h = bounds_at a.bounds b.bounds r h.bounds
bound_at a b (Constant c) h = omega arith

pub bound_set : (a b : Row) (r m n : ℕ) → Stronger a b → m ≤ n → Stronger (with_bound a r m) (with_bound b r n)
bound_set a b r m n h le = record {
  live = h.live;
  other_live = h.other_live;
  facts = h.facts;
  groups = h.groups;
  bounds = zip_set AtMost a.bounds b.bounds r m n h.bounds le;
}

pub fact_set : (a b : Row) (p : ℕ) (f g : Fact) → Stronger a b → StrongerFact f g → KeepsGroups (with_fact a p f).facts (with_fact b p g).facts →
    Stronger (with_fact a p f) (with_fact b p g)
fact_set a b p f g h s groups = record {
  live = h.live;
  other_live = h.other_live;
  facts = zip_set StrongerFact a.facts b.facts p f g h.facts s;
  groups = groups;
  bounds = h.bounds;
}

facts_at : (fs gs : List Fact) (p : ℕ) → AllZip StrongerFact fs gs → StrongerOption (option_and_then holding (slice_get fs p))
    (option_and_then holding (slice_get gs p))
facts_at [] [] p h = tt
facts_at (f ∷ fs) (g ∷ gs) zero h = h.0
facts_at (f ∷ fs) (g ∷ gs) (suc p) h = facts_at fs gs p h.1
facts_at x y p h = absurd h

-- what is known about a packet
pub held_both : (a b : Row) (p : ℕ) → Stronger a b → StrongerOption (held_at a p) (held_at b p)
held_both a b p h = facts_at a.facts b.facts p h.facts
