-- An export whose first parameter points at the engine's value lends that value, by `&mut`, to a function that has the rest of its parameters.
use Rattle.std.proofs.Common.{Option, ◌≡◌, ℕ, zero, suc, ◌+◌, List, [], ◌∷◌, ◌++◌, refl, w32, MutBor}
use seplogic.Ra.Ura.{Ura}
use base.Fraction.{full_share}
use base.Logic.{SProp, ent, sep, wand, wand_i, ex, ex_i, emp, guard, guard_i, via, mono_l, comm∗, apply∗, id⊢}
use base.Fml.{Fml, Share, Lft, flft, flent}
use lib.Dec.{T}
use mir.Syntax.{Lifetime, Width, named, mut, erased, Ty, ty_int, ty_ptr, ty_ref, Local, local, value_local, Callee, Fn, Place, Body, Opd}
use mir.Syntax.{place, copy, assign, rv_opd, addr_of, deref, seq, call, return}
use mir.Val.{Val, WT, has_ty, vptr}
use prog.Wp.{Calls, Env, Loops, WpFn, Closed}
use prog.Model.{Model}
use contract.Lifetimes.{Lfts, Shares, AllOutlive}
use contract.Monad.{Fun, fact, fact_i, fact_use}
use contract.Running.{Running, tables}
use sound.WpLaws.{FmC}
use types.Logic.{Logic, sem}
use types.SemTy.{Body as Held}
use types.Kit.{Item, Goal, Post, runs, lands, Soaks, Seq, Step, step, ‵, raw, ◌⊛◌, some, given, later, prop, ◌$◌, ◌∵◌, !, qed, done, drop, move, by}
use types.Kit.{use0, use1, use3, split, join, fsplit, pick, learn, await, updating, now as at_once, show, frame, regoal, suffices}
use types.Run.{Opds, enter, of_opd, addr, stop, no_more, and_then, returns}
use types.ByLocal.{alloc_all, pass_all, free_all, look_at, get, through, sets, lands_as}
use types.Tokens.{lft_new, lft_end}
use denote.Builtin.{u32}
use denote.Exit.{yes, left}
use denote.Laws.{Is, Ises, Lawful, Lawfuls, Spells, Tells, Tellss, Typed, all_Typed, shows, valss}
use denote.Lend.{lends_ref, ref_back}
use denote.Memory.{mem}
use denote.Plain.{UInt, uint_vals, uint_Tells, uint_Lawful}
use denote.RattleType.{RattleType, Denots, Valss, flat, mirs, owns}
use denote.RawPtr.{Ptr, RawPtr, block_ptr, lies_at, in_a_block, ptr_val, rawptr_vals, rawptr_Lawful, rawptr_Tells}
use denote.Ref.{MutRef, mut_vals, mut_Lawful, mut_Tells}
use denote.Slice.{MutSlice, ShrSlice, mut_slice_vals, mut_slice_Lawful, mut_slice_Tells, shr_slice_vals, shr_slice_Lawful, shr_slice_Tells}
use denote.Signature.{Signature, Slot, plain, mut_ref_to, type_at, types_at}
use denote.Steps.{nothing, heard, said}
use denote.Triple.Call.{calls_from}
use denote.Triple.Clauses.{Ended, AtExit, Clauses, Lasts, at_exit, closing, ensured, lasts}
use denote.Triple.End.{all}
use denote.Triple.Entry.{Args, Res, Vals, alive, on_entry}
use denote.Triple.Spec.{Meets, Spec, triple_of}
use denote.Triple.Statement.{Contract, FmF, Triple}
use denote.Triple.Table.{entered, framed}
use Rattle.dp_engine.specs.Engines.{EngineState}
use Rattle.dp_host.specs.declared.numbers.Route.{Route}
use Rattle.dp_host.specs.declared.refusal.Refusal.{Refusal}
use Rattle.dp_host.specs.Hosts.{SetsOrRefuses}
use Rattle.dp_host.specs.contracts.host.Host.{the_row as R}

-- what a `&mut` to the engine's value owns
abbrev loan : Lft → MutBor R.Denot → Fml
loan κ x = (MutRef (named 0) κ R).own_val x (mut_vals x)

abbrev lent_ref : ℕ → ℕ → ℕ → R.Denot → MutBor R.Denot
lent_ref b o γ h = record { ref_ptr = (b, o); ghost_name = γ; now = h }

module _ {M : Type 1} {𝓤 : Ura M} {𝓛 : Logic 𝓤} {K : Type 0} {Γ : List (Item 𝓤)} {G : Goal 𝓤 𝓛.H} (h : R.Denot) (b o : ℕ) where
  -- the memory is lent, for a lifetime of its own
  abbrev memory_lent : K → Soaks G → ((α γ : ℕ) → Seq K 𝓛 (‵ (loan (α ∷ []) (lent_ref b o γ h)) ∷ ‵ (flent (α ∷ []) (Held (mem R) b o γ))
      ∷ ‵ (flft (α ∷ []) full_share) ∷ Γ) G) → Seq K 𝓛 (‵ (lies_at R full_share (block_ptr b o) h) ∷ Γ) G
  memory_lent t a k =
      lft_new t a (λ α. move t (1 ∷ []) $
      use1 𝓛 (later (some (λ (γ : ℕ). ‵ (loan (α ∷ []) (lent_ref b o γ h)) ⊛ ‵ (flent (α ∷ []) (Held (mem R) b o γ)))))
      (lends_ref 𝓛 R (named 0) (α ∷ []) h b o) $ await t a $ pick t (λ γ. split t $ k α γ))

  -- it comes back, at its last value
  abbrev memory_back : K → Soaks G → (α γ : ℕ) (now : R.Denot) → Step K 𝓛 (‵ (lies_at R full_share (block_ptr b o) now) ∷ Γ) G
      (‵ (left ((MutRef (named 0) (α ∷ []) R).exit yes) (lent_ref b o γ h) now) ∷ ‵ (flft (α ∷ []) full_share)
      ∷ ‵ (flent (α ∷ []) (Held (mem R) b o γ)) ∷ Γ) G
  memory_back t a α γ now = step (λ s.
      fsplit t $ move t (2 ∷ []) $ lft_end t a $ move t (0 ∷ 3 ∷ 1 ∷ []) $
      use3 𝓛 (later (‵ (lies_at R full_share (block_ptr b o) now))) (ref_back 𝓛 R (α ∷ []) γ now b o) $ await t a $ move t (1 ∷ []) $ drop t $ s)

-- what a list has after its first element
abbrev pub after_first : {X : Type 2} → List X → List X
after_first [] = []
after_first (x ∷ xs) = xs

-- what is said of the memory's value
pub told : {M : Type 1} {𝓤 : Ura M} {K : Type 0} (𝓛 : Logic 𝓤) {Γ : List (Item 𝓤)} {G : Goal 𝓤 𝓛.H} → K → (Q : R.Denot → Type 0) (p : Ptr)
    (now : R.Denot) → Q now → Step K 𝓛 (raw (ex 𝓤 (λ (h : R.Denot). sep 𝓤 (sem 𝓛 (lies_at R full_share p h)) (fact 𝓤 (Q h)))) ∷ Γ) G
    (‵ (lies_at R full_share p now) ∷ Γ) G
told {𝓤 = 𝓤} 𝓛 t Q p now said = step (λ s.
    use0 𝓛 (raw (fact 𝓤 (Q now))) (fact_i 𝓤 _ (emp 𝓤) said) $ move t (1 ∷ 0 ∷ []) $ join t $
    use1 𝓛 (raw (ex 𝓤 (λ (h : R.Denot). sep 𝓤 (sem 𝓛 (lies_at R full_share p h)) (fact 𝓤 (Q h)))))
    (ex_i 𝓤 (λ (h : R.Denot). sep 𝓤 (sem 𝓛 (lies_at R full_share p h)) (fact 𝓤 (Q h))) now) $ s)

-- ---- what is known of a parameter: its machine values, and that they are of its types
module _ {M : Type 1} {𝓤 : Ura M} (𝓛 : Logic 𝓤) where
  pub record Known (R : RattleType) : Type 1 where
    pub vals : R.Denot → List Val
    pub tells : Tells R (Is R) vals
    pub lawful : Lawful 𝓛 R

  abbrev pub number : (w : Width) → Known (UInt w)
  number w = record { vals = uint_vals w; tells = uint_Tells w; lawful = uint_Lawful 𝓛 w }

  abbrev pub pointer : Known RawPtr
  pointer = record { vals = rawptr_vals; tells = rawptr_Tells; lawful = rawptr_Lawful 𝓛 }

  abbrev pub lent_struct : (ℓ : Lifetime) (κ : Lft) (R : RattleType) → Known (MutRef ℓ κ R)
  lent_struct ℓ κ R = record { vals = mut_vals; tells = mut_Tells ℓ κ R; lawful = mut_Lawful 𝓛 ℓ κ R }

  abbrev pub lent_slice : (ℓ : Lifetime) (κ : Lft) (R : RattleType) → Known (MutSlice ℓ κ R)
  lent_slice ℓ κ R = record { vals = mut_slice_vals; tells = mut_slice_Tells ℓ κ R; lawful = mut_slice_Lawful 𝓛 ℓ κ R }

  abbrev pub shared_slice : (ℓ : Lifetime) (κ : Lft) (R : RattleType) → Known (ShrSlice ℓ κ R)
  shared_slice ℓ κ R = record { vals = shr_slice_vals; tells = shr_slice_Tells ℓ κ R; lawful = shr_slice_Lawful 𝓛 ℓ κ R }

  abbrev pub Knowns : List RattleType → Type 1
  Knowns [] = Unit {1}
  Knowns (R ∷ Rs) = Known R × Knowns Rs

  abbrev spells : (Rs : List RattleType) → Knowns Rs → Spells Rs
  spells [] ks = tt
  spells (R ∷ Rs) ks = (ks.0.vals, spells Rs ks.1)

  spelled : (Rs : List RattleType) (ks : Knowns Rs) → Tellss Rs (Ises Rs) (spells Rs ks)
  spelled [] ks = tt
  spelled (R ∷ Rs) ks = (ks.0.tells, spelled Rs ks.1)

  lawfuls : (Rs : List RattleType) → Knowns Rs → Lawfuls 𝓛 Rs
  lawfuls [] ks = tt
  lawfuls (R ∷ Rs) ks = (ks.0.lawful, lawfuls Rs ks.1)

  abbrev pub all_vals : (Rs : List RattleType) → Knowns Rs → Denots Rs → Valss Rs
  all_vals Rs ks = valss Rs (spells Rs ks)

  abbrev pub in_row : (Rs : List RattleType) → Knowns Rs → Denots Rs → List Val
  in_row Rs ks a = flat Rs (all_vals Rs ks a)

  module _ (𝓜 : Model 𝓤 𝓛.H) (𝓡 : Running 𝓤 𝓛.H 𝓜) where
    -- a call and a function's code, of this machine
    abbrev pub calls : Callee → Fun 𝓤
    calls = (tables 𝓤 𝓛.H 𝓜 𝓡 𝓡.env).C

    abbrev pub code_of : Fn → Fun 𝓤
    code_of = WpFn 𝓤 𝓛.H calls (tables 𝓤 𝓛.H 𝓜 𝓡 𝓡.env).Λ

    -- A function meets its contract where its code does, from its parameters' machine values.
    pub by_values : (S : Signature) (c : Spec 𝓤 S) (k : Callee) (e : Fn) → Closed 𝓤 𝓛.H calls (tables 𝓤 𝓛.H 𝓜 𝓡 𝓡.env).Λ k e
        → (ks : (κs : Lfts S.lifetimes) → Knowns (types_at S.params κs))
        → ((κs : Lfts S.lifetimes) (qs : Shares S.lifetimes) (bounds : AllOutlive S.lifetimes S.outlives κs) (a : Args S κs) (h : (c κs a).ghost)
        → Typed (mirs (types_at S.params κs)) (in_row (types_at S.params κs) (ks κs) a)
        → ent 𝓤 (sep 𝓤 (on_entry 𝓛 S κs qs a (all_vals (types_at S.params κs) (ks κs) a)) ((c κs a).requires h))
        (code_of e (in_row (types_at S.params κs) (ks κs) a) ((triple_of 𝓛 S c).post ((κs, qs, bounds, a, all_vals (types_at S.params κs) (ks κs) a), h))))
        → Meets 𝓛 S (calls k) c
    by_values S c k e closed ks walk =
        entered 𝓤 𝓛.H (triple_of 𝓛 S c) calls (tables 𝓤 𝓛.H 𝓜 𝓡 𝓡.env).Λ k e closed (λ y.
        let Rs = types_at S.params y.0.0 in
        let known = ks y.0.0 in
        let asked : SProp 𝓤 = (c y.0.0 y.0.3).requires y.1 in
        let Q : Vals S y.0.0 → SProp 𝓤 = λ us. code_of e (flat Rs us) ((triple_of 𝓛 S c).post ((y.0.0, y.0.1, y.0.2, y.0.3, us), y.1)) in
        via 𝓤 (sep 𝓤 asked (wand 𝓤 asked (Q y.0.4)))
        (via 𝓤 (sep 𝓤 (wand 𝓤 asked (Q y.0.4)) asked)
        (mono_l 𝓤 asked (said 𝓛 S y.0.0 y.0.1 (spells Rs known) (spelled Rs known) y.0.3 (λ us. wand 𝓤 asked (Q us)) y.0.4
        (λ are. wand_i 𝓤 _ asked _ (walk y.0.0 y.0.1 y.0.2 y.0.3 y.1 (all_Typed 𝓛 Rs (lawfuls Rs known) y.0.3 (all_vals Rs known y.0.3) are)))))
        (comm∗ 𝓤 (wand 𝓤 asked (Q y.0.4)) asked))
        (apply∗ 𝓤 asked (Q y.0.4)))

-- a call, given what it leaves: a fact of the result, and what is to be shown
pub hands : {M : Type 1} {𝓤 : Ura M} {𝓛 : Logic 𝓤} {K : Type 0} {Γ : List (Item 𝓤)} {C : Calls 𝓤 𝓛.H} {Λ : Loops 𝓤 𝓛.H} {E : Env 𝓤 𝓛.H} {q : Post 𝓤 𝓛.H}
    {xs : List Opd} {d : Place} {rest : Body} {P : SProp 𝓤} → K → FmC 𝓤 𝓛.H 𝓛.laws C → (g : Callee) (vs : List Val) (Φ : Val → Type 0) (Q : Val → SProp 𝓤)
    → ent 𝓤 P (𝓛.H.⇛ (C g vs (λ v. 𝓛.H.⇛ (guard 𝓤 (Φ v) (Q v))))) → Opds K 𝓛 (raw (C g vs (λ v. 𝓛.H.⇛ (guard 𝓤 (Φ v) (Q v)))) ∷ Γ) E xs vs
    → ((v : Val) → Φ v → Seq K 𝓛 (raw (Q v) ∷ Γ) (lands C Λ E d v rest q)) → Seq K 𝓛 (raw P ∷ Γ) (runs C Λ E (seq (call g xs d) rest) q)
hands {𝓤 = 𝓤} {𝓛 = 𝓛} {C = C} t fm g vs Φ Q leads os k =
    let after : Val → SProp 𝓤 = λ v. 𝓛.H.⇛ (guard 𝓤 (Φ v) (Q v)) in
    use1 𝓛 (later (raw (C g vs after))) leads $ await t tt $ calls_from t fm (raw (C g vs after)) vs after (id⊢ 𝓤 _) os (λ v.
    use1 𝓛 (later (given (Φ v) (raw (Q v)))) (id⊢ 𝓤 _) $ await t tt $ learn t (k v))

-- how a walk ends: at a result and last values that it names
pub ends : {M : Type 1} {𝓤 : Ura M} (𝓛 : Logic 𝓤) (T : Ended) (c : Clauses 𝓤 T) (y : (triple_of 𝓛 T.signature (closing 𝓛 T c)).Ghost) (v : Val)
    (r : Res T.signature y.0.0) (ws : Lasts T y.0.0 y.0.3) → ent 𝓤 (sep 𝓤 (sep 𝓤 (alive 𝓛 T.signature y.0.0 y.0.1)
    (sem 𝓛 ((type_at T.signature.result y.0.0).own_val r (v ∷ []))))
    (sep 𝓤 (sem 𝓛 (lasts T y.0.0 y.0.3 ws)) ((c y.0.0 y.0.3).ensures y.1 r (at_exit T y.0.0 y.0.3 ws)))) ((triple_of 𝓛 T.signature (closing 𝓛 T c)).post y v)
ends {𝓤 = 𝓤} 𝓛 T c y v r ws =
    let back = λ (r' : Res T.signature y.0.0). sep 𝓤 (alive 𝓛 T.signature y.0.0 y.0.1) (sem 𝓛 ((type_at T.signature.result y.0.0).own_val r' (v ∷ []))) in
    let said = λ (ws' : Lasts T y.0.0 y.0.3). sep 𝓤 (sem 𝓛 (lasts T y.0.0 y.0.3 ws')) ((c y.0.0 y.0.3).ensures y.1 r (at_exit T y.0.0 y.0.3 ws')) in
    qed 𝓛 (raw (back r) ∷ raw (said ws) ∷ []) ∵ updating ! $ at_once ! $ show ! (λ r'. sep 𝓤 (back r') (ensured 𝓛 T c y.0.0 y.0.3 y.1 r')) r $ frame ! $
    show ! said ws $ done !

-- ---- an export, by its parameters after the pointer
module _ (T : Ended) where
  abbrev S : Signature
  S = T.signature

  abbrev exported : Ended
  exported = record {
    signature = record { lifetimes = S.lifetimes; outlives = S.outlives; params = plain (λ _. RawPtr) ∷ S.params; result = S.result };
    kept = (yes, T.kept);
  }

  -- the code hands its parameters on to a function
  abbrev pub HandsOn : {M : Type 1} {𝓤 : Ura M} (𝓛 : Logic 𝓤) (𝓜 : Model 𝓤 𝓛.H) (𝓡 : Running 𝓤 𝓛.H 𝓜) → Fn
      → ((κs : Lfts S.lifetimes) → Knowns 𝓛 (types_at S.params κs)) → Callee → (Val → Type 0) → Type 2
  HandsOn {𝓤 = 𝓤} 𝓛 𝓜 𝓡 e ks g Φ =
      (κs : Lfts S.lifetimes) (a : Args S κs) (b o : ℕ) (P : SProp 𝓤) (Q : Val → SProp 𝓤)
      → Typed (mirs (types_at S.params κs)) (in_row 𝓛 (types_at S.params κs) (ks κs) a)
      → ent 𝓤 P (𝓛.H.⇛ (calls 𝓛 𝓜 𝓡 g (vptr b o ∷ in_row 𝓛 (types_at S.params κs) (ks κs) a) (λ v. 𝓛.H.⇛ (guard 𝓤 (Φ v) (Q v)))))
      → ent 𝓤 P (code_of 𝓛 𝓜 𝓡 e (vptr b o ∷ in_row 𝓛 (types_at S.params κs) (ks κs) a) Q)

  module _ (Says : (κs : Lfts S.lifetimes) → R.Denot → Args S κs → Res S κs → R.Denot → AtExit T κs → Type 0) {M : Type 1} {𝓤 : Ura M} (𝓛 : Logic 𝓤) where
    open 𝓛 use {H}

    abbrev clauses : Clauses 𝓤 exported
    clauses κs a = record {
      ghost = R.Denot;
      requires = λ h. sem 𝓛 (lies_at R full_share a.0 h);
      ensures = λ h n end. ex 𝓤 (λ (h' : R.Denot). sep 𝓤 (sem 𝓛 (lies_at R full_share a.0 h')) (fact 𝓤 (Says κs h a.1 n h' end.1)));
    }

    -- the contract of a function that takes the engine's value in the pointer's place
    abbrev taking : Contract 𝓤
    taking = record {
      Ghost = ((κs : Lft × Lfts S.lifetimes) × (Share × Shares S.lifetimes) × AllOutlive S.lifetimes S.outlives κs.1
          × (MutBor R.Denot × Args S κs.1) × (List Val × Vals S κs.1)) × Unit {0};
      args = λ y. y.0.4.0 ++ flat (types_at S.params y.0.0.1) y.0.4.1;
      pre = λ y. sep 𝓤 (sep 𝓤 (sep 𝓤 (sem 𝓛 (flft y.0.0.0 y.0.1.0)) (alive 𝓛 S y.0.0.1 y.0.1.1))
          (sep 𝓤 (sem 𝓛 ((MutRef (named 0) y.0.0.0 R).own_val y.0.3.0 y.0.4.0)) (sem 𝓛 (owns (types_at S.params y.0.0.1) y.0.3.1 y.0.4.1)))) (emp 𝓤);
      post = λ y v. H.⇛ (ex 𝓤 (λ (x : Res S y.0.0.1). sep 𝓤 (sep 𝓤 (sep 𝓤 (sem 𝓛 (flft y.0.0.0 y.0.1.0)) (alive 𝓛 S y.0.0.1 y.0.1.1))
          (sem 𝓛 ((type_at S.result y.0.0.1).own_val x (v ∷ []))))
          (ex 𝓤 (λ (ws : R.Denot × Lasts T y.0.0.1 y.0.3.1). sep 𝓤 (sep 𝓤 (sem 𝓛 (left ((MutRef (named 0) y.0.0.0 R).exit yes) y.0.3.0 ws.0))
          (sem 𝓛 (lasts T y.0.0.1 y.0.3.1 ws.1))) (fact 𝓤 (Says y.0.0.1 y.0.3.0.now y.0.3.1 x ws.0 (at_exit T y.0.0.1 y.0.3.1 ws.1)))))));
    }

    module _ (κs : Lfts S.lifetimes) (qs : Shares S.lifetimes) (bounds : AllOutlive S.lifetimes S.outlives κs) (a : Args S κs) (vss : Vals S κs)
        (h : R.Denot) where
      abbrev result : Res S κs → Val → SProp 𝓤
      result x v = sem 𝓛 ((type_at S.result κs).own_val x (v ∷ []))

      abbrev shown : Ptr → Val → Res S κs → SProp 𝓤
      shown p v x = sep 𝓤 (sep 𝓤 (alive 𝓛 S κs qs) (result x v)) (ensured 𝓛 exported clauses κs (p, a) h x)

      abbrev z : (b o α γ : ℕ) → taking.Ghost
      z b o α γ = (((α ∷ [], κs), (full_share, qs), bounds, (lent_ref b o γ h, a), (vptr b o ∷ [], vss)), tt)

      module _ (run : Fun 𝓤) (fm : FmF 𝓤 run) (met : Triple 𝓤 run taking) (Φ : Val → Type 0)
          (tells : (x : Res S κs) (v : Val) → ent 𝓤 (result x v) (guard 𝓤 (Φ v) (result x v))) (b o : ℕ) where
        -- after the call the memory is back
        over : (α γ : ℕ) (v : Val) → ent 𝓤 (sep 𝓤 (taking.post (z b o α γ) v) (sem 𝓛 (flent (α ∷ []) (Held (mem R) b o γ))))
            (H.⇛ (guard 𝓤 (Φ v) (H.⇛ (ex 𝓤 (shown (block_ptr b o) v)))))
        over α γ v =
            qed 𝓛 (raw (taking.post (z b o α γ) v) ∷ ‵ (flent (α ∷ []) (Held (mem R) b o γ)) ∷ []) ∵ updating ! $
            use1 𝓛 (later (some (λ (x : Res S κs). ((‵ (flft (α ∷ []) full_share) ⊛ raw (alive 𝓛 S κs qs)) ⊛ raw (result x v)) ⊛
            some (λ (ws : R.Denot × Lasts T κs a). (‵ (left ((MutRef (named 0) (α ∷ []) R).exit yes) (lent_ref b o γ h) ws.0) ⊛ ‵ (lasts T κs a ws.1)) ⊛
            raw (fact 𝓤 (Says κs h a x ws.0 (at_exit T κs a ws.1))))))) (id⊢ 𝓤 _) $
            await ! tt $ pick ! (λ x. split ! $ split ! $ split ! $ move ! (3 ∷ []) $ pick ! (λ ws. split ! $ split ! $ move ! (2 ∷ []) $ heard ! _ (λ said.
            -- [what the loan was at last; the rest's last values; the loan's token; the tokens; the result; the lender's part]
            move ! (0 ∷ 2 ∷ 5 ∷ []) $ memory_back h b o ! tt α γ ws.0 $ told 𝓛 ! (λ h'. Says κs h a x h' (at_exit T κs a ws.1)) (block_ptr b o) ws.0 said $
            move ! (3 ∷ []) $ use1 𝓛 (given (Φ v) (raw (result x v))) (tells x v) $ learn ! (λ is.
            at_once ! $ suffices ! (H.⇛ (ex 𝓤 (shown (block_ptr b o) v))) (guard_i 𝓤 (Φ v) _ is) $
            suffices ! _ (ends 𝓛 exported clauses ((κs, qs, bounds, (block_ptr b o, a), (rawptr_vals (block_ptr b o), vss)), h) v x (tt, ws.1)) $
            -- [the result; the memory; the rest's last values; the tokens]
            move ! (3 ∷ 0 ∷ []) $ join ! $ nothing ! $ move ! (0 ∷ 3 ∷ []) $ join ! $ move ! (1 ∷ 0 ∷ []) $ done !))))

        -- before the call it is lent
        handed : (p : Ptr) → ent 𝓤
            (sep 𝓤 (sep 𝓤 (alive 𝓛 S κs qs) (sep 𝓤 (sem 𝓛 (RawPtr.own_val p (rawptr_vals p))) (sem 𝓛 (owns (types_at S.params κs) a vss))))
            (sem 𝓛 (lies_at R full_share (block_ptr b o) h)))
            (H.⇛ (run (vptr b o ∷ flat (types_at S.params κs) vss) (λ v. H.⇛ (guard 𝓤 (Φ v) (H.⇛ (ex 𝓤 (shown (block_ptr b o) v)))))))
        handed p =
            qed 𝓛 ((raw (alive 𝓛 S κs qs) ⊛ (‵ (RawPtr.own_val p (rawptr_vals p)) ⊛ ‵ (owns (types_at S.params κs) a vss)))
            ∷ ‵ (lies_at R full_share (block_ptr b o) h) ∷ []) ∵
            updating ! $ split ! $ move ! (1 ∷ []) $ split ! $ drop ! $ move ! (2 ∷ []) $ memory_lent h b o ! tt (λ α γ.
            -- [the loan; the lender's part; its token; what the rest owns; the tokens]
            nothing ! $ move ! (1 ∷ 4 ∷ []) $ join ! $ move ! (3 ∷ 4 ∷ []) $ join ! $ join ! $ join ! $
            use1 𝓛 (raw (run (vptr b o ∷ flat (types_at S.params κs) vss) (taking.post (z b o α γ)))) (met (z b o α γ)) $
            at_once ! $ by ! (fm _ _ _ (sem 𝓛 (flent (α ∷ []) (Held (mem R) b o γ))) (over α γ)))

    -- An export meets its contract where the function does.
    pub by_pointer : (𝓜 : Model 𝓤 H) (𝓡 : Running 𝓤 H 𝓜) (k : Callee) (e : Fn) → Closed 𝓤 H (calls 𝓛 𝓜 𝓡) (tables 𝓤 H 𝓜 𝓡 𝓡.env).Λ k e
        → (ks : (κs : Lfts S.lifetimes) → Knowns 𝓛 (types_at S.params κs)) (g : Callee) → Triple 𝓤 (calls 𝓛 𝓜 𝓡 g) taking → (Φ : Val → Type 0)
        → ((κs : Lfts S.lifetimes) (x : Res S κs) (v : Val) → ent 𝓤 (sem 𝓛 ((type_at S.result κs).own_val x (v ∷ [])))
        (guard 𝓤 (Φ v) (sem 𝓛 ((type_at S.result κs).own_val x (v ∷ []))))) → HandsOn 𝓛 𝓜 𝓡 e ks g Φ
        → Meets 𝓛 exported.signature (calls 𝓛 𝓜 𝓡 k) (closing 𝓛 exported clauses)
    by_pointer 𝓜 𝓡 k e closed ks g met Φ tells walk =
        by_values 𝓛 𝓜 𝓡 exported.signature (closing 𝓛 exported clauses) k e closed (λ κs. (pointer 𝓛, ks κs)) (λ κs qs bounds a h typed.
        let Rs = types_at S.params κs in
        let vss = all_vals 𝓛 Rs (ks κs) a.1 in
        qed 𝓛 (raw (on_entry 𝓛 exported.signature κs qs a (rawptr_vals a.0, vss)) ∷ ‵ (lies_at R full_share a.0 h) ∷ []) ∵ move ! (1 ∷ []) $
        in_a_block ! a.0 (λ p. lies_at R full_share p h) (id⊢ 𝓤 _) (λ b o same.
        regoal ! (λ p. prop (code_of 𝓛 𝓜 𝓡 e (ptr_val p ∷ flat Rs vss) (λ v. H.⇛ (ex 𝓤 (shown κs qs bounds a.1 vss h p v))))) same refl $ move ! (1 ∷ []) $
        by ! (walk κs a.1 b o _ _ typed.1 (handed κs qs bounds a.1 vss h (calls 𝓛 𝓜 𝓡 g) (framed 𝓤 H 𝓜 (tables 𝓤 H 𝓜 𝓡 𝓡.env) g) met Φ (tells κs) b o a.0))))

-- ---- the result is a number
abbrev pub IsNumber : Val → Type 0
IsNumber v = T (has_ty (ty_int w32) v) × WT v

-- what owns a number says that it is one
pub number_shown : {M : Type 1} {𝓤 : Ura M} (𝓛 : Logic 𝓤) (n : ℕ) (v : Val)
    → ent 𝓤 (sem 𝓛 (u32.own_val n (v ∷ []))) (guard 𝓤 (IsNumber v) (sem 𝓛 (u32.own_val n (v ∷ []))))
number_shown {𝓤 = 𝓤} 𝓛 n v =
    fact_use 𝓤 (Is u32 n (v ∷ [])) (shows 𝓛 u32 n (v ∷ [])) (λ is. guard_i 𝓤 (IsNumber v) _ ((uint_Lawful 𝓛 w32).typed n (v ∷ []) is).0)

-- ---- an export with up to two numbers between the engine and a struct
module _ (F : RattleType) where
  abbrev numbers : ℕ → List (Slot 1)
  numbers zero = mut_ref_to (0 ∷ []) tt (plain (λ _. F)) ∷ []
  numbers (suc n) = plain (λ _. u32) ∷ numbers n

  abbrev rest : ℕ → Ended
  rest n = record { signature = record { lifetimes = 1; outlives = []; params = numbers n; result = plain (λ _. u32) }; kept = all yes (numbers n) }

  -- a claim about them, the result, the struct, and both at the end
  abbrev pub Claim : ℕ → Type 1
  Claim zero = ℕ → F.Denot → R.Denot → F.Denot → Type 0
  Claim (suc n) = ℕ → Claim n

  abbrev claimed : (n : ℕ) → Claim n → (κs : Lfts 1) → Args (rest n).signature κs → ℕ → R.Denot → AtExit (rest n) κs → Type 0
  claimed zero Says κs (r, _) result h (x, _) = Says result r.now h x.now
  claimed (suc n) Says κs (number, a) result h (_, end) = claimed n (Says number) κs a result h end

  abbrev knowns : (n : ℕ) {M : Type 1} {𝓤 : Ura M} (𝓛 : Logic 𝓤) (κs : Lfts 1) → Knowns 𝓛 (types_at (numbers n) κs)
  knowns zero 𝓛 κs = (lent_struct 𝓛 (named 0) κs.0 F, tt)
  knowns (suc n) 𝓛 κs = (number 𝓛 w32, knowns n 𝓛 κs)

abbrev locals_of : ℕ → List Local → List Local
locals_of zero ls = ls
locals_of (suc n) ls = local (ty_int w32) value_local ∷ locals_of n ls

abbrev copies_of : ℕ → ℕ → List Opd → List Opd
copies_of zero first os = os
copies_of (suc n) first os = copy (place first []) ∷ copies_of n (first + 1) os

-- the claim of a look-up of counts, and of a change of a route
abbrev pub Counted : {N : Type 0} → (ℕ → EngineState → N → Type 0) → (ℕ → EngineState → Type 0) → Refusal → R.Denot → ℕ → ℕ → N → R.Denot → N → Type 0
Counted Is IsNot why h which n old h' x = (h' ≡ h) × SetsOrRefuses (Is which) (IsNot which) why h.running h.missing old x n

abbrev pub Rerouted : (Route → Option EngineState → Refusal → Option EngineState → ℕ → Type 0) → R.Denot → ℕ → Route → R.Denot → Route → Type 0
Rerouted Answers h n old h' x =
    Answers old h.running h.missing h'.running n × (h'.missing ≡ h.missing) × (h'.explanation ≡ h.explanation) × (x ≡ old)

-- &mut *at, the numbers and &mut *out are passed on
abbrev passed_on : ℕ → (host struct host_at struct_at : Ty) → Callee → Fn
passed_on n host struct host_at struct_at callee = record {
  lifetimes = 1;
  outlives = [];
  ty_params = [];
  givens = 0;
  params = n + 2;
  locals = local (ty_int w32) value_local ∷ local ty_ptr value_local ∷ locals_of n (local (ty_ref (named 0) mut struct) value_local
      ∷ local ty_ptr value_local ∷ local (ty_ref erased mut host) value_local ∷ local (ty_ref erased mut struct) value_local ∷ []);
  body = seq (assign (place (n + 3) []) (rv_opd (copy (place 1 [])))) (seq (assign (place (n + 4) []) (addr_of (place (n + 3) (deref host_at ∷ []))))
      (seq (assign (place (n + 5) []) (addr_of (place (n + 2) (deref struct_at ∷ []))))
      (seq (call callee (copy (place (n + 4) []) ∷ copies_of n 2 (copy (place (n + 5) []) ∷ [])) (place 0 [])) return)));
}

abbrev Few : ℕ → Type 0
Few (suc (suc (suc n))) = ⊥
Few n = Unit {0}

module _ (F : RattleType) {M : Type 1} {𝓤 : Ura M} (𝓛 : Logic 𝓤) (𝓜 : Model 𝓤 𝓛.H) (𝓡 : Running 𝓤 𝓛.H 𝓜) (host struct host_at struct_at : Ty)
    (callee : Callee) where
  -- the code, at each number of numbers
  walks : (n : ℕ) → Few n → HandsOn (rest F n) 𝓛 𝓜 𝓡 (passed_on n host struct host_at struct_at callee) (knowns F n 𝓛) callee IsNumber
  walks zero low = λ κs a b o P Q typed leads.
      qed 𝓛 (raw P ∷ []) ∵ enter ! _ _ _ _ _ $ alloc_all ! (λ l. pass_all ! refl ((tt, tt), typed) $ sets ! (of_opd ! (get ! refl)) refl (tt, tt) $
      sets ! (addr ! (through ! refl (stop !))) refl (tt, tt) $ sets ! (addr ! (through ! refl (stop !))) refl (tt, tt) $
      hands ! (framed 𝓤 𝓛.H 𝓜 (tables 𝓤 𝓛.H 𝓜 𝓡 𝓡.env)) callee _ IsNumber Q leads
      (and_then ! (get ! refl) (and_then ! (get ! refl) (no_more !))) (λ v is.
      lands_as ! refl refl is $ returns ! (look_at ! 0 refl) $ free_all ! refl $ done !))
  walks (suc zero) low = λ κs a b o P Q typed leads.
      qed 𝓛 (raw P ∷ []) ∵ enter ! _ _ _ _ _ $ alloc_all ! (λ l. pass_all ! refl ((tt, tt), typed) $ sets ! (of_opd ! (get ! refl)) refl (tt, tt) $
      sets ! (addr ! (through ! refl (stop !))) refl (tt, tt) $ sets ! (addr ! (through ! refl (stop !))) refl (tt, tt) $
      hands ! (framed 𝓤 𝓛.H 𝓜 (tables 𝓤 𝓛.H 𝓜 𝓡 𝓡.env)) callee _ IsNumber Q leads
      (and_then ! (get ! refl) (and_then ! (get ! refl) (and_then ! (get ! refl) (no_more !)))) (λ v is.
      lands_as ! refl refl is $ returns ! (look_at ! 0 refl) $ free_all ! refl $ done !))
  walks (suc (suc zero)) low = λ κs a b o P Q typed leads.
      qed 𝓛 (raw P ∷ []) ∵ enter ! _ _ _ _ _ $ alloc_all ! (λ l. pass_all ! refl ((tt, tt), typed) $ sets ! (of_opd ! (get ! refl)) refl (tt, tt) $
      sets ! (addr ! (through ! refl (stop !))) refl (tt, tt) $ sets ! (addr ! (through ! refl (stop !))) refl (tt, tt) $
      hands ! (framed 𝓤 𝓛.H 𝓜 (tables 𝓤 𝓛.H 𝓜 𝓡 𝓡.env)) callee _ IsNumber Q leads
      (and_then ! (get ! refl) (and_then ! (get ! refl) (and_then ! (get ! refl) (and_then ! (get ! refl) (no_more !))))) (λ v is.
      lands_as ! refl refl is $ returns ! (look_at ! 0 refl) $ free_all ! refl $ done !))
  walks (suc (suc (suc n))) low = absurd low

module _ (F : RattleType) (n : ℕ) (few : Few n) (Says : R.Denot → Claim F n) where
  abbrev says : (κs : Lfts 1) → R.Denot → Args (rest F n).signature κs → ℕ → R.Denot → AtExit (rest F n) κs → Type 0
  says κs h = claimed F n (Says h) κs

  -- such an export meets its contract
  pub lent : {M : Type 1} {𝓤 : Ura M} (𝓛 : Logic 𝓤) (𝓜 : Model 𝓤 𝓛.H) (𝓡 : Running 𝓤 𝓛.H 𝓜) (host struct host_at struct_at : Ty) (callee k : Callee)
      → Closed 𝓤 𝓛.H (calls 𝓛 𝓜 𝓡) (tables 𝓤 𝓛.H 𝓜 𝓡 𝓡.env).Λ k (passed_on n host struct host_at struct_at callee)
      → Triple 𝓤 (𝓡.run (𝓡.env callee)) (taking (rest F n) says 𝓛)
      → Meets 𝓛 (exported (rest F n)).signature (𝓡.run (𝓡.env k)) (closing 𝓛 (exported (rest F n)) (clauses (rest F n) says 𝓛))
  lent 𝓛 𝓜 𝓡 host struct host_at struct_at callee k unfolded met =
      by_pointer (rest F n) says 𝓛 𝓜 𝓡 k (passed_on n host struct host_at struct_at callee) unfolded (knowns F n 𝓛) callee met IsNumber
      (λ κs. number_shown 𝓛) (walks F 𝓛 𝓜 𝓡 host struct host_at struct_at callee n few)
