-- The value is made and moved into the caller's memory.
use Rattle.std.proofs.Common.{ℕ, List, [], ◌∷◌, refl}
use seplogic.Ra.Ura.{Ura}
use base.Fraction.{full_share}
use base.Logic.{ent, sep, id⊢}
use base.Fml.{fsep}
use mir.Syntax.{named}
use mir.Val.{Val, vunit}
use contract.Monad.{fact}
use contract.Running.{tables}
use types.Logic.{Logic, sem}
use types.Kit.{‵, raw, ◌⊛◌, some, later, prop, ◌$◌, ◌∵◌, !, qed, done, move, keep, use1, use2, split, join, fjoin, fpack, feq_i, pick, await, regoal, suffices}
use types.Run.{enter, of_opd, unit_lit, stop, init, no_more, and_then, assigns, returns}
use types.ByLocal.{alloc_all, pass_all, free_all, look_at, get, through, sets, lands_as}
use denote.Builtin.{u8}
use denote.Laws.{Is, shows}
use denote.Memory.{lone, cell_at, part_of}
use denote.RattleType.{Valss, flat, owns}
use denote.RawPtr.{Ptr, RawPtr, block_ptr, lies_at, room_at, in_a_block, ptr_val, rawptr_vals}
use denote.Slice.{ShrSlice, shr_slice_vals}
use denote.Steps.{nothing, heard, peeks}
use denote.Triple.Call.{calls_at}
use denote.Triple.Clauses.{closing, lasts}
use denote.Triple.Entry.{alive}
use denote.Triple.Spec.{triple_of}
use denote.Triple.Table.{framed}
use Rattle.std_heap.specs.contracts.Global.{the_row as Heap}
use Rattle.std_heap.proofs.Global.TheLaws as heap_laws
use Rattle.std_heap.proofs.Handle.{heap_val, heap_Tells}
use Rattle.dp_host.specs.Hosts.{Opens}
use Rattle.dp_host.specs.contracts.dpv_begin as f
use Rattle.dp_host.specs.contracts.host.opened as g
use Rattle.dp_host.specs.contracts.host.Host.{the_row as R}
use Rattle.dp_host.proofs.Lent.{by_values, code_of, ends, pointer, shared_slice, told}
use Rattle.dp_host.proofs.host.Host.TheLaws as laws
use Rattle.dp_host.proofs.host.opened.Met.{met}
use Rattle.dp_host.proofs.dpv_begin.Statement.{statement}
use Rattle.dp_host.proofs.dpv_begin.Code as code

abbrev Says : List ℕ → List ℕ → R.Denot → Type 0
Says toml packed h = Opens toml packed h.running h.missing h.explanation

lies : {M : Type 1} {𝓤 : Ura M} (𝓛 : Logic 𝓤) (r : R.Denot) (v : Val) (b o : ℕ)
    → ent 𝓤 (sep 𝓤 (sem 𝓛 (cell_at full_share R.mir (v ∷ []) b o)) (sem 𝓛 (R.own_val r (v ∷ [])))) (sem 𝓛 (lies_at R full_share (block_ptr b o) r))
unfolding part_of
lies 𝓛 r v b o =
    qed 𝓛 (‵ (cell_at full_share R.mir (v ∷ []) b o) ∷ ‵ (R.own_val r (v ∷ [])) ∷ []) ∵ fjoin ! $
    fpack ! (List Val) (λ us. fsep (cell_at full_share R.mir us b o) (R.own_val r us)) (v ∷ []) $ done !

pub dpv_begin_spec : {M : Type 1} → statement M
dpv_begin_spec 𝓤 𝓛 𝓜 𝓡 wired =
    let c = f.clauses 𝓛 𝓜.mem 𝓡.returns in
    by_values 𝓛 𝓜 𝓡 f.ended.signature (closing 𝓛 f.ended c) f.Key.name code.function (code.unfolded 𝓤 𝓛.H 𝓜 𝓡 wired)
    (λ κs. (
      record { vals = λ _. heap_val ∷ []; tells = heap_Tells; lawful = heap_laws.the_row_laws.lawful 𝓛 },
      (pointer 𝓛, (shared_slice 𝓛 (named 0) κs.0 u8, (shared_slice 𝓛 (named 1) κs.1.0 u8, tt))),
    )) (λ κs qs bounds a _ typed.
    let (heap, (at, texts)) = a in let vs = heap_val ∷ [] in
    let Texts = ShrSlice (named 0) κs.0 u8 ∷ ShrSlice (named 1) κs.1.0 u8 ∷ [] in
    let us : Valss Texts = (shr_slice_vals texts.0, (shr_slice_vals texts.1.0, tt)) in
    let Tokens = raw (alive 𝓛 f.ended.signature κs qs) in
    let post = λ (p : Ptr). (triple_of 𝓛 f.ended.signature (closing 𝓛 f.ended c)).post ((κs, qs, bounds, (heap, (p, texts)), (vs, (rawptr_vals p, us))), tt) in
    qed 𝓛 ((Tokens ⊛ (‵ (Heap.own_val heap vs) ⊛ (‵ (RawPtr.own_val at (rawptr_vals at)) ⊛ ‵ (owns Texts texts us)))) ∷ ‵ (room_at R at) ∷ []) ∵
    split ! $ move ! (1 ∷ []) $ split ! $ move ! (1 ∷ []) $ split ! $ keep ! (4 ∷ 1 ∷ 2 ∷ 3 ∷ []) $
    in_a_block ! at (λ p. room_at R p) (id⊢ 𝓤 _) (λ b o e.
    regoal ! (λ p. prop (code_of 𝓛 𝓜 𝓡 code.function (heap_val ∷ ptr_val p ∷ flat Texts us) (post p))) e refl $
    enter ! _ _ _ _ _ $ alloc_all ! (λ l. pass_all ! refl (typed.0, ((tt, tt), typed.1.1)) $
    sets ! (of_opd ! (get ! refl)) refl (tt, tt) $
    -- [the room; the texts; the heap; the tokens]
    let G = triple_of 𝓛 g.signature (g.spec 𝓛 𝓜.mem 𝓡.returns) in
    let z : G.Ghost = ((κs, qs, tt, (heap, texts), (vs, us)), tt) in
    nothing ! $ move ! (3 ∷ 2 ∷ []) $ join ! $ move ! (3 ∷ 0 ∷ []) $ join ! $ join ! $ use1 𝓛 (raw (G.pre z)) (id⊢ 𝓤 _) $
    calls_at ! (framed 𝓤 𝓛.H 𝓜 (tables 𝓤 𝓛.H 𝓜 𝓡 𝓡.env)) G (met 𝓤 𝓛 𝓜 𝓡 (code.calls-dp_host::host::opened 𝓡.env wired)) z
    (and_then ! (get ! refl) (and_then ! (get ! refl) (and_then ! (get ! refl) (no_more !)))) (λ v.
    use1 𝓛 (later (some (λ (r : R.Denot). (Tokens ⊛ ‵ (R.own_val r (v ∷ []))) ⊛ some (λ (ws : Unit {0} × (Unit {0} × (Unit {0} × Unit {0}))).
    ‵ (lasts g.ended z.0.0 z.0.3 ws) ⊛ raw (fact 𝓤 (Says texts.0.now texts.1.0.now r)))))) (id⊢ 𝓤 _) $
    await ! tt $ pick ! (λ r. split ! $ split ! $ move ! (2 ∷ []) $ pick ! (λ ws. split ! $ move ! (1 ∷ []) $ heard ! _ (λ said.
    move ! (2 ∷ []) $ peeks ! R (Is R) (shows 𝓛 R) r (v ∷ []) (λ is. let typed = ((laws.the_row_laws.lawful 𝓛).typed r (v ∷ []) is).0 in lands_as ! refl refl
    typed $
    -- [the value; what the call left; the tokens; the room]
    assigns ! (of_opd ! (get ! refl)) (through ! refl (stop !)) (init ! 3 refl typed) $
    sets ! (of_opd ! (unit_lit !)) refl (tt, tt) $
    returns ! (look_at ! 0 refl) $ free_all ! refl $ keep ! (3 ∷ 0 ∷ 2 ∷ []) $
    use1 𝓛 (‵ (cell_at full_share R.mir (v ∷ []) b o)) (𝓛.laws.at_raw full_share (lone R.mir) b o v) $
    use2 𝓛 (‵ (lies_at R full_share (block_ptr b o) r)) (lies 𝓛 r v b o) $ told 𝓛 ! (Says texts.0.now texts.1.0.now) (block_ptr b o) r said $
    suffices ! _ (ends 𝓛 f.ended c ((κs, qs, bounds, (heap, (block_ptr b o, texts)), (vs, (rawptr_vals (block_ptr b o), us))), tt) vunit tt
    (tt, (tt, (tt, (tt, tt))))) $
    -- [the memory; the tokens]
    feq_i ! _ (vunit ∷ []) _ refl $ nothing ! $ nothing ! $ join ! $ nothing ! $ join ! $ nothing ! $ join ! $ nothing ! $ join ! $
    move ! (3 ∷ 1 ∷ []) $ join ! $ done !))))))))
