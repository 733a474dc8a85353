-- The frames, the arrays and the struct are passed on.
use Rattle.std.proofs.Common.{◌≡◌, [], ◌∷◌, refl, ap, subst, w32}
use base.Logic.{ent, guard_i, id⊢}
use mir.Syntax.{named}
use mir.Val.{vunit}
use contract.Lifetimes.{Lfts}
use contract.Monad.{fact_use}
use contract.Running.{tables}
use types.Kit.{raw, ◌$◌, ◌∵◌, !, qed, by}
use types.Part.{whole, sub, agg}
use types.Run.{enter, of_opd, unit_lit, addr, fld, from, hop, stop, no_more, and_then, returns}
use types.ByLocal.{alloc_all, pass_all, free_all, look_at, get, get_in, look_in_at, through, sets, lands_as}
use denote.Builtin.{u8, unit}
use denote.Laws.{shows}
use denote.RattleType.{RattleType}
use denote.Signature.{named_lft}
use denote.Steps.{only}
use denote.Triple.Clauses.{AtExit, Ended}
use denote.Triple.Entry.{Args}
use denote.Triple.Table.{framed}
use Rattle.dp_host.specs.Bursts.{BurstAnswers}
use Rattle.dp_host.specs.contracts.dpv_burst_into as f
use Rattle.dp_host.specs.contracts.bursts.burst.Key as called
use Rattle.dp_host.specs.contracts.host.Host.{the_row as R}
use Rattle.dp_host.specs.contracts.numbers.BurstFrame as frame
use Rattle.dp_host.specs.contracts.numbers.Room.{the_row as F}
use Rattle.dp_engine.specs.contracts.batch.SentRecord.{the_row as E}
use Rattle.dp_host.proofs.Lent.{after_first, by_pointer, hands, lent_slice, lent_struct, number}
use Rattle.dp_host.proofs.bursts.burst.Met.{met}
use Rattle.dp_host.proofs.dpv_burst_into.Statement.{statement}
use Rattle.dp_host.proofs.dpv_burst_into.Code as code

-- a frame
abbrev B : Lfts 5 → RattleType
B κs = frame.the_row (named_lft 5 1 tt κs)

abbrev rest : Ended
rest = record { signature = record f.ended.signature { params = after_first f.ended.signature.params }; kept = f.ended.kept.1 }

-- what the call says
abbrev Says : (κs : Lfts 5) → R.Denot → Args rest.signature κs → Unit {0} → R.Denot → AtExit rest κs → Type 0
Says κs h (port, (frames, (records, (bytes, (_, _))))) _ h' (_, (frames', (records', (bytes', (x, _))))) =
    BurstAnswers h.running h.missing h'.running port frames.now frames'.now (record { records = records.now; bytes = bytes.now })
    (record { records = records'.now; bytes = bytes'.now }) x.now
    × (h'.missing ≡ h.missing) × (h'.explanation ≡ h.explanation)

pub dpv_burst_into_spec : {M : Type 1} → statement M
dpv_burst_into_spec 𝓤 𝓛 𝓜 𝓡 wired =
    by_pointer rest Says 𝓛 𝓜 𝓡 f.Key.name code.function (code.unfolded 𝓤 𝓛.H 𝓜 𝓡 wired)
    (λ κs. let (κ, (_, (κ', (κ'', (κ3, _))))) = κs in
    (number 𝓛 w32, (lent_slice 𝓛 (named 0) κ (B κs), (lent_slice 𝓛 (named 2) κ' E, (lent_slice 𝓛 (named 3) κ'' u8, (lent_struct 𝓛 (named 4) κ3 F, tt))))))
    called.name (met 𝓤 𝓛 𝓜 𝓡 (code.calls-dp_host::bursts::burst 𝓡.env wired)) (λ v. v ≡ vunit)
    (λ κs x v. fact_use 𝓤 (v ∷ [] ≡ vunit ∷ []) (shows 𝓛 unit x (v ∷ [])) (λ is. guard_i 𝓤 (v ≡ vunit) _ (ap only is))) (λ κs a b o P Q typed leads.
    let (_, (of_frames, (of_records, (of_bytes, _)))) = typed in
    qed 𝓛 (raw P ∷ []) ∵ enter ! _ _ _ _ _ $ alloc_all ! (λ l. pass_all ! refl ((tt, tt), typed) $
    -- &mut *at
    sets ! (of_opd ! (get ! refl)) refl (tt, tt) $
    sets ! (addr ! (through ! refl (stop !))) refl (tt, tt) $
    -- the arrays and the struct, each lent anew by its pointer
    sets ! (addr ! (from ! (fld ! refl (hop ! (look_in_at ! 3 (sub ! 0 refl (whole !))) (stop !))))) refl (tt, tt) $
    sets ! (agg ! (and_then ! (get ! refl) (and_then ! (get_in ! (fld ! refl (stop !)) (sub ! 1 refl (whole !))) (no_more !)))) refl of_frames $
    sets ! (addr ! (from ! (fld ! refl (hop ! (look_in_at ! 4 (sub ! 0 refl (whole !))) (stop !))))) refl (tt, tt) $
    sets ! (agg ! (and_then ! (get ! refl) (and_then ! (get_in ! (fld ! refl (stop !)) (sub ! 1 refl (whole !))) (no_more !)))) refl of_records $
    sets ! (addr ! (from ! (fld ! refl (hop ! (look_in_at ! 5 (sub ! 0 refl (whole !))) (stop !))))) refl (tt, tt) $
    sets ! (agg ! (and_then ! (get ! refl) (and_then ! (get_in ! (fld ! refl (stop !)) (sub ! 1 refl (whole !))) (no_more !)))) refl of_bytes $
    sets ! (addr ! (through ! refl (stop !))) refl (tt, tt) $
    hands ! (framed 𝓤 𝓛.H 𝓜 (tables 𝓤 𝓛.H 𝓜 𝓡 𝓡.env)) called.name _ (λ v. v ≡ vunit) Q leads
    (and_then ! (get ! refl) (and_then ! (get ! refl) (and_then ! (get ! refl) (and_then ! (get ! refl) (and_then ! (get ! refl) (and_then ! (get ! refl)
    (no_more !))))))) (λ v is.
    lands_as ! is refl (tt, tt) $ sets ! (of_opd ! (unit_lit !)) refl (tt, tt) $
    returns ! (look_at ! 0 refl) $ free_all ! refl $ by ! (subst (λ u. ent 𝓤 (Q v) (Q u)) is (id⊢ 𝓤 (Q v))))))
