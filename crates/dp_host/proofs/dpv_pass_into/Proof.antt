-- The frame, the arrays and the struct are passed on.
use Rattle.std.proofs.Common.{◌≡◌, ℕ, [], ◌∷◌, refl, w32, w64}
use mir.Syntax.{named}
use contract.Lifetimes.{Lfts}
use contract.Running.{tables}
use types.Kit.{raw, ◌$◌, ◌∵◌, !, qed, done}
use types.Part.{whole, sub, agg}
use types.Run.{enter, of_opd, addr, fld, from, hop, stop, no_more, and_then, returns}
use types.ByLocal.{alloc_all, pass_all, free_all, look_at, get, get_in, look_in_at, through, sets, lands_as}
use denote.Builtin.{u8}
use denote.Triple.Clauses.{AtExit, Ended}
use denote.Triple.Entry.{Args}
use denote.Triple.Table.{framed}
use Rattle.dp_host.specs.Hosts.{PassAnswers}
use Rattle.dp_host.specs.contracts.dpv_pass_into as f
use Rattle.dp_host.specs.contracts.host.passed.Key as called
use Rattle.dp_host.specs.contracts.host.Host.{the_row as R}
use Rattle.dp_host.specs.contracts.numbers.Room.{the_row as F}
use Rattle.dp_engine.specs.contracts.batch.SentRecord.{the_row as E}
use Rattle.dp_host.proofs.Lent.{IsNumber, after_first, by_pointer, hands, lent_slice, lent_struct, number, number_shown, shared_slice}
use Rattle.dp_host.proofs.host.passed.Met.{met}
use Rattle.dp_host.proofs.dpv_pass_into.Statement.{statement}
use Rattle.dp_host.proofs.dpv_pass_into.Code as code

abbrev rest : Ended
rest = record { signature = record f.ended.signature { params = after_first f.ended.signature.params }; kept = f.ended.kept.1 }

-- what the call says
abbrev Says : (κs : Lfts 4) → R.Denot → Args rest.signature κs → ℕ → R.Denot → AtExit rest κs → Type 0
Says κs h (port, (time, (frame, (records, (bytes, (_, _)))))) n h' (_, (_, (_, (records', (bytes', (x, _)))))) =
    PassAnswers h.running h.missing h'.running port time frame.now (record { records = records.now; bytes = bytes.now })
    (record { records = records'.now; bytes = bytes'.now }) x.now n
    × (h'.missing ≡ h.missing) × (h'.explanation ≡ h.explanation)

pub dpv_pass_into_spec : {M : Type 1} → statement M
dpv_pass_into_spec 𝓤 𝓛 𝓜 𝓡 wired =
    by_pointer rest Says 𝓛 𝓜 𝓡 f.Key.name code.function (code.unfolded 𝓤 𝓛.H 𝓜 𝓡 wired)
    (λ (κ, (κ', (κ'', (κ3, _)))). (
      number 𝓛 w32,
      (
        number 𝓛 w64,
        (
          shared_slice 𝓛 (named 0) κ u8,
          (
            lent_slice 𝓛 (named 1) κ' E,
            (lent_slice 𝓛 (named 2) κ'' u8, (lent_struct 𝓛 (named 3) κ3 F, tt)),
          ),
        ),
      ),
    ))
    called.name (met 𝓤 𝓛 𝓜 𝓡 (code.calls-dp_host::host::passed 𝓡.env wired)) IsNumber (λ κs. number_shown 𝓛) (λ κs a b o P Q typed leads.
    let (_, (_, (_, (of_records, (of_bytes, _))))) = typed in
    qed 𝓛 (raw P ∷ []) ∵ enter ! _ _ _ _ _ $ alloc_all ! (λ l. pass_all ! refl ((tt, tt), typed) $
    -- &mut *at
    sets ! (of_opd ! (get ! refl)) refl (tt, tt) $
    sets ! (addr ! (through ! refl (stop !))) refl (tt, tt) $
    -- the arrays and the struct, each lent anew by its pointer
    sets ! (addr ! (from ! (fld ! refl (hop ! (look_in_at ! 5 (sub ! 0 refl (whole !))) (stop !))))) refl (tt, tt) $
    sets ! (agg ! (and_then ! (get ! refl) (and_then ! (get_in ! (fld ! refl (stop !)) (sub ! 1 refl (whole !))) (no_more !)))) refl of_records $
    sets ! (addr ! (from ! (fld ! refl (hop ! (look_in_at ! 6 (sub ! 0 refl (whole !))) (stop !))))) refl (tt, tt) $
    sets ! (agg ! (and_then ! (get ! refl) (and_then ! (get_in ! (fld ! refl (stop !)) (sub ! 1 refl (whole !))) (no_more !)))) refl of_bytes $
    sets ! (addr ! (through ! refl (stop !))) refl (tt, tt) $
    hands ! (framed 𝓤 𝓛.H 𝓜 (tables 𝓤 𝓛.H 𝓜 𝓡 𝓡.env)) called.name _ IsNumber Q leads
    (and_then ! (get ! refl) (and_then ! (get ! refl) (and_then ! (get ! refl) (and_then ! (get ! refl) (and_then ! (get ! refl) (and_then ! (get ! refl)
    (and_then ! (get ! refl) (no_more !)))))))) (λ v is.
    lands_as ! refl refl is $ returns ! (look_at ! 0 refl) $ free_all ! refl $ done !)))
