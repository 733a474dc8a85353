-- One capture more that is open.
use Rattle.std.proofs.Common.{◌≡◌, ℕ, zero, suc, Ok, Err, Result, ◌+◌, ◌<◌, ◌≤◌, List, [], ◌∷◌, ◌++◌, Some}
use Rattle.std.proofs.Common.{length, map, take, refl, ap, sym, ◌∙◌, subst, add-one, append_assoc, arith}
use Rattle.dp_pcap.specs.{declared.of_buf_reader.OfBufReader.OfBufReader, declared.of_buf_writer.OfBufWriter.OfBufWriter}
use Rattle.std.proofs.Math.Seq.{take-length}
use Rattle.std.specs.Prelude.{OnOk, option_map, slice_get, slice_index_or}
use Rattle.dp_captures.specs.{declared.faults.CaptureFault.CaptureFault, declared.file_id.ReadFile.ReadFile, declared.guard.Kept.Kept}
use Rattle.dp_captures.specs.declared.faults.CaptureFault.TheVariants as fault
use Rattle.dp_captures.specs.{declared.guarded.Guarded.Guarded, declared.input_file.InputFile.InputFile, declared.names.CaptureNames.CaptureNames}
use Rattle.dp_captures.specs.{declared.output_file.OutputFile.OutputFile, declared.watched.Watched.Watched, declared.words.Place.Place}
use Rattle.dp_captures.specs.{Files.AreOpened, Guarding.AreApart, Guarding.AreFilesOf, Guarding.AreGuarded, Guarding.output_target, Guarding.targets}
use Rattle.dp_captures.specs.{Names.input_capture, Names.output_capture, Opening.IsInput, Opening.IsOf, Opening.IsOutput}

-- one element more of a list
pub index_more : {B C : Type 0} (g : B → C) (bs : List B) (k : ℕ) (d : B) → k < length bs
    → map g (take (suc k) bs) ≡ map g (take k bs) ++ g (slice_index_or bs k d) ∷ []
index_more g [] k d within = absurd (omega (arith, within))
index_more g (b ∷ bs) zero d within = refl
index_more g (b ∷ bs) (suc k) d within = ap (λ l. g b ∷ l) (index_more g bs k d (omega (arith, within)))

opened_more : {D : Type 0} (IsOpened : Place × List ℕ → D → Type 0) (captures : List (Place × List ℕ)) (ds : List D) (capture : Place × List ℕ) (d : D)
    → AreOpened IsOpened captures ds → IsOpened capture d → AreOpened IsOpened (captures ++ capture ∷ []) (ds ++ d ∷ [])
opened_more IsOpened [] [] capture d all one = (one, tt)
opened_more IsOpened [] (x ∷ ds) capture d all one = absurd all
opened_more IsOpened (c ∷ captures) [] capture d all one = absurd all
opened_more IsOpened (c ∷ captures) (x ∷ ds) capture d all one = (all.0, opened_more IsOpened captures ds capture d all.1 one)

-- one capture more
pub captures_opened : {D : Type 0} (IsOpened : Place × List ℕ → D → Type 0) (capture_of : CaptureNames → Place × List ℕ) (names : List CaptureNames)
    (ds : List D) (k : ℕ) (name default : CaptureNames) (d : D) → k < length names → name ≡ slice_index_or names k default
    → AreOpened IsOpened (map capture_of (take k names)) ds → IsOpened (capture_of name) d
    → AreOpened IsOpened (map capture_of (take (k + 1) names)) (ds ++ d ∷ [])
captures_opened {D} IsOpened capture_of names ds k name default d within at so_far one =
    rw (add-one k, index_more capture_of names k default within)
    (opened_more IsOpened (map capture_of (take k names)) ds (capture_of (slice_index_or names k default)) d so_far
    (subst (λ (n : CaptureNames). IsOpened (capture_of n) d) at one))

at_index : (names : List CaptureNames) (k : ℕ) (default : CaptureNames) → k < length names → slice_get names k ≡ Some (slice_index_or names k default)
at_index [] k default within = absurd (omega (arith, within))
at_index (n ∷ names) zero default within = refl
at_index (n ∷ names) (suc k) default within = at_index names k default (omega (arith, within))

-- a fault of the capture of a port
named_at : (capture_of : CaptureNames → Place × List ℕ) (names : List CaptureNames) (k : ℕ) (name default : CaptureNames) (named : List ℕ) → k < length names
    → name ≡ slice_index_or names k default → named ≡ (capture_of name).1 → option_map (λ (n : CaptureNames). (capture_of n).1) (slice_get names k) ≡ Some named
named_at capture_of names k name default named within at is = rw (at_index names k default within, ← at, is) refl

pub input_named : (names : List CaptureNames) (k : ℕ) (name default : CaptureNames) (f : CaptureFault) → k < length names
    → name ≡ slice_index_or names k default → IsOf (input_capture name).1 f → IsInput names k f
input_named names k name default fault.Memory within at is = tt
input_named names k name default (fault.File named problem) within at is = named_at input_capture names k name default named.now within at is

pub output_named : (names : List CaptureNames) (k : ℕ) (name default : CaptureNames) (f : CaptureFault) → k < length names
    → name ≡ slice_index_or names k default → IsOf (output_capture name).1 f → IsOutput names f
output_named names k name default fault.Memory within at is = tt
output_named names k name default (fault.File named problem) within at is =
    (k, named_at output_capture names k name default named.now within at is)

-- all captures are open
pub all_opened : {D : Type 0} (IsOpened : Place × List ℕ → D → Type 0) (capture_of : CaptureNames → Place × List ℕ) (names : List CaptureNames) (ds : List D)
    (k : ℕ) → k ≡ length names → AreOpened IsOpened (map capture_of (take k names)) ds → AreOpened IsOpened (map capture_of names) ds
all_opened IsOpened capture_of names ds k all h =
    let whole : take k names ≡ names = ap (λ (n : ℕ). take n names) all ∙ take-length names in
    subst (λ (l : List CaptureNames). AreOpened IsOpened (map capture_of l) ds) whole h

-- what one more input is
pub one_more : {I A : Type 0} (f : I → A) (more before base : List A) (inputs : List I) (k : ℕ) (id : A) (input d : I) → k < length inputs
    → input ≡ slice_index_or inputs k d → id ≡ f input → more ≡ before ++ id ∷ [] → before ≡ base ++ map f (take k inputs)
    → more ≡ base ++ map f (take (k + 1) inputs)
one_more {I} {A} f more before base inputs k id input d within at is grown so_far =
    grown ∙ ap (λ (l : List A). l ++ id ∷ []) so_far ∙ append_assoc base (map f (take k inputs)) (id ∷ [])
    ∙ ap (λ (a : A). base ++ (map f (take k inputs) ++ a ∷ [])) (is ∙ ap f at) ∙ ap (λ (l : List A). base ++ l) (sym (index_more f inputs k d within))
    ∙ ap (λ (n : ℕ). base ++ map f (take n inputs)) (sym (add-one k))

-- all of a list
pub take_past : {A : Type 0} (xs : List A) (k : ℕ) → length xs ≤ k → take k xs ≡ xs
take_past [] zero past = refl
take_past [] (suc k) past = refl
take_past (x ∷ xs) zero past = absurd (omega (arith, past))
take_past {A} (x ∷ xs) (suc k) past = ap (λ (l : List A). x ∷ l) (take_past xs k (omega (arith, past)))

-- two more of a list
pub two_more : {A : Type 0} (first second third reads inputs : List A) (a b : A) → first ≡ reads → second ≡ first ++ inputs → third ≡ second ++ a ∷ []
    → (l : List A) → l ≡ third ++ b ∷ [] → (streams : List A) × (l ≡ reads ++ inputs ++ streams)
two_more {A} first second third reads inputs a b r i t l is = (
  a ∷ b ∷ [],
  is ∙ ap (λ (m : List A). m ++ b ∷ []) (t ∙ ap (λ (m : List A). m ++ a ∷ []) (i ∙ ap (λ (m : List A). m ++ inputs) r))
      ∙ append_assoc (reads ++ inputs) (a ∷ []) (b ∷ []),
)

-- none is open yet
pub none_opened : {D : Type 0} (IsOpened : Place × List ℕ → D → Type 0) (capture_of : CaptureNames → Place × List ℕ) (names : List CaptureNames) (ds : List D)
    → ds ≡ [] → AreOpened IsOpened (map capture_of (take (length ds) names)) ds
none_opened {D} IsOpened capture_of names ds none =
    subst (λ (l : List D). AreOpened IsOpened (map capture_of (take (length l) names)) l) (sym none) tt

pub on_ok : {A E : Type 0} (r : Result A E) (P : Type 0) → P → OnOk r P
on_ok (Ok a) P p = p
on_ok (Err e) P p = tt

-- the outputs are apart, as they are open
pub guarded : {A F : Type 0} (reads : List ReadFile) (inputs inputs' : List (OfBufReader (Watched (InputFile F))))
    (outputs outputs' : List (OfBufWriter (Guarded (OutputFile F)))) (kept : List Kept) (r : Result A CaptureFault) → AreFilesOf reads inputs' kept
    → inputs' ≡ inputs → outputs' ≡ outputs → OnOk r (AreApart (targets kept) (map output_target outputs')) → OnOk r (AreGuarded reads inputs outputs)
guarded reads inputs inputs' outputs outputs' kept (Err e) files i o apart = tt
guarded {A} {F} reads inputs inputs' outputs outputs' kept (Ok done) files i o apart = record {
  kept = kept;
  files = subst (λ (l : List (OfBufReader (Watched (InputFile F)))). AreFilesOf reads l kept) i files;
  apart = subst (λ (l : List (OfBufWriter (Guarded (OutputFile F)))). AreApart (targets kept) (map output_target l)) o apart;
}
