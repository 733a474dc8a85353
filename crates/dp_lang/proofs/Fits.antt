-- What is read for a kind is of that kind.
use Rattle.std.proofs.Common.{◌≡◌, ℕ, Bool, true, false, cond, List, [], ◌∷◌, length, Option, Some, None, Result, Ok, Err, refl, subst, ◌-◌, arith}
use Rattle.std.specs.Prelude.{IfOk, IfSome, ◌&&◌, ◌==◌, nat_le}
use Rattle.std.proofs.lemmas.Bool.{leb-true, le-leb}
use Rattle.dp_lang.specs.declared.cause.Cause.{Cause}
use Rattle.dp_lang.specs.declared.cause.Cause.TheVariants.{BadNumber, BadLabel}
use Rattle.dp_lang.specs.declared.form.OperandKind.{OperandKind}
use Rattle.dp_lang.specs.declared.form.OperandKind.TheVariants as kinds
use Rattle.dp_lang.specs.Lines.{trim}
use Rattle.dp_lang.specs.Arguments.{packet, register, constant, label}
use Rattle.dp_lang.specs.Kinds.{register_or, number_where, is_within, is_width, register_or_constant, register_in, number_in, argument_of, is_name, is_of}
use Rattle.dp_lang.specs.Kinds.{all_of}
use Rattle.dp_lang.specs.Reading.{Named, both, ◌>>=◌, onto, each_argument}
use Rattle.dp_lang.specs.declared.cause.LineError.{LineError}
use Rattle.dp_lang.specs.LineErrors.{ReadsAs}

abbrev Passes : OperandKind → Result Named Cause → Type 0
Passes kind read = IfOk read (λ o. is_of kind o ≡ true)

cond_passes : (kind : OperandKind) (b : Bool) (o : Named) (c : Cause) → (b ≡ true → is_of kind o ≡ true) → Passes kind (cond b (Ok o) (Err c))
cond_passes kind true o c h = h refl
cond_passes kind false o c h = tt

number_passes : (kind : OperandKind) (test : ℕ → Bool) (n : Option ℕ) → ((m : ℕ) → test m ≡ true → is_of {L = List ℕ} kind (constant m) ≡ true) →
    Passes kind (number_where test n)
number_passes kind test None h = tt
number_passes kind test (Some m) h = cond_passes kind (test m) (constant m) BadNumber (h m)

-- a digit up to 7 is a register
small : (a b : Bool) (d : ℕ) (c : Bool) → nat_le d 55 ≡ c → IfSome (cond (a && b && c) (Some (d - 48)) None) (λ r. nat_le r 7 ≡ true)
small true true d true e = le-leb (d - 48) 7 (omega (arith, leb-true d 55 e))
small true true d false e = tt
small true false d c e = tt
small false b d c e = tt

register_small : (letter : ℕ) (part : List ℕ) → IfSome (register_in letter part) (λ r. nat_le r 7 ≡ true)
unfolding register_in
register_small letter [] = tt
register_small letter (l ∷ []) = tt
register_small letter (l ∷ d ∷ []) = small (l == letter) (nat_le 48 d) d (nat_le d 55) refl
register_small letter (l ∷ d ∷ e ∷ more) = tt

packet_passes : (n : Option ℕ) → IfSome n (λ r. nat_le r 7 ≡ true) → Passes kinds.Packet (register_or packet n)
packet_passes None h = tt
packet_passes (Some n) h = h

register_passes : (n : Option ℕ) → IfSome n (λ r. nat_le r 7 ≡ true) → Passes kinds.Register (register_or register n)
register_passes None h = tt
register_passes (Some n) h = h

either_passes : (part : List ℕ) (r : Option ℕ) → IfSome r (λ r. nat_le r 7 ≡ true) → Passes kinds.RegisterOrConstant (register_or_constant part r)
either_passes part (Some r) h = h
either_passes part None h = number_passes kinds.RegisterOrConstant (is_within 0 18446744073709551615) (number_in part) (λ m h. h)

argument_passes : (kind : OperandKind) (part : List ℕ) → Passes kind (argument_of kind part)
unfolding argument_of
argument_passes kinds.Packet part = packet_passes (register_in 112 part) (register_small 112 part)
argument_passes kinds.Register part = register_passes (register_in 114 part) (register_small 114 part)
argument_passes (kinds.Number low high) part = number_passes (kinds.Number low high) (is_within low high) (number_in part) (λ m h. h)
argument_passes kinds.Width part = number_passes kinds.Width is_width (number_in part) (λ m h. h)
argument_passes kinds.RegisterOrConstant part = either_passes part (register_in 114 part) (register_small 114 part)
argument_passes kinds.Label part = cond_passes kinds.Label (is_name part) (label part) BadLabel (λ h. refl)

both_pass : (k : OperandKind) (ks : List OperandKind) (r : Result Named Cause) (s : Result (List Named) Cause)
    → Passes k r → IfOk s (λ os. all_of ks os ≡ true) → IfOk (both r s >>= onto) (λ os. all_of (k ∷ ks) os ≡ true)
both_pass k ks (Ok o) (Ok os) h t = rw (h, t) refl
both_pass k ks (Ok o) (Err d) h t = tt
both_pass k ks (Err c) (Ok os) h t = tt
both_pass k ks (Err c) (Err d) h t = tt

each_passes : (ks : List OperandKind) (ps : List (List ℕ)) → length ks ≡ length ps → IfOk (each_argument ks ps) (λ os. all_of ks os ≡ true)
each_passes [] ps e = refl
each_passes (k ∷ ks) [] e = absurd (omega arith)
each_passes (k ∷ ks) (p ∷ ps) e = both_pass k ks (argument_of k (trim p)) (each_argument ks ps) (argument_passes k (trim p)) (each_passes ks ps (omega arith))

pub read_fits : {X : Type 0} (ks : List OperandKind) (ps : List (List ℕ)) (view : X → List Named) (r : Result X LineError) → length ks ≡ length ps
    → ReadsAs view r (each_argument ks ps) → IfOk r (λ v. all_of ks (view v) ≡ true)
read_fits ks ps view (Err e) len h = tt
read_fits ks ps view (Ok v) len h = let P : Result (List Named) Cause → Type 0 = λ x. IfOk x (λ os. all_of ks os ≡ true) in
    subst P h (each_passes ks ps len)
