-- How a text is read, by its first line.
use Rattle.std.proofs.Common.{◌≡◌, ℕ, ◌≤◌, List, length, drop, Some, None, Ok, Err, refl, sym, ap, ◌∙◌, arith}
use Rattle.dp_model.specs.declared.row.Row.{Row}
use Rattle.dp_cert.specs.declared.error.Cause.TheVariants.{BadHead}
use Rattle.dp_cert.specs.declared.error.CertError.{CertError}
use Rattle.dp_cert.specs.declared.error.CertError.TheVariants as errors
use Rattle.dp_cert.specs.declared.cert.Version.{Version}
use Rattle.dp_cert.specs.declared.cert.Version.TheVariants.{One, Two}
use Rattle.dp_cert.specs.Spelling.{Certificate}
use Rattle.dp_cert.specs.Reading.{rows_of, version_in, certified, cert_of, Fails}
use Rattle.dp_cert.proofs.Found.{head_found}

pub no_version : (n : ℕ) (text : List ℕ) → version_in text ≡ None → cert_of n text ≡ Err (record { line = 1; cause = BadHead })
unfolding cert_of
no_version n text e = rw e refl

-- the first line is 11 bytes
pub is_long : (text : List ℕ) (version : Version) → version_in text ≡ Some version → 11 ≤ length text
is_long text One e = omega (arith, ap length (head_found text One e))
is_long text Two e = omega (arith, ap length (head_found text Two e))

of_head : (n : ℕ) (text : List ℕ) (version : Version) → version_in text ≡ Some version → cert_of n text ≡ certified version (rows_of version 2 n (drop 11 text))
unfolding cert_of
of_head n text version e = rw e refl

pub all_of : (n : ℕ) (text : List ℕ) (version : Version) (rows : List Row) (cert : Certificate) → version_in text ≡ Some version →
    rows_of version 2 n (drop 11 text) ≡ Ok rows → cert.rows ≡ rows → cert.version ≡ version → cert_of n text ≡ Ok cert
all_of n text version rows cert e read same_rows same_version =
    of_head n text version e ∙ (ap (certified version) read ∙ λ i. Ok (record { version = sym same_version i; rows = sym same_rows i }))

pub error_of : (n : ℕ) (text : List ℕ) (version : Version) (error : CertError) → version_in text ≡ Some version →
    Fails error (rows_of version 2 n (drop 11 text)) → Fails error (cert_of n text)
error_of n text version errors.Memory e h = tt
error_of n text version (errors.Fault f) e h = of_head n text version e ∙ ap (certified version) h
