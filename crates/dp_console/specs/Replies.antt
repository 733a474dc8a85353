-- What a command says, and how it ends.
use Rattle.std.specs.Prelude.{◌≡◌, ℕ, ◌⊎◌, ◌++◌, Bool, List, false, true, Option, IfSome}
use Rattle.std.specs.Io.KnownBytes.{Appends}
use Rattle.dp_console.specs.declared.reply.Text.{Text}
use Rattle.dp_console.specs.declared.reply.Reply.{Reply}

-- a text that is whole was whole before, and grew by these words
abbrev pub Says : Text → Text → Option (List ℕ) → Type 0
Says old new words = new.has_failed ≡ false → (old.has_failed ≡ false) × IfSome words (λ w. new.bytes.items ≡ old.bytes.items ++ w)

-- there was memory for both texts
abbrev pub IsWhole : Reply → Type 0
IsWhole reply = (reply.out.has_failed ≡ false) × (reply.err.has_failed ≡ false)

-- a line was written whole, and no failure is new; or it was not, and the console remembers that
abbrev pub Prints : Bool → Bool → Bool → Option (List ℕ) → Option (List ℕ) → Option (List ℕ) → Type 0
Prints written failed failed' out out' words =
    ((written ≡ true) × (failed' ≡ failed) × IfSome words (Appends out out')) ⊎ ((written ≡ false) × (failed' ≡ true))

-- a reply was printed whole with its status, and no write ever failed; or a write failed, 3; or memory was refused for it, 4
abbrev pub EndsWith : Reply → Bool → Bool → Option (List ℕ) → Option (List ℕ) → Option (List ℕ) → Option (List ℕ) → ℕ → Type 0
EndsWith reply failed failed' out out' err err' status =
    ((status ≡ reply.status) × (failed ≡ false) × (failed' ≡ false) × IsWhole reply × Appends out out' reply.out.bytes.items
    × Appends err err' reply.err.bytes.items)
    ⊎ ((status ≡ 3) × (failed' ≡ true))
    ⊎ ((status ≡ 4) × ((reply.out.has_failed ≡ true) ⊎ (reply.err.has_failed ≡ true)))

-- a reply was written whole with its status; or memory was refused for it, 4
abbrev pub IsWritten : Reply → Option (List ℕ) → Option (List ℕ) → Option (List ℕ) → Option (List ℕ) → ℕ → Type 0
IsWritten reply out out' err err' status = EndsWith reply false false out out' err err' status

-- a reply was printed on two writers that no write had failed before
abbrev pub IsPrinted : Reply → Option (List ℕ) → Option (List ℕ) → Option (List ℕ) → Option (List ℕ) → ℕ → Type 0
IsPrinted reply out out' err err' status = (failed : Bool) × EndsWith reply false failed out out' err err' status
