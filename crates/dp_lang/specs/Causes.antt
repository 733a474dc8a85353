-- The order of causes.
use Rattle.std.specs.Prelude.{ℕ, List, Option, Some, None, codes, nat_le, if◌then◌else◌}
use Rattle.dp_lang.specs.declared.cause.Cause.{Cause}
use Rattle.dp_lang.specs.declared.cause.Cause.TheVariants.{BadByte, BadWord, BadOperands, BadRegister, BadNumber, BadLabel, LabelTwice, LabelUnknown, Size}

abbrev pub number_of : Cause → ℕ
number_of BadByte = 1
number_of BadWord = 2
number_of BadOperands = 3
number_of BadRegister = 4
number_of BadNumber = 5
number_of BadLabel = 6
number_of LabelTwice = 7
number_of LabelUnknown = 8
number_of Size = 9

-- the name of a cause, as it is printed
abbrev pub name_of : Cause → List ℕ
name_of BadByte = codes "BadByte"
name_of BadWord = codes "BadWord"
name_of BadOperands = codes "BadOperands"
name_of BadRegister = codes "BadRegister"
name_of BadNumber = codes "BadNumber"
name_of BadLabel = codes "BadLabel"
name_of LabelTwice = codes "LabelTwice"
name_of LabelUnknown = codes "LabelUnknown"
name_of Size = codes "Size"

-- the lesser of two causes
abbrev pub least : Cause → Cause → Cause
least c d = if nat_le (number_of c) (number_of d) then c else d

-- the lesser of a cause and one that was found before
abbrev pub or_less : Option Cause → Cause → Cause
or_less None cause = cause
or_less (Some before) cause = least before cause
