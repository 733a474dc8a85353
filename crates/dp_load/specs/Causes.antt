-- The numbers of causes, and their texts.
use Rattle.std.specs.Prelude.{ℕ, List, Option, None, Some, [], ◌++◌, codes}
use Rattle.std.specs.Fmt.{decimal}
use Rattle.dp_model.specs.declared.env.Entry.{Entry}
use Rattle.dp_model.specs.declared.env.Entry.TheVariants as entry
use Rattle.dp_model.specs.Environments.{number_of_cause, index_of_cause}
use Rattle.dp_lang.specs.Causes as lang
use Rattle.dp_cert.specs.Faults as cert
use Rattle.dp_lpm.specs.Faults as lpm
use Rattle.dp_load.specs.declared.causes.Piece.{Piece}
use Rattle.dp_load.specs.declared.error.Part.{Part}
use Rattle.dp_load.specs.declared.error.Part.TheVariants as part
use Rattle.dp_load.specs.declared.error.PipeError.{PipeError}
use Rattle.dp_load.specs.declared.error.PipeError.TheVariants.{Memory, NotToml, BadKey, BadEnv, BadTable, File, Asm, BadCert, NotInferred, Refused}
use Rattle.dp_load.specs.declared.error.RouteError.{RouteError}
use Rattle.dp_load.specs.declared.error.RouteError.TheVariants as route

-- in the order of the tests; memory has none
abbrev pub number_of : PipeError → ℕ
number_of Memory = 0
number_of NotToml = 1
number_of (BadKey _ _) = 2
number_of (BadEnv _) = 3
number_of (BadTable _ _ _) = 4
number_of (File _) = 5
number_of (Asm _ _) = 6
number_of (BadCert _ _) = 7
number_of (NotInferred _ _ _) = 8
number_of (Refused _ _ _) = 9

-- the number of the table's refusal, or 6
abbrev pub number_of_route : RouteError → ℕ
number_of_route (route.Refused error) = lpm.number_of error
number_of_route route.Unreadable = 6

-- ---- how they are displayed

-- how a kind of part is displayed
abbrev pub part_text : Part → List ℕ
part_text part.Top = codes "top"
part_text part.Pool = codes "pool"
part_text part.Table = codes "table"
part_text part.Ring = codes "ring"
part_text part.Port = codes "port"

-- how a node is displayed
abbrev pub node_text : Entry → List ℕ
node_text (entry.Port index) = codes "port " ++ decimal index
node_text (entry.Ring index) = codes "ring " ++ decimal index

-- causes 1 to 7 as a number, a name, the place and the reason; 8 and 9 as the verdict on the node
abbrev pub text_of : PipeError → List ℕ
text_of Memory = codes "memory"
text_of NotToml = codes "1 NotToml"
text_of (BadKey kind index) = codes "2 BadKey " ++ (part_text kind ++ (codes " " ++ decimal index))
text_of (BadEnv error) = codes "3 BadEnv " ++ (decimal (number_of_cause error) ++ (codes " " ++ decimal (index_of_cause error)))
text_of (BadTable table route cause) = codes "4 BadTable " ++ (decimal table
    ++ (codes " " ++ (decimal route ++ (codes " " ++ decimal (number_of_route cause)))))
text_of (File node) = codes "5 File " ++ node_text node
text_of (Asm node fault) = codes "6 Asm " ++ (node_text node ++ (codes " line "
    ++ (decimal fault.line ++ (codes " cause " ++ decimal (lang.number_of fault.cause)))))
text_of (BadCert node fault) = codes "7 BadCert " ++ (node_text node ++ (codes " line "
    ++ (decimal fault.line ++ (codes " cause " ++ decimal (cert.number_of fault.cause)))))
text_of (NotInferred node label rule) = node_text node ++ (codes " not inferred at " ++ (decimal label ++ (codes " by J" ++ decimal rule)))
text_of (Refused node label rule) = node_text node ++ (codes " refused at " ++ (decimal label ++ (codes " by J" ++ decimal rule)))

-- ---- pieces of these texts, which no public clause names

-- a number in decimal, if there is one
abbrev pub number_text : Option ℕ → List ℕ
number_text None = []
number_text (Some n) = decimal n

-- a word, and the number that follows it
abbrev pub piece_text : Piece → List ℕ
piece_text piece = piece.0.now ++ number_text piece.1
