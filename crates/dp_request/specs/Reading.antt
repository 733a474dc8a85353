-- What the words of a command name is read: a pipeline that is loaded; or where that stopped, with what was found right before. Faults are found in this
-- order: the words; the files, and the faults of loading.
use Rattle.std.specs.Prelude.{◌≡◌, ◌⊎◌, ℕ, ◌<◌, Bool, List, [], Some, None, codes, find, nat_le}
use Rattle.clap.specs.declared.parser.matches.Found.{Found}
use Rattle.dp_console.specs.declared.reply.Reply.{Reply}
use Rattle.dp_model.specs.declared.env.Entry.{Entry}
use Rattle.dp_load.specs.declared.{config.Config.Config, error.PipeError.PipeError, nodes.How.How}
use Rattle.dp_load.specs.{Config.IsConfigOf, Config.IsFaultOf, Files.FileMap, Loads.IsLoadedFrom, Loads.IsUnloaded, Pipelines.Plan}
use Rattle.dp_verdict.specs.Checks.{SaysRefused}
use Rattle.dp_request.specs.Operands.{number_of, tables_from, word_of, words_of}

-- a pipeline is that of a text and the files that it names, with named certificates or with inferred ones
abbrev pub IsLoaded : How → Plan → Type 0
IsLoaded how p = (text : List ℕ) × (files : FileMap) × IsLoadedFrom (Some files) how text p

-- the status of a file that is not read, or of lack of memory
abbrev pub IsFault : Reply → Type 0
IsFault reply = (reply.status ≡ 3) ⊎ (reply.status ≡ 4)

-- the first cause why nothing is loaded is said, with the status of that
abbrev pub SaysCause : PipeError → Reply → Type 0
SaysCause error reply = (is_json : Bool) × SaysRefused error is_json reply × (reply.status ≡ 0 → ⊥)

-- ---- words

-- a word of `--routes` is wrong (2), or memory was refused for them (4)
abbrev pub HasWrongRoutes : Found → Reply → Type 0
HasWrongRoutes found reply = ((reply.status ≡ 2) × (tables_from [] (words_of found (codes "routes")) ≡ None)) ⊎ (reply.status ≡ 4)

-- a word names no node
abbrev pub NamesNone : List ℕ → Type 0
NamesNone word = (node : Entry) → number_of node < 10 → word ≡ word_of node → ⊥

-- ---- the files and the faults of loading

-- the text of a pipeline file has no configuration, for this first cause
abbrev pub HasBadText : Reply → Type 0
HasBadText reply = (text : List ℕ) × (error : PipeError) × IsFaultOf text error × (reply.status ≡ 0 → ⊥)

-- a pipeline file has not all of these tables, of which this is the first that it lacks
abbrev pub LacksTable : List ℕ → Reply → Type 0
LacksTable tables reply = (text : List ℕ) × (config : Config) × (table : ℕ) × IsConfigOf text config
    × (find (λ t. nat_le config.env.tables t) tables ≡ Some table) × (reply.status ≡ 2)

-- the files are read, and the pipeline file has no configuration, or not these tables; or memory was refused
abbrev pub HasNoConfig : List ℕ → Reply → Type 0
HasNoConfig tables reply = (reply.status ≡ 4) ⊎ (HasBadText reply ⊎ LacksTable tables reply)

-- No pipeline file is ready to be loaded: words `--routes TABLE=FILE` are wrong. Or they are right, and a file is not read; or the pipeline file has no
-- configuration, or not the tables that get routes.
abbrev pub IsNotReady : Found → Reply → Type 0
IsNotReady found reply = HasWrongRoutes found reply
    ⊎ ((tables : List ℕ) × (Some tables ≡ tables_from [] (words_of found (codes "routes"))) × (IsFault reply ⊎ HasNoConfig tables reply))

-- the text of a pipeline file is known, and the files that it names, and no pipeline is loaded
abbrev pub HasNoPlan : How → Reply → Type 0
HasNoPlan how reply = (text : List ℕ) × (files : FileMap) × (error : PipeError) × IsUnloaded (Some files) how text error × SaysCause error reply

-- the pipeline that the words name is not loaded
abbrev pub IsNotLoaded : Found → How → Reply → Type 0
IsNotLoaded found how reply = IsNotReady found reply ⊎ ((reply.status ≡ 4) ⊎ HasNoPlan how reply)
