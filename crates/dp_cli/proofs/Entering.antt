-- The command of the words of a command line is the one that a parse entered.
use Rattle.std.proofs.Common.{◌≡◌, List, Option, Some, None, refl}
use Rattle.std.specs.{Box.box_value, Prelude.Box, Prelude.option_map}
use Rattle.clap.specs.declared.parser.matches.{ArgMatches.TheViews.out-SubCommand, SubCommand.SubCommand}
use Rattle.clap.specs.Words.{Row, Text, subcommand_rows}

pub entered : {Z : Type 0} (s : Option (Box SubCommand Z)) (name : Text) (rows : List Row)
    → Some name ≡ option_map (λ b. (out-SubCommand (box_value b)).name.now) s → Some rows ≡ option_map (λ p. p.1) (subcommand_rows s)
    → subcommand_rows s ≡ Some (name, rows)
entered None name rows named given = cc
entered (Some b) name rows named given = cc

pub none_entered : {Z : Type 0} (s : Option (Box SubCommand Z)) → None ≡ option_map (λ b. (out-SubCommand (box_value b)).name.now) s
    → subcommand_rows s ≡ None
none_entered None none = refl
none_entered (Some b) none = cc
