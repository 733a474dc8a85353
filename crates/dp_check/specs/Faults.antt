-- The question of a check, and its answers.
use Rattle.std.specs.Prelude.{◌≡◌, ℕ, not, List, ◌++◌, Option, find, IsTrue, codes}
use Rattle.std.specs.Fmt.{decimal}
use Rattle.std.specs.List.{list_all}
use Rattle.dp_model.specs.declared.env.Entry.{Entry}
use Rattle.dp_model.specs.declared.instr.Instr.{Instr}
use Rattle.dp_model.specs.Environments.{Environment}
use Rattle.dp_model.specs.Rows.{is_well_formed_row}
use Rattle.dp_lang.specs.Programs.{IsProgram}
use Rattle.dp_cert.specs.Spelling.{Certificate, number_of_version}
use Rattle.dp_model.specs.Rules.{Question, holds, later_rules, number_of, IsAccepted, IsRefused}
use Rattle.dp_model.specs.declared.rule.Rule.{Rule}

-- whether a program with a certificate may run in an environment, at an entry
abbrev pub question : List Instr → Certificate → Environment → Entry → Question
question program cert env entry =
    record { program = program; version = number_of_version cert.version; rows = cert.rows; env = env; entry = entry }

-- the question has this certificate
abbrev pub IsWith : Question → Certificate → Type 0
IsWith q cert = q ≡ question q.program cert q.env q.entry

-- the first rule, of J3 to J11, that fails at a label
abbrev pub later_fault : Question → ℕ → Option Rule
later_fault q label = find (λ rule. not (holds q label rule)) later_rules

-- a question is refused at a label, by the rule with this number
abbrev pub IsRefusedWith : Question → ℕ → ℕ → Type 0
IsRefusedWith q label number = (rule : Rule) × (number ≡ number_of rule) × IsRefused q label rule

-- how a refusal is displayed
abbrev pub refused_text : ℕ → ℕ → List ℕ
refused_text label number = codes "refused at " ++ (decimal label ++ (codes " by J" ++ decimal number))

-- no rule fails, and program and rows are well formed
pub record IsChecked (question : Question) : Type 0 where
  pub accepted : IsAccepted question
  pub program : IsProgram question.program
  pub well_formed : IsTrue (list_all is_well_formed_row question.rows)
