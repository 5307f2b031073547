-- The names of the commands. Assumes nothing.
use Rattle.std.specs.Prelude.{ℕ, List, codes, ◌≡◌}
use Rattle.cli.specs.declared.helps.Command.{Command}
use Rattle.cli.specs.declared.helps.Command.TheVariants as command

abbrev pub command_name : Command → List ℕ
command_name command.Match = codes "match"
command_name command.Page = codes "page"
command_name command.Play = codes "play"
command_name command.Drill = codes "drill"
command_name command.SetUp = codes "setup"
command_name command.Run = codes "run"
command_name command.Show = codes "show"

-- the word is no command's name
abbrev pub NoCommand : List ℕ → Type 0
NoCommand word = (c : Command) → command_name c ≡ word → ⊥
