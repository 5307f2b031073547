-- A row of commands in a market.
use Rattle.std.specs.Prelude.{List, [], ◌∷◌, ◌++◌}
use Rattle.records.specs.declared.commands.Command.{Command}
use Rattle.records.specs.declared.notices.Notice.{Notice}

-- the state after them
abbrev pub after_all : {S : Type 0} → (S → Command → S × List Notice) → S → List Command → S
after_all step s [] = s
after_all step s (c ∷ cs) = after_all step (step s c).0 cs

-- the notices that they give, not counted yet
abbrev pub given_by : {S : Type 0} → (S → Command → S × List Notice) → S → List Command → List Notice
given_by step s [] = []
given_by step s (c ∷ cs) = (step s c).1 ++ given_by step (step s c).0 cs
