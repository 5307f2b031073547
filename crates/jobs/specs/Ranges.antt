-- Which number of a command is out of its range, in words. Assumes nothing.
use Rattle.std.specs.Prelude.{◌≡◌, ℕ, List, cond, codes}
use Rattle.records.specs.Commands.{within}
use Rattle.records.specs.declared.commands.Command.{Command}
use Rattle.records.specs.declared.commands.Command.TheVariants.{Enter, Cancel, Cross}
use Rattle.words.specs.declared.LineFault.{LineFault}
use Rattle.words.specs.declared.LineFault.TheVariants.{Range}

-- a member's range is told before a price's, and that before the range of lots
abbrev pub range_text : Command → List ℕ
range_text (Enter m s p l) =
    cond (within 1 999_999 m.0) (cond (within 1 1_000_000 p.0) (codes "the lots are 1 to 1000000") (codes "a price is 1 to 1000000")) (codes "a member is 1 to 999999")
range_text (Cancel m o) = cond (within 1 999_999 m.0) (codes "an order is 1 to 1000000000000") (codes "a member is 1 to 999999")
range_text Cross = codes "an order is 1 to 1000000000000"

abbrev pub SaysRange : Command → LineFault → Type 0
SaysRange c (Range what) = what.now ≡ range_text c
SaysRange c _ = ⊥
