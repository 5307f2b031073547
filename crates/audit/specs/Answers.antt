-- What the pages of a record are answered with.
use Rattle.std.specs.Prelude.{List, [], ◌∷◌, ◌++◌, length}
use Rattle.records.specs.declared.commands.Command.{Command}
use Rattle.protocol.specs.Worlds.{World}
use Rattle.protocol.specs.Steps.{Handed, receipt, handed}
use Rattle.protocol.specs.Promises.{Pages, flat, market_after, notices_count}

module _ {S : Type 0} (w : World S) where
  -- the receipt and the notices of a page that follows the earlier ones
  abbrev pub answer : Pages → List Command → Handed
  answer earlier page = record { receipt = receipt w (length earlier) (length (flat earlier)) (notices_count w earlier) (market_after w earlier) page; notices = handed w (notices_count w earlier) (market_after w earlier) page }

  -- those of each page in order
  abbrev pub answers_on : Pages → Pages → List Handed
  answers_on earlier [] = []
  answers_on earlier (p ∷ ps) = answer earlier p ∷ answers_on (earlier ++ (p ∷ [])) ps

  abbrev pub answers : Pages → List Handed
  answers kept = answers_on [] kept
