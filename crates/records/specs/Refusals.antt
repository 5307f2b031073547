-- The reasons by their numbers. Of several that fit, a call gives the one with the lowest number.
use Rattle.std.specs.Prelude.{ℕ}
use Rattle.records.specs.declared.refusals.Refusal.{Refusal}
use Rattle.records.specs.declared.refusals.Refusal.TheVariants.{NoHouse, DeviceSize, WrongPhase, NotACommand, PageFull, NumbersSpent, NothingStaged, JournalFull, ShortList, WrongTicket, WrongReceipt, AlreadyCovered, Undelivered, PastTheEnd, PowerCut, TornSector, NoHeader, BadBody, BadPage}

abbrev pub reason : Refusal → ℕ
reason NoHouse = 1
reason DeviceSize = 2
reason WrongPhase = 3
reason NotACommand = 4
reason PageFull = 5
reason NumbersSpent = 6
reason NothingStaged = 7
reason JournalFull = 8
reason ShortList = 9
reason WrongTicket = 10
reason WrongReceipt = 11
reason AlreadyCovered = 12
reason Undelivered = 13
reason PastTheEnd = 14
reason PowerCut = 15
reason TornSector = 16
reason NoHeader = 17
reason BadBody = 18
reason BadPage = 19
