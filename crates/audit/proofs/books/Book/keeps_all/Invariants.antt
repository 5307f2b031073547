use Rattle.std.proofs.Common.{ℕ, take}
use Rattle.records.specs.declared.numbers.HouseNumber.{HouseNumber}
use Rattle.protocol.specs.Promises.{Pages, EachKept}
use Rattle.runner.specs.Events.{history}
use Rattle.audit.specs.Books.{world, IsBook}
use Rattle.audit.proofs.books.Book.keeps_all.Given as goal

-- every entry so far keeps what is promised
abbrev pub invariant-loop-entry : goal.invariant-loop-entry
invariant-loop-entry g l = (house : HouseNumber) (size : ℕ) (kept : Pages) → IsBook g.M.Market house size kept l.self → EachKept (world g.M.Market house size) kept (history (take l.entry-index l.log))
