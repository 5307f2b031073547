-- The book: the states that it can be in, and its step.
use Rattle.std.specs.Prelude.{◌≡◌, ◌+◌, Bool, true, ◌&&◌, List, []}
use Rattle.records.specs.declared.commands.Side.{Side}
use Rattle.records.specs.declared.commands.Side.TheVariants.{Buy, Sell}
use Rattle.records.specs.declared.commands.Command.{Command}
use Rattle.records.specs.declared.commands.Command.TheVariants.{Enter, Cancel, Cross}
use Rattle.records.specs.declared.notices.Notice.{Notice}
use Rattle.market.specs.declared.orders.Order.{Order}
use Rattle.market.specs.Lists.{across}
use Rattle.market.specs.Orders.{below}
use Rattle.market.specs.Resting.{Resting, sound, arriving, passed, withdrawn, stepped}
use Rattle.book.specs.Matching.{traded}

-- a book is sound as every market is, and its buys stay below its sells
abbrev pub book_sound : Resting → Bool
book_sound h = sound h && across below h.buys h.sells

abbrev pub Valid : Resting → Type 0
Valid h = book_sound h ≡ true

-- an order enters
abbrev pub entered : Resting → Side → Order → Resting × List Notice
entered h Buy o = let t = traded Buy o h.buys h.sells in
    (record { last = h.last + 1; buys = t.own; sells = t.opposite }, t.notices)
entered h Sell o = let t = traded Sell o h.sells h.buys in
    (record { last = h.last + 1; buys = t.opposite; sells = t.own }, t.notices)

-- what the book does at a good command; a cross does nothing
abbrev pub acted : Resting → Command → Resting × List Notice
acted h (Enter member side price lots) = entered h side (arriving h member price lots)
acted h (Cancel member order) = withdrawn h member order
acted h Cross = (passed h, [])

abbrev pub book_step : Resting → Command → Resting × List Notice
book_step h c = stepped acted h c
