-- The call auction: the states that it can be in, and its step.
use Rattle.std.specs.Prelude.{◌≡◌, ◌+◌, true, cond, List, [], length, ◌==◌}
use Rattle.std.specs.Option.{option_to_list}
use Rattle.records.specs.declared.commands.Side.{Side}
use Rattle.records.specs.declared.commands.Side.TheVariants.{Buy, Sell}
use Rattle.records.specs.declared.commands.Command.{Command}
use Rattle.records.specs.declared.commands.Command.TheVariants.{Enter, Cancel, Cross}
use Rattle.records.specs.declared.notices.Notice.{Notice}
use Rattle.market.specs.declared.orders.Order.{Order}
use Rattle.market.specs.Orders.{rested}
use Rattle.market.specs.Resting.{Resting, sound, next, arriving, passed, withdrawn, stepped}
use Rattle.call.specs.declared.clearing.Clearing.{Clearing}
use Rattle.call.specs.Clearing.{clearing}
use Rattle.call.specs.Crossing.{taken, pairs}

abbrev pub Valid : Resting → Type 0
Valid h = sound h ≡ true

-- an order enters: it rests on its side, or is dropped where 32 rest
abbrev pub entered : Resting → Side → Order → Resting × List Notice
entered h Buy o = (record { last = h.last + 1; buys = (rested Buy o h.buys).0; sells = h.sells }, option_to_list (rested Buy o h.buys).1)
entered h Sell o = (record { last = h.last + 1; buys = h.buys; sells = (rested Sell o h.sells).0 }, option_to_list (rested Sell o h.sells).1)

-- a cross at a price, for the lots that it matches there: at 0 lots nothing happens, else both sides pair for them
abbrev pub crossed_at : Resting → Clearing → Resting × List Notice
crossed_at h c = cond (c.lots.0 == 0) (passed h, []) (
  record { last = h.last + 1; buys = taken c.lots.0 h.buys; sells = taken c.lots.0 h.sells },
  pairs (next h) c.price (length h.buys + length h.sells) c.lots.0 h.buys h.sells,
)

-- a cross is at the resting price that matches the most lots, the lowest of several
abbrev pub crossed : Resting → Resting × List Notice
crossed h = crossed_at h (clearing h.buys h.sells)

-- what the call auction does at a good command
abbrev pub acted : Resting → Command → Resting × List Notice
acted h (Enter member side price lots) = entered h side (arriving h member price lots)
acted h (Cancel member order) = withdrawn h member order
acted h Cross = crossed h

abbrev pub call_step : Resting → Command → Resting × List Notice
call_step h c = stepped acted h c
