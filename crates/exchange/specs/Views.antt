-- An exchange as the exchange on paper.
use Rattle.std.specs.Prelude.{vec_items}
use Rattle.market.specs.declared.interface.Market as market
use Rattle.device.specs.declared.Device as device
use Rattle.protocol.specs.Worlds.{rules_of}
use Rattle.protocol.specs.Steps.{State, Event, Does}
use Rattle.exchange.specs.declared.state.Exchange.{Exchange}

module _ {M D : Type 0} (m : market.Ghosts M) (d : device.Ghosts D) where
  abbrev pub view : Exchange M D → State m.State
  view x = record { house = x.house; phase = x.phase; staged = vec_items x.staged; pages = x.pages.0; commands = x.commands.0; notices = x.notices.0; mark = x.mark.0; covered = x.covered.0; slot = x.slot; market = m.means x.market; device = d.meaning x.device }

  -- the contract of a call: x answers so, and is then y
  abbrev pub Called : Exchange M D → Event → Exchange M D → Type 0
  Called x e y = Does (rules_of m) (view x) e (view y)
