-- What a market of resting orders stands for.
use Rattle.market.specs.Resting.{Resting}
use Rattle.market.specs.Means.{state_of}
use Rattle.ruled_market.specs.declared.shape.RestingMarket.{RestingMarket}

abbrev pub market_state : {R : _} {rules : _} → RestingMarket R rules → Resting
market_state m = state_of m.resting
