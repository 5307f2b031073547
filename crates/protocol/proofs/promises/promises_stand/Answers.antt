use Rattle.protocol.proofs.promises.promises_stand.Goals as goal
use Rattle.protocol.proofs.Main.{promises_hold}
use Rattle.protocol.specs.Worlds.{rules_of}

pub returns : goal.returns
returns g c =
    let m = g.met.M.Market in
    promises_hold (rules_of g.M.Market) g.M.Market.valid (record { starts = m.starts; bounded = m.bounded; keeps = m.keeps; few = m.few; counts = m.counts; uncounts = m.uncounts; sized = m.sized; plain = m.plain; back = m.back; only = m.only })
