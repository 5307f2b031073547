use Rattle.std.proofs.Common.{refl}
use Rattle.protocol.specs.Steps.{refused}
use Rattle.exchange.proofs.state.Exchange.deliver.Goals as goal

pub returns-in-Err : goal.returns-in-Err
returns-in-Err g c = record { did = refused c.in-Err.reason c.in-Err.ensures.judged c.into.ensures refl; back = refl; kept = refl }
