use Rattle.std.proofs.Common.{rules}
use Rattle.records.proofs.Pieces.{then}
use Rattle.body.specs.Layout.{order_bytes}
use Rattle.body.proofs.writing.put_order.Goals as goal

pub returns-clause-bytes : goal.returns-clause-bytes
unfolding order_bytes
returns-clause-bytes c = search (rules, then) depth 8
