use Rattle.std.proofs.Common.{◌≡◌, ◌+◌, List, [], ◌∷◌, ◌∙◌, subst, arith}
use Rattle.device.specs.declared.run.Operation.{Operation}
use Rattle.device.specs.declared.run.Operation.TheVariants as op
use Rattle.protocol.specs.Worlds.{body_at}
use Rattle.journal_io.specs.Running.{Running, snapshot_writes}
use Rattle.journal_io.proofs.writing.put_snapshot.Goals as goal

pub returns-clause-did : goal.returns-clause-did
returns-clause-did g c =
    let at = c.body_sector-at.ensures in
    let e = c.perform_all.ensures in
    let first : c.body_sector-at.result ≡ body_at c.args.slot 0 = at ∙ omega arith in
    let script : (op.Write c.body_sector-at.result c.cut_out.result ∷ op.Write (c.body_sector-at.result + 1) c.cut_out-2.result ∷ op.Write (c.body_sector-at.result + 2) c.cut_out-3.result ∷ op.Sync ∷ op.Write c.header_sector.result c.encode.result ∷ op.Sync ∷ []) ≡ snapshot_writes c.args.slot c.args.body.now c.args.header.now =
    (λ i. op.Write (first i) (c.cut_out.ensures i) ∷ op.Write (at i + 1) (c.cut_out-2.ensures i) ∷ op.Write (at i + 2) (c.cut_out-3.ensures i) ∷ op.Sync ∷ op.Write (c.header_sector.ensures i) (c.encode.ensures.sector i) ∷ op.Sync ∷ []) in
    subst (λ (s : List Operation). Running (g.D.Device.meaning c.args.device.now) s c.perform_all.result (g.D.Device.meaning c.perform_all.new.device)) script e.did
