use Rattle.std.proofs.Common.{◌≡◌, ◌+◌, ◌*◌, ◌++◌, Err, ap, length, replicate, take, refl, ◌∙◌, subst, subst₂, arith, rules}
use Rattle.std.proofs.lemmas.List.{take_all}
use Rattle.std.proofs.lemmas.Slice.{take-put_mid}
use Rattle.std.proofs.lemmas.Grind.{common_steps}
use Rattle.device.specs.Calls.{DidRead, Filled}
use Rattle.journal_io.proofs.Fetches.{ReadTo, no_part, one_more, breaks, all_read}
use Rattle.journal_io.proofs.loading.read_body.Goals as goal

pub loop-i-init : goal.loop-i-init
loop-i-init g c = record { same = refl; kept = refl; long = search rules; read = no_part refl refl }

pub loop-i-preserved : goal.loop-i-preserved
loop-i-preserved g c =
    let m = g.D.Device.meaning in
    let v = c.loop-i.invariant in
    let e = c.in_ok-read.ensures in
    let i = c.loop-i.i in
    let now = c.copy_from_slice.ensures.after in
    let size : length c.copy_from_slice.new.self ≡ 512 = ap length now ∙ c.read.array_long in
    let long = v.long in
    record {
      same = e.did.same ∙ v.same;
      kept = e.kept ∙ v.kept;
      long = grind (arith, common_steps);
      read = one_more (m c.args.device.now) (m c.read.new.self) c.args.slot i (take (512 * i) c.loop-i.body) _ c.read.new.buffer c.loop-i-test.true v.read
          (subst₂ (λ z s. Filled z (s + i) c.read.new.buffer (m c.read.new.self)) v.same c.body_sector-at.ensures e.did)
          (take-put_mid (512 * i) _ c.loop-i.body c.copy_from_slice.new.self (512 * (i + 1)) (omega arith) (omega arith) ∙ ap (λ z. take (512 * i) c.loop-i.body ++ z) now);
    }

pub returns-in_err-read-clause-did : goal.returns-in_err-read-clause-did
returns-in_err-read-clause-did g c =
    let m = g.D.Device.meaning in
    let v = c.loop-i.invariant in
    let e = c.in_err-read.ensures in
    let i = c.loop-i.i in
    breaks (m c.args.device.now) (m c.read.new.self) c.args.slot (g.D.Device.lawful c.args.device.now) (replicate 512 0) c.read.new.buffer i (take (512 * i) c.loop-i.body) c.in_err-read.field-0.0 c.from_residual.result c.requires c.loop-i-test.true v.read
    (subst₂ (λ z s. DidRead z (s + i) (replicate 512 0) (Err c.in_err-read.field-0.0) c.read.new.buffer (m c.read.new.self)) v.same c.body_sector-at.ensures e.did) c.from_residual.ensures.1

pub returns-clause-did : goal.returns-clause-did
returns-clause-did g c =
    let m = g.D.Device.meaning in
    let v = c.loop-i.invariant in
    let i = c.loop-i.i in
    let long = v.long in
    all_read (m c.args.device.now) (m c.loop-i.device) c.args.slot i c.loop-i.body c.loop-i-test.false v.same
    (subst (λ xs. ReadTo (m c.args.device.now) c.args.slot i xs) (take_all (512 * i) c.loop-i.body (omega arith)) v.read)
