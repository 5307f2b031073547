use Rattle.std.proofs.Common.{subst, sym}
use Rattle.std.proofs.lemmas.Fn.{FoldsTo-push}
use Rattle.std.proofs.lemmas.List.{take_more}
use Rattle.std.specs.List.{FoldsTo}
use Rattle.console.specs.Inputs.{Pushed}
use Rattle.console.proofs.input.LineBuffer.extend.Goals as goal

pub loop-byte-preserved : goal.loop-byte-preserved
loop-byte-preserved c =
    subst (λ xs. FoldsTo Pushed c.args.self.now xs c.push.new.self) (sym (take_more c.args.bytes.now c.loop-byte.byte-index 0 c.loop-byte-test.true))
    (FoldsTo-push Pushed _ _ _ _ _ c.loop-byte.invariant c.push.ensures)
