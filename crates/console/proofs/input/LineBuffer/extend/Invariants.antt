-- the first bytes have come, one after the other
use Rattle.std.proofs.Common.{take}
use Rattle.std.specs.List.{FoldsTo}
use Rattle.console.specs.Inputs.{Pushed}
use Rattle.console.proofs.input.LineBuffer.extend.Given as goal

abbrev pub invariant-loop-byte : goal.invariant-loop-byte
invariant-loop-byte l = FoldsTo Pushed l.fn.self (take l.byte-index l.bytes) l.self
