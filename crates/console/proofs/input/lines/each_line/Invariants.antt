-- the lines so far are handed on
use Rattle.std.proofs.Common.{Ok}
use Rattle.std.specs.Io.Buffered.{reader_remaining}
use Rattle.console.proofs.Going.{Between}
use Rattle.console.proofs.input.lines.each_line.Given as goal

abbrev pub invariant-loop : goal.invariant-loop
invariant-loop g l =
    goal.F-IsAlwaysCallable g l.take
    × Between (λ f n b h. goal.F-step g f n b (Ok tt) h) l.fn.take (g.I.Read.remaining l.fn.input) (reader_remaining g.I.Read.remaining l.reader) l.counter l.line l.buffer l.take
