use Rattle.std.proofs.Common.{rules, subst, refl, Ok, IfSome, of_calls}
use Rattle.std.specs.Io.Buffered.{reader_remaining}
use Rattle.console.specs.Handed.{Took}
use Rattle.console.proofs.Going.{Over, fresh, start, part, rest, out, at-end, counts, none-left, one-left}
use Rattle.console.proofs.input.lines.each_line.Goals.{in-Part, in-Rest+in_ok-take-in-Rest, else-loop-test, then-loop-test+in_ok-take_piece+in-End, then-not-is_empty+in_ok-take, else-not-is_empty}
use Rattle.console.proofs.input.lines.each_line.Given as given
use Rattle.console.proofs.input.lines.each_line.Goals as goal

pub loop-init : goal.loop-init
loop-init g c =
    let ready = c.in_ok-reader.ensures in (
      c.requires,
      start (λ f n b h. goal.F-step g f n b (Ok tt) h) c.args.take (g.I.Read.remaining c.args.input) (reader_remaining g.I.Read.remaining c.in_ok-reader.reader) c.new-buffer.result
          (fresh g.I.Read.remaining c.in_ok-reader.reader c.args.input ready.inner ready.empty ready.capacity) c.new-buffer.ensures,
    )

pub loop-preserved : goal.loop-preserved
loop-preserved g c =
    let had = reader_remaining g.I.Read.remaining c.loop.reader in
    let has = reader_remaining g.I.Read.remaining c.take_piece.new.reader in
    elim c.match-branch-3.branch [
      | in-Part w ↦
          let took = subst (λ p. Took had c.loop.buffer p c.take_piece.new.line has) w.in-Part.is c.in_ok-take_piece.ensures in
          rw (w.take-is, w.buffer-is, w.line-is) (
            c.loop.invariant.0,
            part (λ f n b h. goal.F-step g f n b (Ok tt) h) c.args.take (g.I.Read.remaining c.args.input) had has
                c.loop.counter c.loop.line c.loop.buffer c.take_piece.new.line c.loop.take c.loop.invariant.1 took,
          )
      | in-Rest+in_ok-take-in-Rest w ↦
          let took = subst (λ p. Took had c.loop.buffer p c.take_piece.new.line has) w.in-Rest.is c.in_ok-take_piece.ensures in
          rw (w.take-is, w.buffer-is, w.line-is) (
            search (rules, of_calls),
            rest (λ f n b h. goal.F-step g f n b (Ok tt) h) c.args.take (g.I.Read.remaining c.args.input) had has
                c.loop.counter c.loop.line w.saturating_add-line.result c.loop.buffer c.take_piece.new.line w.clear.new.self c.loop.take w.take.new.self _ c.loop-test.true (search rules)
                c.loop.invariant.1 took refl w.in_ok-take-in-Rest.ensures w.clear.ensures,
          )
    ]

over : (g : given.Over) (c : goal.After-drop-take-2 g) → IfSome (g.I.Read.remaining c.args.input) (λ xs. Over (λ f n b h. goal.F-step g f n b (Ok tt) h) c.args.take xs c.loop.line c.loop-test.buffer c.loop.take)
over g c =
    let all = g.I.Read.remaining c.args.input in
    let had = reader_remaining g.I.Read.remaining c.loop.reader in
    elim c.loop-test.branch [
      | else-loop-test w ↦ rw w.buffer-is (out (λ f n b h. goal.F-step g f n b (Ok tt) h) c.args.take all had c.loop.counter c.loop.line c.loop.buffer c.loop.take c.loop.invariant.1 w.loop-test.false)
      | then-loop-test+in_ok-take_piece+in-End w ↦
          let has = reader_remaining g.I.Read.remaining w.take_piece.new.reader in
          let took = subst (λ p. Took had c.loop.buffer p w.take_piece.new.line has) w.in-End.is w.in_ok-take_piece.ensures in
          rw w.buffer-is (at-end (λ f n b h. goal.F-step g f n b (Ok tt) h) c.args.take all had has c.loop.counter c.loop.line c.loop.buffer w.take_piece.new.line c.loop.take c.loop.invariant.1 took)
    ]

pub returns-clause-handed : goal.returns-clause-handed
returns-clause-handed g c =
    let all = g.I.Read.remaining c.args.input in
    elim c.if-not-is_empty.branch [
      | then-not-is_empty+in_ok-take w ↦
          one-left (λ f n b h. goal.F-step g f n b (Ok tt) h) c.args.take all c.loop.line w.saturating_add.result c.loop-test.buffer c.loop.take w.take-then-not-is_empty.new.self _ (over g c) (search rules) refl (search rules) w.in_ok-take.ensures
      | else-not-is_empty w ↦ none-left (λ f n b h. goal.F-step g f n b (Ok tt) h) c.args.take all c.loop.line c.loop-test.buffer c.loop.take (over g c) (search rules)
    ]

pub returns-clause-count : goal.returns-clause-count
returns-clause-count g c = counts (λ f n b h. goal.F-step g f n b (Ok tt) h) c.args.take (g.I.Read.remaining c.args.input) c.loop.line c.loop-test.buffer c.loop.take (over g c)
