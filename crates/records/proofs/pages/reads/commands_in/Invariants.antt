use Rattle.std.proofs.Common.{◌≡◌, ◌-◌, length}
use Rattle.records.specs.Pages.{after, commands_in_bytes, held}
use Rattle.records.proofs.pages.reads.commands_in.Given as goal

abbrev pub invariant-loop : goal.invariant-loop
invariant-loop l = (after (held l.commands) (commands_in_bytes (l.count - l.counter) l.rest) ≡ commands_in_bytes l.count l.bytes) × (length (held l.commands) ≡ l.counter)
