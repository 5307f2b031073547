use Rattle.std.proofs.Common.{◌≡◌, ◌++◌}
use Rattle.std.specs.Option.{option_to_list}
use Rattle.std.specs.VecDeque.{deque_len}
use Rattle.image.specs.Waiting.{settled}
use Rattle.stores.proofs.cached.CachedStore.settle.Given as goal

abbrev pub invariant-loop-waiting : goal.invariant-loop-waiting
invariant-loop-waiting l =
    (settled l.plan l.self.image.now (l.self.queue.items.items ++ option_to_list l.course) ≡ settled l.initial.plan l.initial.self.image.now (l.initial.self.queue.items.items ++ option_to_list l.course))
    × (l.self.image.ghost_name ≡ l.initial.self.image.ghost_name)

abbrev pub decreases-loop-waiting : goal.decreases-loop-waiting
decreases-loop-waiting l = deque_len l.self.queue.items
