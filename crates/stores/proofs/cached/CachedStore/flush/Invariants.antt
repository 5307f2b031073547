use Rattle.std.proofs.Common.{◌≡◌}
use Rattle.std.specs.VecDeque.{deque_len}
use Rattle.image.specs.Waiting.{put_all}
use Rattle.stores.proofs.cached.CachedStore.flush.Given as goal

abbrev pub invariant-loop-next : goal.invariant-loop-next
invariant-loop-next l =
    (put_all l.self.image.now l.self.queue.items.items ≡ put_all l.initial.self.image.now l.initial.self.queue.items.items)
    × (l.self.image.ghost_name ≡ l.initial.self.image.ghost_name)

abbrev pub decreases-loop-next : goal.decreases-loop-next
decreases-loop-next l = deque_len l.self.queue.items
