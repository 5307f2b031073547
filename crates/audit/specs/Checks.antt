-- What is asked of pages and openings.
use Rattle.std.specs.Prelude.{◌≡◌, ◌<◌, List, drop, vec_items}
use Rattle.std.specs.List.{All, Contains}
use Rattle.records.specs.declared.notices.Notice.{Notice}
use Rattle.runner.specs.declared.log.HandedOut.{HandedOut}
use Rattle.runner.specs.Events.{handed_out}
use Rattle.audit.specs.declared.checks.Opening.{Opening}

-- every notice of the page that is above the highest delivered is among those that were handed out since the opening
unfoldable pub PageServed : List Notice → Opening → HandedOut → Type 0
PageServed handed o p = All (λ n. o.above < n.number.0 → Contains (drop o.from handed) n) (vec_items p.notices)

-- so of every page
unfoldable pub PagesServed : List HandedOut → List Notice → Opening → Type 0
PagesServed pages handed o = All (PageServed handed o) pages

-- the same receipt with the same notices
unfoldable pub Same : HandedOut → HandedOut → Type 0
Same p q = handed_out p ≡ handed_out q
