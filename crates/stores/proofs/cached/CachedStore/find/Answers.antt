use Rattle.std.proofs.Common.{sym, ap, ◌∙◌, Some, arith}
use Rattle.std.specs.Option.{option_map}
use Rattle.image.specs.Image.{bytes_of}
use Rattle.image.proofs.Meanings.{seen_none, seen_some, seen_beyond}
use Rattle.stores.proofs.cached.CachedStore.find.Goals as goal

pub returns-then-sector-count : goal.returns-then-sector-count
returns-then-sector-count c = let w = c.args.self.now in ap bytes_of (sym (seen_beyond w.image.now w.queue.items.items c.args.sector (omega arith)))

pub returns-in-Some : goal.returns-in-Some
returns-in-Some c =
    let w = c.args.self.now in
    ap Some c.lend_bytes.ensures.bytes ∙ ap bytes_of (sym (seen_some w.image.now w.queue.items.items c.args.sector c.in-Some.write.now (omega arith) (sym c.lend_newest.ensures ∙ ap (option_map (λ p. p.now)) c.in-Some.is) c.lend_bytes.ensures.whole))

pub returns-in-None : goal.returns-in-None
returns-in-None c =
    let w = c.args.self.now in
    c.lend.ensures ∙ ap bytes_of (sym (seen_none w.image.now w.queue.items.items c.args.sector (omega arith) (sym c.lend_newest.ensures ∙ ap (option_map (λ p. p.now)) c.in-None.is)))
