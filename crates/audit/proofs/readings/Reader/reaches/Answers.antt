use Rattle.std.proofs.Common.{rules, vec_items, Decides, sym, subst, append-nil, ◌∙◌}
use Rattle.std.proofs.lemmas.Bool.Decides.{Decides-and, Decides-like}
use Rattle.protocol.specs.Promises.{recorded, handed_out}
use Rattle.std.specs.List.{All}
use Rattle.audit.specs.Checks.{PagesServed}
use Rattle.audit.specs.UnderWay.{AllServed}
use Rattle.audit.specs.Books.{world}
use Rattle.audit.proofs.Told.{served_all, all_served}
use Rattle.audit.proofs.readings.Reader.reaches.Goals as goal

pub returns : goal.returns
returns g c room house size h i =
    let w = world g.M.Market house size in
    let r = c.args.self.now in
    let asked : Decides c.are_served.result (All (PagesServed (vec_items r.book.pages) (vec_items r.handed)) (vec_items r.openings)) = search rules in
    let decided = Decides-like c.are_served.result (served_all w (recorded h) (vec_items r.book.pages) (vec_items r.handed) (vec_items r.openings) i.book.answers) (all_served w (recorded h) (vec_items r.book.pages) (vec_items r.handed) (vec_items r.openings) i.book.answers) asked in
    let here = subst (λ l. Decides c.are_served.result (AllServed w (recorded h) l (vec_items r.openings))) i.handed decided in
    record {
      book = i.book;
      draft = i.draft;
      sent = i.sent;
      highest = i.highest;
      delivered = i.delivered;
      handed = i.handed ∙ sym (append-nil (handed_out h));
      openings = i.openings;
      served = Decides-and r.served c.are_served.result i.served (subst (λ l. Decides c.are_served.result (AllServed w (recorded h) (handed_out h) l)) i.openings here);
    }
