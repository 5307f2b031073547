use Rattle.std.proofs.Common.{rules, ◌≡◌, ◌+◌, Some, length, vec_items, suc, ap, sym, append-nil, ◌∙◌, arith}
use Rattle.protocol.specs.Promises.{recorded, handed_out}
use Rattle.audit.proofs.Entries.{pages_of}
use Rattle.audit.proofs.Reading.{and_nothing}
use Rattle.audit.proofs.readings.Reader.sends.Goals as goal

pub returns : goal.returns
returns g c = record {
  sent = λ t house size h i.
      let r = c.args.self.now in
      let many = pages_of g.M.Market house size (recorded h) r.book i.book in
      let counted : c.in_ok-number.number ≡ length (vec_items r.book.pages) + 1 = search rules in
      let number : c.in_ok-number.number ≡ suc (length (recorded h)) = omega (arith, counted, many) in
      record {
        book = i.book;
        draft = search rules;
        sent = λ j. Some (record { number = number j; page = (ap vec_items c.replace-page.ensures.value ∙ i.draft) j });
        highest = i.highest;
        delivered = i.delivered;
        handed = i.handed ∙ sym (append-nil (handed_out h));
        openings = i.openings;
        served = and_nothing r.served i.served;
      };
}
