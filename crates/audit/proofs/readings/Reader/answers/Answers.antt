use Rattle.std.proofs.Common.{rules, ◌≡◌, length, refl, sym, subst}
use Rattle.protocol.specs.Promises.{recorded}
use Rattle.runner.specs.Events.{handed_out}
use Rattle.audit.specs.Books.{IsBook}
use Rattle.audit.proofs.Entries.{pages_of}
use Rattle.audit.proofs.Reading.{reads_synced, reads_replayed}
use Rattle.audit.proofs.readings.Reader.answers.Goals as goal

pub returns-in_ok-add-clause-synced : goal.returns-in_ok-add-clause-synced
returns-in_ok-add-clause-synced g c t room house size h i =
    let m = g.M.Market in
    let r = c.args.self.now in
    let many = pages_of m house size (recorded h) r.book i.book in
    let number : length (recorded h) ≡ c.len.result = search (rules, many) in
    reads_synced m house size t room (handed_out c.args.handed.now) h r _ (record {
      book = subst (λ k. IsBook m house size k c.add.new.self) (sym (c.in-Some.ensures (recorded h) number)) (c.in_ok-add.ensures house size (recorded h) i.book);
      draft = refl;
      sent = refl;
      highest = refl;
      delivered = refl;
      handed = search rules;
      openings = refl;
      served = refl;
    }) i

pub returns-in_ok-add-clause-replayed : goal.returns-in_ok-add-clause-replayed
returns-in_ok-add-clause-replayed g c room house size h i =
    let m = g.M.Market in
    let r = c.args.self.now in
    let many = pages_of m house size (recorded h) r.book i.book in
    let number : length (recorded h) ≡ c.len.result = search (rules, many) in
    reads_replayed m house size room (handed_out c.args.handed.now) h r _ (record {
      book = subst (λ k. IsBook m house size k c.add.new.self) (sym (c.in-Some.ensures (recorded h) number)) (c.in_ok-add.ensures house size (recorded h) i.book);
      draft = refl;
      sent = refl;
      highest = refl;
      delivered = refl;
      handed = search rules;
      openings = refl;
      served = refl;
    }) i

pub returns-in_default-clause-synced : goal.returns-in_default-clause-synced
returns-in_default-clause-synced g c t room house size h i =
    let m = g.M.Market in
    let r = c.args.self.now in
    let many = pages_of m house size (recorded h) r.book i.book in
    let number : length (recorded h) ≡ c.len.result = search (rules, many) in
    reads_synced m house size t room (handed_out c.args.handed.now) h r _ (record {
      book = subst (λ k. IsBook m house size k r.book) (sym (c.in_default.ensures (recorded h) number)) i.book;
      draft = refl;
      sent = refl;
      highest = refl;
      delivered = refl;
      handed = search rules;
      openings = refl;
      served = refl;
    }) i

pub returns-in_default-clause-replayed : goal.returns-in_default-clause-replayed
returns-in_default-clause-replayed g c room house size h i =
    let m = g.M.Market in
    let r = c.args.self.now in
    let many = pages_of m house size (recorded h) r.book i.book in
    let number : length (recorded h) ≡ c.len.result = search (rules, many) in
    reads_replayed m house size room (handed_out c.args.handed.now) h r _ (record {
      book = subst (λ k. IsBook m house size k r.book) (sym (c.in_default.ensures (recorded h) number)) i.book;
      draft = refl;
      sent = refl;
      highest = refl;
      delivered = refl;
      handed = search rules;
      openings = refl;
      served = refl;
    }) i
