use Rattle.std.proofs.Common.{length, vec_len, rules}
use Rattle.audit.proofs.Entries.{book_more}
use Rattle.audit.proofs.books.Book.add.Goals as goal

pub returns : goal.returns
returns g c house size kept =
    let e = c.in_ok-notices.ensures in
    book_more g.M.Market house size kept c.args.page.now c.args.self.now (record { house = c.args.self.now.house; market = c.page_notices.new.market; commands = c.in_ok-self.field-0; notices = c.in_ok-self-2.field-0; pages = c.push.new.self }) (record { receipt = record { house = c.args.self.now.house; page = record { 0 = c.in_ok-number.number }; first = record { 0 = c.in_ok-first.first }; commands = length c.args.page.now; notice = record { 0 = c.in_ok-notice.notice }; notices = vec_len c.in_ok-notices.notices }; notices = c.in_ok-notices.notices }) (record {
      of_house = search rules;
      pages = search rules;
      its_house = search rules;
      its_page = search rules;
      its_first = search rules;
      its_commands = search rules;
      its_notice = search rules;
      its_count = search rules;
      its_notices = e.notices;
      commands = search rules;
      notices = search rules;
      market = e.state;
    })
