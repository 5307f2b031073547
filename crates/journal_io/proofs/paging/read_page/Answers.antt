use Rattle.std.proofs.Common.{◌≡◌, true, rules}
use Rattle.records.specs.Pages.{bytes_look_for, held}
use Rattle.device.specs.Meaning.{bytes}
use Rattle.journal_io.proofs.Pagings.{whole_head, whole_numbers}
use Rattle.journal_io.proofs.paging.read_page.Goals as goal

pub returns-in-Some-decode-clause-did : goal.returns-in-Some-decode-clause-did
returns-in-Some-decode-clause-did g c =
    let m = g.D.Device.meaning c.args.device.now in
    let h = c.args.head in
    let page = c.in-Some-decode.page in
    let bs = c.in-Some.bytes in
    let looks : bytes_look_for h.house h.number bs ≡ true = search rules in
    let here : m.reads c.args.sector ≡ bytes bs = search rules in
    let first : page.head.first.0 ≡ h.first.0 = search rules in
    record {
      same = search rules;
      lit = search rules;
      content = bs;
      here = here;
      looks = looks;
      good = whole_head h page.head bs (held page.commands) looks c.in-Some-decode.ensures.0 first;
      numbers = whole_numbers h page.head bs (held page.commands) looks c.in-Some-decode.ensures.0 first c.in-Some-decode.ensures.1;
    }
