use Rattle.std.proofs.Common.{◌≡◌, suc, length, Ok, Err, refl, ap, ◌∙◌, subst, subst₂}
use Rattle.records.specs.Pages.{held}
use Rattle.journal.specs.Places.{page_place}
use Rattle.protocol.specs.Worlds.{rules_of, given, page_head}
use Rattle.protocol.specs.declared.tokens.ReceiptNumbers.{ReceiptNumbers}
use Rattle.protocol.specs.Steps.{world_of, applied, receipt, handed, next_sector}
use Rattle.market.specs.Lists.{over}
use Rattle.protocol.specs.declared.phases.Phase.TheVariants.{Replaying}
use Rattle.journal_io.specs.Paging.{PageFound, There}
use Rattle.exchange.specs.Views.{view}
use Rattle.exchange.proofs.Cutting.{front_taken, front_over}
use Rattle.exchange.proofs.Opening.{replay_fails, idle_here}
use Rattle.exchange.proofs.Refusing.{replay_refused, replay_list_refused}
use Rattle.exchange.proofs.state.Exchange.replay.Goals as goal

pub returns-in_err-way : goal.returns-in_err-way
returns-in_err-way g c =
    let x = view g.M.Market g.D.Device c.args.self.now in
    record {
      did = replay_refused (world_of (rules_of g.M.Market) x) x _ (length c.args.list.now) c.args.list.now c.from_residual.result c.in_err-way.ensures.judged c.from_residual.ensures.1;
      list = replay_list_refused c.args.list.now _ c.from_residual.result c.from_residual.ensures.1;
      kept = refl;
    }

-- what was read, by the sector and the head that the rules name
pub returns-in-Ok-Some : goal.returns-in-Ok-Some
returns-in-Ok-Some g c =
    let x = view g.M.Market g.D.Device c.args.self.now in
    let w = world_of (rules_of g.M.Market) x in
    let cs = held c.in-Ok-Some.page.commands in
    let place : c.page_sector-sector.result ≡ next_sector w x = c.page_sector-sector.ensures.place ∙ (λ i. page_place (c.in_ok-way.ensures.allowed.3 i) (c.next_head-head.ensures i).number.0) in
    let n = g.D.Device.meaning c.read_page.new.device in
    let head = page_head w (suc x.pages) (suc x.commands) in
    let e = c.in-Ok-Some.ensures in
    let f : There x.device (next_sector w x) head cs n =
    subst (λ o. PageFound x.device (next_sector w x) head (Ok o) n) c.in-Ok-Some.field-0-is (subst₂ (λ s h. PageFound x.device s h (Ok c.in-Ok-Some.field-0) n) place c.next_head-head.ensures e.did) in
    let slice : c.as_slice.result.now ≡ cs = c.as_slice.ensures.value in
    let a = c.apply_read.ensures.applied in
    let vs = given w x.market cs in
    let receives : c.apply_read.result.numbers ≡ receipt w x.pages x.commands x.notices x.market cs = a.receipt ∙ ap (receipt w x.pages x.commands x.notices x.market) slice in
    let count : c.apply_read.result.numbers.notices ≡ length vs = ap (λ (z : ReceiptNumbers). z.notices) receives in
    let list : c.apply_read.new.list ≡ over c.args.list.now (handed w x.notices x.market cs) = a.list ∙ ap (λ z. over c.args.list.now (handed w x.notices x.market z)) slice in
    record {
      did = record {
        allowed = c.in_ok-way.ensures.judged;
        did = idle_here x.device n (next_sector w x) (g.D.Device.lawful c.read_page.new.device) f.same f.lit;
        content = f.content;
        there = f.here;
        looks = f.looks;
        page = cs;
        good = f.good;
        answer = receives;
        notices = front_taken c.args.list.now c.apply_read.new.list vs x.notices _ count list;
        result = a.result ∙ (λ i. applied w Replaying (slice i) (f.same i) x);
      };
      list = front_over c.args.list.now c.apply_read.new.list vs x.notices _ count list;
      kept = ap g.D.Device.lender c.apply_read.ensures.kept ∙ e.kept;
    }

pub returns-in-Err : goal.returns-in-Err
returns-in-Err g c =
    let x = view g.M.Market g.D.Device c.args.self.now in
    let w = world_of (rules_of g.M.Market) x in
    let n = g.D.Device.meaning c.read_page.new.device in
    let place : c.page_sector-sector.result ≡ next_sector w x = c.page_sector-sector.ensures.place ∙ (λ i. page_place (c.in_ok-way.ensures.allowed.3 i) (c.next_head-head.ensures i).number.0) in
    let e = c.in-Err.ensures in
    record {
      did = replay_fails w x (view g.M.Market g.D.Device c.reset_by.new.self) n (length c.args.list.now) c.in-Err.fault c.reset_by.result c.in_ok-way.ensures.judged (g.D.Device.lawful c.read_page.new.device) (subst₂ (λ s h. PageFound x.device s h (Err c.in-Err.fault) n) place c.next_head-head.ensures e.did) c.reset_by.ensures.fault c.reset_by.ensures.reset;
      list = refl;
      kept = ap g.D.Device.lender c.reset_by.ensures.kept ∙ e.kept;
    }
