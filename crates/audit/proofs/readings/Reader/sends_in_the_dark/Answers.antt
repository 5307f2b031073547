use Rattle.std.proofs.Common.{◌≡◌, cond, [], ap, sym, subst, ◌∙◌}
use Rattle.protocol.specs.Promises.{Ledger, ledger, note, sends}
use Rattle.protocol.specs.Steps.{Write}
use Rattle.std.proofs.Common.{Err}
use Rattle.audit.specs.UnderWay.{under_way}
use Rattle.audit.specs.Books.{IsBook}
use Rattle.audit.proofs.readings.Reader.sends_in_the_dark.Goals as goal

pub returns : goal.returns
returns g c f e house size h i =
    let s = c.in_ok-sends.ensures.sent (record { house = house; page = record { 0 = 0 } }) house size h i in
    let same : sends (ledger h) ≡ note (Write (Err f)) (ledger h) = ap (λ b. cond b (sends (ledger h)) (ledger h)) (sym e) in
    record {
      book = subst (λ (l : Ledger). IsBook g.M.Market house size l.kept c.sends.new.self.book) same s.book;
      draft = s.draft ∙ ap (λ (l : Ledger). l.draft) same;
      sent = s.sent ∙ ap (λ (l : Ledger). l.sent) same;
      highest = s.highest ∙ ap (λ (l : Ledger). l.highest) same;
      delivered = s.delivered;
      handed = s.handed;
      openings = c.clear.ensures.items ∙ ap (λ b. cond b [] (under_way h)) (sym e);
      served = s.served;
    }
