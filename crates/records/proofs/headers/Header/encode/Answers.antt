use Rattle.std.proofs.Common.{◌≡◌, ◌++◌, ap, ◌∙◌, rules}
use Rattle.records.specs.Headers.{header_sector_bytes, header_record}
use Rattle.records.proofs.Pieces.{then}
use Rattle.records.proofs.HeaderLaws.{header_comes_back}
use Rattle.records.proofs.headers.Header.encode.Goals as goal

pub returns : goal.returns
unfolding header_sector_bytes
returns c =
    let e : c.put-8.new.self ≡ c.new-out.result ++ header_record c.args.self.now = search (rules, then) depth 10 in
    let f = e ∙ ap (λ w. w ++ header_record c.args.self.now) c.new-out.ensures in
    record { sector = search rules; back = header_comes_back c.args.self.now }
