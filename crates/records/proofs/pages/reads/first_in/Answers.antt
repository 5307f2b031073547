use Rattle.std.proofs.Common.{◌≡◌, sym, rules}
use Rattle.records.specs.Pages.{first_in_bytes}
use Rattle.records.proofs.LittleEndianLaws.{bytes_typed}
use Rattle.records.proofs.PageLaws.{first_short, first_long, first_bound}
use Rattle.records.proofs.pages.reads.first_in.Goals as goal

pub returns-then-bytes-lt4 : goal.returns-then-bytes-lt4
returns-then-bytes-lt4 c = record { value = sym (first_short c.args.bytes.now (search rules)); bound = tt }

pub returns-then-n-bytes : goal.returns-then-n-bytes
returns-then-n-bytes c = record { value = sym (first_long c.args.bytes.now (search rules)); bound = tt }

pub returns : goal.returns
unfolding first_in_bytes
returns c =
    let bs = c.args.bytes.now in
    let e : c.command_in.result ≡ first_in_bytes c.args.bytes.now = search rules in
    record { value = e; bound = first_bound c.command_in.result bs (bytes_typed bs c.type_inv.bytes) e }
