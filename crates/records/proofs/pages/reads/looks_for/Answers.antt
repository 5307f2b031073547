use Rattle.std.proofs.Common.{Bool, sym, subst, rules}
use Rattle.records.specs.Pages.{Looks}
use Rattle.records.proofs.LittleEndianLaws.{bytes_below}
use Rattle.records.proofs.LooksLaws.{looks_decides}
use Rattle.records.proofs.PageTheorems.{zeros_look}
use Rattle.records.proofs.pages.reads.looks_for.Goals as goal

pub returns : goal.returns
returns c =
    let bs = c.args.sector.now in
    let d = looks_decides c.args.house c.args.number bs (bytes_below bs c.fits-sector) c.told-sector (search rules) (search rules) in
    record {
      numbers = c.is_page_of.ensures;
      bytes = subst (λ (r : Bool). Looks c.args.house c.args.number bs r) (sym c.is_page_of.ensures) d;
      zeros = zeros_look;
    }
