use Rattle.records.specs.Pages.{said}
use Rattle.records.proofs.LittleEndianLaws.{bytes_below}
use Rattle.records.proofs.PageTheorems.{decodes_page}
use Rattle.records.proofs.pages.Page.decode.Goals as goal

pub returns : goal.returns
returns c =
    let bs = c.args.sector.now in
    decodes_page bs (said c.page_in.result) (bytes_below bs c.fits-sector) c.told-sector c.page_in.ensures
