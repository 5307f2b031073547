use Rattle.records.proofs.LittleEndianLaws.{bytes_below}
use Rattle.records.proofs.HeaderLaws.{decodes_header, zeros_no_header}
use Rattle.records.proofs.headers.Header.decode.Goals as goal

pub returns : goal.returns
returns c =
    let bs = c.args.sector.now in
    record { value = decodes_header bs c.header_in.result (bytes_below bs c.fits-sector) c.told-sector c.header_in.ensures; zeros = zeros_no_header }
