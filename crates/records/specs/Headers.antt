-- Headers of snapshots and their records.
use Rattle.std.specs.Prelude.{◌≡◌, ℕ, ◌*◌, Bool, true, cond, ◌&&◌, List, ◌++◌, drop, replicate, Some, None, Option, ◌==◌, ◌≢◌, nat_le}
use Rattle.records.specs.LittleEndian.{le, field}
use Rattle.records.specs.Sectors.{padded, zeros, fits_in}
use Rattle.records.specs.declared.headers.Header.{Header}

-- the counts of a header: every page has 1 to 16 commands, so page ≤ commands ≤ 16 × page; commands are at most
-- 1,000,000,000,000; and each gives at most 64 notices
abbrev pub counts_good : Header → Bool
counts_good h = nat_le h.page.0 h.commands.0 && (nat_le h.commands.0 1_000_000_000_000 && (nat_le h.commands.0 (16 * h.page.0) && nat_le h.notices.0 (64 * h.commands.0)))

-- each number has room in its field
abbrev pub header_fits : Header → Bool
header_fits h = fits_in 4 h.house.0 && (fits_in 8 h.page.0 && (fits_in 8 h.commands.0 && (fits_in 8 h.notices.0 && fits_in 2 h.market)))

abbrev pub good_header : Header → Bool
good_header h = header_fits h && counts_good h

-- the record, 36 bytes: its length, kind 2, house number, page, commands, notices, market code, two zero bytes
abbrev pub header_record : Header → List ℕ
header_record h = le 2 36 ++ (le 2 2 ++ (le 4 h.house.0 ++ (le 8 h.page.0 ++ (le 8 h.commands.0 ++ (le 8 h.notices.0 ++ (le 2 h.market ++ le 2 0))))))

-- the sector of a header: its record, and zeros to the end
unfoldable pub header_sector_bytes : Header → List ℕ
header_sector_bytes h = padded (header_record h)

-- the numbers of a header, where they stand
abbrev pub header_in_bytes : List ℕ → Header
header_in_bytes bs = record { house = record { 0 = field 4 4 bs }; page = record { 0 = field 8 8 bs }; commands = record { 0 = field 16 8 bs }; notices = record { 0 = field 24 8 bs }; market = field 32 2 bs }

-- length, kind and the two zero bytes are those of a header
abbrev pub header_laid_out : List ℕ → Bool
header_laid_out bs = field 0 2 bs == 36 && (field 2 2 bs == 2 && field 34 2 bs == 0)

-- the good header read from a sector, whatever its house and market
unfoldable pub decoded_header : List ℕ → Option Header
decoded_header bs = cond (header_laid_out bs && zeros (drop 36 bs)) (cond (counts_good (header_in_bytes bs)) (Some (header_in_bytes bs)) None) None

-- a good header comes back from its sector as it went in
abbrev pub HeaderComesBack : Header → Type 0
HeaderComesBack h = good_header h ≡ true → decoded_header (header_sector_bytes h) ≡ Some h

-- the answer is the good header whose sector bs are; none says that they are the sector of no good header
abbrev pub DecodedHeader : List ℕ → Option Header → Type 0
DecodedHeader bs (Some h) = (decoded_header bs ≡ Some h) × (good_header h ≡ true) × (header_sector_bytes h ≡ bs)
DecodedHeader bs None = (decoded_header bs ≡ None) × ((h : Header) → good_header h ≡ true → header_sector_bytes h ≢ bs)

-- a sector of zeros is no header
abbrev pub ZerosNoHeader : Type 0
ZerosNoHeader = decoded_header (replicate 512 0) ≡ None
