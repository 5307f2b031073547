-- What a market means, and the records that an exchange keeps on its device. Assumes nothing.
use Rattle.std.specs.Prelude.{◌≡◌, ℕ, ◌+◌, ◌*◌, Bool, true, List, take, drop, replicate, Option}
use Rattle.records.specs.Sectors.{fits_in}
use Rattle.records.specs.Pages.{page_of, page_sector_bytes, bytes_look_for}
use Rattle.records.specs.Headers.{header_sector_bytes}
use Rattle.records.specs.declared.commands.Command.{Command}
use Rattle.records.specs.declared.notices.Notice.{Notice}
use Rattle.records.specs.declared.headers.Header.{Header}
use Rattle.records.specs.declared.pages.PageHead.{PageHead}
use Rattle.records.specs.declared.numbers.HouseNumber.{HouseNumber}
use Rattle.market.specs.declared.interface.Market as market
use Rattle.batches.specs.Given.{after_all, given_by}
use Rattle.journal.specs.Places.{size_good, page_place}
use Rattle.journal.specs.Slots.{body_place}
use Rattle.journal.specs.declared.slots.Slot.{Slot}

-- no command has a number above this
abbrev pub N : ℕ
N = 1_000_000_000_000

-- what a market means: its code, its fresh state, the number of the last command, the step to a next state and notices,
-- and the bytes that a state is saved as, and the state that bytes are saved from
pub record Rules (S : Type 0) : Type 0 where
  pub code : ℕ
  pub start : S
  pub count : S → ℕ
  pub step : S → Command → S × List Notice
  pub body : S → List ℕ
  pub loads : List ℕ → Option S

abbrev pub rules_of : {M : Type 0} (m : market.Ghosts M) → Rules m.State
rules_of m = record { code = m.CODE; start = m.start; count = m.count; step = m.step; body = m.body; loads = m.loads }

-- what never changes under an exchange: its house number, the size of its device, and how its market works
pub record World (S : Type 0) : Type 0 where
  pub house : HouseNumber
  pub size : ℕ
  pub rules : Rules S

-- its numbers have room in the records, and its device has 9 to 4,096 sectors
pub record Fits {S : Type 0} (w : World S) : Type 0 where
  pub house : fits_in 4 w.house.0 ≡ true
  pub code : fits_in 2 w.rules.code ≡ true
  pub size : size_good w.size ≡ true

-- a sector of zeros
unfoldable pub blank : List ℕ
blank = replicate 512 0

module _ {S : Type 0} (w : World S) where
  -- the market over a row of commands: the state after them, and the notices that they give, which are not counted yet
  abbrev pub after : S → List Command → S
  after s cs = after_all w.rules.step s cs

  abbrev pub given : S → List Command → List Notice
  given s cs = given_by w.rules.step s cs

  -- pages: their head, their sector's bytes, whether a sector is that of page p by its bytes 2 to 15, and where page p lies
  abbrev pub page_head : ℕ → ℕ → PageHead
  page_head p first = record { house = w.house; number = record { 0 = p }; first = record { 0 = first } }

  abbrev pub page_image : ℕ → ℕ → List Command → List ℕ
  page_image p first cs = page_sector_bytes (page_of (page_head p first) cs)

  abbrev pub looks : List ℕ → ℕ → Bool
  looks b p = bytes_look_for w.house (record { 0 = p }) b

  abbrev pub sector : ℕ → ℕ
  sector p = page_place w.size p

  -- snapshots: the header of so many pages, commands and notices, its sector's bytes, and the i-th sector of a body
  abbrev pub header_for : ℕ → ℕ → ℕ → Header
  header_for pages commands notices = record { house = w.house; page = record { 0 = pages }; commands = record { 0 = commands }; notices = record { 0 = notices }; market = w.rules.code }

  abbrev pub header_image : ℕ → ℕ → ℕ → List ℕ
  header_image pages commands notices = header_sector_bytes (header_for pages commands notices)

  abbrev pub part : S → ℕ → List ℕ
  part s i = take 512 (drop (512 * i) (w.rules.body s))

-- the i-th of the three sectors of a slot's body
abbrev pub body_at : Slot → ℕ → ℕ
body_at t i = body_place t + i
