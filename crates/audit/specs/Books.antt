-- A book: a record as a fresh market has it.
use Rattle.std.specs.Prelude.{◌≡◌, ℕ, map, length, vec_items}
use Rattle.records.specs.declared.numbers.HouseNumber.{HouseNumber}
use Rattle.market.specs.declared.interface.Market as market
use Rattle.protocol.specs.Worlds.{World, rules_of}
use Rattle.protocol.specs.Promises.{Pages, flat, market_after, notices_count}
use Rattle.runner.specs.Events.{handed_out}
use Rattle.audit.specs.Answers.{answers}
use Rattle.audit.specs.declared.books.Book.{Book}

-- the world of a market and a house, over a device of any size
abbrev pub world : {M : Type 0} (m : market.Ghosts M) → HouseNumber → ℕ → World m.State
world m house size = record { house = house; size = size; rules = rules_of m }

-- the book of a record: what each page is answered with, the counts, and the market after all
pub record IsBook {M : Type 0} (m : market.Ghosts M) (house : HouseNumber) (size : ℕ) (kept : Pages) (b : Book M) : Type 0 where
  pub of_house : b.house ≡ house
  pub answers : map handed_out (vec_items b.pages) ≡ answers (world m house size) kept
  pub commands : b.commands ≡ length (flat kept)
  pub notices : b.notices ≡ notices_count (world m house size) kept
  pub market : m.means b.market ≡ market_after (world m house size) kept
