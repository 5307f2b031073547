-- What an opening takes. Assumes nothing.
use Rattle.std.specs.Prelude.{◌≡◌, ℕ, List, Option, Some, None, replicate}
use Rattle.records.specs.declared.numbers.HouseNumber.{HouseNumber}
use Rattle.play_words.specs.declared.script.MarketKind.{MarketKind}
use Rattle.image.specs.Image.{bytes_of, seen}
use Rattle.journal.specs.Slots.{header_place}
use Rattle.journal.specs.Choices.{first_of, own_header_in}
use Rattle.halls.specs.declared.owners.Owner.{Owner}
use Rattle.halls.specs.declared.openings.Opening.{Opening}
use Rattle.journal.specs.declared.slots.Slot.{Slot}
use Rattle.journal.specs.declared.slots.Slot.TheVariants.{Zero, One}
use Rattle.journal.specs.declared.choosing.SlotHeader.{SlotHeader}

abbrev pub slot_in : Option SlotHeader → Option Slot
slot_in (Some x) = Some x.slot
slot_in None = None

-- of the good headers of this house and this market in two sectors, the slot of the one that stands first in rank
abbrev pub taken_slot : HouseNumber → ℕ → List ℕ → List ℕ → Option Slot
taken_slot house code zero one = slot_in (first_of (own_header_in house code zero) (own_header_in house code one))

-- the bytes of a sector, or zeros where there are none
abbrev pub bytes_or_zeros : Option (List ℕ) → List ℕ
bytes_or_zeros (Some b) = b
bytes_or_zeros None = replicate 512 0

-- the header's bytes of a slot of an image
abbrev pub header_bytes : List ℕ → Slot → List ℕ
header_bytes image slot = bytes_or_zeros (bytes_of (seen image (header_place slot)))

-- an opening of this image by this owner, of the market with this code: it is told of them, and takes the slot of the first in rank
pub record OpenedAs (image : List ℕ) (owner : Owner) (market : MarketKind) (code : ℕ) (opening : Opening) : Type 0 where
  pub by : opening.owner ≡ owner
  pub of : opening.market ≡ market
  pub slot : opening.slot ≡ taken_slot owner.house code (header_bytes image Zero) (header_bytes image One)
