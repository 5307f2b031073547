-- Which header is taken.
use Rattle.std.specs.Prelude.{◌≡◌, ℕ, Bool, true, cond, ◌&&◌, List, [], ◌∷◌, Some, None, Option, ◌==◌, ◌≢◌, slice_index_or}
use Rattle.rank.specs.Ranked.{First, high_first}
use Rattle.records.specs.Headers.{good_header, header_sector_bytes, decoded_header}
use Rattle.records.specs.declared.headers.Header.{Header}
use Rattle.records.specs.declared.numbers.HouseNumber.{HouseNumber}
use Rattle.journal.specs.Slots.{slot_number}
use Rattle.journal.specs.declared.slots.Slot.{Slot}
use Rattle.journal.specs.declared.slots.Slot.TheVariants.{Zero, One}
use Rattle.journal.specs.declared.choosing.Chosen.{Chosen}
use Rattle.journal.specs.declared.choosing.SlotHeader.{SlotHeader}
use Rattle.std.specs.Borrow.{Bor}

-- a header is the exchange's own if it has its house number and its market's code
abbrev pub is_own : HouseNumber → ℕ → Header → Bool
is_own house code h = h.house.0 == house.0 && h.market == code

abbrev pub own : HouseNumber → ℕ → Option Header → Option Header
own house code (Some h) = cond (is_own house code h) (Some h) None
own house code None = None

-- the good header of this house and this market in a sector
abbrev pub own_header_in : HouseNumber → ℕ → List ℕ → Option Header
own_header_in house code bs = own house code (decoded_header bs)

-- the answer is the good header of this house and this market whose sector bs are; none says that they are the sector of none
abbrev pub OwnHeader : HouseNumber → ℕ → List ℕ → Option Header → Type 0
OwnHeader house code bs (Some h) = (good_header h ≡ true) × (h.house ≡ house) × (h.market ≡ code) × (header_sector_bytes h ≡ bs)
OwnHeader house code bs None = (h : Header) → good_header h ≡ true → h.house ≡ house → h.market ≡ code → header_sector_bytes h ≢ bs

-- what ranks a header: the higher page, then the lower slot
abbrev pub header_key : SlotHeader → ℕ × ℕ
header_key x = (x.header.page.0, slot_number x.slot)

abbrev pub in_slot : Slot → Header → SlotHeader
in_slot s h = record { slot = s; header = h }

-- of the headers in slots 0 and 1 the first in rank
abbrev pub first_of : Option Header → Option Header → Option SlotHeader
first_of None None = None
first_of (Some x) None = Some (in_slot Zero x)
first_of None (Some y) = Some (in_slot One y)
first_of (Some x) (Some y) = Some (cond (high_first (header_key (in_slot One y)) (header_key (in_slot Zero x))) (in_slot One y) (in_slot Zero x))

-- the headers that there are, in the order of their slots
abbrev pub headers_in : Option Header → Option Header → List SlotHeader
headers_in None None = []
headers_in (Some x) None = in_slot Zero x ∷ []
headers_in None (Some y) = in_slot One y ∷ []
headers_in (Some x) (Some y) = in_slot Zero x ∷ in_slot One y ∷ []

-- the answer is the first in rank of xs; none where there is none
abbrev pub IsFirst : List SlotHeader → Option SlotHeader → Type 0
IsFirst xs None = xs ≡ []
IsFirst xs (Some x) = (i : ℕ) × First high_first header_key xs i × (slice_index_or xs i x ≡ x)

-- what first_of gives is the first in rank, as all rankings have it
abbrev pub FirstIsFirst : Type 0
FirstIsFirst = (a b : Option Header) → IsFirst (headers_in a b) (first_of a b)

-- the sector of slot 0 or of slot 1, by the slot of the chosen header
abbrev pub of_slot : {X : Type 0} → X → X → Slot → X
of_slot zero-sector one-sector Zero = zero-sector
of_slot zero-sector one-sector One = one-sector

abbrev pub chosen : Bor (List ℕ) → Bor (List ℕ) → Option SlotHeader → Option Chosen
chosen a b (Some x) = Some (record { first = x; sector = of_slot a b x.slot })
chosen a b None = None
