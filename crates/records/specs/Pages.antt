-- Pages of the journal and their records.
use Rattle.std.specs.Prelude.{◌≡◌, ℕ, zero, suc, ◌+◌, ◌-◌, ◌≤◌, Bool, true, false, cond, ◌&&◌, List, [], ◌∷◌, ◌++◌, length, take, drop, replicate, Some, None, Decides, Option, ◌==◌, ◌≢◌, nat_le}
use Rattle.std.specs.List.{flat_map, list_all}
use Rattle.records.specs.LittleEndian.{le, field}
use Rattle.records.specs.Commands.{good, encoded, decoded, within}
use Rattle.records.specs.Sectors.{padded, zeros, fits_in}
use Rattle.records.specs.declared.commands.Command.{Command}
use Rattle.records.specs.declared.numbers.HouseNumber.{HouseNumber}
use Rattle.records.specs.declared.numbers.PageNumber.{PageNumber}
use Rattle.records.specs.declared.pages.PageHead.{PageHead}
use Rattle.records.specs.declared.pages.Page.{Page}
use Rattle.arrayvec.specs.ArrayVec.{ArrayVec}

-- what a page says
pub record Contents : Type 0 where
  pub head : PageHead
  pub commands : List Command

-- the page with this head and these commands
abbrev pub page_of : PageHead → List Command → Contents
page_of h cs = record { head = h; commands = cs }

abbrev pub all_good : List Command → Bool
all_good cs = list_all good cs

-- the numbers of a page with n commands: page and first command are counted from 1, there are 1 to 16 commands,
-- and the last one's number, first + n - 1, is at most 1,000,000,000,000
abbrev pub numbers_good : PageHead → ℕ → Bool
numbers_good h n = nat_le 1 h.number.0 && (nat_le 1 h.first.0 && (within 1 16 n && nat_le (h.first.0 + n - 1) 1_000_000_000_000))

-- a good page: its numbers have room in their fields and lie in their ranges, and every command is good
abbrev pub good_page : Contents → Bool
good_page p = (fits_in 4 p.head.house.0 && fits_in 8 p.head.number.0) && (numbers_good p.head (length p.commands) && all_good p.commands)

-- the 28 bytes in front of the commands: the length of the record, kind 1, house number, page number, first command, how many commands, two zero bytes
unfoldable pub head_bytes : PageHead → List Command → List ℕ
head_bytes h cs = le 2 (28 + length (flat_map encoded cs)) ++ (le 2 1 ++ (le 4 h.house.0 ++ (le 8 h.number.0 ++ (le 8 h.first.0 ++ (le 2 (length cs) ++ le 2 0)))))

-- the record: the head, then the records of the commands
abbrev pub page_record : Contents → List ℕ
page_record p = head_bytes p.head p.commands ++ flat_map encoded p.commands

-- the sector of a page: its record, and zeros to the end
unfoldable pub page_sector_bytes : Contents → List ℕ
page_sector_bytes p = padded (page_record p)

-- a good page has a sector, and no other has
abbrev pub encoded_page : Contents → Option (List ℕ)
encoded_page p = cond (good_page p) (Some (page_sector_bytes p)) None

-- the command whose record bs begin with
unfoldable pub first_in_bytes : List ℕ → Option Command
first_in_bytes bs = decoded (take (field 0 2 bs) bs)

abbrev pub and_then : {A B : Type 0} → Option A → (A → Option B) → Option B
and_then (Some x) f = f x
and_then None f = None

-- cs, and what else was found
abbrev pub after : List Command → Option (List Command) → Option (List Command)
after cs (Some ds) = Some (cs ++ ds)
after cs None = None

-- the n commands whose records bs are, one after another, with nothing left over
unfoldable pub commands_in_bytes : ℕ → List ℕ → Option (List Command)
commands_in_bytes zero bs = cond (length bs == 0) (Some []) None
commands_in_bytes (suc n) bs = and_then (first_in_bytes bs) (λ c. after (c ∷ []) (commands_in_bytes n (drop (length (encoded c)) bs)))

-- the numbers of a head, where they stand
abbrev pub head_in : List ℕ → PageHead
head_in bs = record { house = record { 0 = field 4 4 bs }; number = record { 0 = field 8 8 bs }; first = record { 0 = field 16 8 bs } }

abbrev pub with_commands : PageHead → Option (List Command) → Option Contents
with_commands h (Some cs) = Some (page_of h cs)
with_commands h None = None

-- the records of the commands in a sector
abbrev pub body_in : List ℕ → List ℕ
body_in bs = take (field 0 2 bs - 28) (drop 28 bs)

-- length, kind and the two zero bytes are those of a page
abbrev pub laid_out : List ℕ → Bool
laid_out bs = within 28 512 (field 0 2 bs) && (field 2 2 bs == 1 && field 26 2 bs == 0)

-- the good page read from a sector
unfoldable pub decoded_page : List ℕ → Option Contents
decoded_page bs =
    cond (laid_out bs && numbers_good (head_in bs) (field 24 2 bs))
    (cond (zeros (drop (field 0 2 bs) bs)) (with_commands (head_in bs) (commands_in_bytes (field 24 2 bs) (body_in bs))) None)
    None

-- what bytes 2 to 15 of this page of this house are: kind 1, house number, page number
abbrev pub looked_for : HouseNumber → PageNumber → List ℕ
looked_for h n = le 2 1 ++ (le 4 h.0 ++ le 8 n.0)

-- r is true exactly if bytes 2 to 15 are those
abbrev pub Looks : HouseNumber → PageNumber → List ℕ → Bool → Type 0
Looks h n bs r = Decides r (take 14 (drop 2 bs) ≡ looked_for h n)

-- the same test, by the numbers in these bytes
abbrev pub bytes_look_for : HouseNumber → PageNumber → List ℕ → Bool
bytes_look_for h n bs = field 2 2 bs == 1 && (field 4 4 bs == h.0 && field 8 8 bs == n.0)

-- a page's record has room in its sector; the page comes back from it as it went in;
-- and the sector looks like this page of this house, and like no other page of any house
pub record PageKept (p : Contents) : Type 0 where
  pub room : length (page_record p) ≤ 512
  pub back : decoded_page (page_sector_bytes p) ≡ Some p
  pub looks : (h : HouseNumber) (n : PageNumber) → bytes_look_for h n (page_sector_bytes p) ≡ (p.head.house.0 == h.0 && p.head.number.0 == n.0)

-- the answer is the good page whose sector bs are; none says that they are the sector of no good page
abbrev pub DecodedPage : List ℕ → Option Contents → Type 0
DecodedPage bs (Some p) = (decoded_page bs ≡ Some p) × (good_page p ≡ true) × (page_sector_bytes p ≡ bs)
DecodedPage bs None = (decoded_page bs ≡ None) × ((p : Contents) → good_page p ≡ true → page_sector_bytes p ≢ bs)

-- a sector of zeros looks like no page
abbrev pub ZerosLookLikeNone : Type 0
ZerosLookLikeNone = (h : HouseNumber) (n : PageNumber) → bytes_look_for h n (replicate 512 0) ≡ false

-- the commands that a batch holds, in their order
abbrev pub held : ArrayVec Command → List Command
held b = b.items

-- what a page that was read says
abbrev pub said : Option Page → Option Contents
said (Some p) = Some (page_of p.head (held p.commands))
said None = None

abbrev pub held_in : Option (ArrayVec Command) → Option (List Command)
held_in (Some b) = Some (held b)
held_in None = None
