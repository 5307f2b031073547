-- What an image means while writes wait to be put down, the oldest first. Assumes nothing.
use Rattle.std.specs.Prelude.{ℕ, ◌*◌, Bool, false, cond, ◌&&◌, ◌||◌, List, [], ◌∷◌, length, reverse, find, Some, None, Option, ◌==◌, nat_lt, slice_set}
use Rattle.device.specs.Meaning.{Meaning, Reading, bytes, torn}
use Rattle.image.specs.Image.{size_of, reading, list_put_at, same}
use Rattle.image.specs.Fuses.{fate, later}
use Rattle.image.specs.declared.fuse.Fate.{Fate}
use Rattle.image.specs.declared.fuse.Fate.TheVariants.{Dropped, Torn, Kept}
use Rattle.image.specs.declared.fuse.Plan.{Plan}
use Rattle.image.specs.declared.pending.Pending.{Pending}

-- a write of 512 bytes to a sector of the image
abbrev pub whole : Pending → Bool
whole p = length p.bytes == 512

abbrev pub fits : List ℕ → Pending → Bool
fits image p = nat_lt p.sector (size_of image) && whole p

-- the image with a write put down
abbrev pub put_down : List ℕ → Pending → List ℕ
put_down image p = cond (fits image p) (list_put_at image (p.sector * 513) p.bytes) image

-- with all of them, the oldest first
abbrev pub put_all : List ℕ → List Pending → List ℕ
put_all image [] = image
put_all image (p ∷ ps) = put_all (put_down image p) ps

-- what a write that waits may leave in a sector, if the power is cut: its bytes, or torn
unfoldable pub leaves : Pending → ℕ → Reading → Bool
leaves p s x = (s == p.sector && whole p) && (same x (bytes p.bytes) || same x torn)

abbrev pub some_leaves : List Pending → ℕ → Reading → Bool
some_leaves [] s x = false
some_leaves (p ∷ ps) s x = leaves p s x || some_leaves ps s x

-- a sector reads as it would with every waiting write put down; a cut may leave what the image holds, or what a waiting write leaves
abbrev pub meant : List ℕ → List Pending → Bool → Meaning
meant image ps lit =
    record { size = size_of image; lit = lit; reads = λ s. reading (put_all image ps) s; may = λ s x. same x (reading image s) || some_leaves ps s x }

-- what a cut makes of a write: torn sets the mark to 1 and leaves the old bytes
abbrev pub landed : Fate → List ℕ → Pending → List ℕ
landed Dropped image p = image
landed Torn image p = cond (fits image p) (slice_set image (p.sector * 513) 1) image
landed Kept image p = put_down image p

-- a cut by a plan: two bits for each write, the oldest first
abbrev pub settled : Plan → List ℕ → List Pending → List ℕ
settled plan image [] = image
settled plan image (p ∷ ps) = settled (later plan) (landed (fate plan) image p) ps

-- where at most `room` writes may wait: the oldest is taken out where more do, and the others stay
abbrev pub over : ℕ → List Pending → Option Pending
over room [] = None
over room (p ∷ ps) = cond (nat_lt room (length (p ∷ ps))) (Some p) None

abbrev pub staying : ℕ → List Pending → List Pending
staying room [] = []
staying room (p ∷ ps) = cond (nat_lt room (length (p ∷ ps))) ps (p ∷ ps)

abbrev pub put_some : List ℕ → Option Pending → List ℕ
put_some image None = image
put_some image (Some p) = put_down image p

-- the newest waiting write of a sector, the first of it from behind; or none where none waits
abbrev pub newest_of : ℕ → List Pending → Option Pending
newest_of s ps = find (λ p. p.sector == s) (reverse ps)
