-- The words that spell a pile: its devices from the top down. Assumes nothing.
use Rattle.std.specs.Prelude.{◌≡◌, ◌≢◌, ℕ, ◌⊎◌, List, [], ◌∷◌, ◌++◌, map, vec_items, codes}
use Rattle.image.specs.declared.fuse.Fuse.{Fuse}
use Rattle.pile_words.specs.declared.unread.Words.{Words}
use Rattle.pile_words.specs.declared.fault.PileFault.{PileFault}
use Rattle.pile_words.specs.declared.fault.PileFault.TheVariants.{NoDevice, TooDeep}
use Rattle.piles.specs.declared.shape.DriveKind.{DriveKind}
use Rattle.piles.specs.declared.shape.DriveKind.TheVariants.{Direct, WriteBack}
use Rattle.piles.specs.declared.shape.DriveShape.{DriveShape}
use Rattle.piles.specs.declared.shape.PartShape.{PartShape}
use Rattle.piles.specs.declared.shape.WholeShape.{WholeShape}
use Rattle.piles.specs.declared.shape.WholeShape.TheVariants.{Part, Mirror}
use Rattle.piles.specs.declared.shape.PileShape.{PileShape}
use Rattle.words.specs.Spellings.{Writes}

-- the words that are still to be read
abbrev pub still : Words → List (List ℕ)
still w = map (λ x. x.now) w.left.now

-- a fuse: its count and its plan, with a colon between them
abbrev pub SpellsFuse : List ℕ → Fuse → Type 0
SpellsFuse w f = (a : List ℕ) × (b : List ℕ) × (w ≡ a ++ (58 ∷ b)) × Writes a f.left × Writes b f.plan.bits

-- one or more fuses, with commas between them
abbrev pub SpellsFuses : List ℕ → List Fuse → Type 0
SpellsFuses w [] = ⊥
SpellsFuses w (f ∷ []) = SpellsFuse w f
SpellsFuses w (f ∷ (g ∷ gs)) = (a : List ℕ) × (b : List ℕ) × (w ≡ a ++ (44 ∷ b)) × SpellsFuse a f × SpellsFuses b (g ∷ gs)

-- Each relation below is of the words, what they spell, and the words that are left.

-- the first word is another than `w`, or there is none
abbrev pub Other : List ℕ → List (List ℕ) → Type 0
Other w [] = Unit {0}
Other w (x ∷ xs) = x ≢ w

-- the first word is a number
abbrev pub NextWrites : List (List ℕ) → ℕ → List (List ℕ) → Type 0
NextWrites ws n left = (w : List ℕ) × (ws ≡ w ∷ left) × Writes w n

-- "cuts" and the fuses, or another word for none
abbrev pub SpellsCuts : List (List ℕ) → List Fuse → List (List ℕ) → Type 0
SpellsCuts ws fs left = ((fs ≡ []) × (left ≡ ws) × Other (codes "cuts") ws) ⊎ ((w : List ℕ) × (ws ≡ codes "cuts" ∷ (w ∷ left)) × SpellsFuses w fs)

abbrev pub kind_word : DriveKind → List ℕ
kind_word Direct = codes "direct"
kind_word WriteBack = codes "writeback"

-- a word that is no kind of drive: it goes deeper than a pile, or it names no device
abbrev pub TooDeepWord : List ℕ → Type 0
TooDeepWord w = (w ≡ codes "offset") ⊎ (w ≡ codes "mirror")

abbrev pub NoDeviceWord : List ℕ → Type 0
NoDeviceWord w = (w ≢ codes "direct") × (w ≢ codes "writeback") × (w ≢ codes "offset") × (w ≢ codes "mirror")

abbrev pub NoKind : List ℕ → PileFault → Type 0
NoKind w f = ((f ≡ TooDeep) × TooDeepWord w) ⊎ ((f ≡ NoDevice) × NoDeviceWord w)

abbrev pub SpellsDrive : List (List ℕ) → DriveShape → List (List ℕ) → Type 0
SpellsDrive ws d left =
    (n : List ℕ) × (more : List (List ℕ)) × (ws ≡ kind_word d.kind ∷ (n ∷ more)) × Writes n d.sectors × SpellsCuts more (vec_items d.fuses) left

-- "offset" and a base, or another word for base 0
abbrev pub SpellsBase : List (List ℕ) → ℕ → List (List ℕ) → Type 0
SpellsBase ws base left = ((base ≡ 0) × (left ≡ ws) × Other (codes "offset") ws) ⊎ ((n : List ℕ) × (ws ≡ codes "offset" ∷ (n ∷ left)) × Writes n base)

abbrev pub SpellsPart : List (List ℕ) → PartShape → List (List ℕ) → Type 0
SpellsPart ws p left = (more : List (List ℕ)) × SpellsBase ws p.base more × SpellsDrive more p.drive left

-- "mirror" and two parts, or another word for one
abbrev pub SpellsWhole : List (List ℕ) → WholeShape → List (List ℕ) → Type 0
SpellsWhole ws (Part p) left = Other (codes "mirror") ws × SpellsPart ws p left
SpellsWhole ws (Mirror p q) left =
    (more : List (List ℕ)) × (last : List (List ℕ)) × (ws ≡ codes "mirror" ∷ more) × SpellsPart more p last × SpellsPart last q left

abbrev pub SpellsPile : List (List ℕ) → PileShape → List (List ℕ) → Type 0
SpellsPile ws p left = (more : List (List ℕ)) × SpellsBase ws p.base more × SpellsWhole more p.whole left
