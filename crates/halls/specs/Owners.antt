-- Whose the snapshots of an image are. Assumes nothing.
use Rattle.std.specs.Prelude.{◌≡◌, ◌≢◌, ◌⊎◌, ℕ, List, [], ◌∷◌, Option, Some, None}
use Rattle.records.specs.Headers.{decoded_header}
use Rattle.records.specs.declared.headers.Header.{Header}
use Rattle.device.specs.Meaning.{Reading, bytes, torn}
use Rattle.image.specs.Image.{seen}
use Rattle.halls.specs.declared.owners.Owner.{Owner}

abbrev pub header_in : Reading → Option Header
header_in torn = None
header_in (bytes b) = decoded_header b

abbrev pub owner_in : Option Header → Option Owner
owner_in None = None
owner_in (Some h) = Some (record { house = h.house; code = h.market })

-- whose the good header in this sector is, where it has one
abbrev pub owner_at : List ℕ → ℕ → Option Owner
owner_at image sector = owner_in (header_in (seen image sector))

-- the owners of two snapshots, each once
abbrev pub OwnersSo : Option Owner → Option Owner → List Owner → Type 0
OwnersSo None None owners = owners ≡ []
OwnersSo (Some x) None owners = owners ≡ x ∷ []
OwnersSo None (Some y) owners = owners ≡ y ∷ []
OwnersSo (Some x) (Some y) owners = ((x ≡ y) × (owners ≡ x ∷ [])) ⊎ ((x ≢ y) × (owners ≡ x ∷ y ∷ []))
