-- What ends the pages that an opening replays. Assumes nothing.
use Rattle.std.specs.Prelude.{◌≡◌, ℕ, Some}
use Rattle.protocol.specs.declared.faults.ExchangeFault.{ExchangeFault}
use Rattle.protocol.specs.declared.faults.Origin.TheVariants as origin
use Rattle.halls.specs.declared.courses.Course.{Course}

-- the opening is refused for what this sector holds
abbrev pub EndsAt : Course → ℕ → Type 0
EndsAt course sector = (fault : ExchangeFault) × (course.fault ≡ Some fault) × (fault.origin ≡ origin.Exchange sector)
