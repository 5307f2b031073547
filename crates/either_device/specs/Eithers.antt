-- One of two devices. Assumes nothing.
use Rattle.std.specs.Prelude.{◌⊎◌}
use Rattle.std.proofs.Common.{inl, inr}
use Rattle.device.specs.Meaning.{Meaning, Lawful}
use Rattle.either_device.specs.declared.Either.{Either}
use Rattle.either_device.specs.declared.Either.TheVariants.{First, Second}

-- what the device that is held means
abbrev pub meant_by : {A B : Type 0} → (A → Meaning) → (B → Meaning) → Either A B → Meaning
meant_by f g (First a) = f a
meant_by f g (Second b) = g b

pub meant_lawful : {A B : Type 0} (f : A → Meaning) (g : B → Meaning) → ((a : A) → Lawful (f a)) → ((b : B) → Lawful (g b)) → (e : Either A B) → Lawful (meant_by f g e)
meant_lawful f g l m (First a) = l a
meant_lawful f g l m (Second b) = m b

-- the memory that it stands on
abbrev pub lent_by : {A B X Y : Type 0} → (A → X) → (B → Y) → Either A B → X ⊎ Y
lent_by f g (First a) = inl (f a)
lent_by f g (Second b) = inr (g b)
