-- Two pages that are less than a journal apart lie in different sectors.
use Rattle.std.proofs.Common.{◌≡◌, ℕ, suc, ◌+◌, ◌-◌, ◌<◌, ◌≤◌, mod-lt, arith}
use Rattle.journal.specs.Places.{journal}
use Rattle.journal.specs.Slots.{header_place}
use Rattle.journal.specs.declared.slots.Slot.{Slot}
use Rattle.journal.specs.declared.slots.Slot.TheVariants.{Zero, One}
use Rattle.journal.proofs.Sectors as places
use Rattle.protocol.specs.Worlds.{World, sector, body_at}
use Rattle.protocol.proofs.Codecs.{Laws}

module _ {S : Type 0} (w : World S) (laws : Laws w) where
  pub journal_pos : 0 < journal w.size
  journal_pos = let h = laws.roomy in omega arith

  -- pages c + 1 to c + journal lie in different sectors
  pub apart : (c a b : ℕ) → c ≤ a → c ≤ b → a < c + journal w.size → b < c + journal w.size → sector w (suc a) ≡ sector w (suc b) → a ≡ b
  apart c a b la lb ra rb e = let k = places.apart w.size c (suc a) (suc b) (omega arith) (omega arith) (omega arith) (omega arith) e in omega arith

  pub in_journal : (p : ℕ) → (8 ≤ sector w p) × (sector w p < w.size)
  in_journal p =
      let m = mod-lt (p - 1) journal_pos in
      let r = laws.roomy in
      (omega arith, omega arith)

pub below_journal : (t : Slot) → header_place t < 8
below_journal Zero = omega arith
below_journal One = omega arith

pub body_below : (t : Slot) (i : ℕ) → i < 3 → body_at t i < 8
body_below Zero i h = omega arith
body_below One i h = omega arith
