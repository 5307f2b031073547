-- A page looked for, in its sector.
use Rattle.std.specs.Prelude.{◌≡◌, ℕ, true, false, List, [], ◌∷◌, length, Some, None, Ok, Err, Option, Result, ◌≢◌}
use Rattle.records.specs.Pages.{page_of, numbers_good, decoded_page, bytes_look_for, held}
use Rattle.records.specs.declared.commands.Command.{Command}
use Rattle.records.specs.declared.pages.PageHead.{PageHead}
use Rattle.records.specs.declared.pages.Page.{Page}
use Rattle.device.specs.Meaning.{Meaning, bytes}
use Rattle.device.specs.Runs.{CutIn}
use Rattle.device.specs.declared.fault.DeviceFault.TheVariants.{OutOfRange, Cut, Torn}
use Rattle.device.specs.declared.run.Operation.TheVariants as op
use Rattle.protocol.specs.declared.faults.JournalFault.{JournalFault}
use Rattle.protocol.specs.declared.faults.JournalFault.TheVariants as fault

-- no sector of that page: torn, or its bytes 2 to 15 are others
pub record NotThere (m : Meaning) (at : ℕ) (h : PageHead) (n : Meaning) : Type 0 where
  pub same : n ≡ m
  pub lit : m.lit ≡ true
  pub nothing : (b : List ℕ) → m.reads at ≡ bytes b → bytes_look_for h.house h.number b ≡ false

-- the good page with this head and these commands
pub record There (m : Meaning) (at : ℕ) (h : PageHead) (cs : List Command) (n : Meaning) : Type 0 where
  pub same : n ≡ m
  pub lit : m.lit ≡ true
  pub content : List ℕ
  pub here : m.reads at ≡ bytes content
  pub looks : bytes_look_for h.house h.number content ≡ true
  pub good : decoded_page content ≡ Some (page_of h cs)
  pub numbers : numbers_good h (length cs) ≡ true

-- that page, but not good or with another first command
pub record BadThere (m : Meaning) (at : ℕ) (h : PageHead) (n : Meaning) : Type 0 where
  pub same : n ≡ m
  pub lit : m.lit ≡ true
  pub content : List ℕ
  pub here : m.reads at ≡ bytes content
  pub looks : bytes_look_for h.house h.number content ≡ true
  pub bad : (cs : List Command) → decoded_page content ≢ Some (page_of h cs)

abbrev pub PageFound : Meaning → ℕ → PageHead → Result (Option Page) JournalFault → Meaning → Type 0
PageFound m at h (Ok None) n = NotThere m at h n
PageFound m at h (Ok (Some p)) n = There m at h (held p.commands) n
PageFound m at h (Err (fault.Device (Cut s))) n = CutIn m (op.Read at ∷ []) s n
PageFound m at h (Err (fault.Device (OutOfRange s))) n = ⊥
PageFound m at h (Err (fault.Device (Torn s))) n = ⊥
PageFound m at h (Err fault.NoHeader) n = ⊥
PageFound m at h (Err (fault.Refused s)) n = ⊥
PageFound m at h (Err (fault.OtherLast s)) n = ⊥
PageFound m at h (Err (fault.BadPage s)) n = (s ≡ at) × BadThere m at h n
