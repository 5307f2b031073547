-- What the words of the command line ask for, and what is told of those that ask for nothing.
use Rattle.std.specs.Prelude.{◌≡◌, ℕ, ◌≤◌, List, [], ◌∷◌, ◌++◌, map, codes, Some, None, Option}
use denote.Ref.{Bor}
use Rattle.words.specs.Spellings.{Writes}
use Rattle.jobs.specs.declared.faults.JobFault.TheVariants as job_fault
use Rattle.runs.specs.declared.tellers.Format.{Format}
use Rattle.runs.specs.declared.tellers.Format.TheVariants.{Text, Csv}
use Rattle.play_words.specs.Markets.{market_word}
use Rattle.play_words.specs.declared.script.MarketKind.{MarketKind}
use Rattle.play_words.specs.declared.script.MarketKind.TheVariants.{Book}
use Rattle.cli.specs.Commands.{command_name}
use Rattle.cli.specs.Options.{value_in, SplitOff, TellsUnknown}
use Rattle.cli.specs.declared.helps.Command.{Command}
use Rattle.cli.specs.declared.helps.Command.TheVariants as command
use Rattle.halls.specs.declared.setting.Setting.{Setting}
use Rattle.runs.specs.declared.running.Run.{Run}
use Rattle.cli.specs.declared.faults.WordFault.{WordFault}
use Rattle.cli.specs.declared.faults.WordFault.TheVariants as word
use Rattle.cli.specs.declared.faults.Fault.{Fault}
use Rattle.cli.specs.declared.faults.Fault.TheVariants as fault
use Rattle.cli.specs.declared.asking.Job.{Job}
use Rattle.cli.specs.declared.asking.Job.TheVariants as job

-- the first of these words is told so
abbrev pub TellsFirst : List (List ℕ) → WordFault → Type 0
TellsFirst [] e = ⊥
TellsFirst (w ∷ ws) e = TellsUnknown w e

-- the names of the formats; a word that is none of them
abbrev pub format_word : Format → List ℕ
format_word Text = codes "text"
format_word Csv = codes "csv"

abbrev pub NoFormat : List ℕ → Type 0
NoFormat w = (f : Format) → format_word f ≡ w → ⊥

-- why a word is no number of plans: it writes 0, or no number that fits
abbrev pub NoPlansIn : List ℕ → WordFault → Type 0
NoPlansIn w word.NoPlans = Writes w 0
NoPlansIn w (word.NoNumber what) = Unit {0}
NoPlansIn w e = ⊥

-- the word begins as an option does
abbrev pub IsOption : List ℕ → Type 0
IsOption w = (rest : List ℕ) × (w ≡ codes "--" ++ rest)

-- a word that begins as an option is told as one that may not stand there
abbrev pub TellsOption : WordFault → Type 0
TellsOption e = (w : List ℕ) × IsOption w × TellsUnknown w e

-- the first word is no name of a file: there is none, or it begins as an option
abbrev pub NoFile : List (List ℕ) → Type 0
NoFile [] = Unit {0}
NoFile (w ∷ ws) = IsOption w

-- what is told of the words of a command
abbrev pub told : WordFault → Option Command → Fault
told word.NoMemory c = fault.Stopped job_fault.NoMemory
told why c = fault.Words why c

-- the first word, and the second
abbrev pub First : List ℕ → List (List ℕ) → Type 0
First w [] = ⊥
First w (v ∷ vs) = v ≡ w

abbrev pub Second : List ℕ → List (List ℕ) → Type 0
Second w [] = ⊥
Second w (v ∷ vs) = First w vs

-- the first word is the name of the file that has the input, or none is named
abbrev pub Input : List (List ℕ) → Option (Bor (List ℕ)) → Type 0
Input ws None = NoFile ws
Input ws (Some file) = First file.now ws × (IsOption file.now → ⊥)

-- the words behind the first
abbrev pub behind_first : List (List ℕ) → List (List ℕ)
behind_first [] = []
behind_first (w ∷ ws) = ws

-- The job is that of the command that the first word names; the second one names its script or its file, and after
-- `match` and `page` the file of the input where it is no option. After `play` come
-- scripts alone, after `show` and its file nothing, and a drill tries a plan at least.
abbrev pub Asks : List (List ℕ) → Job → Type 0
Asks ws (job.Help None) = First (codes "--help") ws
Asks ws (job.Help (Some c)) = First (command_name c) ws
Asks ws (job.Match m file) = First (codes "match") ws × Input (behind_first ws) file
Asks ws (job.Page n file) = First (codes "page") ws × Input (behind_first ws) file
Asks ws (job.Play scripts) = ws ≡ codes "play" ∷ map (λ x. x.now) scripts.now
Asks ws (job.Drill o) = First (codes "drill") ws × Second o.script.now ws × (1 ≤ o.plans)
Asks ws (job.SetUp s) = First (codes "setup") ws × Second s.file.now ws
Asks ws (job.Run r) = First (codes "run") ws × Second r.file.now ws
Asks ws (job.Show file) = ws ≡ codes "show" ∷ (file.now ∷ [])

-- the market and the format that an option names; a book and text where there is none
abbrev pub MarketSaid : Option (Bor (List ℕ)) → MarketKind → Type 0
MarketSaid (Some w) m = market_word m ≡ w.now
MarketSaid None m = m ≡ Book

abbrev pub FormatSaid : Option (Bor (List ℕ)) → Format → Type 0
FormatSaid (Some w) f = format_word f ≡ w.now
FormatSaid None f = f ≡ Text

-- the option of this name is there, and writes this number
abbrev pub Numbered : List ℕ → List (Bor (List ℕ)) → ℕ → Type 0
Numbered name words n = (w : Bor (List ℕ)) × (value_in name words ≡ Some w) × Writes w.now n

-- the option of this name is there, and names this market
abbrev pub Marketed : List (Bor (List ℕ)) → MarketKind → Type 0
Marketed words m = (w : Bor (List ℕ)) × (value_in (codes "--market") words ≡ Some w) × (market_word m ≡ w.now)

-- what the options of a set-up say, and those of a run
pub record SaidSetUp (words : List (Bor (List ℕ))) (s : Setting) : Type 0 where
  pub rest : List (Bor (List ℕ))
  pub force : SplitOff (codes "--force") words rest s.force
  pub mirror : s.mirror ≡ value_in (codes "--mirror") rest
  pub house : Numbered (codes "--house") rest s.house.0
  pub market : Marketed rest s.market
  pub sectors : Numbered (codes "--sectors") rest s.sectors

pub record SaidRun (words : List (Bor (List ℕ))) (r : Run) : Type 0 where
  pub mirror : r.mirror ≡ value_in (codes "--mirror") words
  pub house : Numbered (codes "--house") words r.house.0
  pub market : Marketed words r.market
  pub format : FormatSaid (value_in (codes "--format") words) r.format

-- the words behind the name of a file, where one is named
abbrev pub behind : Option (Bor (List ℕ)) → List (Bor (List ℕ)) → List (Bor (List ℕ))
behind None ws = ws
behind (Some file) [] = []
behind (Some file) (w ∷ ws) = ws

abbrev pub SaidMatch : List (Bor (List ℕ)) → Job → Type 0
SaidMatch ws (job.Match m file) = MarketSaid (value_in (codes "--market") (behind file ws)) m
SaidMatch ws j = ⊥

abbrev pub SaidPage : List (Bor (List ℕ)) → Job → Type 0
SaidPage ws (job.Page n file) = Numbered (codes "--sectors") (behind file ws) n
SaidPage ws j = ⊥

abbrev pub SaidSetting : List (Bor (List ℕ)) → Job → Type 0
SaidSetting ws (job.SetUp s) = SaidSetUp ws s
SaidSetting ws j = ⊥

abbrev pub SaidRunning : List (Bor (List ℕ)) → Job → Type 0
SaidRunning ws (job.Run r) = SaidRun ws r
SaidRunning ws j = ⊥
