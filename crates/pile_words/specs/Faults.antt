-- What is said of words that are no pile. Assumes nothing.
use Rattle.std.specs.Prelude.{ℕ, List, ◌++◌, codes}
use Rattle.pile_words.specs.declared.fault.PileFault.{PileFault}
use Rattle.pile_words.specs.declared.fault.PileFault.TheVariants.{Missing, Number, NoDevice, TooDeep, TooLarge, NoCuts, LeftOver, NoMemory}

abbrev pub fault_text : PileFault → List ℕ
fault_text (Missing what) = what.now ++ codes " is missing"
fault_text (Number what) = what.now ++ codes " is not a number that fits"
fault_text NoDevice = codes "a device is direct, writeback, offset or mirror"
fault_text TooDeep = codes "a pile is an offset over a mirror of offsets over drives, where each offset and the mirror may be left out"
fault_text TooLarge = codes "a drive has at most 65536 sectors"
fault_text NoCuts = codes "cuts are written COUNT:PLAN, with commas between them"
fault_text LeftOver = codes "words are left over after the pile"
fault_text NoMemory = codes "there is no memory left"
