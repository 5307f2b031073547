-- The words that are printed of calls and answers. Assumes nothing.
use Rattle.std.specs.Prelude.{ℕ, List, ◌++◌, codes, decimal}
use Rattle.records.specs.declared.commands.Command.{Command}
use Rattle.records.specs.declared.commands.Command.TheVariants.{Enter, Cancel, Cross}
use Rattle.texts.specs.Texts.{side_word}
use Rattle.protocol.specs.Faults.{reason_of, own_fault_of, sector_of, layer_of}
use Rattle.protocol.specs.declared.faults.ExchangeFault.{ExchangeFault}
use Rattle.protocol.specs.declared.tokens.TicketNumbers.{TicketNumbers}
use Rattle.protocol.specs.declared.tokens.ReceiptNumbers.{ReceiptNumbers}
use Rattle.protocol.specs.declared.phases.Phase.{Phase}
use Rattle.protocol.specs.declared.phases.Phase.TheVariants.{Live, Written, Dark, Replaying}

-- a command as a script has it
abbrev pub command_words : Command → List ℕ
command_words (Enter m s p l) =
    codes "enter " ++ (decimal m.0 ++ (codes " " ++ (side_word s ++ (codes " " ++ (decimal p.0 ++ (codes " " ++ decimal l.0))))))
command_words (Cancel m o) = codes "cancel " ++ (decimal m.0 ++ (codes " " ++ decimal o.0))
command_words Cross = codes "cross"

-- a refusal: its reason, the device's own fault, the sector and the layer
abbrev pub refusal_text : ExchangeFault → List ℕ
refusal_text f =
    codes "refused " ++ (decimal (reason_of f) ++ (codes " fault " ++ (decimal (own_fault_of f.origin) ++ (codes " sector " ++ (decimal (sector_of f.origin) ++ (codes " layer " ++ decimal (layer_of f.origin)))))))

abbrev pub ticket_text : TicketNumbers → List ℕ
ticket_text t = codes "house " ++ (decimal t.house.0 ++ (codes " page " ++ decimal t.page.0))

abbrev pub receipt_text : ReceiptNumbers → List ℕ
receipt_text r =
    codes "house " ++ (decimal r.house.0 ++ (codes " page " ++ (decimal r.page.0 ++ (codes " first " ++ (decimal r.first.0
    ++ (codes " commands " ++ (decimal r.commands ++ (codes " notice " ++ (decimal r.notice.0 ++ (codes " notices " ++ decimal r.notices))))))))))

abbrev pub phase_word : Phase → List ℕ
phase_word Live = codes "live"
phase_word Written = codes "written"
phase_word Dark = codes "dark"
phase_word Replaying = codes "replaying"
