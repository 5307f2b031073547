-- The records of the machine's format, a line each without its end: a word, and then numbers, with commas between. Assumes nothing.
use Rattle.std.specs.Prelude.{ℕ, List, [], ◌∷◌, ◌++◌, codes, decimal}
use Rattle.records.specs.declared.notices.Kind.{Kind}
use Rattle.records.specs.declared.notices.Kind.TheVariants.{Fill, Dropped, Cancelled}
use Rattle.records.specs.declared.notices.Notice.{Notice}
use Rattle.records.specs.declared.refusals.Refusal.{Refusal}
use Rattle.protocol.specs.declared.tokens.ReceiptNumbers.{ReceiptNumbers}
use Rattle.play_words.specs.Markets.{market_word}
use Rattle.runs.specs.declared.reports.Counts.{Counts}
use Rattle.runs.specs.declared.reports.Report.{Report}
use Rattle.runs.specs.declared.reports.Report.TheVariants as report

-- numbers, each with a comma before it
abbrev pub numbers : List ℕ → List ℕ
numbers [] = []
numbers (n ∷ ns) = codes "," ++ (decimal n ++ numbers ns)

-- a notice: its kind, its number and its command's, and then its parts
abbrev pub notice_record : Kind → Notice → List ℕ
notice_record Fill v = codes "fill" ++ numbers (v.number.0 ∷ v.command.0 ∷ v.a.order.0 ∷ v.a.member.0 ∷ v.b.order.0 ∷ v.b.member.0 ∷ v.price.0 ∷ v.lots.0 ∷ [])
notice_record Dropped v = codes "dropped" ++ numbers (v.number.0 ∷ v.command.0 ∷ v.a.order.0 ∷ v.a.member.0 ∷ v.lots.0 ∷ [])
notice_record Cancelled v = codes "cancelled" ++ numbers (v.number.0 ∷ v.command.0 ∷ v.a.order.0 ∷ v.a.member.0 ∷ v.lots.0 ∷ [])

abbrev pub receipt_record : ReceiptNumbers → List ℕ
receipt_record r = codes "receipt" ++ numbers (r.house.0 ∷ r.page.0 ∷ r.first.0 ∷ r.commands ∷ r.notice.0 ∷ r.notices ∷ [])

abbrev pub counts_record : Counts → List ℕ
counts_record c = numbers (c.pages.0 ∷ c.commands.0 ∷ c.notices.0 ∷ [])

-- what is told, as a record
abbrev pub record_of : Report → List ℕ
record_of (report.Opened h m p) = codes "opened," ++ (decimal h.0 ++ (codes "," ++ (market_word m ++ (codes "," ++ decimal p.0))))
record_of (report.Receipt r) = receipt_record r
record_of (report.Notice v) = notice_record v.kind v
record_of (report.Snapshot p) = codes "snapshot," ++ decimal p.0
record_of (report.Live c) = codes "live" ++ counts_record c
record_of (report.Done c) = codes "done" ++ counts_record c
