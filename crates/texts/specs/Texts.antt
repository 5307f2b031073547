-- The lines that are printed.
use Rattle.std.specs.Prelude.{◌≡◌, ℕ, List, ◌++◌, codes, decimal}
use Rattle.records.specs.declared.commands.Side.{Side}
use Rattle.records.specs.declared.commands.Side.TheVariants.{Buy, Sell}
use Rattle.records.specs.declared.commands.Command.{Command}
use Rattle.records.specs.declared.commands.Command.TheVariants.{Enter, Cancel, Cross}
use Rattle.records.specs.declared.notices.Kind.{Kind}
use Rattle.records.specs.declared.notices.Kind.TheVariants.{Fill, Dropped, Cancelled}
use Rattle.records.specs.declared.notices.Notice.{Notice}
use Rattle.market.specs.declared.orders.Order.{Order}

abbrev pub side_word : Side → List ℕ
side_word Buy = codes "buy"
side_word Sell = codes "sell"

-- the word is no side's
abbrev pub NoSideWord : List ℕ → Type 0
NoSideWord w = (s : Side) → w ≡ side_word s → ⊥

-- a command that was taken, under its number
abbrev pub command_text : ℕ → Command → List ℕ
command_text n (Enter m s p l) =
    codes "command " ++ (decimal n ++ (codes " enter member " ++ (decimal m.0 ++ (codes " " ++ (side_word s ++ (codes " " ++ (decimal p.0 ++ (codes " lots " ++ decimal l.0))))))))
command_text n (Cancel m o) = codes "command " ++ (decimal n ++ (codes " cancel member " ++ (decimal m.0 ++ (codes " order " ++ decimal o.0))))
command_text n Cross = codes "command " ++ (decimal n ++ codes " cross")

-- what a notice tells, by its kind
abbrev pub told_text : Kind → Notice → List ℕ
told_text Fill v =
    codes " fill buy " ++ (decimal v.a.order.0 ++ (codes " member " ++ (decimal v.a.member.0 ++ (codes " sell " ++ (decimal v.b.order.0
    ++ (codes " member " ++ (decimal v.b.member.0 ++ (codes " price " ++ (decimal v.price.0 ++ (codes " lots " ++ decimal v.lots.0))))))))))
told_text Dropped v =
    codes " dropped order " ++ (decimal v.a.order.0 ++ (codes " member " ++ (decimal v.a.member.0 ++ (codes " lots " ++ decimal v.lots.0))))
told_text Cancelled v =
    codes " cancelled order " ++ (decimal v.a.order.0 ++ (codes " member " ++ (decimal v.a.member.0 ++ (codes " lots " ++ decimal v.lots.0))))

-- a notice, under its number
abbrev pub notice_text : Notice → List ℕ
notice_text v = codes "notice " ++ (decimal v.number.0 ++ (codes " command " ++ (decimal v.command.0 ++ told_text v.kind v)))

-- an order that rests
abbrev pub order_text : Side → Order → List ℕ
order_text s o =
    side_word s ++ (codes " " ++ (decimal o.number.0 ++ (codes " member " ++ (decimal o.member.0 ++ (codes " price " ++ (decimal o.price.0 ++ (codes " lots " ++ decimal o.lots.0)))))))
