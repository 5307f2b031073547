-- The book keeps the laws of a market.
use Rattle.std.specs.Prelude.{◌≡◌, ℕ, ◌+◌, ◌<◌, ◌≤◌, Bool, true, false, cond, List, [], length, ◌==◌, nat_lt, refl, Some}
use Rattle.std.proofs.Common.{ap, ◌∙◌, arith, ltb-true}
use Rattle.std.proofs.lemmas.Bool.{and_parts, both_ways, and_from}
use Rattle.records.specs.Commands.{good}
use Rattle.records.specs.declared.commands.Side.{Side}
use Rattle.records.specs.declared.commands.Side.TheVariants.{Buy, Sell}
use Rattle.records.specs.declared.commands.Command.{Command}
use Rattle.records.specs.declared.commands.Command.TheVariants.{Enter, Cancel, Cross}
use Rattle.market.specs.declared.orders.Order.{Order}
use Rattle.market.specs.Lists.{all}
use Rattle.market.specs.Resting.{Resting, nothing, sound, arriving, passed}
use Rattle.market.specs.Steps.{uncounted}
use Rattle.market.specs.Orders.{below}
use Rattle.market.proofs.ListLaws.{all_in}
use Rattle.market.proofs.Sounds.{arriving_kept}
use Rattle.market.proofs.StepLaws.{stepped_keeps, stepped_few, stepped_counts, stepped_uncounts, all_append, uncounted_of, rested_uncounted, withdrawn_few, withdrawn_uncounted, bounded as orders_bounded}
use Rattle.records.specs.LittleEndian.{Bytes}
use Rattle.body.specs.Layout.{body}
use Rattle.body.specs.Loads.{loads}
use Rattle.body.proofs.Loading.{loads_back, loads_only, body_bytes, sized as orders_sized}
use Rattle.book.specs.Matching.{fill_with, met, traded}
use Rattle.book.specs.Fairness.{Uncrossed, Fair}
use Rattle.book.specs.Steps.{book_sound, Valid, entered, acted, book_step}
use Rattle.book.specs.Meetings.{met_ind}
use Rattle.book.specs.Sounds.{book_fact, entered_valid, passed_valid, withdrawn_valid, traded_few, met_taker}

pub fresh_valid : Valid nothing
fresh_valid = refl

pub starts : Valid nothing × (nothing.last ≡ 0)
starts = (fresh_valid, refl)

pub orders : (h : Resting) → Valid h → sound h ≡ true
orders h v = (and_parts (sound h) _ v).0

pub passes : (h : Resting) → Valid h → h.last < 1_000_000_000_000 → Valid (passed h)
passes h v l = passed_valid h l v

pub acted_valid : (h : Resting) (c : Command) → Valid h → h.last < 1_000_000_000_000 → good c ≡ true → Valid (acted h c).0
acted_valid h (Enter m s p q) v l g = entered_valid h s (arriving h m p q) refl (arriving_kept h m p q g) l v
acted_valid h (Cancel m n) v l g = withdrawn_valid h m n l v
acted_valid h Cross v l g = passed_valid h l v

pub keeps : (h : Resting) (c : Command) → Valid h → Valid (book_step h c).0
keeps = stepped_keeps acted book_sound acted_valid passes

entered_few : (h : Resting) (s : Side) (o : Order) → Valid h → length (entered h s o).1 ≤ 64
entered_few h Buy o v = let f = book_fact h v in omega (arith, traded_few Buy o h.buys h.sells, f.0.sells.few)
entered_few h Sell o v = let f = book_fact h v in omega (arith, traded_few Sell o h.sells h.buys, f.0.buys.few)

pub acted_few : (h : Resting) (c : Command) → Valid h → length (acted h c).1 ≤ 64
acted_few h (Enter m s p q) v = entered_few h s (arriving h m p q) v
acted_few h (Cancel m n) v = omega (arith, withdrawn_few h m n)
acted_few h Cross v = omega arith

pub few : (h : Resting) (c : Command) → Valid h → length (book_step h c).1 ≤ 64
few = stepped_few acted book_sound acted_few

pub acted_counts : (h : Resting) (c : Command) → (acted h c).0.last ≡ h.last + 1
acted_counts h (Enter m Buy p q) = refl
acted_counts h (Enter m Sell p q) = refl
acted_counts h (Cancel m n) = refl
acted_counts h Cross = refl

pub counts : (h : Resting) (c : Command) → (book_step h c).0.last ≡ cond (nat_lt h.last 1_000_000_000_000) (h.last + 1) h.last
counts = stepped_counts acted acted_counts

-- a fill is the entering order's command's
fill_uncounted : (s : Side) (n : ℕ) (o r : Order) (k : ℕ) → o.number.0 ≡ n → uncounted n (fill_with s o r k) ≡ true
fill_uncounted Buy n o r k e = uncounted_of n o.number.0 e
fill_uncounted Sell n o r k e = uncounted_of n o.number.0 e

met_uncounted : (s : Side) (n : ℕ) (o : Order) (rs : List Order) → o.number.0 ≡ n → all (uncounted n) (met s o rs).fills ≡ true
met_uncounted s n = met_ind s (λ o rs m. o.number.0 ≡ n → all (uncounted n) m.fills ≡ true)
    (λ o e. refl) (λ o r rs t e. refl)
    (λ o r rs t l e. and_from (uncounted n (fill_with s o r o.lots.0)) true (fill_uncounted s n o r o.lots.0 e) refl)
    (λ o r rs m t l k e. and_from (uncounted n (fill_with s o r r.lots.0)) (all (uncounted n) m.fills) (fill_uncounted s n o r r.lots.0 e) (k e))

traded_uncounted : (s : Side) (n : ℕ) (o : Order) (own opposite : List Order) → o.number.0 ≡ n → all (uncounted n) (traded s o own opposite).notices ≡ true
traded_uncounted s n o own opposite e = way ((met s o opposite).taker.lots.0 == 0) refl where
  way : (b : Bool) → ((met s o opposite).taker.lots.0 == 0) ≡ b → all (uncounted n) (traded s o own opposite).notices ≡ true
  way true f = simp f (met_uncounted s n o opposite e)
  way false f = simp f (all_append (uncounted n) (met s o opposite).fills _ (met_uncounted s n o opposite e) (rested_uncounted s n (met s o opposite).taker own (ap (λ x. x.0) (met_taker s o opposite).number ∙ e)))

pub acted_uncounted : (h : Resting) (c : Command) → all (uncounted (h.last + 1)) (acted h c).1 ≡ true
acted_uncounted h (Enter m Buy p q) = traded_uncounted Buy (h.last + 1) (arriving h m p q) h.buys h.sells refl
acted_uncounted h (Enter m Sell p q) = traded_uncounted Sell (h.last + 1) (arriving h m p q) h.sells h.buys refl
acted_uncounted h (Cancel m n) = withdrawn_uncounted h m n
acted_uncounted h Cross = refl

pub uncounts : (h : Resting) (c : Command) → all (uncounted (h.last + 1)) (book_step h c).1 ≡ true
uncounts = stepped_uncounts acted acted_uncounted

-- no buy meets a sell
pub uncrossed : (h : Resting) → Valid h → Uncrossed h
uncrossed h v b s i j =
    let f = book_fact h v in
    let k = all_in (λ x. all (below x) h.sells) b h.buys i f.1 in
    ltb-true b.price.0 s.price.0 (all_in (below b) s h.sells j k)

-- a command that is not good passes, and at the last number nothing happens
pub passes_fair : (h : Resting) (c : Command) → Valid h → h.last < 1_000_000_000_000 → good c ≡ false → Fair h c (passed h) []
passes_fair h (Enter m s p q) v l b = (uncrossed (passed h) (passed_valid h l v), λ g k. absurd (both_ways _ b g))
passes_fair h (Cancel m n) v l b = uncrossed (passed h) (passed_valid h l v)
passes_fair h Cross v l b = uncrossed (passed h) (passed_valid h l v)

pub stays_fair : (h : Resting) (c : Command) → Valid h → 1_000_000_000_000 ≤ h.last → Fair h c h []
stays_fair h (Enter m s p q) v l = (uncrossed h v, λ g k. absurd (omega arith))
stays_fair h (Cancel m n) v l = uncrossed h v
stays_fair h Cross v l = uncrossed h v

pub bounded : (h : Resting) → Valid h → h.last ≤ 1_000_000_000_000
bounded h v = orders_bounded h (orders h v)

-- bodies
pub plain : (h : Resting) → Bytes (body h)
plain = body_bytes

pub sized : (h : Resting) → Valid h → length (body h) ≡ 1536
sized h v = orders_sized h (orders h v)

pub back : (h : Resting) → Valid h → loads book_sound (body h) ≡ Some h
back = loads_back book_sound orders

pub only : (b : List ℕ) (h : Resting) → loads book_sound b ≡ Some h → Valid h × (body h ≡ b)
only = loads_only book_sound orders
