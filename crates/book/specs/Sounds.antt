-- An entering order keeps the book sound.
use Rattle.std.specs.Prelude.{◌≡◌, ℕ, ◌+◌, ◌<◌, ◌≤◌, Bool, true, false, cond, List, ◌++◌, length, ◌==◌, nat_lt, refl}
use Rattle.std.proofs.Common.{sym, ap, subst, ◌∙◌, arith, length-append, rules, ltb-true}
use Rattle.std.specs.Option.{option_to_list}
use Rattle.std.proofs.lemmas.Bool.{and_parts, eqb-false, and_from}
use Rattle.records.specs.declared.numbers.CommandNumber.{CommandNumber}
use Rattle.records.specs.declared.numbers.Member.{Member}
use Rattle.records.specs.declared.commands.Side.{Side}
use Rattle.records.specs.declared.commands.Side.TheVariants.{Buy, Sell}
use Rattle.records.specs.declared.notices.Notice.{Notice}
use Rattle.market.specs.declared.orders.Order.{Order}
use Rattle.market.specs.Lists.{all, pairwise, across, placed}
use Rattle.market.specs.Orders.{before, other, below, differ, kept, less, rested, is_of}
use Rattle.market.specs.Resting.{Resting, sound, passed, withdrawn}
use Rattle.market.proofs.ListLaws.{all_weaken, all_placed, across_swap, across_without}
use Rattle.market.proofs.Sounds.{SideSound, Sound, sound_fact, sound_test, side_up, side_tail, side_less, side_placed, all_new, differ_swap, passed_sound, withdrawn_sound}
use Rattle.book.specs.Matching.{trades, met, traded, Sides, Traded}
use Rattle.book.specs.Fairness.{LeftOf}
use Rattle.book.specs.Steps.{Valid, entered}
use Rattle.book.specs.Meetings.{met_ind, met_few}

-- the rows that a meeting leaves are sound
met_sound : (s t : Side) (n : ℕ) (o : Order) (rs : List Order) → SideSound t n rs → SideSound t n (met s o rs).rows
met_sound s t n = met_ind s (λ o rs m. SideSound t n rs → SideSound t n m.rows)
    (λ o q. q) (λ o r rs e q. q) (λ o r rs e l q. side_less o.lots.0 l q) (λ o r rs m e l k q. k (side_tail q))

-- what a price or a number has to do with rows, it has to do with what a meeting leaves of them
met_all : (p : Order → Bool) → ((r : Order) (n : ℕ) → p r ≡ true → p (less r n) ≡ true) → (s : Side) (o : Order) (rs : List Order) → all p rs ≡ true → all p (met s o rs).rows ≡ true
met_all p f s = met_ind s (λ o rs m. all p rs ≡ true → all p m.rows ≡ true)
    (λ o q. q) (λ o r rs e q. q)
    (λ o r rs e l q. let a = and_parts (p r) (all p rs) q in and_from (p (less r o.lots.0)) (all p rs) (f r o.lots.0 a.0) a.1)
    (λ o r rs m e l k q. k (and_parts (p r) (all p rs) q).1)

-- what is left of an order is the same order
pub met_taker : (s : Side) (o : Order) (rs : List Order) → LeftOf o (met s o rs).taker
met_taker s = met_ind s (λ o rs m. LeftOf o m.taker)
    (λ o. record { number = refl; member = refl; price = refl; lots = omega arith })
    (λ o r rs t. record { number = refl; member = refl; price = refl; lots = omega arith })
    (λ o r rs t l. record { number = refl; member = refl; price = refl; lots = omega arith })
    (λ o r rs m t l k. record { number = k.number; member = k.member; price = k.price; lots = omega (arith, k.lots) })

kept_left : (n : ℕ) (o p : Order) → LeftOf o p → 0 < p.lots.0 → kept n o ≡ true → kept n p ≡ true
kept_left n o p e l h =
    let a : p.number.0 ≡ o.number.0 = ap (λ x. x.0) e.number in
    let b : p.member.0 ≡ o.member.0 = ap (λ x. x.0) e.member in
    let c : p.price.0 ≡ o.price.0 = ap (λ x. x.0) e.price in
    let d = e.lots in
    search rules

-- whose price keeps o's side and the other side apart
abbrev pub beyond : Side → Order → Order → Bool
beyond Buy o r = nat_lt o.price.0 r.price.0
beyond Sell o r = nat_lt r.price.0 o.price.0

-- what an order does not trade with, it does not trade with further down
further : (s : Side) (o r x : Order) → beyond s o r ≡ true → before (other s) r x ≡ true → beyond s o x ≡ true
further Buy o r x h k = search rules
further Sell o r x h k = search rules

no_trade : (s : Side) (o r : Order) → trades s o r ≡ false → 0 < o.lots.0 → beyond s o r ≡ true
no_trade Buy o r t h = search rules
no_trade Sell o r t h = search rules

beyond_less : (s : Side) (o r : Order) (n : ℕ) → beyond s o r ≡ true → beyond s o (less r n) ≡ true
beyond_less Buy o r n h = h
beyond_less Sell o r n h = h

beyond_left : (s : Side) (o p : Order) → LeftOf o p → (r : Order) → beyond s o r ≡ true → beyond s p r ≡ true
beyond_left Buy o p e r h = let c : p.price.0 ≡ o.price.0 = ap (λ x. x.0) e.price in search rules
beyond_left Sell o p e r h = let c : p.price.0 ≡ o.price.0 = ap (λ x. x.0) e.price in search rules

-- what is left of the order trades with none of the rows that are left
met_clear : (s : Side) (o : Order) (rs : List Order) → pairwise (before (other s)) rs ≡ true → 0 < (met s o rs).taker.lots.0 → all (beyond s o) (met s o rs).rows ≡ true
met_clear s = met_ind s (λ o rs m. pairwise (before (other s)) rs ≡ true → 0 < m.taker.lots.0 → all (beyond s o) m.rows ≡ true)
    (λ o q h. refl)
    (λ o r rs t q h. let a = and_parts (all (before (other s) r) rs) _ q in let b = no_trade s o r t h in
    and_from (beyond s o r) (all (beyond s o) rs) b (all_weaken (before (other s) r) (beyond s o) rs (λ x k. further s o r x b k) a.0))
    (λ o r rs t l q h. absurd (omega arith))
    (λ o r rs m t l k q h. all_weaken (beyond s (less o r.lots.0)) (beyond s o) m.rows (λ x j. unless s o x r.lots.0 j) (k (and_parts (all (before (other s) r) rs) _ q).1 h)) where
      unless : (s : Side) (o x : Order) (n : ℕ) → beyond s (less o n) x ≡ true → beyond s o x ≡ true
      unless Buy o x n j = j
      unless Sell o x n j = j

-- both sides after a trade, by what becomes of the remainder
module _ (s : Side) (o : Order) (own opposite : List Order) where
  pub traded_rows : (traded s o own opposite).opposite ≡ (met s o opposite).rows
  traded_rows = way ((met s o opposite).taker.lots.0 == 0) where
    way : (b : Bool) → (cond {A = Sides} b (record { own = own; opposite = (met s o opposite).rows; notices = (met s o opposite).fills })
        (record { own = (rested s (met s o opposite).taker own).0; opposite = (met s o opposite).rows; notices = (met s o opposite).fills ++ option_to_list (rested s (met s o opposite).taker own).1 })).opposite ≡ (met s o opposite).rows
    way true = refl
    way false = refl

  pub traded_ind : (P : List Order → Type 0) → P own → (0 < (met s o opposite).taker.lots.0 → length own < 32 → P (placed (before s) (met s o opposite).taker own)) → P (traded s o own opposite).own
  traded_ind P h k = way ((met s o opposite).taker.lots.0 == 0) (nat_lt (length own) 32) refl refl where
    way : (a b : Bool) → ((met s o opposite).taker.lots.0 == 0) ≡ a → nat_lt (length own) 32 ≡ b → P (traded s o own opposite).own
    way true b e f = simp e h
    way false true e f = simp (e, f) (k (let ne = eqb-false (met s o opposite).taker.lots.0 0 e in omega arith) (ltb-true (length own) 32 f))
    way false false e f = simp (e, f) h

  pub traded_few : length (traded s o own opposite).notices ≤ length opposite + 1
  traded_few = way ((met s o opposite).taker.lots.0 == 0) (nat_lt (length own) 32) refl refl (met_few s o opposite) where
    way : (a b : Bool) → ((met s o opposite).taker.lots.0 == 0) ≡ a → nat_lt (length own) 32 ≡ b → length (met s o opposite).fills ≤ length opposite → length (traded s o own opposite).notices ≤ length opposite + 1
    way true b e f h = simp e (omega arith)
    way false true e f h = simp (e, f, length-append) (omega arith)
    way false false e f h = simp (e, f, length-append) (omega arith)

  module _ (n : ℕ) (new : o.number.0 ≡ n + 1) (k : kept (n + 1) o ≡ true) (f : SideSound s n own) (g : SideSound (other s) n opposite) where
    taker : Order
    taker = (met s o opposite).taker

    newest : (met s o opposite).taker.number.0 ≡ n + 1
    newest = ap (λ x. x.0) (met_taker s o opposite).number ∙ new

    pub own_sound : SideSound s (n + 1) (traded s o own opposite).own
    own_sound = traded_ind (SideSound s (n + 1)) (side_up (n + 1) (omega arith) f)
        (λ l m. let j = newest in side_placed (n + 1) (met s o opposite).taker (omega arith) (omega arith) (kept_left (n + 1) o _ (met_taker s o opposite) l k) m f)

    pub opposite_sound : SideSound (other s) (n + 1) (traded s o own opposite).opposite
    opposite_sound = subst (SideSound (other s) (n + 1)) (sym traded_rows) (side_up (n + 1) (omega arith) (met_sound s (other s) n o opposite g))

    still_separate : across differ own opposite ≡ true → across differ own (met s o opposite).rows ≡ true
    still_separate h = all_weaken (λ x. all (differ x) opposite) (λ x. all (differ x) (met s o opposite).rows) own (λ x. met_all (differ x) (λ r m e. e) s o opposite) h

    pub sides_separate : across differ own opposite ≡ true → across differ (traded s o own opposite).own (traded s o own opposite).opposite ≡ true
    sides_separate h =
        let j = newest in
        rw traded_rows (traded_ind (λ xs. across differ xs (met s o opposite).rows ≡ true) (still_separate h)
        (λ l m. all_placed (before s) _ (λ x. all (differ x) (met s o opposite).rows) own
        (all_new n (met s o opposite).taker (omega arith) (met s o opposite).rows (met_sound s (other s) n o opposite g).ranged) (still_separate h)))

    still_beyond : across (beyond s) own opposite ≡ true → across (beyond s) own (met s o opposite).rows ≡ true
    still_beyond h = all_weaken (λ x. all (beyond s x) opposite) (λ x. all (beyond s x) (met s o opposite).rows) own (λ x. met_all (beyond s x) (λ r m e. beyond_less s x r m e) s o opposite) h

    pub sides_beyond : across (beyond s) own opposite ≡ true → across (beyond s) (traded s o own opposite).own (traded s o own opposite).opposite ≡ true
    sides_beyond h =
        rw traded_rows (traded_ind (λ xs. across (beyond s) xs (met s o opposite).rows ≡ true) (still_beyond h)
        (λ l m. all_placed (before s) _ (λ x. all (beyond s x) (met s o opposite).rows) own
        (all_weaken (beyond s o) (beyond s (met s o opposite).taker) (met s o opposite).rows (λ r e. beyond_left s o _ (met_taker s o opposite) r e) (met_clear s o opposite g.ranked l)) (still_beyond h)))

pub book_fact : (h : Resting) → Valid h → Sound h × (across below h.buys h.sells ≡ true)
book_fact h v = let a = and_parts (sound h) (across below h.buys h.sells) v in (sound_fact h a.0, a.1)

pub book_test : (h : Resting) → Sound h → across below h.buys h.sells ≡ true → Valid h
book_test h f b = and_from (sound h) (across below h.buys h.sells) (sound_test h f) b

pub entered_valid : (h : Resting) (s : Side) (o : Order) → o.number.0 ≡ h.last + 1 → kept (h.last + 1) o ≡ true → h.last < 1_000_000_000_000 → Valid h → Valid (entered h s o).0
entered_valid h Buy o new k l v =
    let f = book_fact h v in
    book_test (entered h Buy o).0 (record {
      bounded = omega arith;
      buys = own_sound Buy o h.buys h.sells h.last new k f.0.buys f.0.sells;
      sells = opposite_sound Buy o h.buys h.sells h.last new k f.0.buys f.0.sells;
      separate = sides_separate Buy o h.buys h.sells h.last new k f.0.buys f.0.sells f.0.separate;
    })
    (sides_beyond Buy o h.buys h.sells h.last new k f.0.buys f.0.sells f.1)
entered_valid h Sell o new k l v =
    let f = book_fact h v in
    let t = traded Sell o h.sells h.buys in
    book_test (entered h Sell o).0 (record {
      bounded = omega arith;
      buys = opposite_sound Sell o h.sells h.buys h.last new k f.0.sells f.0.buys;
      sells = own_sound Sell o h.sells h.buys h.last new k f.0.sells f.0.buys;
      separate = across_swap differ differ differ_swap t.own t.opposite (sides_separate Sell o h.sells h.buys h.last new k f.0.sells f.0.buys (across_swap differ differ differ_swap h.buys h.sells f.0.separate));
    })
    (across_swap (beyond Sell) below (λ x y e. e) t.own t.opposite (sides_beyond Sell o h.sells h.buys h.last new k f.0.sells f.0.buys (across_swap below (beyond Sell) (λ x y e. e) h.buys h.sells f.1)))

-- what the code leaves of the two sides is the state after the order
module _ (h : Resting) (o : Order) (new : o.number.0 ≡ h.last + 1) (k : kept (h.last + 1) o ≡ true) (l : h.last < 1_000_000_000_000) (v : Valid h)
    {xs : List Notice} {rs qs : List Order} {ys : List Notice} {n : ℕ} where
  pub bought_valid : Traded (traded Buy o h.buys h.sells) xs rs qs ys n → Valid (record { last = h.last + 1; buys = rs; sells = qs })
  bought_valid t = rw (t.own, t.opposite) (entered_valid h Buy o new k l v)

  pub sold_valid : Traded (traded Sell o h.sells h.buys) xs rs qs ys n → Valid (record { last = h.last + 1; buys = qs; sells = rs })
  sold_valid t = rw (t.own, t.opposite) (entered_valid h Sell o new k l v)

-- the other commands
pub passed_valid : (h : Resting) → h.last < 1_000_000_000_000 → Valid h → Valid (passed h)
passed_valid h l v = let f = book_fact h v in book_test (passed h) (passed_sound h l f.0) f.1

pub withdrawn_valid : (h : Resting) (m : Member) (n : CommandNumber) → h.last < 1_000_000_000_000 → Valid h → Valid (withdrawn h m n).0
withdrawn_valid h m n l v =
    let f = book_fact h v in
    book_test (withdrawn h m n).0 (withdrawn_sound h m n l f.0) (across_without (is_of m n) (is_of m n) below h.buys h.sells f.1)
