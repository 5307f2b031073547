-- The laws of a step, from those of what a market does at a good command.
use Rattle.std.proofs.Common.{◌≡◌, ℕ, ◌+◌, ◌<◌, ◌≤◌, Bool, true, false, cond, ◌&&◌, eqb, ltb, List, [], ◌∷◌, ◌++◌, length, take, Some, None, Option, sym, refl, subst, arith, rules, ltb-true, eq-eqb}
use lib.Seq.{take-append_seam}
use Rattle.std.specs.Option.{option_to_list, option_map}
use Rattle.std.proofs.lemmas.Bool.{and_parts, and_from}
use Rattle.records.specs.Commands.{good}
use Rattle.records.specs.declared.numbers.CommandNumber.{CommandNumber}
use Rattle.records.specs.declared.numbers.Member.{Member}
use Rattle.records.specs.declared.commands.Command.{Command}
use Rattle.records.specs.declared.commands.Side.{Side}
use Rattle.records.specs.declared.notices.Notice.{Notice}
use Rattle.market.specs.declared.orders.Order.{Order}
use Rattle.market.specs.Lists.{all}
use Rattle.market.specs.Orders.{cancelled, dropped, rested}
use Rattle.market.specs.Resting.{Resting, next, sound, passed, withdrawn, stepped}
use Rattle.market.specs.Steps.{Taken, uncounted}
use Rattle.market.proofs.Sounds.{sound_fact}

-- what holds of every step: at a good command, at one that is not, and at the last number
pub stepped_ind : (act : Resting → Command → Resting × List Notice) (h : Resting) (c : Command) (P : Resting × List Notice → Type 0) →
    (h.last < 1_000_000_000_000 → good c ≡ true → P (act h c)) → (h.last < 1_000_000_000_000 → P (passed h, [])) → P (h, []) → P (stepped act h c)
stepped_ind act h c P acts passes stays = way (ltb h.last 1_000_000_000_000) (good c) refl refl where
  way : (a b : Bool) → ltb h.last 1_000_000_000_000 ≡ a → good c ≡ b → P (cond a (cond b (act h c) (passed h, [])) (h, []))
  way true true e g = acts (ltb-true h.last 1_000_000_000_000 e) g
  way true false e g = passes (ltb-true h.last 1_000_000_000_000 e)
  way false b e g = stays

-- the count rises by one where what is done at a good command raises it so
pub stepped_counts : (act : Resting → Command → Resting × List Notice) → ((h : Resting) (c : Command) → (act h c).0.last ≡ h.last + 1) →
    (h : Resting) (c : Command) → (stepped act h c).0.last ≡ cond (ltb h.last 1_000_000_000_000) (h.last + 1) h.last
stepped_counts act f h c = way (ltb h.last 1_000_000_000_000) (good c) where
  way : (a b : Bool) → (cond a (cond b (act h c) (passed h, [])) (h, [])).0.last ≡ cond a (h.last + 1) h.last
  way true true = f h c
  way true false = refl
  way false b = refl

-- what every step keeps, where what is done at a good command keeps it
module _ (act : Resting → Command → Resting × List Notice) (v : Resting → Bool) where
  pub stepped_keeps : ((h : Resting) (c : Command) → v h ≡ true → h.last < 1_000_000_000_000 → good c ≡ true → v (act h c).0 ≡ true) →
      ((h : Resting) → v h ≡ true → h.last < 1_000_000_000_000 → v (passed h) ≡ true) → (h : Resting) (c : Command) → v h ≡ true → v (stepped act h c).0 ≡ true
  stepped_keeps keeps passes h c k = stepped_ind act h c (λ t. v t.0 ≡ true) (λ l g. keeps h c k l g) (λ l. passes h k l) k

  pub stepped_few : ((h : Resting) (c : Command) → v h ≡ true → length (act h c).1 ≤ 64) → (h : Resting) (c : Command) → v h ≡ true → length (stepped act h c).1 ≤ 64
  stepped_few few h c k = stepped_ind act h c (λ t. length t.1 ≤ 64) (λ l g. few h c k) (λ l. omega arith) (omega arith)

pub stepped_uncounts : (act : Resting → Command → Resting × List Notice) → ((h : Resting) (c : Command) → all (uncounted (h.last + 1)) (act h c).1 ≡ true) →
    (h : Resting) (c : Command) → all (uncounted (h.last + 1)) (stepped act h c).1 ≡ true
stepped_uncounts act f h c = stepped_ind act h c (λ t. all (uncounted (h.last + 1)) t.1 ≡ true) (λ l g. f h c) (λ l. refl) refl

pub bounded : (h : Resting) → sound h ≡ true → h.last ≤ 1_000_000_000_000
bounded h v = (sound_fact h v).bounded

pub all_append : {X : Type 0} (p : X → Bool) (xs ys : List X) → all p xs ≡ true → all p ys ≡ true → all p (xs ++ ys) ≡ true
all_append p [] ys h k = k
all_append p (x ∷ xs) ys h k = let a = and_parts (p x) (all p xs) h in and_from (p x) (all p (xs ++ ys)) a.0 (all_append p xs ys a.1 k)

-- a notice that a market writes has the number 0
pub uncounted_of : (n m : ℕ) → m ≡ n → (eqb 0 0 && eqb m n) ≡ true
uncounted_of n m e = and_from (eqb 0 0) (eqb m n) refl (eq-eqb m n e)

-- an order that comes to rest: at most one notice, of its own command
pub rested_few : (s : Side) (o : Order) (xs : List Order) → length (option_to_list (rested s o xs).1) ≤ 1
rested_few s o xs = way (ltb (length xs) 32) refl where
  way : (b : Bool) → ltb (length xs) 32 ≡ b → length (option_to_list (rested s o xs).1) ≤ 1
  way true f = simp f (omega arith)
  way false f = simp f (omega arith)

pub rested_uncounted : (s : Side) (n : ℕ) (o : Order) (xs : List Order) → o.number.0 ≡ n → all (uncounted n) (option_to_list (rested s o xs).1) ≡ true
rested_uncounted s n o xs e = way (ltb (length xs) 32) refl where
  way : (b : Bool) → ltb (length xs) 32 ≡ b → all (uncounted n) (option_to_list (rested s o xs).1) ≡ true
  way true f = simp f
  way false f = simp f (and_from (uncounted n (dropped o)) true (uncounted_of n o.number.0 e) refl)

-- a cancel's notice: at most one, and it is the cancel's
few_listed : (c : CommandNumber) (o : Option Order) → length (option_to_list (option_map (cancelled c) o)) ≤ 1
few_listed c None = omega arith
few_listed c (Some x) = omega arith

uncounted_listed : (n : ℕ) (c : CommandNumber) → c.0 ≡ n → (o : Option Order) → all (uncounted n) (option_to_list (option_map (cancelled c) o)) ≡ true
uncounted_listed n c e None = refl
uncounted_listed n c e (Some x) = and_from (uncounted n (cancelled c x)) true (uncounted_of n c.0 e) refl

pub withdrawn_few : (h : Resting) (m : Member) (n : CommandNumber) → length (withdrawn h m n).1 ≤ 1
withdrawn_few h m n = few_listed (next h) _

pub withdrawn_uncounted : (h : Resting) (m : Member) (n : CommandNumber) → all (uncounted (h.last + 1)) (withdrawn h m n).1 ≡ true
withdrawn_uncounted h m n = uncounted_listed (h.last + 1) (next h) refl _

-- at the last number a step does nothing
pub spent : (act : Resting → Command → Resting × List Notice) (h : Resting) (c : Command) (xs : List Notice) → 1_000_000_000_000 ≤ h.last → Taken (stepped act h c) xs h xs 0
spent act h c xs l = let e : ltb h.last 1_000_000_000_000 ≡ false = search rules in record { state = simp e; number = simp e; list = simp e }

-- before the last number a good command's step is what is done at it
pub stepped_acts : (act : Resting → Command → Resting × List Notice) (h : Resting) (c : Command) → h.last < 1_000_000_000_000 → good c ≡ true → stepped act h c ≡ act h c
stepped_acts act h c l g = let e : ltb h.last 1_000_000_000_000 ≡ true = search rules in simp (e, g)

-- what holds of the state and the notices that are taken holds of what is left in the state and in the front of the list
pub taken_tells : {S : Type 0} (F : S → List Notice → Type 0) {to : S × List Notice} {xs : List Notice} {t : S} {ys : List Notice} {n : ℕ} → F to.0 to.1 → Taken to xs t ys n → F t (take n ys)
taken_tells F {to} {xs} {t} {ys} {n} f a =
    let front : take n ys ≡ to.1 = rw (a.number, a.list) (take-append_seam to.1 _) in
    subst (F t) (sym front) (subst (λ u. F u to.1) (sym a.state) f)
