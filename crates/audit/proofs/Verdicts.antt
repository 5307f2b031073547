-- From what is checked to what is promised.
use Rattle.std.proofs.Common.{◌≡◌, ℕ, zero, suc, ◌+◌, ◌<◌, Bool, true, false, true≢false, MatchBool, List, [], ◌∷◌, ◌++◌, map, length, get_or, take, Some, None, vec_items, Option, Decides, sym, refl, ap, ◌∙◌, subst, arith}
use Rattle.std.proofs.lemmas.List.{take_more}
use Rattle.std.specs.List.{Contains, All}
use Rattle.std.proofs.lemmas.List.Elements.{All-contains}
use mathlib.Core.List.{Memᴰ}
use Rattle.protocol.specs.Worlds.{World}
use Rattle.protocol.specs.Steps.{Event}
use Rattle.protocol.specs.Promises.{History, Pages, EachKept, OfRecord}
use Rattle.runner.specs.declared.log.HandedOut.{HandedOut}
use Rattle.runner.specs.declared.log.Entry.{Entry}
use Rattle.runner.specs.Events.{handed_out, event_of, noted, history_on, history}
use Rattle.audit.specs.Answers.{answers}
use Rattle.audit.specs.Checks.{Same}
use Rattle.audit.specs.Keeping.{KeptEvent, KeptEntry}
use Rattle.records.specs.declared.numbers.HouseNumber.{HouseNumber}
use Rattle.market.specs.declared.interface.Market as market
use Rattle.device.specs.declared.Device as device
use Rattle.protocol.specs.declared.phases.Phase.TheVariants.{Live}
use Rattle.protocol.specs.Promises.{RunsOver}
use Rattle.exchange.specs.declared.state.Exchange.{Exchange}
use Rattle.exchange.specs.Views.{view}
use Rattle.audit.specs.Books.{world, IsBook}
use Rattle.audit.specs.declared.books.Book.{Book}
use Rattle.audit.proofs.Entries.{pages_of}
use Rattle.audit.proofs.Membership.{member, contained}
use Rattle.audit.proofs.Pages.{among_of_record, of_record_among}

history_more : (es : List Entry) (e : Entry) (h : History) → history_on (es ++ e ∷ []) h ≡ noted (event_of e) (history_on es h)
history_more [] e h = refl
history_more (f ∷ es) e h = history_more es e (noted (event_of f) h)

pub history_taken : (log : List Entry) (i : ℕ) (d : Entry) → i < length log → history (take (i + 1) log) ≡ noted (event_of (get_or log i d)) (history (take i log))
history_taken log i d l = ap history (take_more log i d l) ∙ history_more (take i log) (get_or log i d) []

mapped : {A B : Type 0} (f : A → B) (x : A) (xs : List A) → Memᴰ x xs → Memᴰ (f x) (map f xs)
mapped f x [] m = elim m [ ]
mapped f x (y ∷ ys) (Memᴰ.head e) = Memᴰ.head (ap f e)
mapped f x (y ∷ ys) (Memᴰ.tail m) = Memᴰ.tail (mapped f x ys m)

record Source {A B : Type 0} (f : A → B) (y : B) (xs : List A) : Type 0 where
  from : A
  among : Memᴰ from xs
  is : y ≡ f from

source : {A B : Type 0} (f : A → B) (y : B) (xs : List A) → Memᴰ y (map f xs) → Source f y xs
source f y [] m = elim m [ ]
source f y (x ∷ xs) (Memᴰ.head e) = record { from = x; among = Memᴰ.head refl; is = e }
source f y (x ∷ xs) (Memᴰ.tail m) = let s = source f y xs m in record { from = s.from; among = Memᴰ.tail s.among; is = s.is }

module _ {S : Type 0} (w : World S) (kept : Pages) where
  -- a receipt is the record's exactly where a page is answered so
  pub of_record_from : (pages : List HandedOut) (h : HandedOut) → map handed_out pages ≡ answers w kept → (p : HandedOut) × Contains pages p × Same p h → OfRecord w kept (handed_out h)
  unfolding Same
  of_record_from pages h e (p, c, s) = among_of_record w kept (handed_out h) (subst (Memᴰ (handed_out h)) e (subst (λ z. Memᴰ z (map handed_out pages)) s (mapped handed_out p pages (member pages p c))))

  pub none_of_record : (pages : List HandedOut) (h : HandedOut) → map handed_out pages ≡ answers w kept → All (λ p. Same p h → ⊥) pages → OfRecord w kept (handed_out h) → ⊥
  unfolding Same
  none_of_record pages h e a o =
      let s = source handed_out (handed_out h) pages (subst (Memᴰ (handed_out h)) (sym e) (of_record_among w kept (handed_out h) o)) in
      All-contains (λ p. Same p h → ⊥) pages s.from a (contained pages s.from s.among) (sym s.is)

  each_before : (es : List Entry) (h : History) → EachKept w kept (history_on es h) → EachKept w kept h
  each_before [] h k = k
  each_before (e ∷ es) h k = earlier (event_of e) (each_before es (noted (event_of e) h) k)
    where
      earlier : (o : Option Event) → EachKept w kept (noted o h) → EachKept w kept h
      earlier None k = k
      earlier (Some x) k = k.1

  pub each_more : (o : Option Event) (h : History) → EachKept w kept h → KeptEvent w kept o → EachKept w kept (noted o h)
  each_more None h k n = k
  each_more (Some e) h k n = (n, k)

  last_kept : (o : Option Event) (h : History) → EachKept w kept (noted o h) → KeptEvent w kept o
  last_kept None h k = tt
  last_kept (Some e) h k = k.0

  each_at : (log : List Entry) (h : History) (i : ℕ) (d : Entry) → i < length log → EachKept w kept (history_on log h) → KeptEvent w kept (event_of (get_or log i d))
  each_at [] h i d l k = absurd (omega (arith, l))
  each_at (e ∷ es) h zero d l k = last_kept (event_of e) h (each_before es (noted (event_of e) h) k)
  each_at (e ∷ es) h (suc i) d l k = each_at es (noted (event_of e) h) i d (omega (arith, l)) k

  pub kept_at_place : (log : List Entry) (i : ℕ) (d : Entry) → i < length log → EachKept w kept (history log) → KeptEntry w kept (get_or log i d)
  unfolding KeptEntry
  kept_at_place log i d l k = each_at log [] i d l k

  pub kept_taken : (log : List Entry) (i : ℕ) (d : Entry) → i < length log → EachKept w kept (history (take i log)) → KeptEntry w kept (get_or log i d) → EachKept w kept (history (take (i + 1) log))
  unfolding KeptEntry
  kept_taken log i d l k n = subst (EachKept w kept) (sym (history_taken log i d l)) (each_more (event_of (get_or log i d)) (history (take i log)) k n)

  pub has_decides : (b : Bool) (pages : List HandedOut) (h : HandedOut) → map handed_out pages ≡ answers w kept → MatchBool b ((p : HandedOut) × Contains pages p × Same p h) (All (λ p. Same p h → ⊥) pages) → Decides b (OfRecord w kept (handed_out h))
  has_decides true pages h e m = (λ t. of_record_from pages h e m, λ o. refl)
  has_decides false pages h e m = (λ f. absurd (true≢false (sym f)), λ o. absurd (none_of_record pages h e m o))

module _ {M D : Type 0} (m : market.Ghosts M) (d : device.Ghosts D) (house : HouseNumber) (size : ℕ) (kept : Pages) (b : Book M) (x : Exchange M D) (i : IsBook m house size kept b) where
  abbrev Carried : Type 0
  Carried = (view m d x).phase ≡ Live → RunsOver (world m house size) kept (view m d x)

  abbrev Counts : Type 0
  Counts = (x.pages.0 ≡ length (vec_items b.pages)) × (x.commands.0 ≡ b.commands) × (x.notices.0 ≡ b.notices)

  pub counts_from : x.phase ≡ Live → Carried → Counts
  counts_from l f = let r = f l in (r.pages ∙ sym (pages_of m house size kept b i), r.commands ∙ sym i.commands, r.notices ∙ sym i.notices)

  pub carried_by : (t : Bool) → x.phase ≡ Live → Counts → Decides t (m.means b.market ≡ m.means x.market) → Decides t Carried
  carried_by t l (p, c, n) k = (
    λ e u. record { pages = p ∙ pages_of m house size kept b i; commands = c ∙ i.commands; notices = n ∙ i.notices; market = sym (k.0 e) ∙ i.market },
    λ f. k.1 (i.market ∙ sym (f l).market),
  )
