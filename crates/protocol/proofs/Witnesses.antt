-- A market that keeps the laws, and a run of its exchange over a device that keeps all that it is given.
use Rattle.std.proofs.Common.{◌≡◌, ℕ, zero, suc, ◌+◌, ◌-◌, ◌*◌, ◌<◌, ◌≤◌, Bool, true, false, cond, ◌&&◌, eqb, ltb, leb, ◌⊎◌, List, [], ◌∷◌, ◌++◌, length, drop, replicate, Some, None, Ok, Option, sym, refl, ap, ◌∙◌, subst, inl, inr, ⊎_elim, arith, length-append, length-drop, length-take-le, take_at, ltb-true, eq-eqb, ne_eqb, eqb-true, le-leb, leb-true}
use Rattle.std.proofs.lemmas.Option.{same_Some}
use mathlib.Core.Bool.{false≢true}
use lib.ListN.{length-replicate}
use Rattle.std.proofs.lemmas.Bool.{and_from, and_parts, cond-true}
use Rattle.records.specs.Sectors.{padded}
use Rattle.records.specs.Commands.{good, decoded, encoded}
use Rattle.records.specs.LittleEndian.{le, number, field, Bytes}
use Rattle.records.specs.Pages.{page_of, page_sector_bytes}
use Rattle.records.specs.Headers.{header_sector_bytes, header_record}
use Rattle.records.specs.declared.commands.Command.{Command}
use Rattle.records.specs.declared.headers.Header.{Header}
use Rattle.records.specs.declared.refusals.Refusal.{Refusal}
use Rattle.records.specs.declared.refusals.Refusal.TheVariants.{NotACommand}
use Rattle.records.proofs.PageTheorems.{page_kept}
use Rattle.records.proofs.CommandLaws.{which, comes_back}
use Rattle.records.proofs.SectorLaws.{none_some}
use Rattle.records.proofs.LittleEndianLaws.{number_le, length_le, bytes_le}
use Rattle.device.specs.Meaning.{Lawful, Reading, bytes, torn}
use Rattle.device.specs.Calls.{Joined, WasCut, Woken}
use Rattle.device.specs.declared.run.Operation.{Operation}
use Rattle.journal.specs.Choices.{first_of, in_slot}
use Rattle.journal.specs.declared.slots.Slot.{Slot}
use Rattle.journal.specs.declared.slots.Slot.TheVariants.{Zero, One}
use Rattle.protocol.specs.declared.phases.Phase.TheVariants.{Live, Written, Replaying}
use Rattle.device.specs.declared.run.Operation.TheVariants as op
use Rattle.device.specs.Runs as runs
use Rattle.device.specs.Calls as device
use Rattle.protocol.specs.Worlds.{N, World, Fits, blank, page_head, page_image, looks, header_for, part}
use Rattle.protocol.specs.Steps.{Stage, Write, Sync, Deliver, Snapshot, State, is_none, blanks, reset, set_up, moved, staging, delivering, covering, taking, applied, write_ops, read_ops, sync_ops, body_ops, seal_ops, snapshot_ops, set_up_ops, first_header, taken, loaded, broke}
use Rattle.protocol.specs.Promises.{with_command, Run}
use Rattle.protocol.specs.Witness.{MarketLaws, same_bytes, saved, found, counting, same_reading, disk, house_seven, an_order, its_cancel, a_cross, one_ticket, page_one, till_opened, ARun}
use Rattle.protocol.proofs.Codecs.{PageFits, Laws, parts_join, good_contents, laws_of}
use Rattle.protocol.proofs.Sectors.{below_journal, body_below}
use Rattle.protocol.proofs.Safe.{bytes_inj, torn_bytes}

-- THE MARKET
same_refl : (xs : List ℕ) → same_bytes xs xs ≡ true
same_refl [] = refl
same_refl (x ∷ xs) = and_from _ _ (eq-eqb x x refl) (same_refl xs)

from_same : (xs ys : List ℕ) → same_bytes xs ys ≡ true → xs ≡ ys
from_same [] [] e = refl
from_same [] (y ∷ ys) e = absurd (false≢true e)
from_same (x ∷ xs) [] e = absurd (false≢true e)
from_same (x ∷ xs) (y ∷ ys) e =
    let p = and_parts (eqb x y) (same_bytes xs ys) e in
    let h = eqb-true x y p.0 in
    let t = from_same xs ys p.1 in
    (λ i. h i ∷ t i)

saved_field : (n : ℕ) → n ≤ N → field 0 8 (saved n) ≡ n
unfolding saved field
saved_field n l = ap number (take_at (le 8 n) (replicate 1528 0) 8 (length_le 8 n)) ∙ number_le 8 n (omega arith)

saved_length : (n : ℕ) → length (saved n) ≡ 1536
unfolding saved
saved_length n = length-append (le 8 n) (replicate 1528 0) ∙ (λ i. length_le 8 n i + length-replicate {A = ℕ} 1528 0 i)

bytes_append : (xs ys : List ℕ) → Bytes xs → Bytes ys → Bytes (xs ++ ys)
unfolding Bytes
bytes_append [] ys a b = b
bytes_append (x ∷ xs) ys (a, c) b = (a, bytes_append xs ys c b)

bytes_zeros : (n : ℕ) → Bytes (replicate n 0)
unfolding Bytes
bytes_zeros zero = tt
bytes_zeros (suc n) = (omega arith, bytes_zeros n)

saved_bytes : (n : ℕ) → Bytes (saved n)
unfolding saved
saved_bytes n = bytes_append (le 8 n) (replicate 1528 0) (bytes_le 8 n) (bytes_zeros 1528)

saved_found : (n : ℕ) → n ≤ N → found (saved n) ≡ Some n
unfolding found
saved_found n l =
    ap (λ k. cond (leb k N && same_bytes (saved k) (saved n)) (Some k) None) (saved_field n l)
    ∙ cond-true _ _ _ (and_from _ _ (le-leb n N l) (same_refl (saved n)))

found_saved : (b : List ℕ) (n : ℕ) → found b ≡ Some n → (n ≤ N) × (saved n ≡ b)
unfolding found
found_saved b n e =
    ⊎_elim
    (λ t.
    let p = and_parts (leb (field 0 8 b) N) (same_bytes (saved (field 0 8 b)) b) t.0 in
    let k = same_Some (field 0 8 b) n t.1 in
    subst (λ z. (z ≤ N) × (saved z ≡ b)) k (leb-true (field 0 8 b) N p.0, from_same (saved (field 0 8 b)) b p.1))
    (λ t. none_some n t.1)
    (which (leb (field 0 8 b) N && same_bytes (saved (field 0 8 b)) b) (Some (field 0 8 b)) None (Some n) e)

next_within : (s : ℕ) → s ≤ N → cond (ltb s N) (s + 1) s ≤ N
next_within s l = by (ltb s N) refl
  where
    by : (t : Bool) → ltb s N ≡ t → cond t (s + 1) s ≤ N
    by true e = let h = ltb-true s N e in omega arith
    by false e = l

counting_laws : MarketLaws counting (λ s. s ≤ N)
counting_laws = record {
  starts = (omega arith, refl);
  bounded = λ s v. v;
  keeps = λ s c v. next_within s v;
  few = λ s c v. omega arith;
  counts = λ s c. refl;
  uncounts = λ s c. and_from _ _ (eq-eqb (s + 1) (s + 1) refl) refl;
  sized = λ s v. saved_length s;
  plain = λ s v. saved_bytes s;
  back = saved_found;
  only = found_saved;
}

abbrev W : World ℕ
W = house_seven

WFits : Fits W
WFits = record { house = refl; code = refl; size = refl }

WLaws : Laws W
WLaws = laws_of W WFits (λ s. s ≤ N) counting_laws

-- THE DEVICE
reading_refl : (r : Reading) → same_reading r r ≡ true
reading_refl torn = refl
reading_refl (bytes b) = same_refl b

from_reading : (r q : Reading) → same_reading r q ≡ true → r ≡ q
from_reading torn torn e = refl
from_reading torn (bytes b) e = absurd (false≢true e)
from_reading (bytes a) torn e = absurd (false≢true e)
from_reading (bytes a) (bytes b) e = ap bytes (from_same a b e)

abbrev put : ℕ → List ℕ → (ℕ → Reading) → ℕ → Reading
put s b f t = cond (eqb t s) (bytes b) (f t)

-- every sector that is not torn has 512 bytes
Sized : (ℕ → Reading) → Type 0
Sized f = (s : ℕ) (b : List ℕ) → f s ≡ bytes b → length b ≡ 512

put_sized : (s : ℕ) (b : List ℕ) (f : ℕ → Reading) → length b ≡ 512 → Sized f → Sized (put s b f)
unfolding Sized
put_sized s b f l h t c e = by (eqb t s) e
  where
    by : (z : Bool) → cond z (bytes b) (f t) ≡ bytes c → length c ≡ 512
    by true k = ap length (sym (bytes_inj (bytes b) b c refl k)) ∙ l
    by false k = h t c k

lawful : (on : Bool) (f : ℕ → Reading) → Sized f → Lawful (disk on f)
unfolding Sized
lawful on f h = record { among = λ s l. reading_refl (f s); whole = λ s l b m. h s b (sym (from_reading (bytes b) (f s) m)); small = omega arith }

joins : (on : Bool) (f : ℕ → Reading) (s : ℕ) (b : List ℕ) (t : ℕ) (r : Reading) → same_reading r (put s b f t) ≡ true → Joined (disk on f) s b t r
joins on f s b t r h = by (eqb t s) refl h
  where
    by : (z : Bool) → eqb t s ≡ z → same_reading r (cond z (bytes b) (f t)) ≡ true → (same_reading r (f t) ≡ true) ⊎ ((t ≡ s) × ((r ≡ bytes b) ⊎ (r ≡ torn)))
    by true e k = inr (eqb-true t s e, inl (from_reading r (bytes b) k))
    by false e k = inl k

woken : (on : Bool) (f : ℕ → Reading) → Woken (disk on f) (disk true f)
woken on f = record { lit = refl; moved = record { size = refl; left = λ s l. reading_refl (f s); gains = λ s l x h. h } }

synced : (f : ℕ → Reading) → device.Synced (disk true f) (disk true f)
synced f = record { was_lit = refl; size = refl; lit = refl; reads = λ s l. refl; gains = λ s l x h. h; only = λ s l x h. from_reading x (f s) h }

written : (f : ℕ → Reading) (s : ℕ) (b : List ℕ) → s < 12 → device.Written (disk true f) s b (disk true (put s b f))
written f s b l = record { within = l; was_lit = refl; size = refl; lit = refl; here = rw (eq-eqb s s refl) refl; others = λ t m n. rw (ne_eqb t s n) refl; gains = λ t m x h. joins true f s b t x h }

-- cut while it writes, and the bytes are there
cut_kept : (f : ℕ → Reading) (s : ℕ) (b : List ℕ) → WasCut (disk true f) (Joined (disk true f) s b) (disk false (put s b f))
cut_kept f s b = record { dark = refl; moved = record { size = refl; left = λ t l. joins true f s b t (put s b f t) (reading_refl (put s b f t)); gains = λ t l x h. joins true f s b t x h } }

abbrev FitOps : List Operation → Type 0
FitOps [] = Unit {0}
FitOps (op.Wake ∷ o) = FitOps o
FitOps (op.Sync ∷ o) = FitOps o
FitOps (op.Read s ∷ o) = FitOps o
FitOps (op.Write s b ∷ o) = (s < 12) × (length b ≡ 512) × FitOps o

abbrev effect : List Operation → (ℕ → Reading) → ℕ → Reading
effect [] f = f
effect (op.Wake ∷ o) f = effect o f
effect (op.Sync ∷ o) f = effect o f
effect (op.Read s ∷ o) f = effect o f
effect (op.Write s b ∷ o) f = effect o (put s b f)

effect_sized : (o : List Operation) (f : ℕ → Reading) → FitOps o → Sized f → Sized (effect o f)
effect_sized [] f a h = h
effect_sized (op.Wake ∷ o) f a h = effect_sized o f a h
effect_sized (op.Sync ∷ o) f a h = effect_sized o f a h
effect_sized (op.Read s ∷ o) f a h = effect_sized o f a h
effect_sized (op.Write s b ∷ o) f a h = effect_sized o (put s b f) a.2 (put_sized s b f a.1 h)

ran : (o : List Operation) (f : ℕ → Reading) → FitOps o → Sized f → runs.Ran (disk true f) o (disk true (effect o f))
ran [] f a h = refl
ran (op.Wake ∷ o) f a h = (disk true f, lawful true f h, woken true f, ran o f a h)
ran (op.Sync ∷ o) f a h = (disk true f, lawful true f h, synced f, ran o f a h)
ran (op.Read s ∷ o) f a h = (disk true f, lawful true f h, (λ l. refl, refl), ran o f a h)
ran (op.Write s b ∷ o) f a h = let k = put_sized s b f a.1 h in (disk true (put s b f), lawful true (put s b f) k, inl (written f s b a.0), ran o (put s b f) a.2 k)

-- THE RECORDS have 512 bytes
padded_length : (bs : List ℕ) → length bs ≤ 512 → length (padded bs) ≡ 512
padded_length bs l = length-append bs (replicate (512 - length bs) 0) ∙ ap (λ n. length bs + n) (length-replicate {A = ℕ} (512 - length bs) 0) ∙ omega arith

blank_length : length blank ≡ 512
unfolding blank
blank_length = length-replicate {A = ℕ} 512 0

page_length : (p first : ℕ) (cs : List Command) → PageFits p first cs → length (page_image W p first cs) ≡ 512
unfolding page_sector_bytes
page_length p first cs f = padded_length _ (page_kept (page_of (page_head W p first) cs) (good_contents W WFits p first cs f)).room

header_length : (h : Header) → length (header_sector_bytes h) ≡ 512
unfolding header_sector_bytes le
header_length h = padded_length (header_record h) (omega arith)

part_length : (s i : ℕ) → i < 3 → length (part W s i) ≡ 512
part_length s i l =
    let n = saved_length s in
    let d = length-drop (512 * i) (saved s) in
    length-take-le 512 (drop (512 * i) (saved s)) (omega arith)

blanks_fit : (a n : ℕ) (o : List Operation) → a + n ≤ 12 → FitOps o → FitOps (blanks a n ++ o)
blanks_fit a zero o l f = f
blanks_fit a (suc n) o l f = (omega arith, blank_length, blanks_fit (suc a) n o (omega arith) f)

body_fits : (t : Slot) (s : ℕ) (o : List Operation) → FitOps o → FitOps (body_ops W t s ++ o)
body_fits t s o f =
    let b = body_below t in
    ((let h = b 0 (omega arith) in omega arith), part_length s 0 (omega arith), ((let h = b 1 (omega arith) in omega arith), part_length s 1 (omega arith), ((let h = b 2 (omega arith) in omega arith), part_length s 2 (omega arith), f)))

seal_fits : (t : Slot) (p c n : ℕ) → FitOps (seal_ops W t p c n)
seal_fits t p c n = ((let h = below_journal t in omega arith), header_length _, tt)

-- THE RUN
one_fits : PageFits 1 1 (an_order ∷ [])
one_fits = record { number = (omega arith, omega arith); from_one = omega arith; count = (omega arith, omega arith); each = refl; limit = omega arith }

two_fits : PageFits 2 2 (its_cancel ∷ a_cross ∷ [])
two_fits = record { number = (omega arith, omega arith); from_one = omega arith; count = (omega arith, omega arith); each = refl; limit = omega arith }

abbrev f₁ : ℕ → Reading
f₁ = effect (set_up_ops W) (λ s. torn)

abbrev x₀ : State ℕ
x₀ = set_up W (disk true f₁)

abbrev x₁ : State ℕ
x₁ = staging W an_order x₀

abbrev f₂ : ℕ → Reading
f₂ = put 8 (page_image W 1 1 (an_order ∷ [])) f₁

abbrev x₂ : State ℕ
x₂ = moved W Written (disk true f₂) x₁

abbrev x₃ : State ℕ
x₃ = applied W Live (an_order ∷ []) (disk true f₂) x₂

abbrev x₄ : State ℕ
x₄ = delivering W page_one.receipt x₃

abbrev f₅ : ℕ → Reading
f₅ = effect (snapshot_ops W x₄) f₂

abbrev x₅ : State ℕ
x₅ = covering W (disk true f₅) x₄

abbrev x₆ : State ℕ
x₆ = staging W its_cancel x₅

abbrev x₇ : State ℕ
x₇ = staging W a_cross x₆

abbrev f₈ : ℕ → Reading
f₈ = put 9 (page_image W 2 2 (its_cancel ∷ a_cross ∷ [])) f₅

abbrev x₈ : State ℕ
x₈ = reset W (disk false f₈)

abbrev x₉ : State ℕ
x₉ = taking W One (header_for W 1 1 1) 1 (disk true f₈)

abbrev x₁₀ : State ℕ
x₁₀ = applied W Replaying (its_cancel ∷ a_cross ∷ []) (disk true f₈) x₉

torn_sized : Sized (λ s. torn)
unfolding Sized
torn_sized s b e = absurd (torn_bytes b e)

set_up_fits : FitOps (set_up_ops W)
set_up_fits = (omega arith, blank_length, (omega arith, blank_length, blanks_fit 8 4 (body_ops W Zero 0 ++ seal_ops W Zero 0 0 0) (omega arith) (body_fits Zero 0 (seal_ops W Zero 0 0 0) (seal_fits Zero 0 0 0))))

sized₁ : Sized f₁
sized₁ = effect_sized (set_up_ops W) (λ s. torn) set_up_fits torn_sized

sized₂ : Sized f₂
sized₂ = put_sized 8 (page_image W 1 1 (an_order ∷ [])) f₁ (page_length 1 1 (an_order ∷ []) one_fits) sized₁

snapshot_fits : FitOps (snapshot_ops W x₄)
snapshot_fits = body_fits One 1 (seal_ops W One 1 1 1) (seal_fits One 1 1 1)

sized₅ : Sized f₅
sized₅ = effect_sized (snapshot_ops W x₄) f₂ snapshot_fits sized₂

sized₈ : Sized f₈
sized₈ = put_sized 9 (page_image W 2 2 (its_cancel ∷ a_cross ∷ [])) f₅ (page_length 2 2 (its_cancel ∷ a_cross ∷ []) two_fits) sized₅

-- the bytes of a good command are taken
taken_in : (c : Command) → good c ≡ true → ◌≡◌ {A = Option Refusal} (cond (is_none (decoded (encoded c))) (Some NotACommand) None) None
taken_in c g = ap (λ o. cond (is_none o) (Some NotACommand) None) (comes_back c g)

first_page : Run counting (Snapshot (Ok tt) ∷ Deliver page_one.receipt (Ok tt) ∷ Sync one_ticket 64 (Ok page_one) ∷ Write (Ok one_ticket) ∷ Stage (encoded an_order) (Ok (record { 0 = 1 })) ∷ []) x₅
first_page = (
  x₄,
  (
    x₃,
    (
      x₂,
      (
        x₁,
        (
          x₀,
          (disk true (λ s. torn), record { fits = WFits; size = refl; device = disk true f₁; did = ran (set_up_ops W) (λ s. torn) set_up_fits torn_sized; result = refl }),
          record { allowed = taken_in an_order refl; command = an_order; is = comes_back an_order refl; number = refl; result = refl },
        ),
        record { allowed = refl; ticket = refl; device = disk true f₂; did = ran (write_ops W x₁) f₁ (omega arith, page_length 1 1 (an_order ∷ []) one_fits, tt) sized₁; result = refl },
      ),
      record { allowed = refl; device = disk true f₂; did = ran sync_ops f₂ tt sized₂; answer = refl; notices = refl; result = refl },
    ),
    record { allowed = refl; result = refl },
  ),
  record { allowed = refl; device = disk true f₅; did = ran (snapshot_ops W x₄) f₂ snapshot_fits sized₂; result = refl },
)

-- both slots show a header, and that of slot 1 is the newer one
chosen_one : first_header W (disk true f₈) ≡ Some (in_slot One (header_for W 1 1 1))
chosen_one =
    let a = WLaws.header_good 0 0 0 (record { pages_few = omega arith; commands_few = omega arith; limit = omega arith; notices_few = omega arith }) in
    let b = WLaws.header_good 1 1 1 (record { pages_few = omega arith; commands_few = omega arith; limit = omega arith; notices_few = omega arith }) in
    (λ i. first_of (a i) (b i))

loaded_one : loaded W (disk true f₈) (in_slot One (header_for W 1 1 1)) ≡ Ok 1
loaded_one = ap (taken W 5 1) (ap found (parts_join (saved 1) (saved_length 1)) ∙ saved_found 1 (omega arith))

then_cut : Run counting till_opened x₉
then_cut = (
  x₈,
  (
    x₇,
    (
      x₆,
      (
        x₅,
        first_page,
        record { allowed = taken_in its_cancel refl; command = its_cancel; is = comes_back its_cancel refl; number = refl; result = refl },
      ),
      record { allowed = taken_in a_cross refl; command = a_cross; is = comes_back a_cross refl; number = refl; result = refl },
    ),
    broke refl (disk false f₈) (lawful false f₈ sized₈) (9, refl, inl (refl, (omega arith, cut_kept f₅ 9 (page_image W 2 2 (its_cancel ∷ a_cross ∷ []))))) refl,
  ),
  record {
    allowed = refl;
    device = disk true f₈;
    did = (disk true f₈, lawful true f₈ sized₈, woken false f₈, (disk true f₈, lawful true f₈ sized₈, synced f₈, refl));
    first = in_slot One (header_for W 1 1 1);
    chosen = chosen_one;
    market = 1;
    load = loaded_one;
    answer = refl;
    result = refl;
  },
)

none_there : (b : List ℕ) → f₈ 10 ≡ bytes b → looks W b 3 ≡ false
none_there b e = ap (λ z. looks W z 3) (sym (bytes_inj (bytes blank) blank b refl e)) ∙ WLaws.zeros_look 3

pub a_run : ARun
a_run = record {
  laws = counting_laws;
  reads = f₈;
  end = moved W Live (disk true f₈) x₁₀;
  live = refl;
  device = refl;
  run = (
    x₁₀,
    (
      x₉,
      then_cut,
      record {
        allowed = refl;
        did = ran (read_ops W x₉) f₈ tt sized₈;
        content = page_image W 2 2 (its_cancel ∷ a_cross ∷ []);
        there = refl;
        looks = WLaws.page_looks 2 2 (its_cancel ∷ a_cross ∷ []) two_fits;
        page = its_cancel ∷ a_cross ∷ [];
        good = WLaws.page_good 2 2 (its_cancel ∷ a_cross ∷ []) two_fits;
        answer = refl;
        notices = refl;
        result = refl;
      },
    ),
    record { allowed = refl; did = ran (read_ops W x₁₀) f₈ tt sized₈; nothing = none_there; result = refl },
  );
  record_before = ap (λ o. with_command o [] ∷ []) (comes_back an_order refl);
  record_after = (λ i. with_command (comes_back an_order refl i) [] ∷ with_command (comes_back a_cross refl i) (with_command (comes_back its_cancel refl i) []) ∷ []);
}
