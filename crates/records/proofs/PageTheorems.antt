-- A good page comes back from its sector, and no other sector is taken for a page.
use Rattle.std.proofs.Common.{◌≡◌, ℕ, zero, suc, ◌+◌, ◌-◌, ◌*◌, ◌^◌, ◌<◌, ◌≤◌, true, ◌&&◌, eqb, leb, List, [], ◌∷◌, ◌++◌, length, take, drop, replicate, Some, None, Option, sym, refl, ap, ◌∙◌, subst, ⊎_elim, append_assoc, arith}
use Rattle.std.specs.List.{flat_map}
use Rattle.std.proofs.lemmas.Bool.Decides.{nat_tests}
use Rattle.std.proofs.lemmas.Bool.{and_parts, and_from, eqb-true, le-leb, lt-ltb, leb-true, ltb-true}
use Rattle.std.proofs.lemmas.List.{take_at, drop_at, length-append, length-take-le, length-drop, take-append-drop, drop-drop, nil_from_length}
use Rattle.records.proofs.LittleEndianLaws.{bytes_take, bytes_drop, number_le, field_lt, le_cut}
use Rattle.records.proofs.CommandLaws.{comes_back, only_records, which}
use Rattle.records.proofs.SectorLaws.{zeros_replicate, zeros_are, none_some}
use Rattle.records.specs.declared.commands.Command.{Command}
use Rattle.records.specs.declared.commands.Command.TheVariants.{Enter, Cancel, Cross}
use Rattle.records.specs.declared.numbers.HouseNumber.{HouseNumber}
use Rattle.records.specs.declared.numbers.PageNumber.{PageNumber}
use Rattle.records.specs.declared.pages.PageHead.{PageHead}
use Rattle.records.specs.LittleEndian.{le, number, field, Bytes}
use Rattle.records.specs.Commands.{good, encoded, within}
use Rattle.records.specs.Sectors.{zeros, fits_in}
use Rattle.records.specs.Pages.{Contents, page_of, all_good, numbers_good, good_page, head_bytes, page_record, page_sector_bytes, first_in_bytes, and_then, after, commands_in_bytes, head_in, with_commands, body_in, laid_out, decoded_page, bytes_look_for, PageKept, DecodedPage, ZerosLookLikeNone}

-- the first field of a record is its length
first_field : (c : Command) (rest : List ℕ) → field 0 2 (encoded c ++ rest) ≡ length (encoded c)
unfolding le number field
first_field (Enter m s p l) rest = refl
first_field (Cancel m o) rest = refl
first_field Cross rest = refl

first_of : (c : Command) (rest : List ℕ) → good c ≡ true → first_in_bytes (encoded c ++ rest) ≡ Some c
unfolding first_in_bytes
first_of c rest g = rw (first_field c rest, take_at (encoded c) rest (length (encoded c)) refl) (comes_back c g)

commands_back : (cs : List Command) → all_good cs ≡ true → commands_in_bytes (length cs) (flat_map encoded cs) ≡ Some cs
unfolding commands_in_bytes
commands_back [] g = refl
commands_back (c ∷ cs) g =
    let p = and_parts (good c) (all_good cs) g in
    rw (first_of c (flat_map encoded cs) p.0, drop_at (encoded c) (flat_map encoded cs) (length (encoded c)) refl, commands_back cs p.1)

-- a record has at most 18 bytes
size_le : (c : Command) → length (encoded c) ≤ 18
unfolding le
size_le (Enter m s p l) = omega arith
size_le (Cancel m o) = omega arith
size_le Cross = omega arith

pub joined_le : (cs : List Command) → length (flat_map encoded cs) ≤ 18 * length cs
joined_le [] = omega arith
joined_le (c ∷ cs) = rw length-append (omega (arith, size_le c, joined_le cs))

-- what the numbers of a good page keep, in facts
record Numbers (h : PageHead) (n : ℕ) : Type 0 where
  pub counted : 1 ≤ h.number.0
  pub from_one : 1 ≤ h.first.0
  pub some : 1 ≤ n
  pub few : n ≤ 16
  pub last : h.first.0 + n - 1 ≤ 1_000_000_000_000

numbers : (h : PageHead) (n : ℕ) → numbers_good h n ≡ true → Numbers h n
numbers h n g =
    let a = and_parts (leb 1 h.number.0) _ g in
    let b = and_parts (leb 1 h.first.0) _ a.1 in
    let d = and_parts (within 1 16 n) _ b.1 in
    let e = and_parts (leb 1 n) (leb n 16) d.0 in
    record {
      counted = leb-true 1 h.number.0 a.0;
      from_one = leb-true 1 h.first.0 b.0;
      some = leb-true 1 n e.0;
      few = leb-true n 16 e.1;
      last = leb-true (h.first.0 + n - 1) 1_000_000_000_000 d.1;
    }

record Rules (p : Contents) : Type 0 where
  pub house_fits : p.head.house.0 < 256 ^ 4
  pub number_fits : p.head.number.0 < 256 ^ 8
  pub ranges : numbers_good p.head (length p.commands) ≡ true
  pub each : all_good p.commands ≡ true

rules : (p : Contents) → good_page p ≡ true → Rules p
rules p g =
    let a = and_parts (fits_in 4 p.head.house.0 && fits_in 8 p.head.number.0) _ g in
    let b = and_parts (fits_in 4 p.head.house.0) (fits_in 8 p.head.number.0) a.0 in
    let d = and_parts (numbers_good p.head (length p.commands)) (all_good p.commands) a.1 in
    record {
      house_fits = ltb-true p.head.house.0 (256 ^ 4) b.0;
      number_fits = ltb-true p.head.number.0 (256 ^ 8) b.1;
      ranges = d.0;
      each = d.1;
    }

good_from : (p : Contents) → p.head.house.0 < 256 ^ 4 → p.head.number.0 < 256 ^ 8 → numbers_good p.head (length p.commands) ≡ true → all_good p.commands ≡ true → good_page p ≡ true
good_from p h n r e = rw (lt-ltb _ _ h, lt-ltb _ _ n, r, e)

module _ (p : Contents) (g : good_page p ≡ true) where
  r : Rules p
  r = rules p g

  n : Numbers p.head (length p.commands)
  n = numbers p.head (length p.commands) r.ranges

  body : List ℕ
  body = flat_map encoded p.commands

  total_fits : 28 + length body < 256 ^ 2
  unfolding body
  total_fits = omega (arith, joined_le p.commands, n.few)

  total_at : field 0 2 (page_sector_bytes p) ≡ 28 + length body
  unfolding le number field page_sector_bytes head_bytes body
  total_at = number_le 2 _ total_fits

  house_at : field 4 4 (page_sector_bytes p) ≡ p.head.house.0
  unfolding le number field page_sector_bytes head_bytes
  house_at = number_le 4 p.head.house.0 r.house_fits

  page_at : field 8 8 (page_sector_bytes p) ≡ p.head.number.0
  unfolding le number field page_sector_bytes head_bytes
  page_at = number_le 8 p.head.number.0 r.number_fits

  first_at : field 16 8 (page_sector_bytes p) ≡ p.head.first.0
  unfolding le number field page_sector_bytes head_bytes
  first_at = number_le 8 p.head.first.0 (omega (arith, n.last, n.some))

  count_at : field 24 2 (page_sector_bytes p) ≡ length p.commands
  unfolding le number field page_sector_bytes head_bytes
  count_at = number_le 2 (length p.commands) (omega (arith, n.few))

  kind_at : field 2 2 (page_sector_bytes p) ≡ 1
  unfolding le number field page_sector_bytes head_bytes
  kind_at = refl

  blank_at : field 26 2 (page_sector_bytes p) ≡ 0
  unfolding le number field page_sector_bytes head_bytes
  blank_at = refl

  head_length : length (head_bytes p.head p.commands) ≡ 28
  unfolding le head_bytes
  head_length = refl

  record_length : length (page_record p) ≡ 28 + length body
  unfolding body
  record_length = length-append _ _ ∙ ap (λ m. m + length (flat_map encoded p.commands)) head_length

  room : length (page_record p) ≤ 512
  unfolding body
  room = omega (arith, record_length, joined_le p.commands, n.few)

  rest_at : zeros (drop (28 + length body) (page_sector_bytes p)) ≡ true
  unfolding page_sector_bytes
  rest_at = rw (drop_at (page_record p) _ (28 + length body) record_length) (zeros_replicate (512 - length (page_record p)))

  after_head : drop 28 (page_sector_bytes p) ≡ body ++ replicate (512 - length (page_record p)) 0
  unfolding page_sector_bytes body
  after_head = ap (drop 28) (append_assoc (head_bytes p.head p.commands) _ _) ∙ drop_at (head_bytes p.head p.commands) _ 28 head_length

  body_at : body_in (page_sector_bytes p) ≡ body
  body_at =
      ap (λ m. take (m - 28) (drop 28 (page_sector_bytes p))) total_at
      ∙ ap (take (28 + length body - 28)) after_head
      ∙ take_at body _ (28 + length body - 28) (omega arith)

  laid : (within 28 512 (28 + length body) && (eqb 1 1 && eqb 0 0)) ≡ true
  unfolding body
  laid =
      let a = joined_le p.commands in
      let f = n.few in
      let t : 28 + length (flat_map encoded p.commands) ≤ 512 = omega arith in
      let s : 28 ≤ 28 + length (flat_map encoded p.commands) = omega arith in
      rw (le-leb _ _ s, le-leb _ _ t)

  found : commands_in_bytes (length p.commands) body ≡ Some p.commands
  unfolding body
  found = commands_back p.commands r.each

  page_back : decoded_page (page_sector_bytes p) ≡ Some p
  unfolding decoded_page
  page_back = rw (body_at, total_at, kind_at, count_at, blank_at, page_at, first_at, house_at, found, laid, r.ranges, rest_at)

  looks : (h : HouseNumber) (m : PageNumber) → bytes_look_for h m (page_sector_bytes p) ≡ (eqb p.head.house.0 h.0 && eqb p.head.number.0 m.0)
  looks h m = rw (kind_at, house_at, page_at)

pub page_kept : (p : Contents) → good_page p ≡ true → PageKept p
page_kept p g = record { room = room p g; back = page_back p g; looks = looks p g }

-- what came of a chain of options
then_some : {A B : Type 0} (o : Option A) (f : A → Option B) (y : B) → and_then o f ≡ Some y → (x : A) × (o ≡ Some x) × (f x ≡ Some y)
then_some (Some x) f y h = (x, refl, h)
then_some None f y h = none_some y h

after_some : (c : Command) (o : Option (List Command)) (cs : List Command) → after (c ∷ []) o ≡ Some cs → (ds : List Command) × (o ≡ Some ds) × (c ∷ ds ≡ cs)
after_some c (Some ds) cs h = (ds, refl, cc)
after_some c None cs h = none_some cs h

record Read (n : ℕ) (bs : List ℕ) (cs : List Command) : Type 0 where
  pub count : length cs ≡ n
  pub each : all_good cs ≡ true
  pub bytes : flat_map encoded cs ≡ bs

rejoin : (k : ℕ) (bs : List ℕ) → take k bs ++ drop (length (take k bs)) bs ≡ bs
rejoin zero bs = refl
rejoin (suc k) [] = refl
rejoin (suc k) (b ∷ bs) = ap (λ l. b ∷ l) (rejoin k bs)

commands_only : (n : ℕ) (bs : List ℕ) (cs : List Command) → Bytes bs → commands_in_bytes n bs ≡ Some cs → Read n bs cs
unfolding commands_in_bytes first_in_bytes
commands_only zero bs cs b h =
    ⊎_elim
    (λ w. let e : [] ≡ cs = cc in let n = nil_from_length bs (eqb-true (length bs) 0 w.0) in record { count = ap length (sym e); each = ap all_good (sym e); bytes = ap (flat_map encoded) (sym e) ∙ sym n })
    (λ w. none_some cs w.1)
    (which _ _ _ _ h)
commands_only (suc n) bs cs b h =
    let t = then_some (first_in_bytes bs) (λ c. after (c ∷ []) (commands_in_bytes n (drop (length (encoded c)) bs))) cs h in
    let c = t.0 in
    let a = after_some c (commands_in_bytes n (drop (length (encoded c)) bs)) cs t.2 in
    let o = only_records (take (field 0 2 bs) bs) c (bytes_take (field 0 2 bs) bs b) t.1 in
    let r = commands_only n (drop (length (encoded c)) bs) a.0 (bytes_drop (length (encoded c)) bs b) a.1 in
    record {
      count = ap length (sym a.2) ∙ ap suc r.count;
      each = ap all_good (sym a.2) ∙ and_from (good c) (all_good a.0) o.0 r.each;
      bytes = ap (flat_map encoded) (sym a.2) ∙ ap (λ l. encoded c ++ l) r.bytes ∙ ap (λ l. l ++ drop (length l) bs) o.1 ∙ rejoin (field 0 2 bs) bs;
    }

with : List ℕ → List Command → Contents
with bs cs = page_of (head_in bs) cs

page_some : (bs : List ℕ) (o : Option (List Command)) (p : Contents) → with_commands (head_in bs) o ≡ Some p → (cs : List Command) × (o ≡ Some cs) × (with bs cs ≡ p)
unfolding with
page_some bs (Some cs) p h = (cs, refl, cc)
page_some bs None p h = none_some p h

module _ (bs : List ℕ) (cs : List Command) (b : Bytes bs) (l : length bs ≡ 512) (g : laid_out bs ≡ true) (g' : numbers_good (head_in bs) (field 24 2 bs) ≡ true) (z : zeros (drop (field 0 2 bs) bs) ≡ true) (r : Read (field 24 2 bs) (body_in bs) cs) where
  record Says : Type 0 where
    pub low : 28 ≤ field 0 2 bs
    pub high : field 0 2 bs ≤ 512
    pub kind : field 2 2 bs ≡ 1
    pub blank : field 26 2 bs ≡ 0

  says : Says
  says = record { low = grind (arith, nat_tests); high = grind (arith, nat_tests); kind = grind (arith, nat_tests); blank = grind (arith, nat_tests) }

  body_length : length (body_in bs) ≡ field 0 2 bs - 28
  body_length = let h = says in let m : field 0 2 bs - 28 ≤ length (drop 28 bs) = simp length-drop (omega arith) in length-take-le (field 0 2 bs - 28) (drop 28 bs) m

  total_is : 28 + length (flat_map encoded cs) ≡ field 0 2 bs
  total_is = omega (arith, ap length r.bytes, body_length, says)

  head_back : head_bytes (head_in bs) cs ++ drop 28 bs ≡ bs
  unfolding head_bytes
  head_back =
      let h = says in
      let t = total_is in
      let n = r.count in
      let c0 = le_cut 0 2 bs b (omega arith) in
      let c2 = le_cut 2 2 bs b (omega arith) in
      let c4 = le_cut 4 4 bs b (omega arith) in
      let c8 = le_cut 8 8 bs b (omega arith) in
      let c16 = le_cut 16 8 bs b (omega arith) in
      let c24 = le_cut 24 2 bs b (omega arith) in
      let c26 = le_cut 26 2 bs b (omega arith) in
      simp append_assoc (cc)

  head_size : length (head_bytes (head_in bs) cs) ≡ 28
  unfolding le head_bytes
  head_size = refl

  body_back : flat_map encoded cs ++ drop (field 0 2 bs) bs ≡ drop 28 bs
  body_back =
      let h = says in
      let e : 28 + (field 0 2 bs - 28) ≡ field 0 2 bs = omega arith in
      ap (λ x. x ++ drop (field 0 2 bs) bs) r.bytes
      ∙ ap (λ n. body_in bs ++ drop n bs) (sym e)
      ∙ ap (λ x. body_in bs ++ x) (sym (drop-drop (field 0 2 bs - 28) 28 bs))
      ∙ take-append-drop (field 0 2 bs - 28) (drop 28 bs)

  rest_back : replicate (512 - length (head_bytes (head_in bs) cs ++ flat_map encoded cs)) 0 ≡ drop (field 0 2 bs) bs
  rest_back =
      let h = says in
      ap (λ n. replicate n 0) (omega (arith, length-append (head_bytes (head_in bs) cs) (flat_map encoded cs), head_size, total_is, length-drop (field 0 2 bs) bs))
      ∙ sym (zeros_are (drop (field 0 2 bs) bs) z)

  sector_back : page_sector_bytes (with bs cs) ≡ bs
  unfolding page_sector_bytes with
  sector_back =
      append_assoc (head_bytes (head_in bs) cs) (flat_map encoded cs) _
      ∙ ap (λ x. head_bytes (head_in bs) cs ++ (flat_map encoded cs ++ x)) rest_back
      ∙ ap (λ x. head_bytes (head_in bs) cs ++ x) body_back
      ∙ head_back

  page_good : good_page (with bs cs) ≡ true
  unfolding with
  page_good =
      good_from (page_of (head_in bs) cs)
      (field_lt 4 4 bs b (omega arith))
      (field_lt 8 8 bs b (omega arith))
      (ap (numbers_good (head_in bs)) r.count ∙ g')
      r.each

only_pages : (bs : List ℕ) (p : Contents) → Bytes bs → length bs ≡ 512 → decoded_page bs ≡ Some p → (good_page p ≡ true) × (page_sector_bytes p ≡ bs)
unfolding decoded_page
only_pages bs p b l h =
    ⊎_elim
    (λ v.
    ⊎_elim
    (λ w.
    let t = and_parts (laid_out bs) (numbers_good (head_in bs) (field 24 2 bs)) v.0 in
    let s = page_some bs (commands_in_bytes (field 24 2 bs) (body_in bs)) p w.1 in
    let r = commands_only (field 24 2 bs) (body_in bs) s.0 (bytes_take (field 0 2 bs - 28) (drop 28 bs) (bytes_drop 28 bs b)) s.1 in
    subst (λ (q : Contents). (good_page q ≡ true) × (page_sector_bytes q ≡ bs)) s.2 (page_good bs s.0 b l t.0 t.1 w.0 r, sector_back bs s.0 b l t.0 t.1 w.0 r))
    (λ w. none_some p w.1)
    (which _ _ _ _ v.1))
    (λ w. none_some p w.1)
    (which _ _ _ _ h)

-- what a decoder's answer says
pub decodes_page : (bs : List ℕ) (o : Option Contents) → Bytes bs → length bs ≡ 512 → decoded_page bs ≡ o → DecodedPage bs o
decodes_page bs (Some p) b l h = let k = only_pages bs p b l h in (h, k.0, k.1)
decodes_page bs None b l h = (h, λ p g e. none_some {X = ⊥} p (sym h ∙ ap decoded_page (sym e) ∙ (page_kept p g).back))

pub zeros_look : ZerosLookLikeNone
unfolding field number
zeros_look h n = refl
