-- The laws of commands and their records.
use Rattle.std.proofs.Common.{◌≡◌, ℕ, zero, suc, ◌+◌, ◌≤◌, Bool, true, false, cond, eqb, leb, ◌⊎◌, List, length, drop, Some, None, Option, sym, refl, ap, ◌∙◌, inl, inr, ⊎_elim, arith, rules}
use Rattle.std.proofs.lemmas.List.{length-drop, take_all}
use Rattle.std.proofs.lemmas.Bool.{and_parts, leb-true, eqb-true, cond-true}
use Rattle.records.specs.Kinds.{kind_number}
use Rattle.records.specs.declared.kinds.RecordKind.{RecordKind}
use Rattle.records.specs.declared.kinds.RecordKind.TheVariants as kinds
use Rattle.records.specs.declared.kinds.RecordKind.TheVariants.{Page, Header}
use Rattle.std.specs.Option.{ok_or}
use Rattle.records.specs.declared.numbers.CommandNumber.{CommandNumber}
use Rattle.records.specs.declared.numbers.Member.{Member}
use Rattle.records.specs.declared.numbers.Price.{Price}
use Rattle.records.specs.declared.numbers.Lots.{Lots}
use Rattle.records.specs.declared.commands.Side.{Side}
use Rattle.records.specs.declared.commands.Side.TheVariants.{Buy, Sell}
use Rattle.records.specs.declared.commands.Command.{Command}
use Rattle.records.specs.declared.commands.Command.TheVariants.{Enter, Cancel, Cross}
use Rattle.records.specs.declared.refusals.Refusal.TheVariants.{NotACommand}
use Rattle.records.specs.LittleEndian.{le, number, field, Bytes}
use Rattle.records.specs.Commands.{good, encoded, decoded, if_good, enter_in_bytes, cancel_in, within, side_number, ComesBack, Decoded}
use Rattle.records.proofs.LittleEndianLaws.{number_le, le_field, le_cut}

-- a number in its range fits its bytes
fits : (low high n : ℕ) → within low high n ≡ true → n ≤ high
fits low high n h = leb-true n high (and_parts (leb low n) (leb n high) h).1

enter : (m : Member) (s : Side) (p : Price) (l : Lots) → good (Enter m s p l) ≡ true → decoded (encoded (Enter m s p l)) ≡ Some (Enter m s p l)
unfolding le number field decoded
enter m s p l g =
    let a = and_parts (within 1 999_999 m.0) _ g in
    let b = and_parts (within 1 1_000_000 p.0) (within 1 1_000_000 l.0) a.1 in
    let em = number_le 4 m.0 (omega (arith, fits 1 999_999 m.0 a.0)) in
    let ep = number_le 4 p.0 (omega (arith, fits 1 1_000_000 p.0 b.0)) in
    let el = number_le 4 l.0 (omega (arith, fits 1 1_000_000 l.0 b.1)) in
    elim s as (λ s. decoded (encoded (Enter m s p l)) ≡ Some (Enter m s p l)) [
      | Buy ↦ (λ i. if_good (Enter (record { 0 = em i }) Buy (record { 0 = ep i }) (record { 0 = el i }))) ∙ cond-true _ _ _ g
      | Sell ↦ (λ i. if_good (Enter (record { 0 = em i }) Sell (record { 0 = ep i }) (record { 0 = el i }))) ∙ cond-true _ _ _ g
    ]

cancel : (m : Member) (o : CommandNumber) → good (Cancel m o) ≡ true → decoded (encoded (Cancel m o)) ≡ Some (Cancel m o)
unfolding le number field decoded
cancel m o g =
    let a = and_parts (within 1 999_999 m.0) (within 1 1_000_000_000_000 o.0) g in
    let em = number_le 4 m.0 (omega (arith, fits 1 999_999 m.0 a.0)) in
    let eo = number_le 8 o.0 (omega (arith, fits 1 1_000_000_000_000 o.0 a.1)) in
    (λ i. if_good (Cancel (record { 0 = em i }) (record { 0 = eo i }))) ∙ cond-true _ _ _ g

pub comes_back : (c : Command) → ComesBack c
unfolding le number field decoded
comes_back (Enter m s p l) g = enter m s p l g
comes_back (Cancel m o) g = cancel m o g
comes_back Cross g = refl

-- which way a test went
pub which : {A : Type 0} (b : Bool) (x y z : A) → cond b x y ≡ z → ((b ≡ true) × (x ≡ z)) ⊎ ((b ≡ false) × (y ≡ z))
which true x y z h = inl (refl, h)
which false x y z h = inr (refl, h)

Kept : List ℕ → Command → Type 0
Kept bs c = (good c ≡ true) × (encoded c ≡ bs)

kept_good : (bs : List ℕ) (d c : Command) → encoded d ≡ bs → if_good d ≡ Some c → Kept bs c
unfolding Kept
kept_good bs d c e h =
    ⊎_elim
    (λ w. let same : d ≡ c = cc in (ap good (sym same) ∙ w.0, ap encoded (sym same) ∙ e))
    (λ w. let z : ◌≡◌ {A = ℕ} 0 1 = cc in absurd (omega arith))
    (which (good d) (Some d) None (Some c) h)

side_back : (n : ℕ) → n ≤ 1 → side_number (cond (eqb n 0) Buy Sell) ≡ n
side_back zero h = refl
side_back (suc zero) h = refl
side_back (suc (suc n)) h = absurd (omega arith)

-- the last field reaches the end
last_field : (at w : ℕ) (bs : List ℕ) → Bytes bs → length bs ≡ at + w → le w (field at w bs) ≡ drop at bs
last_field at w bs b l =
    let m : length (drop at bs) ≤ w = simp length-drop (omega arith) in
    le_field at w bs b (omega arith) ∙ take_all w (drop at bs) m

enter_back : (bs : List ℕ) → Bytes bs → length bs ≡ 18 → field 0 2 bs ≡ 18 → field 2 2 bs ≡ 11 → field 8 2 bs ≤ 1 → encoded (enter_in_bytes bs) ≡ bs
enter_back bs b l e0 e2 s =
    let c0 = le_cut 0 2 bs b (omega arith) in
    let c2 = le_cut 2 2 bs b (omega arith) in
    let c4 = le_cut 4 4 bs b (omega arith) in
    let c8 = le_cut 8 2 bs b (omega arith) in
    let c10 = le_cut 10 4 bs b (omega arith) in
    let c14 = last_field 14 4 bs b l in
    let side = side_back (field 8 2 bs) s in
    cc

cancel_back : (bs : List ℕ) → Bytes bs → length bs ≡ 16 → field 0 2 bs ≡ 16 → field 2 2 bs ≡ 12 → encoded (cancel_in bs) ≡ bs
cancel_back bs b l e0 e2 =
    let c0 = le_cut 0 2 bs b (omega arith) in
    let c2 = le_cut 2 2 bs b (omega arith) in
    let c4 = le_cut 4 4 bs b (omega arith) in
    let c8 = last_field 8 8 bs b l in
    cc

cross_back : (bs : List ℕ) → Bytes bs → length bs ≡ 4 → field 0 2 bs ≡ 4 → field 2 2 bs ≡ 13 → encoded Cross ≡ bs
cross_back bs b l e0 e2 =
    let c0 = le_cut 0 2 bs b (omega arith) in
    let c2 = last_field 2 2 bs b l in
    cc

pub never : {X : Type 0} (c : Command) → ◌≡◌ {A = Option Command} None (Some c) → X
never c h = let z : ◌≡◌ {A = ℕ} 0 1 = cc in absurd (omega arith)

-- no other bytes are taken for a record
pub only_records : (bs : List ℕ) (c : Command) → Bytes bs → decoded bs ≡ Some c → (good c ≡ true) × (encoded c ≡ bs)
unfolding Kept decoded
only_records bs c b h =
    ⊎_elim
    (λ l.
    let same = eqb-true (field 0 2 bs) (length bs) l.0 in
    ⊎_elim
    (λ w.
    let p = and_parts (eqb (length bs) 18) _ w.0 in
    let q = and_parts (eqb (field 2 2 bs) 11) (leb (field 8 2 bs) 1) p.1 in
    let n = eqb-true (length bs) 18 p.0 in
    kept_good bs (enter_in_bytes bs) c (enter_back bs b n (same ∙ n) (eqb-true (field 2 2 bs) 11 q.0) (leb-true (field 8 2 bs) 1 q.1)) w.1)
    (λ v.
    ⊎_elim
    (λ w.
    let p = and_parts (eqb (length bs) 16) (eqb (field 2 2 bs) 12) w.0 in
    let n = eqb-true (length bs) 16 p.0 in
    kept_good bs (cancel_in bs) c (cancel_back bs b n (same ∙ n) (eqb-true (field 2 2 bs) 12 p.1)) w.1)
    (λ u.
    ⊎_elim
    (λ w.
    let p = and_parts (eqb (length bs) 4) (eqb (field 2 2 bs) 13) w.0 in
    let n = eqb-true (length bs) 4 p.0 in
    kept_good bs Cross c (cross_back bs b n (same ∙ n) (eqb-true (field 2 2 bs) 13 p.1)) w.1)
    (λ w. never c w.1)
    (which _ _ _ _ u.1))
    (which _ _ _ _ v.1))
    (which _ _ _ _ l.1))
    (λ w. never c w.1)
    (which _ _ _ _ h)

-- what a decoder's answer says
pub answers : (bs : List ℕ) (r : Option Command) → Bytes bs → r ≡ decoded bs → Decoded bs (ok_or r NotACommand)
answers bs (Some c) b h = let k = only_records bs c b (sym h) in (sym h, k.0, k.1)
answers bs None b h = (refl, sym h, λ c g e. never {X = ⊥} c (h ∙ ap decoded (sym e) ∙ comes_back c g))

-- bytes of any other kind are no command
pub other_kind : (k : RecordKind) (bs : List ℕ) → (k ≡ kinds.Enter → ⊥) → (k ≡ kinds.Cancel → ⊥) → (k ≡ kinds.Cross → ⊥) → kind_number k ≡ field 2 2 bs → None ≡ decoded bs
unfolding decoded
other_kind Page bs a b d e = search rules
other_kind Header bs a b d e = search rules
other_kind kinds.Enter bs a b d e = absurd (a refl)
other_kind kinds.Cancel bs a b d e = absurd (b refl)
other_kind kinds.Cross bs a b d e = absurd (d refl)
