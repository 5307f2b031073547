-- A good header comes back from its sector, and no other sector is taken for a header.
use Rattle.std.proofs.Common.{◌≡◌, ℕ, ◌-◌, ◌^◌, ◌<◌, true, cond, eqb, List, ◌++◌, length, drop, replicate, Some, None, Option, sym, refl, ap, ◌∙◌, subst, ⊎_elim, append_assoc, arith}
use Rattle.std.proofs.lemmas.Bool.{cond-true, and_parts, eqb-true, ltb-true, lt-ltb}
use Rattle.std.proofs.lemmas.List.{length-drop}
use Rattle.records.proofs.LittleEndianLaws.{number_le, le_cut, field_lt}
use Rattle.records.proofs.CommandLaws.{which}
use Rattle.records.proofs.SectorLaws.{zeros_are, none_some}
use Rattle.records.specs.declared.headers.Header.{Header}
use Rattle.records.specs.LittleEndian.{le, number, field, Bytes}
use Rattle.records.specs.Sectors.{zeros, fits_in}
use Rattle.records.specs.Headers.{counts_good, header_fits, good_header, header_record, header_sector_bytes, header_in_bytes, header_laid_out, decoded_header, HeaderComesBack, DecodedHeader, ZerosNoHeader}

record Fits (h : Header) : Type 0 where
  pub house : h.house.0 < 256 ^ 4
  pub page : h.page.0 < 256 ^ 8
  pub commands : h.commands.0 < 256 ^ 8
  pub notices : h.notices.0 < 256 ^ 8
  pub market : h.market < 256 ^ 2

fits : (h : Header) → header_fits h ≡ true → Fits h
fits h g =
    let a = and_parts (fits_in 4 h.house.0) _ g in
    let b = and_parts (fits_in 8 h.page.0) _ a.1 in
    let c = and_parts (fits_in 8 h.commands.0) _ b.1 in
    let d = and_parts (fits_in 8 h.notices.0) (fits_in 2 h.market) c.1 in
    record {
      house = ltb-true h.house.0 (256 ^ 4) a.0;
      page = ltb-true h.page.0 (256 ^ 8) b.0;
      commands = ltb-true h.commands.0 (256 ^ 8) c.0;
      notices = ltb-true h.notices.0 (256 ^ 8) d.0;
      market = ltb-true h.market (256 ^ 2) d.1;
    }

pub header_comes_back : (h : Header) → HeaderComesBack h
unfolding le number field header_sector_bytes decoded_header
header_comes_back h g =
    let p = and_parts (header_fits h) (counts_good h) g in
    let f = fits h p.0 in
    let ea = number_le 4 h.house.0 f.house in
    let eb = number_le 8 h.page.0 f.page in
    let ec = number_le 8 h.commands.0 f.commands in
    let ed = number_le 8 h.notices.0 f.notices in
    let ee = number_le 2 h.market f.market in
    let same : header_in_bytes (header_sector_bytes h) ≡ h = λ i. record { house = record { 0 = ea i }; page = record { 0 = eb i }; commands = record { 0 = ec i }; notices = record { 0 = ed i }; market = ee i } in
    ap (λ (x : Header). cond (counts_good x) (Some x) None) same ∙ cond-true _ _ _ p.1

rest_size : (bs : List ℕ) → 512 - length (header_record (header_in_bytes bs)) ≡ 476
unfolding le
rest_size bs = refl

header_back : (bs : List ℕ) → Bytes bs → length bs ≡ 512 → field 0 2 bs ≡ 36 → field 2 2 bs ≡ 2 → field 34 2 bs ≡ 0 → zeros (drop 36 bs) ≡ true → header_sector_bytes (header_in_bytes bs) ≡ bs
unfolding header_sector_bytes
header_back bs b l e0 e2 e34 z =
    let c0 = le_cut 0 2 bs b (omega arith) in
    let c2 = le_cut 2 2 bs b (omega arith) in
    let c4 = le_cut 4 4 bs b (omega arith) in
    let c8 = le_cut 8 8 bs b (omega arith) in
    let c16 = le_cut 16 8 bs b (omega arith) in
    let c24 = le_cut 24 8 bs b (omega arith) in
    let c32 = le_cut 32 2 bs b (omega arith) in
    let c34 = le_cut 34 2 bs b (omega arith) in
    let s : replicate (512 - length (header_record (header_in_bytes bs))) 0 ≡ drop 36 bs = ap (λ n. replicate n 0) (omega (arith, rest_size bs, length-drop 36 bs)) ∙ sym (zeros_are (drop 36 bs) z) in
    ap (λ x. header_record (header_in_bytes bs) ++ x) s ∙ simp append_assoc (cc)

header_good : (bs : List ℕ) → Bytes bs → length bs ≡ 512 → counts_good (header_in_bytes bs) ≡ true → good_header (header_in_bytes bs) ≡ true
header_good bs b l g =
    rw (lt-ltb _ _ (field_lt 4 4 bs b (omega arith)), lt-ltb _ _ (field_lt 8 8 bs b (omega arith)), lt-ltb _ _ (field_lt 16 8 bs b (omega arith)), lt-ltb _ _ (field_lt 24 8 bs b (omega arith)), lt-ltb _ _ (field_lt 32 2 bs b (omega arith))) g

only_headers : (bs : List ℕ) (h : Header) → Bytes bs → length bs ≡ 512 → decoded_header bs ≡ Some h → (good_header h ≡ true) × (header_sector_bytes h ≡ bs)
unfolding decoded_header
only_headers bs h b l e =
    ⊎_elim
    (λ u.
    ⊎_elim
    (λ w.
    let a = and_parts (header_laid_out bs) (zeros (drop 36 bs)) u.0 in
    let p = and_parts (eqb (field 0 2 bs) 36) _ a.0 in
    let q = and_parts (eqb (field 2 2 bs) 2) (eqb (field 34 2 bs) 0) p.1 in
    let same : header_in_bytes bs ≡ h = cc in
    subst (λ (x : Header). (good_header x ≡ true) × (header_sector_bytes x ≡ bs)) same (header_good bs b l w.0, header_back bs b l (eqb-true _ 36 p.0) (eqb-true _ 2 q.0) (eqb-true _ 0 q.1) a.1))
    (λ w. none_some h w.1)
    (which _ _ _ _ u.1))
    (λ w. none_some h w.1)
    (which _ _ _ _ e)

-- what a decoder's answer says
pub decodes_header : (bs : List ℕ) (o : Option Header) → Bytes bs → length bs ≡ 512 → decoded_header bs ≡ o → DecodedHeader bs o
decodes_header bs (Some h) b l e = let k = only_headers bs h b l e in (e, k.0, k.1)
decodes_header bs None b l e = (e, λ h g f. none_some {X = ⊥} h (sym e ∙ ap decoded_header (sym f) ∙ header_comes_back h g))

pub zeros_no_header : ZerosNoHeader
unfolding field number decoded_header
zeros_no_header = refl
