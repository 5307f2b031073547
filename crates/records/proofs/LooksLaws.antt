-- What a sector looks like, by its bytes.
use Rattle.std.proofs.Common.{◌≡◌, ℕ, ◌^◌, ◌<◌, true, eqb, List, ◌++◌, length, take, drop, sym, refl, ap, ◌∙◌, append_assoc, arith}
use Rattle.std.proofs.lemmas.Bool.{and_parts, and_from, eqb-true, eq-eqb}
use Rattle.std.proofs.lemmas.List.{take_at}
use Rattle.records.proofs.LittleEndianLaws.{number_le, le_cut, field_lt}
use Rattle.records.specs.declared.numbers.HouseNumber.{HouseNumber}
use Rattle.records.specs.declared.numbers.PageNumber.{PageNumber}
use Rattle.records.specs.LittleEndian.{le, number, field, Bytes}
use Rattle.records.specs.Pages.{bytes_look_for, looked_for, Looks}

-- three fields in a row
three : ℕ → ℕ → ℕ → List ℕ
three a b c = le 2 a ++ (le 4 b ++ le 8 c)

three_length : (a b c : ℕ) → length (three a b c) ≡ 14
unfolding three le
three_length a b c = refl

middle : (bs : List ℕ) → Bytes bs → length bs ≡ 512 → take 14 (drop 2 bs) ≡ three (field 2 2 bs) (field 4 4 bs) (field 8 8 bs)
unfolding three
middle bs b l =
    let c2 = le_cut 2 2 bs b (omega arith) in
    let c4 = le_cut 4 4 bs b (omega arith) in
    let c8 = le_cut 8 8 bs b (omega arith) in
    let e : drop 2 bs ≡ (le 2 (field 2 2 bs) ++ (le 4 (field 4 4 bs) ++ le 8 (field 8 8 bs))) ++ drop 16 bs = simp append_assoc (cc) in
    ap (take 14) e ∙ take_at (three (field 2 2 bs) (field 4 4 bs) (field 8 8 bs)) (drop 16 bs) 14 (three_length (field 2 2 bs) (field 4 4 bs) (field 8 8 bs))

-- they come apart again
first : (a b c : ℕ) → a < 256 ^ 2 → number (take 2 (three a b c)) ≡ a
unfolding three le
first a b c h = number_le 2 a h

second : (a b c : ℕ) → b < 256 ^ 4 → number (take 4 (drop 2 (three a b c))) ≡ b
unfolding three le
second a b c h = number_le 4 b h

third : (a b c : ℕ) → c < 256 ^ 8 → number (drop 6 (three a b c)) ≡ c
unfolding three le
third a b c h = number_le 8 c h

pub looks_decides : (h : HouseNumber) (n : PageNumber) (bs : List ℕ) → Bytes bs → length bs ≡ 512 → h.0 < 256 ^ 4 → n.0 < 256 ^ 8 → Looks h n bs (bytes_look_for h n bs)
unfolding three
looks_decides h n bs b l hf nf = (there, back)
  where
    a2 : field 2 2 bs < 256 ^ 2
    a2 = field_lt 2 2 bs b (omega arith)

    a4 : field 4 4 bs < 256 ^ 4
    a4 = field_lt 4 4 bs b (omega arith)

    a8 : field 8 8 bs < 256 ^ 8
    a8 = field_lt 8 8 bs b (omega arith)

    there : bytes_look_for h n bs ≡ true → take 14 (drop 2 bs) ≡ looked_for h n
    there t =
        let p = and_parts (eqb (field 2 2 bs) 1) _ t in
        let q = and_parts (eqb (field 4 4 bs) h.0) (eqb (field 8 8 bs) n.0) p.1 in
        let e2 = eqb-true (field 2 2 bs) 1 p.0 in
        let e4 = eqb-true (field 4 4 bs) h.0 q.0 in
        let e8 = eqb-true (field 8 8 bs) n.0 q.1 in
        middle bs b l ∙ (λ i. three (e2 i) (e4 i) (e8 i))

    back : take 14 (drop 2 bs) ≡ looked_for h n → bytes_look_for h n bs ≡ true
    back e =
        let s : three (field 2 2 bs) (field 4 4 bs) (field 8 8 bs) ≡ three 1 h.0 n.0 = sym (middle bs b l) ∙ e in
        let e2 = sym (first _ _ _ a2) ∙ ap (λ x. number (take 2 x)) s ∙ first 1 h.0 n.0 (omega arith) in
        let e4 = sym (second _ _ _ a4) ∙ ap (λ x. number (take 4 (drop 2 x))) s ∙ second 1 h.0 n.0 hf in
        let e8 = sym (third _ _ _ a8) ∙ ap (λ x. number (drop 6 x)) s ∙ third 1 h.0 n.0 nf in
        and_from (eqb (field 2 2 bs) 1) _ (eq-eqb _ _ e2) (and_from (eqb (field 4 4 bs) h.0) (eqb (field 8 8 bs) n.0) (eq-eqb _ _ e4) (eq-eqb _ _ e8))
