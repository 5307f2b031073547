-- Bytes from hex digits.
use Rattle.std.proofs.Common.{◌≡◌, ℕ, ◌+◌, ◌*◌, ◌%◌, List, [], ◌∷◌, Option, Some, None, Result, Ok, Err, length, refl, sym, ◌∙◌, subst, arith}
use Rattle.std.proofs.lemmas.Bool.Decides.{nat_tests}
use Rattle.hex.specs.Hex.{decode_of, decode_pairs, digit_or_error, hex_digit_value, pair_value, value_at, ◌>>=◌}
use Rattle.hex.specs.declared.error.FromHexError.{FromHexError}
use Rattle.hex.proofs.HexLemmas.{decode_of-even, decode_of-ok}
use Rattle.play_words.specs.Spellings.{SpellsDigit, SpellsByte, SpellsBytes}

-- what an `Ok` after `>>=` shows
bind_ok : {A B : Type 0} (r : Result A FromHexError) (f : A → Result B FromHexError) (y : B) →
    (r >>= f) ≡ Ok y → (x : A) × (r ≡ Ok x) × (f x ≡ Ok y)
bind_ok (Ok x) f y h = (x, refl, h)
bind_ok (Err e) f y h = cc h

-- the number of a digit that was read
digit_read : (c i : ℕ) (o : Option ℕ) (v : ℕ) → digit_or_error c i o ≡ Ok v → o ≡ Some v
digit_read c i (Some w) v h = cc h
digit_read c i None v h = cc h

digit_spelled : (c v : ℕ) → hex_digit_value c ≡ Some v → SpellsDigit c v
digit_spelled c v h = grind (arith, nat_tests)

byte_spelled : (x y i b : ℕ) → pair_value x y i ≡ Ok b → SpellsByte x y b
byte_spelled x y i b h =
    let p = bind_ok (value_at x i) _ b h in
    let q = bind_ok (value_at y (i + 1)) _ b p.2 in
    let e : p.0 * 16 + q.0 ≡ b = cc q.2 in
    (p.0, q.0, digit_spelled x p.0 (digit_read x i _ p.0 p.1), digit_spelled y q.0 (digit_read y (i + 1) _ q.0 q.1), omega arith)

pairs_spelled : (i : ℕ) (text bs : List ℕ) → decode_pairs i text ≡ Ok bs → SpellsBytes text bs
unfolding decode_pairs
pairs_spelled i [] [] h = tt
pairs_spelled i [] (b ∷ bs) h = cc h
pairs_spelled i (x ∷ []) bs h = cc h
pairs_spelled i (x ∷ (y ∷ text)) [] h =
    let p = bind_ok (pair_value x y i) _ [] h in
    let q = bind_ok (decode_pairs (i + 2) text) _ [] p.2 in
    cc q.2
pairs_spelled i (x ∷ (y ∷ text)) (b ∷ bs) h =
    let p = bind_ok (pair_value x y i) _ (b ∷ bs) h in
    let q = bind_ok (decode_pairs (i + 2) text) _ (b ∷ bs) p.2 in
    let eb : p.0 ≡ b = cc q.2 in
    let es : q.0 ≡ bs = cc q.2 in
    (subst (SpellsByte x y) eb (byte_spelled x y i p.0 p.1), subst (SpellsBytes text) es (pairs_spelled (i + 2) text q.0 q.1))

-- what decodes is spelled
pub spelled : (text bs : List ℕ) → decode_of text ≡ Ok bs → SpellsBytes text bs
spelled text bs h =
    let even : length text % 2 ≡ 0 = (decode_of-ok text bs h).0 in
    pairs_spelled 0 text bs (sym (decode_of-even text even) ∙ h)
