-- The laws of little-endian numbers, once over the width.
use Rattle.std.proofs.Common.{◌≡◌, ℕ, zero, suc, ◌+◌, ◌*◌, ◌/◌, ◌%◌, ◌^◌, ◌<◌, ◌≤◌, List, [], ◌∷◌, ◌++◌, length, get_or, take, drop, refl, ap, add_assoc, pow-suc, add-one, arith, w8, Fits}
use native.Mathlib.Nat.{mod-add-div, div-div-eq-div-mul}
use Rattle.std.proofs.lemmas.Nat.{div_below}
use Rattle.std.proofs.lemmas.List.{length-drop, length-take-le, drop-drop, take-append-drop}
use Rattle.records.specs.LittleEndian.{le, number, Bytes, field}

pub length_le : (w n : ℕ) → length (le w n) ≡ w
unfolding le
length_le zero n = refl
length_le (suc w) n = ap suc (length_le w (n / 256))

pub bytes_le : (w n : ℕ) → Bytes (le w n)
unfolding le Bytes
bytes_le zero n = tt
bytes_le (suc w) n = (omega arith, bytes_le w (n / 256))

pub number_le : (w n : ℕ) → n < 256 ^ w → number (le w n) ≡ n
unfolding le number
number_le zero n h = omega arith
number_le (suc w) n h =
    let k : n / 256 < 256 ^ w = div_below n 256 (256 ^ w) (omega arith) (rw pow-suc at h) in
    rw (number_le w (n / 256) k) (mod-add-div n 256)

pub le_number : (bs : List ℕ) → Bytes bs → le (length bs) (number bs) ≡ bs
unfolding le number Bytes
le_number [] h = refl
le_number (b ∷ bs) h =
    let m : (b + 256 * number bs) % 256 ≡ b = omega arith in
    let d : (b + 256 * number bs) / 256 ≡ number bs = omega arith in
    rw (m, d, le_number bs h.1)

pub number_lt : (bs : List ℕ) → Bytes bs → number bs < 256 ^ length bs
unfolding number Bytes
number_lt [] h = omega arith
number_lt (b ∷ bs) h = rw pow-suc (omega (arith, number_lt bs h.1))

-- one byte of a field after another
field_none : (at w : ℕ) → field at w [] ≡ 0
unfolding field number
field_none zero zero = refl
field_none zero (suc w) = refl
field_none (suc at) zero = refl
field_none (suc at) (suc w) = refl

field_suc : (at w : ℕ) (bs : List ℕ) → field at (suc w) bs ≡ get_or bs at 0 + 256 * field (suc at) w bs
unfolding field number
field_suc zero w [] = omega (arith, field_none 1 w)
field_suc zero w (b ∷ bs) = refl
field_suc (suc at) w [] = omega (arith, field_none (suc (suc at)) w)
field_suc (suc at) w (b ∷ bs) = field_suc at w bs

pub field_more : (at w : ℕ) (bs : List ℕ) → field at (suc w) bs ≡ get_or bs at 0 + 256 * field (at + 1) w bs
field_more at w bs = rw add-one (field_suc at w bs)

-- a byte at a place that a numeral counts from `at`
field_from : (at k w : ℕ) (bs : List ℕ) → field (at + k) (suc w) bs ≡ get_or bs (at + k) 0 + 256 * field (at + (k + 1)) w bs
field_from at k w bs = rw (← add_assoc) (field_more (at + k) w bs)

pub field_empty : (at : ℕ) (bs : List ℕ) → field at 0 bs ≡ 0
unfolding field number
field_empty at bs = refl

-- what `to_le_bytes` and `from_le_bytes` say, at each width
pub le_2 : (v : ℕ) → le 2 v ≡ (v % 256) ∷ (v / 256 % 256) ∷ []
unfolding le
le_2 v = refl

pub le_4 : (v : ℕ) → le 4 v ≡ (v % 256) ∷ (v / 256 % 256) ∷ (v / 65536 % 256) ∷ (v / 16777216 % 256) ∷ []
unfolding le
le_4 v = simp div-div-eq-div-mul

pub le_8 : (v : ℕ) → le 8 v ≡ (v % 256) ∷ (v / 256 % 256) ∷ (v / 65536 % 256) ∷ (v / 16777216 % 256) ∷ (v / 4294967296 % 256) ∷ (v / 1099511627776 % 256) ∷ (v / 281474976710656 % 256) ∷ (v / 72057594037927936 % 256) ∷ []
unfolding le
le_8 v = simp div-div-eq-div-mul

pub field_2 : (at : ℕ) (bs : List ℕ) → field at 2 bs ≡ get_or bs at 0 + get_or bs (at + 1) 0 * 256
field_2 at bs = omega (arith, field_more at 1 bs, field_from at 1 0 bs, field_empty (at + 2) bs)

pub field_4 : (at : ℕ) (bs : List ℕ) → field at 4 bs ≡ get_or bs at 0 + get_or bs (at + 1) 0 * 256 + get_or bs (at + 2) 0 * 65536 + get_or bs (at + 3) 0 * 16777216
field_4 at bs =
    omega (arith, field_more at 3 bs, field_from at 1 2 bs, field_from at 2 1 bs, field_from at 3 0 bs, field_empty (at + 4) bs)

pub field_8 : (at : ℕ) (bs : List ℕ) → field at 8 bs ≡ get_or bs at 0 + get_or bs (at + 1) 0 * 256 + get_or bs (at + 2) 0 * 65536 + get_or bs (at + 3) 0 * 16777216 + get_or bs (at + 4) 0 * 4294967296 + get_or bs (at + 5) 0 * 1099511627776 + get_or bs (at + 6) 0 * 281474976710656 + get_or bs (at + 7) 0 * 72057594037927936
field_8 at bs =
    omega (arith, field_more at 7 bs, field_from at 1 6 bs, field_from at 2 5 bs, field_from at 3 4 bs, field_from at 4 3 bs, field_from at 5 2 bs, field_from at 6 1 bs, field_from at 7 0 bs, field_empty (at + 8) bs)

-- a part of bytes is bytes
pub bytes_take : (w : ℕ) (bs : List ℕ) → Bytes bs → Bytes (take w bs)
unfolding Bytes
bytes_take zero bs h = tt
bytes_take (suc w) [] h = tt
bytes_take (suc w) (b ∷ bs) h = (h.0, bytes_take w bs h.1)

pub bytes_drop : (at : ℕ) (bs : List ℕ) → Bytes bs → Bytes (drop at bs)
unfolding Bytes
bytes_drop zero bs h = h
bytes_drop (suc at) [] h = tt
bytes_drop (suc at) (b ∷ bs) h = bytes_drop at bs h.1

-- a field, written again, is the bytes that it was read from
pub le_field : (at w : ℕ) (bs : List ℕ) → Bytes bs → at + w ≤ length bs → le w (field at w bs) ≡ take w (drop at bs)
unfolding field
le_field at w bs h l =
    let m : w ≤ length (drop at bs) = simp length-drop (omega arith) in
    let e = le_number (take w (drop at bs)) (bytes_take w (drop at bs) (bytes_drop at bs h)) in
    rw (length-take-le w (drop at bs)) at e

pub le_cut : (at w : ℕ) (bs : List ℕ) → Bytes bs → at + w ≤ length bs → le w (field at w bs) ++ drop (at + w) bs ≡ drop at bs
le_cut at w bs h l = rw (le_field at w bs h l, ← drop-drop w at bs) (take-append-drop w (drop at bs))

-- what a slice of `u8` holds is bytes
pub bytes_typed : (bs : List ℕ) → ((i : ℕ) → Fits w8 (get_or bs i 0)) → Bytes bs
unfolding Bytes
bytes_typed [] h = tt
bytes_typed (b ∷ bs) h = (omega (arith, h 0), bytes_typed bs (λ i. h (suc i)))

-- a field is below the bound of its width
pub field_lt : (at w : ℕ) (bs : List ℕ) → Bytes bs → at + w ≤ length bs → field at w bs < 256 ^ w
unfolding field
field_lt at w bs h l =
    let m : w ≤ length (drop at bs) = simp length-drop (omega arith) in
    let e = number_lt (take w (drop at bs)) (bytes_take w (drop at bs) (bytes_drop at bs h)) in
    rw (length-take-le w (drop at bs)) at e

-- and what an array of `u8` holds
pub bytes_below : (bs : List ℕ) → ((i : ℕ) → get_or bs i 0 < 256) → Bytes bs
unfolding Bytes
bytes_below [] h = tt
bytes_below (b ∷ bs) h = (h 0, bytes_below bs (λ i. h (suc i)))
