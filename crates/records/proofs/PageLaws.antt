-- The turns of the loops that write and read the commands of a page.
use Rattle.std.proofs.Common.{◌≡◌, ℕ, suc, ◌+◌, ◌-◌, ◌<◌, ◌≤◌, Bool, true, false, cond, eqb, List, [], ◌∷◌, ◌++◌, length, take, drop, IfSome, Some, None, Option, sym, refl, ap, append_assoc, append-nil, arith}
use Rattle.std.proofs.lemmas.Bool.{ne_eqb, cond-false}
use Rattle.std.proofs.lemmas.List.{take_all, length-take}
use Rattle.records.proofs.LittleEndianLaws.{bytes_take}
use Rattle.records.proofs.CommandLaws.{only_records}
use Rattle.records.specs.declared.commands.Command.{Command}
use Rattle.records.specs.LittleEndian.{field, Bytes}
use Rattle.records.specs.Commands.{encoded, decoded}
use Rattle.records.specs.Pages.{after, first_in_bytes, commands_in_bytes}

cond_same : {A : Type 0} (b : Bool) (x : A) → cond b x x ≡ x
cond_same true x = refl
cond_same false x = refl

-- no record is shorter than 4 bytes
decoded_short : (bs : List ℕ) → length bs < 4 → decoded bs ≡ None
unfolding decoded
decoded_short bs h =
    let a = ne_eqb (length bs) 18 (λ e. omega arith) in
    let b = ne_eqb (length bs) 16 (λ e. omega arith) in
    let d = ne_eqb (length bs) 4 (λ e. omega arith) in
    rw (a, b, d) (cond_same _ _)

-- its first field is its length
decoded_other : (bs : List ℕ) → length bs < field 0 2 bs → decoded bs ≡ None
unfolding decoded
decoded_other bs h = cond-false _ _ _ (ne_eqb (field 0 2 bs) (length bs) (λ e. omega arith))

pub first_short : (bs : List ℕ) → length bs < 4 → first_in_bytes bs ≡ None
unfolding first_in_bytes
first_short bs h = decoded_short (take (field 0 2 bs) bs) (simp length-take (omega arith))

pub first_long : (bs : List ℕ) → length bs < field 0 2 bs → first_in_bytes bs ≡ None
unfolding first_in_bytes
first_long bs h = let l : length bs ≤ field 0 2 bs = omega arith in rw (take_all (field 0 2 bs) bs) (decoded_other bs h)

first_fits : (bs : List ℕ) (c : Command) → Bytes bs → first_in_bytes bs ≡ Some c → length (encoded c) ≤ length bs
unfolding first_in_bytes
first_fits bs c b h = rw (only_records (take (field 0 2 bs) bs) c (bytes_take (field 0 2 bs) bs b) h).1 (simp length-take (omega arith))

pub first_bound : (o : Option Command) (bs : List ℕ) → Bytes bs → o ≡ first_in_bytes bs → IfSome o (λ c. length (encoded c) ≤ length bs)
first_bound (Some c) bs b h = first_fits bs c b (sym h)
first_bound None bs b h = tt

after_after : (cs ds : List Command) (o : Option (List Command)) → after cs (after ds o) ≡ after (cs ++ ds) o
after_after cs ds (Some es) = ap Some (sym (append_assoc cs ds es))
after_after cs ds None = refl

-- what a turn leaves to find
pub found_turn : (n i : ℕ) (cs : List Command) (c : Command) (bs : List ℕ) → i < n → first_in_bytes bs ≡ Some c → after cs (commands_in_bytes (n - i) bs) ≡ after (cs ++ c ∷ []) (commands_in_bytes (n - (i + 1)) (drop (length (encoded c)) bs))
unfolding commands_in_bytes
found_turn n i cs c bs l f =
    let e : n - i ≡ suc (n - (i + 1)) = omega arith in
    rw (e, f) (after_after cs (c ∷ []) (commands_in_bytes (n - (i + 1)) (drop (length (encoded c)) bs)))

pub found_none : (n i : ℕ) (cs : List Command) (bs : List ℕ) → i < n → first_in_bytes bs ≡ None → after cs (commands_in_bytes (n - i) bs) ≡ None
unfolding commands_in_bytes
found_none n i cs bs l f =
    let e : n - i ≡ suc (n - (i + 1)) = omega arith in
    rw (e, f)

none_left : (cs : List Command) (b : Bool) → after cs (cond b (Some []) None) ≡ cond b (Some cs) None
none_left cs true = ap Some (append-nil cs)
none_left cs false = refl

pub found_end : (n i : ℕ) (cs : List Command) (bs : List ℕ) → n ≤ i → after cs (commands_in_bytes (n - i) bs) ≡ cond (eqb (length bs) 0) (Some cs) None
unfolding commands_in_bytes
found_end n i cs bs l =
    let e : n - i ≡ 0 = omega arith in
    rw e (none_left cs (eqb (length bs) 0))
