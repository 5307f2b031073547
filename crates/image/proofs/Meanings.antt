-- What happens to the meaning as writes wait, are put down, and are cut.
use Rattle.std.proofs.Common.{◌≡◌, ℕ, ◌<◌, ◌≤◌, Bool, true, false, cond, ◌&&◌, ◌||◌, eqb, ltb, ◌⊎◌, List, [], ◌∷◌, ◌++◌, length, reverse, Some, None, Option, sym, refl, ap, ◌∙◌, subst, inl, inr, ⊎_elim, arith, eq-eqb, ne_eqb, eqb-true}
use borrow.Author.Tests.{clash}
use Rattle.std.specs.List.{find}
use Rattle.std.specs.Option.{option_or}
use Rattle.std.proofs.lemmas.List.{reverse-append}
use Rattle.std.proofs.lemmas.List.Folds.{find-append}
use Rattle.std.proofs.lemmas.Bool.{or_left, or_right, or_cases, and_from, and_parts, cases_eq, cases_Bool, cond-true, cond-false}
use Rattle.device.specs.Meaning.{Meaning, Reading, bytes, torn, Lawful}
use Rattle.device.specs.Calls.{Moved, WasCut, Written, Synced, Woken, Kept, Joined}
use Rattle.image.specs.Image.{size_of, reading, seen, same}
use Rattle.image.specs.Fuses.{fate, later}
use Rattle.image.specs.Waiting.{whole, put_down, put_all, leaves, some_leaves, meant, landed, settled, over, staying, put_some, newest_of}
use Rattle.image.specs.declared.fuse.Plan.{Plan}
use Rattle.image.specs.declared.pending.Pending.{Pending}
use Rattle.image.proofs.Changes.{Changed, in_only, only_is, reads_whole, is_put, seen_within, seen_past}
use Rattle.image.proofs.Landings.{Landed, down_is, landed_is, down_put}

abbrev May : List ℕ → List Pending → ℕ → Reading → Type 0
May xs ps s x = (same x (reading xs s) || some_leaves ps s x) ≡ true

same_self : (x y : Reading) → x ≡ y → same x y ≡ true
same_self x y e = subst (λ (z : Reading). same x z ≡ true) e (in_only x)

leaves_in : (p : Pending) (s : ℕ) (x : Reading) → s ≡ p.sector → whole p ≡ true → (x ≡ bytes p.bytes) ⊎ (x ≡ torn) → leaves p s x ≡ true
unfolding leaves
leaves_in p s x e w k = and_from _ _ (and_from _ _ (eq-eqb s p.sector e) w) (⊎_elim (λ f. or_left _ _ (same_self x _ f)) (λ f. or_right _ _ (same_self x _ f)) k)

leaves_is : (p : Pending) (s : ℕ) (x : Reading) → leaves p s x ≡ true → (s ≡ p.sector) × (whole p ≡ true) × ((x ≡ bytes p.bytes) ⊎ (x ≡ torn))
unfolding leaves
leaves_is p s x e =
    let f = and_parts (eqb s p.sector && whole p) _ e in
    let g = and_parts (eqb s p.sector) (whole p) f.0 in
    (eqb-true s p.sector g.0, g.1, ⊎_elim (λ k. inl (only_is x _ k)) (λ k. inr (only_is x _ k)) (or_cases _ _ f.1))

-- the oldest write was dropped, torn or put down: no set gains
shrinks : (xs ys : List ℕ) (p : Pending) (ps : List Pending) → Landed xs p ys → (s : ℕ) (x : Reading) → May ys ps s x → May xs (p ∷ ps) s x
shrinks xs ys p ps o s x h =
    elim (or_cases (same x (reading ys s)) (some_leaves ps s x) h) [
      | inl e ↦ let f = only_is x (reading ys s) e in
          elim (o.one s) [
            | inl g ↦ or_left (same x (reading xs s)) _ (same_self x _ (f ∙ g))
            | inr g ↦ or_right (same x (reading xs s)) _ (or_left (leaves p s x) _ (leaves_in p s x g.0 g.1 (⊎_elim (λ k. inl (f ∙ k)) (λ k. inr (f ∙ k)) g.2)))
          ]
      | inr e ↦ or_right (same x (reading xs s)) _ (or_right (leaves p s x) _ e)
    ]

among : (xs : List ℕ) (ps : List Pending) (s : ℕ) → May xs ps s (reading (put_all xs ps) s)
among xs [] s = or_left _ _ (in_only (reading xs s))
among xs (p ∷ ps) s = shrinks xs (put_down xs p) p ps (down_is xs p) s _ (among (put_down xs p) ps s)

all_size : (xs : List ℕ) (ps : List Pending) → size_of (put_all xs ps) ≡ size_of xs
all_size xs [] = refl
all_size xs (p ∷ ps) = all_size (put_down xs p) ps ∙ (down_is xs p).size

left_whole : (ps : List Pending) (s : ℕ) (b : List ℕ) → some_leaves ps s (bytes b) ≡ true → length b ≡ 512
left_whole [] s b e = absurd (clash e)
left_whole (p ∷ ps) s b e =
    elim (or_cases (leaves p s (bytes b)) (some_leaves ps s (bytes b)) e) [
      | inl f ↦ let g = leaves_is p s (bytes b) f in
          let l = eqb-true (length p.bytes) 512 g.1 in
          elim g.2 [ inl k ↦ let j : b ≡ p.bytes = cc in cc | inr k ↦ let z : ◌≡◌ {A = ℕ} 0 1 = cc in absurd (omega arith) ]
      | inr f ↦ left_whole ps s b f
    ]

pub meant_lawful : (xs : List ℕ) (ps : List Pending) (lit : Bool) → Lawful (meant xs ps lit)
meant_lawful xs ps lit =
    record {
      among = λ s h. among xs ps s;
      whole = λ s h b i. ⊎_elim (λ e. reads_whole xs s h b (only_is (bytes b) (reading xs s) e)) (left_whole ps s b) (or_cases (same (bytes b) (reading xs s)) (some_leaves ps s (bytes b)) i);
      small = omega arith;
    }

-- a write that waits is the newest
all_push : (xs : List ℕ) (ps : List Pending) (q : Pending) → put_all xs (ps ++ q ∷ []) ≡ put_down (put_all xs ps) q
all_push xs [] q = refl
all_push xs (p ∷ ps) q = all_push (put_down xs p) ps q

leaves_push : (ps : List Pending) (q : Pending) (s : ℕ) (x : Reading) → some_leaves (ps ++ q ∷ []) s x ≡ true → (some_leaves ps s x ≡ true) ⊎ (leaves q s x ≡ true)
leaves_push [] q s x h = ⊎_elim inr inl (or_cases (leaves q s x) false h)
leaves_push (p ∷ ps) q s x h =
    elim (or_cases (leaves p s x) (some_leaves (ps ++ q ∷ []) s x) h) [
      | inl e ↦ inl (or_left (leaves p s x) _ e)
      | inr e ↦ ⊎_elim (λ k. inl (or_right (leaves p s x) _ k)) inr (leaves_push ps q s x e)
    ]

push_joins : (xs : List ℕ) (ps : List Pending) (lit : Bool) (q : Pending) (s : ℕ) (x : Reading) → May xs (ps ++ q ∷ []) s x → Joined (meant xs ps lit) q.sector q.bytes s x
push_joins xs ps lit q s x m =
    elim (or_cases (same x (reading xs s)) (some_leaves (ps ++ q ∷ []) s x) m) [
      | inl f ↦ inl (or_left (same x (reading xs s)) _ f)
      | inr f ↦ ⊎_elim (λ g. inl (or_right (same x (reading xs s)) _ g)) (λ g. let k = leaves_is q s x g in inr (k.0, k.2)) (leaves_push ps q s x f)
    ]

pushed_written : (xs : List ℕ) (ps : List Pending) (lit : Bool) (q : Pending) → q.sector < size_of xs → length q.bytes ≡ 512 → lit ≡ true → Written (meant xs ps lit) q.sector q.bytes (meant xs (ps ++ q ∷ []) lit)
pushed_written xs ps lit q h l e =
    let ys = put_all xs ps in
    let k : q.sector < size_of ys = subst (λ (n : ℕ). q.sector < n) (sym (all_size xs ps)) h in
    let c : Changed ys q.sector (bytes q.bytes) (put_all xs (ps ++ q ∷ [])) = subst (λ (zs : List ℕ). Changed ys q.sector (bytes q.bytes) zs) (sym (all_push xs ps q ∙ down_put ys q k l)) (is_put ys q.sector q.bytes k l) in
    record {
      within = h;
      was_lit = e;
      size = refl;
      lit = e;
      here = c.here;
      others = λ s i n. c.others s n;
      gains = λ s i x m. push_joins xs ps lit q s x m;
    }

-- the oldest is put down after a write: the readings are the same, and the sets shrink
lowered : (m : Meaning) (xs : List ℕ) (p : Pending) (ps : List Pending) (lit : Bool) (at : ℕ) (new : List ℕ) → Written m at new (meant xs (p ∷ ps) lit) → Written m at new (meant (put_down xs p) ps lit)
lowered m xs p ps lit at new w =
    record {
      within = w.within;
      was_lit = w.was_lit;
      size = (down_is xs p).size ∙ w.size;
      lit = w.lit;
      here = w.here;
      others = w.others;
      gains = λ s i x k. w.gains s i x (shrinks xs (put_down xs p) p ps (down_is xs p) s x k);
    }

relieved : (room : ℕ) (m : Meaning) (xs : List ℕ) (qs : List Pending) (lit : Bool) (at : ℕ) (new : List ℕ) → Written m at new (meant xs qs lit) → Written m at new (meant (put_some xs (over room qs)) (staying room qs) lit)
relieved room m xs [] lit at new w = w
relieved room m xs (p ∷ ps) lit at new w =
    elim (cases_Bool (ltb room (length (p ∷ ps)))) [
      | inl e ↦ simp e (lowered m xs p ps lit at new w)
      | inr e ↦ simp e w
    ]

-- a write that comes to wait, where at most `room` may
pub admitted : (room : ℕ) (xs : List ℕ) (ps : List Pending) (lit : Bool) (q : Pending) → q.sector < size_of xs → length q.bytes ≡ 512 → lit ≡ true →
    Written (meant xs ps lit) q.sector q.bytes (meant (put_some xs (over room (ps ++ q ∷ []))) (staying room (ps ++ q ∷ [])) lit)
admitted room xs ps lit q h l e = relieved room _ xs (ps ++ q ∷ []) lit q.sector q.bytes (pushed_written xs ps lit q h l e)

-- all put down
pub emptied : (xs : List ℕ) (ps : List Pending) (lit : Bool) → lit ≡ true → Synced (meant xs ps lit) (meant (put_all xs ps) [] lit)
emptied xs ps lit e =
    let one : (s : ℕ) (x : Reading) → May (put_all xs ps) [] s x → x ≡ reading (put_all xs ps) s = λ s x m.
    ⊎_elim (λ f. only_is x _ f) (λ f. absurd (clash f)) (or_cases (same x (reading (put_all xs ps) s)) false m) in
    record {
      was_lit = e;
      size = all_size xs ps;
      lit = e;
      reads = λ s h. refl;
      gains = λ s h x m. subst (May xs ps s) (sym (one s x m)) (among xs ps s);
      only = λ s h x m. one s x m;
    }

-- a cut by a plan
settled_size : (plan : Plan) (xs : List ℕ) (ps : List Pending) → size_of (settled plan xs ps) ≡ size_of xs
settled_size plan xs [] = refl
settled_size plan xs (p ∷ ps) = settled_size (later plan) (landed (fate plan) xs p) ps ∙ (landed_is (fate plan) xs p).size

settled_may : (plan : Plan) (xs : List ℕ) (ps : List Pending) (s : ℕ) (x : Reading) → May (settled plan xs ps) [] s x → May xs ps s x
settled_may plan xs [] s x h = h
settled_may plan xs (p ∷ ps) s x h = shrinks xs (landed (fate plan) xs p) p ps (landed_is (fate plan) xs p) s x (settled_may (later plan) (landed (fate plan) xs p) ps s x h)

pub cut_settled : (plan : Plan) (xs : List ℕ) (ps : List Pending) (lit : Bool) → WasCut (meant xs ps lit) (Kept (meant xs ps lit)) (meant (settled plan xs ps) [] false)
cut_settled plan xs ps lit =
    record {
      dark = refl;
      moved = record {
        size = settled_size plan xs ps;
        left = λ s h. settled_may plan xs ps s _ (among (settled plan xs ps) [] s);
        gains = λ s h x i. settled_may plan xs ps s x i;
      };
    }

pub cut_settled_write : (plan : Plan) (xs : List ℕ) (ps : List Pending) (lit : Bool) (q : Pending) →
    WasCut (meant xs ps lit) (Joined (meant xs ps lit) q.sector q.bytes) (meant (settled plan xs (ps ++ q ∷ [])) [] false)
cut_settled_write plan xs ps lit q =
    let qs = ps ++ q ∷ [] in
    record {
      dark = refl;
      moved = record {
        size = settled_size plan xs qs;
        left = λ s h. push_joins xs ps lit q s _ (settled_may plan xs qs s _ (among (settled plan xs qs) [] s));
        gains = λ s h x i. push_joins xs ps lit q s x (settled_may plan xs qs s x i);
      };
    }

-- no power
still : (xs : List ℕ) (ps : List Pending) (lit lit' : Bool) → Moved (meant xs ps lit) (Kept (meant xs ps lit)) (meant xs ps lit')
still xs ps lit lit' = record { size = refl; left = λ s h. among xs ps s; gains = λ s h x i. i }

pub cut_dark : (xs : List ℕ) (ps : List Pending) (lit : Bool) → lit ≡ false → WasCut (meant xs ps lit) (Kept (meant xs ps lit)) (meant xs ps lit)
cut_dark xs ps lit e = record { dark = e; moved = still xs ps lit lit }

pub cut_dark_write : (xs : List ℕ) (ps : List Pending) (lit : Bool) (at : ℕ) (new : List ℕ) → lit ≡ false → WasCut (meant xs ps lit) (Joined (meant xs ps lit) at new) (meant xs ps lit)
cut_dark_write xs ps lit at new e = record { dark = e; moved = record { size = refl; left = λ s h. inl (among xs ps s); gains = λ s h x i. inl i } }

pub woken : (xs : List ℕ) (ps : List Pending) (lit lit' : Bool) → lit' ≡ true → Woken (meant xs ps lit) (meant xs ps lit')
woken xs ps lit lit' e = record { lit = e; moved = still xs ps lit lit' }

-- what the newest waiting write of a sector says of its reading
other : (xs : List ℕ) (p : Pending) (s : ℕ) → (s ≡ p.sector → ⊥) → reading (put_down xs p) s ≡ reading xs s
other xs p s n = elim ((down_is xs p).one s) [ inl e ↦ e | inr e ↦ absurd (n e.0) ]

here : (xs : List ℕ) (p : Pending) (s : ℕ) → p.sector ≡ s → s < size_of xs → length p.bytes ≡ 512 → reading (put_down xs p) s ≡ bytes p.bytes
here xs p s e h l =
    let k : p.sector < size_of xs = subst (λ (n : ℕ). n < size_of xs) (sym e) h in
    ap (reading (put_down xs p)) (sym e) ∙ ap (λ (ys : List ℕ). reading ys p.sector) (down_put xs p k l) ∙ (is_put xs p.sector p.bytes k l).here

-- the newest of a list is the newest of what follows the oldest, or else the oldest
newest_more : (p : Pending) (ps : List Pending) (s : ℕ) → newest_of s (p ∷ ps) ≡ option_or (newest_of s ps) (cond (eqb p.sector s) (Some p) None)
newest_more p ps s = ap (find (λ (q : Pending). eqb q.sector s)) (reverse-append (p ∷ []) ps) ∙ find-append (λ (q : Pending). eqb q.sector s) (reverse ps) (p ∷ [])

or_none : (a b : Option Pending) → option_or a b ≡ None → (a ≡ None) × (b ≡ None)
or_none None b e = (refl, e)
or_none (Some x) b e = cc

or_some : (a b : Option Pending) (p : Pending) → option_or a b ≡ Some p → (a ≡ Some p) ⊎ ((a ≡ None) × (b ≡ Some p))
or_some None b p e = inr (refl, e)
or_some (Some x) b p e = inl e

newest_none : (xs : List ℕ) (ps : List Pending) (s : ℕ) → newest_of s ps ≡ None → reading (put_all xs ps) s ≡ reading xs s
newest_none xs [] s e = refl
newest_none xs (p ∷ ps) s e =
    let f = or_none (newest_of s ps) _ (sym (newest_more p ps s) ∙ e) in
    let n : (p.sector ≡ s → ⊥) = λ a. let g = sym (cond-true (eqb p.sector s) (Some p) None (eq-eqb p.sector s a)) ∙ f.1 in cc in
    newest_none (put_down xs p) ps s f.0 ∙ other xs p s (λ z. n (sym z))

newest_some : (xs : List ℕ) (ps : List Pending) (s : ℕ) (p : Pending) → s < size_of xs → newest_of s ps ≡ Some p → length p.bytes ≡ 512 → reading (put_all xs ps) s ≡ bytes p.bytes
newest_some xs [] s p h e l = cc
newest_some xs (q ∷ ps) s p h e l =
    elim (or_some (newest_of s ps) _ p (sym (newest_more q ps s) ∙ e)) [
      | inl f ↦ newest_some (put_down xs q) ps s p (subst (λ (n : ℕ). s < n) (sym (down_is xs q).size) h) f l
      | inr f ↦ newest_none (put_down xs q) ps s f.0 ∙ elim (cases_eq q.sector s) [
        | inl a ↦ let g : Some q ≡ Some p = sym (cond-true (eqb q.sector s) (Some q) None (eq-eqb q.sector s a)) ∙ f.1 in
            let m : q ≡ p = cc in
            subst (λ (z : Pending). reading (put_down xs q) s ≡ bytes z.bytes) m (here xs q s a h (subst (λ (z : Pending). length z.bytes ≡ 512) (sym m) l))
        | inr a ↦ let g : ◌≡◌ {A = Option Pending} None (Some p) = sym (cond-false (eqb q.sector s) (Some q) None (ne_eqb q.sector s a)) ∙ f.1 in cc
      ]
    ]

-- a read of image and waiting writes together
pub seen_beyond : (xs : List ℕ) (ps : List Pending) (s : ℕ) → size_of xs ≤ s → seen (put_all xs ps) s ≡ torn
seen_beyond xs ps s h = let e = all_size xs ps in seen_past (put_all xs ps) s (omega arith)

pub seen_inside : (xs : List ℕ) (ps : List Pending) (s : ℕ) → s < size_of xs → seen (put_all xs ps) s ≡ reading (put_all xs ps) s
seen_inside xs ps s h = let e = all_size xs ps in seen_within (put_all xs ps) s (omega arith)

pub seen_some : (xs : List ℕ) (ps : List Pending) (s : ℕ) (p : Pending) → s < size_of xs → newest_of s ps ≡ Some p → length p.bytes ≡ 512 → seen (put_all xs ps) s ≡ bytes p.bytes
seen_some xs ps s p h e l = seen_inside xs ps s h ∙ newest_some xs ps s p h e l

pub seen_none : (xs : List ℕ) (ps : List Pending) (s : ℕ) → s < size_of xs → newest_of s ps ≡ None → seen (put_all xs ps) s ≡ seen xs s
seen_none xs ps s h e = seen_inside xs ps s h ∙ newest_none xs ps s e ∙ sym (seen_within xs s h)
