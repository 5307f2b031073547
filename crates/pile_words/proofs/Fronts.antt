-- Words read from the front, and fuses read from a word.
use Rattle.std.proofs.Common.{◌≡◌, ℕ, ◌-◌, ◌<◌, ◌≤◌, List, [], ◌∷◌, ◌++◌, map, length, get_or, take, drop, refl, sym, ap, ◌∙◌, arith, Bor}
use Rattle.std.specs.List.{join_with_byte}
use Rattle.std.proofs.lemmas.List.{take_all}
use Rattle.image.specs.declared.fuse.Fuse.{Fuse}
use Rattle.pile_words.specs.Spellings.{SpellsFuse, SpellsFuses}

pub front : (d : Bor (List ℕ)) (xs : List (Bor (List ℕ))) (w : List ℕ) → 1 ≤ length xs → (get_or xs 0 d).now ≡ w →
    map (λ x. x.now) xs ≡ w ∷ map (λ x. x.now) (take (length xs - 1) (drop 1 xs))
front d [] w h e = absurd (omega arith)
front d (x ∷ xs) w h e = ap (λ v. v ∷ map (λ x. x.now) xs) e ∙ ap (λ ys. w ∷ map (λ x. x.now) ys) (sym (take_all _ xs (omega arith)))

-- the parts spell these fuses, each its own
abbrev pub EachSpells : List (Bor (List ℕ)) → List Fuse → Type 0
EachSpells [] [] = Unit {0}
EachSpells [] (f ∷ fs) = ⊥
EachSpells (x ∷ xs) [] = ⊥
EachSpells (x ∷ xs) (f ∷ fs) = SpellsFuse x.now f × EachSpells xs fs

pub each_more : (xs : List (Bor (List ℕ))) (fs : List Fuse) (x : Bor (List ℕ)) (f : Fuse) → EachSpells xs fs → SpellsFuse x.now f → EachSpells (xs ++ (x ∷ [])) (fs ++ (f ∷ []))
each_more [] [] x f e s = (s, tt)
each_more [] (g ∷ fs) x f e s = absurd e
each_more (y ∷ xs) [] x f e s = absurd e
each_more (y ∷ xs) (g ∷ fs) x f e s = (e.0, each_more xs fs x f e.1 s)

-- with commas between them they spell the list
pub joined : (xs : List (Bor (List ℕ))) (fs : List Fuse) → 0 < length xs → EachSpells xs fs → SpellsFuses (join_with_byte 44 (map (λ x. x.now) xs)) fs
joined [] fs l e = absurd (omega arith)
joined (x ∷ xs) [] l e = absurd e
joined (x ∷ []) (f ∷ []) l e = e.0
joined (x ∷ []) (f ∷ (g ∷ fs)) l e = absurd e.1
joined (x ∷ (y ∷ xs)) (f ∷ []) l e = absurd e.1
joined (x ∷ (y ∷ xs)) (f ∷ (g ∷ fs)) l e = (x.now, join_with_byte 44 (map (λ x. x.now) (y ∷ xs)), refl, e.0, joined (y ∷ xs) (g ∷ fs) (omega arith) e.1)
