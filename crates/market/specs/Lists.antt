-- Tests of lists, and elements taken out of them or put in.
use Rattle.std.specs.Prelude.{◌≡◌, ℕ, ◌<◌, Bool, true, cond, ◌&&◌, ◌⊎◌, List, [], ◌∷◌, ◌++◌, length, drop, Some, None, Option, slice_index_or}
use Rattle.std.specs.List.{remove, list_all, find}

-- p of each
abbrev pub all : {X : Type 0} → (X → Bool) → List X → Bool
all p xs = list_all p xs

-- b of each and every one that follows it
abbrev pub pairwise : {X : Type 0} → (X → X → Bool) → List X → Bool
pairwise b [] = true
pairwise b (x ∷ xs) = all (b x) xs && pairwise b xs

-- b of each of the first and each of the second
abbrev pub across : {X : Type 0} → (X → X → Bool) → List X → List X → Bool
across b xs ys = all (λ x. all (b x) ys) xs

-- x is one of the list
abbrev pub In : {X : Type 0} → X → List X → Type 0
In x [] = ⊥
In x (y ∷ ys) = (x ≡ y) ⊎ In x ys

-- the first that passes the test
abbrev pub found : {X : Type 0} → (X → Bool) → List X → Option X
found p xs = find p xs

-- the list without it
abbrev pub without : {X : Type 0} → (X → Bool) → List X → List X
without p [] = []
without p (x ∷ xs) = cond (p x) xs (x ∷ without p xs)

-- the place of the first that passes, none where none passes
abbrev pub FoundAt : {X : Type 0} → (X → Bool) → List X → Option ℕ → Type 0
FoundAt {X} p xs None = (found p xs ≡ None) × (without p xs ≡ xs)
FoundAt {X} p xs (Some i) = (i < length xs) × (without p xs ≡ remove xs i) × ((d : X) → found p xs ≡ Some (slice_index_or xs i d))

-- o put in front of the first that it stands before
abbrev pub placed : {X : Type 0} → (X → X → Bool) → X → List X → List X
placed b o [] = o ∷ []
placed b o (x ∷ xs) = cond (b o x) (o ∷ x ∷ xs) (x ∷ placed b o xs)

-- ys over the front of xs
abbrev pub over : {X : Type 0} → List X → List X → List X
over xs ys = ys ++ drop (length ys) xs
