-- What the calls of a device leave, in one form for all of them.
use Rattle.std.proofs.Common.{◌≡◌, ℕ, ◌<◌, ◌≢◌, ◌⊎◌, List, [], ◌∷◌, ◌++◌, sym, ap, ◌∙◌, subst, inl, inr, arith}
use Rattle.device.specs.Meaning.{Meaning, Lawful, Reading, bytes, ◌∈◌}
use Rattle.device.specs.Runs.{Adds}
use Rattle.device.specs.declared.run.Operation.{Operation}
use Rattle.device.specs.declared.run.Operation.TheVariants as op
use Rattle.device.specs.Runs as runs

-- no set gains more than a call may add
abbrev pub NoMore : Meaning → Operation → Meaning → Type 0
NoMore m o n = (t : ℕ) → t < m.size → (r : Reading) → r ∈ n.may t → (r ∈ m.may t) ⊎ Adds o t r

-- what the sectors read as after a call that succeeds. (After a wake, and after a cut, each reads as a member of its set.)
abbrev pub Leaves : Meaning → Operation → Meaning → Type 0
Leaves m op.Wake n = Unit {0}
Leaves m op.Sync n = ((t : ℕ) → t < m.size → n.reads t ≡ m.reads t) × ((t : ℕ) → t < m.size → (r : Reading) → r ∈ n.may t → r ≡ m.reads t)
Leaves m (op.Read s) n = n ≡ m
Leaves m (op.Write s b) n = (n.reads s ≡ bytes b) × ((t : ℕ) → t < m.size → t ≢ s → n.reads t ≡ m.reads t)

pub record Did (m : Meaning) (o : Operation) (n : Meaning) : Type 0 where
  pub size : n.size ≡ m.size
  pub lawful : Lawful n
  pub sets : NoMore m o n
  pub contents : Leaves m o n

pub record Cut (m : Meaning) (o : Operation) (n : Meaning) : Type 0 where
  pub size : n.size ≡ m.size
  pub lawful : Lawful n
  pub sets : NoMore m o n

-- calls made in order, all of which succeed; and calls made in order until one is cut
abbrev pub Ran : Meaning → List Operation → Meaning → Type 0
Ran m [] n = n ≡ m
Ran m (o ∷ os) n = (k : Meaning) × Did m o k × Ran k os n

abbrev pub CutWithin : Meaning → List Operation → Meaning → Type 0
CutWithin m [] n = ⊥
CutWithin m (o ∷ os) n = Cut m o n ⊎ ((k : Meaning) × Did m o k × CutWithin k os n)

-- every sector written is below the size
abbrev pub InsideOf : ℕ → Operation → Type 0
InsideOf size op.Wake = Unit {0}
InsideOf size op.Sync = Unit {0}
InsideOf size (op.Read s) = Unit {0}
InsideOf size (op.Write s b) = s < size

abbrev pub AllInside : ℕ → List Operation → Type 0
AllInside size [] = Unit {0}
AllInside size (o ∷ os) = InsideOf size o × AllInside size os

pub inside_append : (size : ℕ) (xs ys : List Operation) → AllInside size xs → AllInside size ys → AllInside size (xs ++ ys)
inside_append size [] ys a b = b
inside_append size (x ∷ xs) ys (a, us) b = (a, inside_append size xs ys us b)

did : (m k : Meaning) (o : Operation) → InsideOf m.size o → Lawful k → runs.Performed m o k → Did m o k
did m k op.Wake u l p = record { size = p.moved.size; lawful = l; sets = λ t b r h. inl (p.moved.gains t b r h); contents = tt }
did m k op.Sync u l p = record { size = p.size; lawful = l; sets = λ t b r h. inl (p.gains t b r h); contents = (p.reads, p.only) }
did m k (op.Read s) u l (q, e) = record { size = ap (λ (z : Meaning). z.size) e; lawful = l; sets = λ t b r h. inl (subst (λ (z : Meaning). r ∈ z.may t) e h); contents = e }
did m k (op.Write s b) u l (inl p) = record { size = p.size; lawful = l; sets = p.gains; contents = (p.here, p.others) }
did m k (op.Write s b) u l (inr (q, e)) = absurd (omega arith)

cut : (m n : Meaning) (o : Operation) → Lawful n → runs.CutBy m o n → Cut m o n
cut m n op.Wake l c = absurd c
cut m n op.Sync l c = record { size = c.moved.size; lawful = l; sets = λ t b r h. inl (c.moved.gains t b r h) }
cut m n (op.Read s) l (u, c) = record { size = c.moved.size; lawful = l; sets = λ t b r h. inl (c.moved.gains t b r h) }
cut m n (op.Write s b) l (u, c) = record { size = c.moved.size; lawful = l; sets = c.moved.gains }

-- the device's own words in this form
pub all_did : (m n : Meaning) (os : List Operation) → AllInside m.size os → runs.Ran m os n → Ran m os n
all_did m n [] u e = e
all_did m n (o ∷ os) (u, us) (k, l, p, r) =
    let d = did m k o u l p in
    (k, d, all_did k n os (subst (λ z. AllInside z os) (sym d.size) us) r)

pub one_cut : (m n : Meaning) (os : List Operation) (s : ℕ) → AllInside m.size os → Lawful n → runs.CutIn m os s n → CutWithin m os n
one_cut m n [] s u l c = c
one_cut m n (o ∷ os) s u l (inl (e, c)) = inl (cut m n o l c)
one_cut m n (o ∷ os) s (u, us) l (inr (k, lk, p, c)) =
    let d = did m k o u lk p in
    inr (k, d, one_cut k n os s (subst (λ z. AllInside z os) (sym d.size) us) l c)

-- a run changes no size, whatever it asked
performed_size : (m k : Meaning) (o : Operation) → runs.Performed m o k → k.size ≡ m.size
performed_size m k op.Wake p = p.moved.size
performed_size m k op.Sync p = p.size
performed_size m k (op.Read s) (q, e) = ap (λ (z : Meaning). z.size) e
performed_size m k (op.Write s b) (inl p) = p.size
performed_size m k (op.Write s b) (inr (q, e)) = ap (λ (z : Meaning). z.size) e

pub ran_size : (m n : Meaning) (os : List Operation) → runs.Ran m os n → n.size ≡ m.size
ran_size m n [] e = ap (λ (z : Meaning). z.size) e
ran_size m n (o ∷ os) (k, l, p, r) = ran_size k n os r ∙ performed_size m k o p

-- calls that were made, and then a row that is cut
pub then_cut : (m k n : Meaning) (xs ys : List Operation) (s : ℕ) → runs.Ran m xs k → runs.CutIn k ys s n → runs.CutIn m (xs ++ ys) s n
then_cut m k n [] ys s e h = subst (λ z. runs.CutIn z ys s n) e h
then_cut m k n (o ∷ xs) ys s (q, l, p, r) h = inr (q, l, p, then_cut q k n xs ys s r h)

-- a run of one call
pub one_did : (m n : Meaning) (o : Operation) → InsideOf m.size o → runs.Ran m (o ∷ []) n → Did m o n
one_did m n o u (k, l, p, e) = subst (Did m o) (sym e) (did m k o u l p)

pub only_cut : (m n : Meaning) (o : Operation) (s : ℕ) → Lawful n → runs.CutIn m (o ∷ []) s n → Cut m o n
only_cut m n o s l (inl (e, c)) = cut m n o l c
only_cut m n o s l (inr (k, lk, p, c)) = absurd c
