-- The laws of operations and of lists of them.
use Rattle.std.proofs.Common.{◌≡◌, ℕ, ◌+◌, ◌<◌, ◌⊎◌, List, [], ◌∷◌, ◌++◌, length, get_or, take, drop, Err, sym, refl, ap, ◌∙◌, subst, inl, inr, ⊎_elim, arith}
use Rattle.std.proofs.lemmas.List.{take-append-drop, take_more, drop_more}
use Rattle.device.specs.declared.fault.DeviceFault.TheVariants.{OutOfRange, Cut, Torn}
use Rattle.device.specs.declared.fault.DeviceFault.{DeviceFault}
use Rattle.device.specs.declared.run.Operation.{Operation}
use Rattle.device.specs.declared.run.Operation.TheVariants.{Read, Write, Sync, Wake}
use Rattle.device.specs.Meaning.{Meaning, Reading, ◌∈◌, Lawful}
use Rattle.device.specs.Calls.{Kept, Moved}
use Rattle.device.specs.Runs.{Performed, CutBy, DidPerform, asks, Ran, CutIn, DidRun, Adds, Grown}
use Rattle.device.specs.Laws.{RunsGrow, SettledLasts, RunsJoin}

-- no set gains but by a write to its own sector
abbrev OnlyAdds : Operation → Meaning → Meaning → Type 0
OnlyAdds o m n = (n.size ≡ m.size) × ((s : ℕ) → s < m.size → (x : Reading) → x ∈ n.may s → (x ∈ m.may s) ⊎ Adds o s x)

still : (o : Operation) (m n : Meaning) → n ≡ m → OnlyAdds o m n
still o m n e = (ap (λ (k : Meaning). k.size) e, λ s h x i. inl (subst (λ (k : Meaning). x ∈ k.may s) e i))

moved : (o : Operation) (m n : Meaning) → Moved m (Kept m) n → OnlyAdds o m n
moved o m n v = (v.size, λ s h x i. inl (v.gains s h x i))

performed_adds : (o : Operation) (m n : Meaning) → Performed m o n → OnlyAdds o m n
performed_adds (Read at) m n p = still (Read at) m n p.1
performed_adds (Write at new) m n (inl w) = (w.size, w.gains)
performed_adds (Write at new) m n (inr w) = still (Write at new) m n w.1
performed_adds Sync m n y = (y.size, λ s h x i. inl (y.gains s h x i))
performed_adds Wake m n w = moved Wake m n w.moved

cut_adds : (o : Operation) (m n : Meaning) → CutBy m o n → OnlyAdds o m n
cut_adds (Read at) m n c = moved (Read at) m n c.1.moved
cut_adds (Write at new) m n c = (c.1.moved.size, c.1.moved.gains)
cut_adds Sync m n c = moved Sync m n c.moved
cut_adds Wake m n c = absurd c

-- one operation and then a list
grown_more : (o : Operation) (os : List Operation) (m k n : Meaning) → OnlyAdds o m k → Grown k os n → Grown m (o ∷ os) n
grown_more o os m k n a g =
    let e = a.0 in
    record {
      size = g.size ∙ e;
      gains = λ s h x i. ⊎_elim (λ j. ⊎_elim inl (λ q. inr (inl q)) (a.1 s h x j)) (λ q. inr (inr q)) (g.gains s (omega arith) x i);
    }

pub ran_grows : (os : List Operation) (m n : Meaning) → Ran m os n → Grown m os n
ran_grows [] m n e = record { size = ap (λ (k : Meaning). k.size) e; gains = λ s h x i. inl (subst (λ (k : Meaning). x ∈ k.may s) e i) }
ran_grows (o ∷ os) m n (k, l, p, r) = grown_more o os m k n (performed_adds o m k p) (ran_grows os k n r)

cut_grows : (os : List Operation) (m : Meaning) (t : ℕ) (n : Meaning) → CutIn m os t n → Grown m os n
cut_grows [] m t n c = absurd c
cut_grows (o ∷ os) m t n (inl c) =
    let a = cut_adds o m n c.1 in
    record { size = a.0; gains = λ s h x i. ⊎_elim inl (λ q. inr (inl q)) (a.1 s h x i) }
cut_grows (o ∷ os) m t n (inr (k, l, p, c)) = grown_more o os m k n (performed_adds o m k p) (cut_grows os k t n c)

pub runs_grow : RunsGrow
runs_grow os m n (inl r) = ran_grows os m n r
runs_grow os m n (inr c) = cut_grows os m c.0 n c.1

pub settled_lasts : SettledLasts
settled_lasts os m n s a r spared l d =
    let g = runs_grow os m n r in
    let e = g.size in
    let h = d.0 in
    let k : s < n.size = omega arith in
    let only : (x : Reading) → x ∈ n.may s → x ≡ a = λ x i. ⊎_elim (λ j. d.1 x j) (λ q. absurd (spared x q)) (g.gains s h x i) in
    ((k, only), only (n.reads s) (l.among s k))

ran_join : (os ps : List Operation) (m k n : Meaning) → Ran m os k → Ran k ps n → Ran m (os ++ ps) n
ran_join [] ps m k n e r = subst (λ (j : Meaning). Ran j ps n) e r
ran_join (o ∷ os) ps m k n (j, l, p, q) r = (j, l, p, ran_join os ps j k n q r)

cut_join : (os ps : List Operation) (m k n : Meaning) (t : ℕ) → Ran m os k → CutIn k ps t n → CutIn m (os ++ ps) t n
cut_join [] ps m k n t e c = subst (λ (j : Meaning). CutIn j ps t n) e c
cut_join (o ∷ os) ps m k n t (j, l, p, q) c = inr (j, l, p, cut_join os ps j k n t q c)

cut_before : (os ps : List Operation) (m n : Meaning) (t : ℕ) → CutIn m os t n → CutIn m (os ++ ps) t n
cut_before [] ps m n t c = absurd c
cut_before (o ∷ os) ps m n t (inl c) = inl c
cut_before (o ∷ os) ps m n t (inr (k, l, p, c)) = inr (k, l, p, cut_before os ps k n t c)

pub runs_join : RunsJoin
runs_join os ps m k n t = (ran_join os ps m k n, cut_join os ps m k n t, cut_before os ps m n t)

-- a list that is run: the first operations are behind, and one more was performed, or was cut
pub ran_more : (os : List Operation) (i : ℕ) (d : Operation) (m k n : Meaning) → i < length os → Ran m (take i os) k → Lawful n → Performed k (get_or os i d) n → Ran m (take (i + 1) os) n
ran_more os i d m k n h r l p =
    subst (λ (qs : List Operation). Ran m qs n) (sym (take_more os i d h)) (ran_join (take i os) (get_or os i d ∷ []) m k n r (n, l, p, refl))

pub cut_here : (os : List Operation) (i : ℕ) (d : Operation) (m k n : Meaning) (t : ℕ) → i < length os → Ran m (take i os) k → (t ≡ asks (get_or os i d)) × CutBy k (get_or os i d) n → CutIn m os t n
cut_here os i d m k n t h r c =
    let e : take i os ++ (get_or os i d ∷ drop (i + 1) os) ≡ os = ap (λ (qs : List Operation). take i os ++ qs) (sym (drop_more os i d h)) ∙ take-append-drop i os in
    subst (λ (qs : List Operation). CutIn m qs t n) e (cut_join (take i os) (get_or os i d ∷ drop (i + 1) os) m k n t r (inl c))

pub stopped : (os : List Operation) (i : ℕ) (d : Operation) (m k n : Meaning) (f : DeviceFault) → i < length os → Ran m (take i os) k → DidPerform k (get_or os i d) (Err f) n → DidRun m os (Err f) n × Grown m os n
stopped os i d m k n (OutOfRange t) h r p = absurd p
stopped os i d m k n (Cut t) h r p = let c = cut_here os i d m k n t h r p in (c, cut_grows os m t n c)
stopped os i d m k n (Torn t) h r p = absurd p
