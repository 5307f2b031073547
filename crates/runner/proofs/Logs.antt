-- A log grows by an entry, and the run with it.
use Rattle.std.proofs.Common.{◌≡◌, ℕ, ◌+◌, ◌<◌, List, [], ◌∷◌, ◌++◌, length, get_or, take, Some, None, Ok, Err, vec_items, Option, Result, sym, refl, ap, ◌∙◌, subst, append_assoc, append-nil, map, MatchResult}
use Rattle.std.proofs.lemmas.List.{take_more}
use Rattle.market.specs.declared.interface.Market as market
use Rattle.device.specs.declared.Device as device
use Rattle.protocol.specs.Worlds.{rules_of}
use Rattle.protocol.specs.Steps.{Event}
use Rattle.protocol.specs.Promises as promises
use Rattle.exchange.specs.declared.state.Exchange.{Exchange}
use Rattle.exchange.specs.Views.{view}
use Rattle.runner.specs.declared.log.Entry.{Entry}
use Rattle.runner.specs.declared.script.Call.{Call}
use Rattle.runner.specs.declared.hands.Hand.{Hand}
use Rattle.runner.specs.Tokens.{Tokens, no_tokens}
use Rattle.runner.specs.Hands.{tokens_of}
use Rattle.runner.specs.Events.{event_of, noted, history_on, history, ByEvent, Told}
use Rattle.runner.specs.Playing.{Asked, Answers, Played, after_entry, token_of, made, from_last, spends_all}
use Rattle.runner.specs.declared.running.Run.{Run}
use Rattle.runner.specs.declared.running.RunFault.{RunFault}
use Rattle.runner.specs.declared.running.RunFault.TheVariants.{NoMemory}
use Rattle.runner.specs.Outcomes.{Outcome}
use Rattle.runner.specs.Running.{Begun, WentOn, PlayedOn, Closed, Finished}

history_more : (es : List Entry) (e : Entry) (h : promises.History) → history_on (es ++ e ∷ []) h ≡ noted (event_of e) (history_on es h)
history_more [] e h = refl
history_more (f ∷ es) e h = history_more es e (noted (event_of f) h)

played_more : (h k : Tokens) (cs : List Call) (es : List Entry) (c : Call) (e : Entry) (l : Tokens) → Played h cs es k → Answers k c e l → Played h (cs ++ c ∷ []) (es ++ e ∷ []) l
played_more h k [] [] c e l p a = let b = subst (λ z. Answers z c e l) p a in (subst (Answers h c e) b.tokens b, b.tokens)
played_more h k [] (f ∷ es) c e l p a = absurd p
played_more h k (d ∷ cs) [] c e l p a = absurd p
played_more h k (d ∷ cs) (f ∷ es) c e l p a = (p.0, played_more (after_entry h (token_of d) f) k cs es c e l p.1 a)

map_more : (es : List Entry) (e : Entry) → map made (es ++ e ∷ []) ≡ map made es ++ (made e ∷ [])
map_more [] e = refl
map_more (f ∷ es) e = ap (λ z. made f ∷ z) (map_more es e)

map_both : (es fs : List Entry) → map made (es ++ fs) ≡ map made es ++ map made fs
map_both [] fs = refl
map_both (e ∷ es) fs = ap (λ z. made e ∷ z) (map_both es fs)

-- the last token is spent first
pub last_first : {X : Type 0} (f : X → List Asked) (xs : List X) (x : X) → from_last f (xs ++ x ∷ []) ≡ f x ++ from_last f xs
last_first f [] x = sym (append-nil (f x))
last_first f (y ∷ xs) x = ap (λ z. z ++ f y) (last_first f xs x) ∙ append_assoc (f x) (from_last f xs) (f y)

module _ {M D : Type 0} (m : market.Ghosts M) (d : device.Ghosts D) where
  -- one entry more
  goes : (x y : Exchange M D) (o : Option Event) (h : promises.History) → ByEvent m d x o y → promises.Run (rules_of m) h (view m d x) → promises.Run (rules_of m) (noted o h) (view m d y)
  goes x y (Some e) h b r = (view m d x, r, b)
  goes x y None h b r = subst (promises.Run (rules_of m) h) (sym b) r

  pub went_on : (x y : Exchange M D) (es fs : List Entry) (e : Entry) → fs ≡ es ++ e ∷ [] → Told m d x e y → WentOn m d x es y fs
  went_on x y es fs e q t r = subst (λ h. promises.Run (rules_of m) h (view m d y)) (sym (ap history q ∙ history_more es e [])) (goes x y (event_of e) (history es) t r)

  -- one call more of a script
  pub played_next : (x y z : Exchange M D) (h k l : Hand) (es fs gs : List Entry) (script : List Call) (i : ℕ) (c : Call) (e : Entry) → i < length script → PlayedOn m d x h es (take i script) y k fs →
      gs ≡ fs ++ e ∷ [] → Told m d y e z → Answers (tokens_of k) (get_or script i c) e (tokens_of l) → PlayedOn m d x h es (take (i + 1) script) z l gs
  played_next x y z h k l es fs gs script i c e lt p q t a = record {
    run = λ r. went_on y z fs gs e q t (p.run r);
    new = p.new ++ e ∷ [];
    log = q ∙ ap (λ w. w ++ e ∷ []) p.log ∙ append_assoc es p.new (e ∷ []);
    played = subst (λ s. Played (tokens_of h) s (p.new ++ e ∷ []) (tokens_of l)) (sym (take_more script i c lt)) (played_more (tokens_of h) (tokens_of k) (take i script) p.new (get_or script i c) e (tokens_of l) p.played a);
  }

  pub closed_next : (x y z : Exchange M D) (es fs gs : List Entry) (all left : List Asked) (e : Entry) → Closed m d x es y fs all (made e ∷ left) → gs ≡ fs ++ e ∷ [] → Told m d y e z → Closed m d x es z gs all left
  closed_next x y z es fs gs all left e p q t = record {
    run = λ r. went_on y z fs gs e q t (p.run r);
    new = p.new ++ e ∷ [];
    log = q ∙ ap (λ w. w ++ e ∷ []) p.log ∙ append_assoc es p.new (e ∷ []);
    spends = p.spends ∙ sym (append_assoc (map made p.new) (made e ∷ []) left) ∙ ap (λ w. w ++ left) (sym (map_more p.new e));
  }

  -- what is left, said in another way
  pub closed_left : (x y : Exchange M D) (es fs : List Entry) (all left rest : List Asked) → left ≡ rest → Closed m d x es y fs all left → Closed m d x es y fs all rest
  closed_left x y es fs all left rest e p = subst (Closed m d x es y fs all) e p

  pub closed_then : (x y z : Exchange M D) (es fs gs : List Entry) (first second : List Asked) → Closed m d x es y fs first [] → Closed m d y fs z gs second [] → Closed m d x es z gs (first ++ second) []
  closed_then x y z es fs gs first second p q = record {
    run = λ r. q.run (p.run r);
    new = p.new ++ q.new;
    log = q.log ∙ ap (λ w. w ++ q.new) p.log ∙ append_assoc es p.new q.new;
    spends = (λ i. (p.spends ∙ append-nil (map made p.new)) i ++ (q.spends ∙ append-nil (map made q.new)) i) ∙ sym (map_both p.new q.new) ∙ sym (append-nil (map made (p.new ++ q.new)));
  }

  -- a script that was played from nothing, and closed
  pub finished : (x y z : Exchange M D) (h k : Hand) (es fs gs : List Entry) (script : List Call) (closing : ℕ) → promises.PromisesHold (rules_of m) → es ≡ [] → tokens_of h ≡ no_tokens →
      PlayedOn m d x h es script y k fs → closing ≡ length fs → Closed m d y fs z gs (spends_all (tokens_of k)) [] → Begun m d x → Finished m d script gs closing z
  finished x y z h k es fs gs script closing holds none empty p l c b =
      let start = subst (λ w. promises.Run (rules_of m) (history w) (view m d x)) (sym none) b in
      let run = c.run (p.run start) in
      let main : fs ≡ p.new = p.log ∙ ap (λ w. w ++ p.new) none in
      record {
        run = run;
        promises = holds (history gs) (view m d z) run;
        main = p.new;
        rest = c.new;
        whole = c.log ∙ ap (λ w. w ++ c.new) main;
        place = l ∙ ap length main;
        left = tokens_of k;
        played = subst (λ t. Played t script p.new (tokens_of k)) empty p.played;
        spends = sym (c.spends ∙ append-nil (map made c.new));
      }

  -- what is answered of an exchange that was set up
  pub outcome : (w x y : Exchange M D) (script : List Call) (r : Result Run RunFault) → MatchResult r (λ run. Begun m d x → Finished m d script (vec_items run.log) run.closing y) (λ f. f ≡ NoMemory) → Begun m d x → Outcome m d w script r y
  outcome w x y script (Ok run) h b = h b
  outcome w x y script (Err f) h b = subst (λ z. Outcome m d w script (Err z) y) (sym h) tt
