use Rattle.std.proofs.Common.{◌≡◌, ◌<◌, ◌∙◌, ℕ, Bool, true, false, List, [], ◌∷◌, inr, length, map, vec_items, ap, subst, sym, refl}
use Rattle.std.specs.Bool.{◌==◌}
use Rattle.std.specs.List.{All}
use Rattle.std.specs.Str.{trim}
use Rattle.std.proofs.lemmas.List.Elements.{All-map}
use Rattle.console.specs.Inputs.{held}
use Rattle.jobs.specs.Lines.{Wordless}
use Rattle.runs.proofs.asks.ask_of.Goals as goal

nil_of : {A B : Type 0} (f : A → B) (xs : List A) → map f xs ≡ [] → xs ≡ []
nil_of f [] e = refl
nil_of f (x ∷ xs) e = absurd (let z : f x ∷ map f xs ≡ [] = e in cc)

not_blank : (l m : List ℕ) (b : Bool) → b ≡ (length l == 0) → b ≡ false → l ≡ m → m ≡ [] → ⊥
not_blank l m b e f s n = absurd (let z : true ≡ false = ap (λ k. length k == 0) (sym (s ∙ n)) ∙ sym e ∙ f in cc)

pub returns : goal.returns
returns c = inr (
  not_blank c.trim.result.now (trim (held c.args.line.now)) c.is_empty.result c.is_empty.ensures c.if-is_empty.false (c.trim.ensures.trim ∙ ap trim c.in_ok-text.ensures.0),
  (
    map (λ x. x.now) c.deref.result.now,
    subst (λ l. All (λ w. 0 < length w) (map (λ x. x.now) l)) (sym c.deref.ensures.value) (All-map (λ w. 0 < length w) (λ x. x.now) (vec_items c.in_ok-words_of.field-0) c.in_ok-words_of.ensures.words),
    λ e. subst Wordless c.in_ok-text.ensures.0 (c.in_ok-words_of.ensures.none (sym c.deref.ensures.value ∙ nil_of (λ x. x.now) c.deref.result.now e)),
    c.in_ok-asked_by.ensures,
  ),
)
