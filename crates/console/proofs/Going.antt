-- Lines that are handed on one by one: what holds between two pieces of the input.
use Rattle.std.proofs.Common.{◌≡◌, ℕ, ◌+◌, ◌-◌, ◌^◌, ◌<◌, ◌≤◌, false, List, [], ◌∷◌, ◌++◌, length, take, Option, Some, None, refl, sym, ap, ◌∙◌, subst, arith, rules, IfSome, drop}
use Rattle.std.specs.Prelude.{⊤}
use denote.Ref.{Bor}
use Rattle.std.proofs.lemmas.List.{length-append, length-take, length-take-le, take_all, take-append-drop, take-take, nil_from_length}
use Rattle.std.specs.Io.{StartsWith}
use Rattle.std.specs.Io.BufRead.{DropsConsumable}
use Rattle.std.specs.Io.KnownBytes.{prepend_known, Consumes, Keeps}
use Rattle.std.specs.Io.Buffered.{reader_buffer, reader_capacity, reader_remaining}
use Rattle.std.specs.declared.io.buffered.BufReader.{BufReader}
use Rattle.console.specs.declared.input.LineBuffer.{LineBuffer}
use Rattle.console.specs.declared.input.lines.Piece.TheVariants.{End, Part, Rest}
use Rattle.console.specs.Inputs.{held, is_long}
use Rattle.console.specs.Handed.{first_newline, lines, last_line, newlines, Has, Took, Handed, HandedAll, Counted}
use Rattle.console.proofs.Pieces.{lines-piece, newlines-piece, lines-rest, newlines-rest, has-run}

-- a new reader has what its input has
pub fresh : {T A : Type 0} (remaining : T → Option (List ℕ)) (r : BufReader T A) (x : T) → r.inner ≡ x → reader_buffer r ≡ [] → reader_capacity r ≡ 8192 →
    reader_remaining remaining r ≡ remaining x
fresh remaining r x inner empty capacity = rw (capacity, empty, inner) (same (remaining x))
  where
    same : (o : Option (List ℕ)) → prepend_known [] o ≡ o
    same None = refl
    same (Some xs) = refl

-- a reader showed these bytes, and loses the first n of them
pub shown-taken : (a b c : Option (List ℕ)) (limit : Option ℕ) (shown : List ℕ) (n : ℕ) → n ≤ length shown → IfSome a (λ xs. StartsWith xs shown) → Keeps a b →
    IfSome a (λ _. IfSome limit (λ k. length shown ≤ k)) → DropsConsumable b c limit n → Consumes a c (take n shown)
shown-taken None b c limit shown n within front kept fits drops = tt
shown-taken (Some x) None c limit shown n within front kept fits drops = absurd kept
shown-taken (Some x) (Some y) c limit shown n within front kept fits drops = at c (drops (room limit fits))
  where
    room : (o : Option ℕ) → IfSome o (λ k. length shown ≤ k) → IfSome o (λ k. n ≤ k)
    room None h = tt
    room (Some k) h = omega arith

    at : (o : Option (List ℕ)) → o ≡ Some (drop n y) → Consumes (Some x) o (take n shown)
    at o e = rw (e, kept) (sym (take-append-drop n x) ∙ ap (λ l. l ++ drop n x) (sym (take-take n (length shown) x within) ∙ ap (take n) front))

module _ {F : Type 0} (Step : F → ℕ → Bor LineBuffer → F → Type 0) (first : F) where
  -- of `all` the bytes `rest` are left, after i turns, with so many lines handed on and `part` of the next in the buffer
  pub record Going (all rest part : List ℕ) (i line : ℕ) (b : LineBuffer) (f : F) : Type 0 where
    pub has : Has b part
    pub handed : (last : F) → Handed Step line (lines part rest) f last → Handed Step 0 (lines [] all) first last
    pub counted : newlines rest + line ≡ newlines all
    pub fits : length rest + i ≤ length all
    pub turns : line ≤ i

  abbrev pub Known : Option (List ℕ) → Option (List ℕ) → ℕ → ℕ → LineBuffer → F → Type 0
  Known None now i line b f = ⊤
  Known (Some all) None i line b f = ⊥
  Known (Some all) (Some rest) i line b f = (part : List ℕ) × Going all rest part i line b f

  -- the same where the bytes are known
  pub record Between (all now : Option (List ℕ)) (i line : ℕ) (b : LineBuffer) (f : F) : Type 0 where
    pub known : Known all now i line b f

  empty-has : (b : LineBuffer) → (held b ≡ []) × (is_long b ≡ false) → Has b []
  empty-has b h = record { bytes = h.0; long = h.1 }

  pub start : (all now : Option (List ℕ)) (b : LineBuffer) → now ≡ all → (held b ≡ []) × (is_long b ≡ false) → Between all now 0 0 b first
  start None now b e h = record { known = tt }
  start (Some all) now b e h = subst (λ o. Between (Some all) o 0 0 b first) (sym e) (record { known = ([], going) })
    where
      going : Going all all [] 0 0 b first
      going = record { has = empty-has b h; handed = λ last d. d; counted = search rules; fits = omega arith; turns = omega arith }

  pub part : (all now next : Option (List ℕ)) (i line : ℕ) (b c : LineBuffer) (f : F) → Between all now i line b f → Took now b Part c next → Between all next (i + 1) line c f
  part None now next i line b c f w t = record { known = tt }
  part (Some all) None next i line b c f w t = absurd w.known
  part (Some all) (Some rest) None i line b c f w t = absurd t.4
  part (Some all) (Some rest) (Some zs) i line b c f w t =
      let k = w.known in
      let g = k.1 in
      let bytes = t.0 in
      let whole : take (first_newline bytes) bytes ≡ bytes = take_all (first_newline bytes) bytes (omega (arith, t.2)) in
      let left : rest ≡ take (first_newline bytes) bytes ++ zs = t.4 ∙ ap (λ l. l ++ zs) (sym whole) in
      let rested : lines k.0 rest ≡ lines (k.0 ++ bytes) zs = ap (lines k.0) left ∙ lines-piece bytes k.0 zs ∙ ap (λ l. lines (k.0 ++ l) zs) whole in
      record {
        known = (
          k.0 ++ bytes,
          record {
            has = has-run bytes b c k.0 t.3 g.has;
            handed = λ last d. g.handed last (subst (λ ls. Handed Step line ls f last) (sym rested) d);
            counted = ap (λ n. n + line) (sym (ap newlines left ∙ newlines-piece bytes zs)) ∙ g.counted;
            fits = omega (arith, g.fits, ap length t.4, length-append bytes zs, t.1);
            turns = omega (arith, g.turns);
          },
        );
      }

  pub rest : (all now next : Option (List ℕ)) (i line n : ℕ) (b c d : LineBuffer) (f h : F) (lent : Bor LineBuffer) → i < 2 ^ 64 - 1 → (line < 2 ^ 64 - 1 → n ≡ line + 1) →
      Between all now i line b f → Took now b Rest c next → lent.now ≡ c → Step f n lent h → (held d ≡ []) × (is_long d ≡ false) → Between all next (i + 1) n d h
  rest None now next i line n b c d f h lent turn one w t e s m = record { known = tt }
  rest (Some all) None next i line n b c d f h lent turn one w t e s m = absurd w.known
  rest (Some all) (Some left) None i line n b c d f h lent turn one w t e s m = absurd t.3
  rest (Some all) (Some left) (Some zs) i line n b c d f h lent turn one w t e s m =
      let v = w.known in
      let g = v.1 in
      let bytes = t.0 in
      let k = first_newline bytes in
      let has : Has lent.now (v.0 ++ take k bytes) = subst (λ x. Has x (v.0 ++ take k bytes)) (sym e) (has-run (take k bytes) b c v.0 t.2 g.has) in
      let rested : lines v.0 left ≡ (v.0 ++ take k bytes) ∷ lines [] zs = ap (lines v.0) t.3 ∙ lines-rest bytes v.0 zs t.1 in
      let less : newlines left ≡ newlines zs + 1 = ap newlines t.3 ∙ newlines-rest bytes zs t.1 in
      let q : n ≡ line + 1 = one (omega (arith, g.turns)) in
      subst (λ x. Between (Some all) (Some zs) (i + 1) x d h) (sym q) (record {
        known = (
          [],
          record {
            has = empty-has d m;
            handed = λ last after. g.handed last (subst (λ ls. Handed Step line ls f last) (sym rested) (lent, has, (h, subst (λ x. Step f x lent h) q s, after)));
            counted = omega (arith, g.counted, less);
            fits = omega (arith, g.fits, ap length t.3, length-append (take (k + 1) bytes) zs, length-take-le (k + 1) bytes (omega (arith, t.1)));
            turns = omega (arith, g.turns);
          },
        );
      })

  -- the input has ended, and `part` of a line is in the buffer
  abbrev pub Over : List ℕ → ℕ → LineBuffer → F → Type 0
  Over all line b f = length all < 2 ^ 64 - 1 → ((part : List ℕ) × Has b part × ((last : F) → Handed Step line (last_line part) f last → Handed Step 0 (lines [] all) first last)
      × (line ≡ newlines all) × (line ≤ length all))

  over : (all part : List ℕ) (i line : ℕ) (b : LineBuffer) (f : F) (rest : List ℕ) → rest ≡ [] → Going all rest part i line b f →
      (part : List ℕ) × Has b part × ((last : F) → Handed Step line (last_line part) f last → Handed Step 0 (lines [] all) first last) × (line ≡ newlines all) × (line ≤ length all)
  over all part i line b f rest e g =
      (part, g.has, (λ last d. g.handed last (subst (λ r. Handed Step line (lines part r) f last) (sym e) d)), omega (arith, g.counted, ap newlines e), omega (arith, g.turns, g.fits))

  -- no turn is left
  pub out : (all now : Option (List ℕ)) (i line : ℕ) (b : LineBuffer) (f : F) → Between all now i line b f → 2 ^ 64 - 1 ≤ i → IfSome all (λ xs. Over xs line b f)
  out None now i line b f w h = tt
  out (Some all) None i line b f w h = absurd w.known
  out (Some all) (Some left) i line b f w h = λ small. absurd (omega (arith, w.known.1.fits, small, h))

  pub at-end : (all now next : Option (List ℕ)) (i line : ℕ) (b c : LineBuffer) (f : F) → Between all now i line b f → Took now b End c next → IfSome all (λ xs. Over xs line c f)
  at-end None now next i line b c f w t = tt
  at-end (Some all) None next i line b c f w t = absurd w.known
  at-end (Some all) (Some left) next i line b c f w t = λ small. subst (λ x. (part : List ℕ) × Has x part × ((last : F) → Handed Step line (last_line part) f last → Handed Step 0 (lines [] all) first last) × (line ≡ newlines all) × (line ≤ length all)) (sym t.1) (over all w.known.0 i line b f left t.0 w.known.1)

  pub counts : (all : Option (List ℕ)) (line : ℕ) (b : LineBuffer) (f : F) → IfSome all (λ xs. Over xs line b f) → IfSome all (Counted line)
  counts None line b f h = tt
  counts (Some all) line b f h = λ small. (h small).3

  pub none-left : (all : Option (List ℕ)) (line : ℕ) (b : LineBuffer) (f : F) → IfSome all (λ xs. Over xs line b f) → length (held b) ≡ 0 → IfSome all (HandedAll Step first)
  none-left None line b f h e = tt
  none-left (Some all) line b f h e = λ small.
      let o = h small in
      let nil : o.0 ≡ [] = nil_from_length o.0 (omega (arith, e, ap length o.1.bytes, length-take 255 o.0)) in
      (f, o.2 f (subst (λ p. Handed Step line (last_line p) f f) (sym nil) refl))

  pub one-left : (all : Option (List ℕ)) (line n : ℕ) (b : LineBuffer) (f h : F) (lent : Bor LineBuffer) → IfSome all (λ xs. Over xs line b f) → 0 < length (held b) → lent.now ≡ b →
      (line < 2 ^ 64 - 1 → n ≡ line + 1) → Step f n lent h → IfSome all (HandedAll Step first)
  one-left None line n b f h lent w some e next s = tt
  one-left (Some all) line n b f h lent w some e next s = λ small. last (w small) (next (omega (arith, (w small).4, small)))
    where
      here : (part : List ℕ) → Has lent.now part → 0 < length part → n ≡ line + 1 → Handed Step line (last_line part) f h
      here [] has p q = absurd (omega (arith, p))
      here (x ∷ part) has p q = (lent, has, (h, subst (λ k. Step f k lent h) q s, refl))

      last : (o : (part : List ℕ) × Has b part × ((last : F) → Handed Step line (last_line part) f last → Handed Step 0 (lines [] all) first last) × (line ≡ newlines all) × (line ≤ length all))
          → n ≡ line + 1 → (g : F) × Handed Step 0 (lines [] all) first g
      last o q =
          let p : 0 < length o.0 = omega (arith, some, ap length o.1.bytes, length-take 255 o.0) in
          (h, o.2 h (here o.0 (subst (λ x. Has x o.0) (sym e) o.1) p q))
