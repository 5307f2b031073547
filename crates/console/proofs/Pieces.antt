-- The lines of bytes that come piece by piece, and what a buffer has of one.
use Rattle.std.proofs.Common.{◌≡◌, ℕ, suc, ◌+◌, ◌<◌, ◌≤◌, Bool, true, false, List, [], ◌∷◌, ◌++◌, length, take, cond, not, refl, sym, ap, ◌∙◌, subst, arith, rules, one-add, append-nil, append_assoc, nat_lt, Some, None, ltb-false}
use native.Mathlib.Decide.{dec_le}
use Rattle.std.proofs.lemmas.Bool.{cond_below, cond_above, lt-ltb, le-ltb, eqb-true}
use Rattle.std.proofs.lemmas.List.{take_all, take-append-le, length-take-le, length_push}
use Rattle.std.proofs.lemmas.List.Sums.{prefix_len-le-length}
use Rattle.std.specs.List.{FoldsTo, position}
use Rattle.console.specs.declared.input.LineBuffer.{LineBuffer}
use Rattle.console.specs.Inputs.{held, Pushed}
use Rattle.console.specs.Handed.{is_newline, first_newline, lines, newlines, Has}

-- the bytes before the first newline go to the line
pub lines-piece : (bytes part zs : List ℕ) → lines part (take (first_newline bytes) bytes ++ zs) ≡ lines (part ++ take (first_newline bytes) bytes) zs
lines-piece [] part zs = ap (λ p. lines p zs) (sym (append-nil part))
lines-piece (x ∷ bytes) part zs = way (lines-piece bytes (part ++ x ∷ []) zs) (is_newline x) refl
  where
    way : lines (part ++ x ∷ []) (take (first_newline bytes) bytes ++ zs) ≡ lines ((part ++ x ∷ []) ++ take (first_newline bytes) bytes) zs → (t : Bool) → is_newline x ≡ t →
        lines part (take (cond (not t) (1 + first_newline bytes) 0) (x ∷ bytes) ++ zs) ≡ lines (part ++ take (cond (not t) (1 + first_newline bytes) 0) (x ∷ bytes)) zs
    way ih true e = ap (λ p. lines p zs) (sym (append-nil part))
    way ih false e =
        rw (one-add, e) (ih ∙ ap (λ p. lines p zs) (append_assoc part (x ∷ []) (take (first_newline bytes) bytes)))

-- where no newline is found, there is none
pub none-found : (bytes : List ℕ) → position is_newline bytes ≡ None → first_newline bytes ≡ length bytes
none-found bytes h = way (nat_lt (first_newline bytes) (length bytes)) refl h
  where
    way : (t : Bool) → nat_lt (first_newline bytes) (length bytes) ≡ t → cond t (Some (first_newline bytes)) None ≡ None → first_newline bytes ≡ length bytes
    way true e h = search rules
    way false e h = omega (arith, ltb-false (first_newline bytes) (length bytes) e, prefix_len-le-length (λ x. not (is_newline x)) bytes)

-- and none of them is counted
pub newlines-piece : (bytes zs : List ℕ) → newlines (take (first_newline bytes) bytes ++ zs) ≡ newlines zs
newlines-piece [] zs = refl
newlines-piece (x ∷ bytes) zs = way (newlines-piece bytes zs) (is_newline x) refl
  where
    way : newlines (take (first_newline bytes) bytes ++ zs) ≡ newlines zs → (t : Bool) → is_newline x ≡ t → newlines (take (cond (not t) (1 + first_newline bytes) 0) (x ∷ bytes) ++ zs) ≡ newlines zs
    way ih true e = refl
    way ih false e = rw (one-add, e) ih

-- a newline stands at the first newline
pub newline-there : (bytes : List ℕ) → first_newline bytes < length bytes → take (first_newline bytes + 1) bytes ≡ take (first_newline bytes) bytes ++ 10 ∷ []
newline-there [] h = absurd (omega arith)
newline-there (x ∷ bytes) h = way (newline-there bytes) (is_newline x) refl h
  where
    way : (first_newline bytes < length bytes → take (first_newline bytes + 1) bytes ≡ take (first_newline bytes) bytes ++ 10 ∷ []) → (t : Bool) → is_newline x ≡ t → cond (not t) (1 + first_newline bytes) 0 < length (x ∷ bytes) →
        take (cond (not t) (1 + first_newline bytes) 0 + 1) (x ∷ bytes) ≡ take (cond (not t) (1 + first_newline bytes) 0) (x ∷ bytes) ++ 10 ∷ []
    way ih true e h = ap (λ y. y ∷ []) (eqb-true x 10 e)
    way ih false e h =
        let next : 1 + first_newline bytes + 1 ≡ suc (first_newline bytes + 1) = omega arith in
        rw (next, one-add) (ap (λ l. x ∷ l) (ih (omega (arith, h))))

-- with the first newline, the line ends
pub lines-rest : (bytes part zs : List ℕ) → first_newline bytes < length bytes →
    lines part (take (first_newline bytes + 1) bytes ++ zs) ≡ (part ++ take (first_newline bytes) bytes) ∷ lines [] zs
lines-rest bytes part zs h =
    ap (λ l. lines part (l ++ zs)) (newline-there bytes h) ∙ ap (lines part) (append_assoc (take (first_newline bytes) bytes) (10 ∷ []) zs)
    ∙ lines-piece bytes part (10 ∷ zs)

pub newlines-rest : (bytes zs : List ℕ) → first_newline bytes < length bytes → newlines (take (first_newline bytes + 1) bytes ++ zs) ≡ newlines zs + 1
newlines-rest bytes zs h =
    ap (λ l. newlines (l ++ zs)) (newline-there bytes h) ∙ ap newlines (append_assoc (take (first_newline bytes) bytes) (10 ∷ []) zs)
    ∙ newlines-piece bytes (10 ∷ zs)

-- a byte more of a line
has-push : (b : LineBuffer) (x : ℕ) (c : LineBuffer) (line : List ℕ) → Pushed b x c → Has b line → Has c (line ++ x ∷ [])
has-push b x c line p h = elim (dec_le 255 (length line)) [ yes e ↦ full e | no e ↦ room (omega arith) ]
  where
    full : 255 ≤ length line → Has c (line ++ x ∷ [])
    full e =
        let m : 255 ≤ length (held b) = omega (arith, ap length h.bytes, length-take-le 255 line e) in
        record {
          bytes = p.bytes ∙ sym (cond_above _ _ _ _ _ m refl) ∙ h.bytes ∙ sym (take-append-le 255 line (x ∷ []) e);
          long = p.long ∙ sym (cond_above _ _ _ _ _ m (lt-ltb 255 (length (line ++ x ∷ [])) (omega (arith, length_push line x))));
        }

    room : length line < 255 → Has c (line ++ x ∷ [])
    room e =
        let all : held b ≡ line = h.bytes ∙ take_all 255 line (omega arith) in
        let m : length (held b) < 255 = omega (arith, ap length all) in
        record {
          bytes = p.bytes ∙ sym (cond_below _ _ _ _ m) ∙ ap (λ l. l ++ x ∷ []) all ∙ sym (take_all 255 (line ++ x ∷ []) (omega (arith, length_push line x)));
          long = p.long ∙ sym (cond_below _ _ _ _ m) ∙ h.long ∙ short;
        }
      where
        short : nat_lt 255 (length line) ≡ nat_lt 255 (length (line ++ x ∷ []))
        short = le-ltb 255 (length line) (omega arith) ∙ sym (le-ltb 255 (length (line ++ x ∷ [])) (omega (arith, length_push line x)))

-- bytes more
pub has-run : (xs : List ℕ) (b c : LineBuffer) (line : List ℕ) → FoldsTo Pushed b xs c → Has b line → Has c (line ++ xs)
has-run [] b c line p h = subst (Has c) (sym (append-nil line)) (subst (λ d. Has d line) p h)
has-run (x ∷ xs) b c line p h = subst (Has c) (append_assoc line (x ∷ []) xs) (has-run xs p.0 c (line ++ x ∷ []) p.2 (has-push b x p.0 line p.1 h))
