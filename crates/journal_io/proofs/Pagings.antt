-- A page that was read has the numbers that it was looked for by.
use Rattle.std.proofs.Common.{◌≡◌, ℕ, Bool, true, false, cond, ◌&&◌, eqb, List, length, drop, Some, None, Option, sym, ap, ◌∙◌, subst, arith}
use Rattle.std.proofs.lemmas.Bool.{and_parts, eqb-true}
use Rattle.records.specs.LittleEndian.{field}
use Rattle.records.specs.Sectors.{zeros, fits_in}
use Rattle.records.specs.Pages.{Contents, page_of, all_good, good_page, decoded_page, bytes_look_for, head_in, laid_out, numbers_good, with_commands, commands_in_bytes, body_in}
use Rattle.records.specs.declared.commands.Command.{Command}
use Rattle.records.specs.declared.pages.PageHead.{PageHead}

-- the head of a page that is read is where heads lie
head_is : (b : List ℕ) (p : Contents) → decoded_page b ≡ Some p → p.head ≡ head_in b
unfolding decoded_page
head_is b p e = go (laid_out b && numbers_good (head_in b) (field 24 2 b)) (zeros (drop (field 0 2 b) b)) (commands_in_bytes (field 24 2 b) (body_in b)) e
  where
    go : (x y : Bool) (cs : Option (List Command)) → cond x (cond y (with_commands (head_in b) cs) None) None ≡ Some p → p.head ≡ head_in b
    go false y cs e = absurd (let z : ◌≡◌ {A = ℕ} 0 1 = cc in omega arith)
    go true false cs e = absurd (let z : ◌≡◌ {A = ℕ} 0 1 = cc in omega arith)
    go true true None e = absurd (let z : ◌≡◌ {A = ℕ} 0 1 = cc in omega arith)
    go true true (Some cs) e = let same : page_of (head_in b) cs ≡ p = cc in ap (λ (q : Contents). q.head) (sym same)

-- what was looked for, with the same first command
module _ (h g : PageHead) (b : List ℕ) (cs : List Command) (l : bytes_look_for h.house h.number b ≡ true) (d : decoded_page b ≡ Some (page_of g cs)) (f : g.first.0 ≡ h.first.0) where
  same_head : g ≡ h
  same_head =
      let p = and_parts (eqb (field 2 2 b) 1) _ l in
      let q = and_parts (eqb (field 4 4 b) h.house.0) (eqb (field 8 8 b) h.number.0) p.1 in
      let i = head_is b (page_of g cs) d in
      let a : g.house.0 ≡ h.house.0 = ap (λ (z : PageHead). z.house.0) i ∙ eqb-true (field 4 4 b) h.house.0 q.0 in
      let n : g.number.0 ≡ h.number.0 = ap (λ (z : PageHead). z.number.0) i ∙ eqb-true (field 8 8 b) h.number.0 q.1 in
      (λ j. record { house = record { 0 = a j }; number = record { 0 = n j }; first = record { 0 = f j } })

  pub whole_head : decoded_page b ≡ Some (page_of h cs)
  whole_head = d ∙ ap (λ z. Some (page_of z cs)) same_head

  pub whole_numbers : good_page (page_of g cs) ≡ true → numbers_good h (length cs) ≡ true
  whole_numbers k =
      let p = and_parts (fits_in 4 g.house.0 && fits_in 8 g.number.0) _ k in
      let q = and_parts (numbers_good g (length cs)) (all_good cs) p.1 in
      subst (λ z. numbers_good z (length cs) ≡ true) same_head q.0
