-- The notices of a record, page by page, and what was handed out of them.
use Rattle.std.proofs.Common.{◌≡◌, ◌<◌, List, [], ◌∷◌, ◌++◌, map, drop, get_or, vec_items, sym, refl, ap, ◌∙◌, subst, ◌⊎◌, inl, inr, append_assoc, append-nil}
use Rattle.std.specs.List.{All, Contains}
use Rattle.std.proofs.lemmas.List.Elements.{All-contains}
use mathlib.Core.List.{Memᴰ}
use Rattle.records.specs.declared.notices.Notice.{Notice}
use Rattle.protocol.specs.Worlds.{World}
use Rattle.protocol.specs.Steps.{Handed, handed}
use Rattle.protocol.specs.Promises.{Pages, market_after, notices_count, record_notices}
use Rattle.runner.specs.declared.log.HandedOut.{HandedOut}
use Rattle.runner.specs.Events.{handed_out}
use Rattle.audit.specs.Answers.{answers_on, answers}
use Rattle.audit.specs.UnderWay.{AllServed}
use Rattle.audit.specs.Checks.{PageServed, PagesServed}
use Rattle.audit.specs.declared.checks.Opening.{Opening}
use Rattle.audit.proofs.Membership.{from_place, member, contained, in_front, behind, either_part}
use Rattle.audit.proofs.Pages.{record_more}

pub all_members : {X : Type 0} (P : X → Type 0) (xs : List X) → ((x : X) → Memᴰ x xs → P x) → All P xs
all_members P xs f k d l = f (get_or xs k d) (from_place xs (get_or xs k d) k d l refl)

-- the notices of answers in a row
abbrev told : List Handed → List Notice
told [] = []
told (h ∷ hs) = h.notices ++ told hs

record InOne (n : Notice) (ps : List HandedOut) : Type 0 where
  page : HandedOut
  among : Memᴰ page ps
  has : Memᴰ n (vec_items page.notices)

in_one : (n : Notice) (ps : List HandedOut) → Memᴰ n (told (map handed_out ps)) → InOne n ps
in_one n [] m = elim m [ ]
in_one n (p ∷ ps) m = go (in_one n ps) (either_part (vec_items p.notices) (told (map handed_out ps)) n m)
  where
    go : (Memᴰ n (told (map handed_out ps)) → InOne n ps) → Memᴰ n (vec_items p.notices) ⊎ Memᴰ n (told (map handed_out ps)) → InOne n (p ∷ ps)
    go rest (inl a) = record { page = p; among = Memᴰ.head refl; has = a }
    go rest (inr b) = let i = rest b in record { page = i.page; among = Memᴰ.tail i.among; has = i.has }

in_all : (n : Notice) (ps : List HandedOut) (p : HandedOut) → Memᴰ p ps → Memᴰ n (vec_items p.notices) → Memᴰ n (told (map handed_out ps))
in_all n [] p m k = elim m [ ]
in_all n (q ∷ qs) p (Memᴰ.head e) k = in_front (vec_items q.notices) (told (map handed_out qs)) n (subst (λ (z : HandedOut). Memᴰ n (vec_items z.notices)) e k)
in_all n (q ∷ qs) p (Memᴰ.tail m) k = behind (vec_items q.notices) (told (map handed_out qs)) n (in_all n qs p m k)

module _ {S : Type 0} (w : World S) where
  told_on : (earlier ps : Pages) → record_notices w (earlier ++ ps) ≡ record_notices w earlier ++ told (answers_on w earlier ps)
  told_on earlier [] = ap (record_notices w) (append-nil earlier) ∙ sym (append-nil (record_notices w earlier))
  told_on earlier (p ∷ ps) =
      ap (record_notices w) (sym (append_assoc earlier (p ∷ []) ps)) ∙ told_on (earlier ++ (p ∷ [])) ps ∙ ap (λ z. z ++ told (answers_on w (earlier ++ (p ∷ [])) ps)) (record_more w earlier p)
      ∙ append_assoc (record_notices w earlier) (handed w (notices_count w earlier) (market_after w earlier) p) (told (answers_on w (earlier ++ (p ∷ [])) ps))

  pub told_answers : (kept : Pages) → record_notices w kept ≡ told (answers w kept)
  told_answers kept = told_on [] kept

  told_pages : (kept : Pages) (pages : List HandedOut) → map handed_out pages ≡ answers w kept → record_notices w kept ≡ told (map handed_out pages)
  told_pages kept pages e = told_answers kept ∙ ap told (sym e)

  pub served_all : (kept : Pages) (pages : List HandedOut) (list : List Notice) (os : List Opening) → map handed_out pages ≡ answers w kept → All (PagesServed pages list) os → AllServed w kept list os
  unfolding PagesServed PageServed
  served_all kept pages list os e a o m n k l =
      let i = in_one n pages (subst (Memᴰ n) (told_pages kept pages e) k) in
      let each = All-contains (PageServed list o) pages i.page (All-contains (PagesServed pages list) os o a (contained os o m)) (contained pages i.page i.among) in
      member (drop o.from list) n (All-contains (λ (z : Notice). o.above < z.number.0 → Contains (drop o.from list) z) (vec_items i.page.notices) n each (contained (vec_items i.page.notices) n i.has) l)

  pub all_served : (kept : Pages) (pages : List HandedOut) (list : List Notice) (os : List Opening) → map handed_out pages ≡ answers w kept → AllServed w kept list os → All (PagesServed pages list) os
  unfolding PagesServed PageServed
  all_served kept pages list os e a =
      all_members (PagesServed pages list) os (λ o m. all_members (PageServed list o) pages (λ p k. all_members (λ (z : Notice). o.above < z.number.0 → Contains (drop o.from list) z) (vec_items p.notices) (λ n i l.
      contained (drop o.from list) n (a o m n (subst (Memᴰ n) (sym (told_pages kept pages e)) (in_all n pages p k i)) l))))
