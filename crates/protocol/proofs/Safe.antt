-- What the device always holds, as statements on every member of a sector's set: they survive all that adds nothing to the sets.
use Rattle.std.proofs.Common.{◌≡◌, ℕ, suc, ◌+◌, ◌<◌, ◌≤◌, true, ◌≢◌, ◌⊎◌, List, [], ◌∷◌, ◌++◌, length, Some, Option, sym, refl, ap, ◌∙◌, subst, subst₂, inl, inr, append_assoc, arith, length-append}
use Rattle.std.proofs.lemmas.Option.{same_Some}
use mathlib.Core.Path.{Path}
use Rattle.records.specs.LittleEndian.{le}
use Rattle.records.specs.Headers.{header_sector_bytes}
use Rattle.records.specs.declared.commands.Command.{Command}
use Rattle.records.specs.declared.headers.Header.{Header}
use Rattle.device.specs.Meaning.{Meaning, Lawful, Reading, bytes, torn, ◌∈◌}
use Rattle.device.specs.Runs.{Adds}
use Rattle.device.specs.declared.run.Operation.{Operation}
use Rattle.journal.specs.Places.{journal}
use Rattle.journal.specs.Slots.{other, header_place}
use Rattle.journal.specs.declared.slots.Slot.{Slot}
use Rattle.journal.specs.declared.slots.Slot.TheVariants.{Zero, One}
use Rattle.device.specs.declared.run.Operation.TheVariants as op
use Rattle.protocol.specs.Worlds.{N, World, page_image, looks, sector, header_for, part, body_at}
use Rattle.protocol.specs.Steps.{shown}
use Rattle.protocol.specs.Promises.{Pages, flat, Sent, market_after, notices_count}
use Rattle.protocol.proofs.Devices.{NoMore, Did, Cut}
use Rattle.protocol.proofs.Codecs.{PageFits, HeaderFits, Laws}
use Rattle.protocol.proofs.Lists.{flat_append, flat_snoc, last_after, given_few, Full, AllFull, full_snoc, full_front, full_at, full_sizes, Inside, AtEnd, snoc_split}
use Rattle.protocol.proofs.Sectors.{apart, in_journal, below_journal, body_below}

pub bytes_inj : (r : Reading) (a b : List ℕ) → r ≡ bytes a → r ≡ bytes b → a ≡ b
bytes_inj r a b p q = cc

pub torn_bytes : (b : List ℕ) → Path Reading torn (bytes b) → ⊥
torn_bytes b p = let z : ◌≡◌ {A = ℕ} 0 1 = cc in omega arith

module _ {S : Type 0} (w : World S) (laws : Laws w) where
  -- a content that a sector within the size may hold
  abbrev pub May : Meaning → ℕ → Reading → Type 0
  May m s r = (s < w.size) × (r ∈ m.may s)

  pub record Whole (m : Meaning) : Type 0 where
    pub size : m.size ≡ w.size
    pub lawful : Lawful m

  -- sector s can hold nothing but v
  abbrev pub Only : Meaning → ℕ → Reading → Type 0
  Only m s v = (r : Reading) → May m s r → r ≡ v

  abbrev pub Shrinks : Meaning → Meaning → Type 0
  Shrinks m m' = (t : ℕ) (r : Reading) → May m' t r → May m t r

  abbrev pub Single : Meaning → Type 0
  Single m = (t : ℕ) (r : Reading) → May m t r → r ≡ m.reads t

  abbrev pub Gains : Meaning → Operation → Meaning → Type 0
  Gains m o m' = (t : ℕ) (r : Reading) → May m' t r → May m t r ⊎ Adds o t r

  gains : (m m' : Meaning) (o : Operation) → Whole m → NoMore m o m' → Gains m o m'
  gains m m' o h n t r (l, k) = elim (n t (let e = h.size in omega arith) r k) [ inl a ↦ inl (l, a) | inr a ↦ inr a ]

  pub did_gains : {m m' : Meaning} {o : Operation} → Whole m → Did m o m' → Gains m o m'
  did_gains {m} {m'} {o} h d = gains m m' o h d.sets

  pub cut_gains : {m m' : Meaning} {o : Operation} → Whole m → Cut m o m' → Gains m o m'
  cut_gains {m} {m'} {o} h d = gains m m' o h d.sets

  pub did_whole : {m m' : Meaning} {o : Operation} → Whole m → Did m o m' → Whole m'
  did_whole h d = record { size = d.size ∙ h.size; lawful = d.lawful }

  pub cut_whole : {m m' : Meaning} {o : Operation} → Whole m → Cut m o m' → Whole m'
  cut_whole h d = record { size = d.size ∙ h.size; lawful = d.lawful }

  pub own : (m : Meaning) → Whole m → (s : ℕ) → s < w.size → May m s (m.reads s)
  own m h s l = (l, h.lawful.among s (let e = h.size in omega arith))

  pub from_only : (m : Meaning) → Whole m → (s : ℕ) → s < w.size → (v : Reading) → Only m s v → m.reads s ≡ v
  from_only m h s l v o = o (m.reads s) (own m h s l)

  -- a write adds to its own sector only
  pub elsewhere : (m m' : Meaning) (s : ℕ) (b : List ℕ) → Gains m (op.Write s b) m' → (t : ℕ) → t ≢ s → (r : Reading) → May m' t r → May m t r
  elsewhere m m' s b n t ne r h = elim (n t r h) [ inl k ↦ k | inr k ↦ absurd (ne k.0) ]

  -- what a sync and a write leave, within the size
  pub synced_only : {m m' : Meaning} → Whole m → Did m op.Sync m' → (t : ℕ) (r : Reading) → May m' t r → r ≡ m.reads t
  synced_only h d t r k = d.contents.1 t (let e = h.size in let l = k.0 in omega arith) r k.1

  pub synced_reads : {m m' : Meaning} → Whole m → Did m op.Sync m' → (t : ℕ) → t < w.size → m'.reads t ≡ m.reads t
  synced_reads h d t l = d.contents.0 t (let e = h.size in omega arith)

  pub synced_single : {m m' : Meaning} → Whole m → Did m op.Sync m' → Single m'
  synced_single h d t r k = synced_only h d t r k ∙ sym (synced_reads h d t k.0)

  pub wrote_reads : {m m' : Meaning} {s : ℕ} {b : List ℕ} → Whole m → Did m (op.Write s b) m' → (t : ℕ) → t < w.size → t ≢ s → m'.reads t ≡ m.reads t
  wrote_reads h d t l n = d.contents.1 t (let e = h.size in omega arith) n

  pub head_within : (t : Slot) → header_place t < w.size
  head_within t = let a = below_journal t in let b = laws.roomy in omega arith

  pub body_within : (t : Slot) (i : ℕ) → i < 3 → body_at t i < w.size
  body_within t i l = let a = body_below t i l in let b = laws.roomy in omega arith

  abbrev pub page_after : Pages → List Command → List ℕ
  page_after es p = page_image w (suc (length es)) (suc (length (flat es))) p

  abbrev pub head_of : Pages → Header
  head_of ps = header_for w (length ps) (length (flat ps)) (notices_count w ps)

  abbrev pub HeadFits : Pages → Type 0
  HeadFits ps = HeaderFits (length ps) (length (flat ps)) (notices_count w ps)

  -- a page that may follow these
  pub record NextFits (ps : Pages) (p : List Command) : Type 0 where
    pub full : Full p
    pub total : length (flat ps) + length p ≤ N

  pub page_fits : (ps : Pages) (p : List Command) → AllFull ps → NextFits ps p → PageFits (suc (length ps)) (suc (length (flat ps))) p
  page_fits ps p a n =
      let b = full_sizes ps a in
      let s = n.full.one in
      let f = n.full.few in
      let t = n.total in
      record { number = (omega arith, omega arith); from_one = omega arith; count = (omega arith, omega arith); each = n.full.each; limit = omega arith }

  head_fits : (ps : Pages) → AllFull ps → length (flat ps) ≤ N → HeadFits ps
  head_fits ps a l =
      let b = full_sizes ps a in
      let g = given_few w laws w.rules.start (flat ps) laws.fresh_valid in
      record { pages_few = omega arith; commands_few = omega arith; limit = l; notices_few = g }

  -- slot t's body is the state after these pages
  abbrev pub Saved : Meaning → Slot → Pages → Type 0
  Saved m t ps = (i : ℕ) → i < 3 → Only m (body_at t i) (bytes (part w (market_after w ps) i))

  pub record IsSent (kept : Pages) (sent : Option Sent) (s : ℕ) (b : List ℕ) (q : ℕ) : Type 0 where
    pub page : List Command
    pub is : sent ≡ Some (record { number = suc (length kept); page = page })
    pub next : q ≡ suc (length kept)
    pub place : s ≡ sector w q
    pub image : b ≡ page_after kept page
    pub fits : NextFits kept page

  abbrev pub Clean : Pages → Meaning → Type 0
  Clean kept m = (s : ℕ) → 8 ≤ s → s < w.size → (b : List ℕ) → May m s (bytes b) → (q : ℕ) → looks w b q ≡ true → q ≤ length kept

  -- slot t covers the front f of the record
  pub record Safe (kept : Pages) (sent : Option Sent) (highest : ℕ) (m : Meaning) (t : Slot) (f : Pages) : Type 0 where
    pub whole : Whole m
    pub full : AllFull kept
    pub total : length (flat kept) ≤ N
    pub rest : Pages
    pub front : kept ≡ f ++ rest
    pub head : Only m (header_place t) (bytes (header_sector_bytes (head_of f)))
    pub body : Saved m t f
    pub bound : notices_count w f ≤ highest
    pub pages : (es : Pages) (p : List Command) (ls : Pages) → kept ≡ es ++ (p ∷ ls) → length f ≤ length es → Only m (sector w (suc (length es))) (bytes (page_after es p))
    pub strays : (s : ℕ) → 8 ≤ s → s < w.size → (b : List ℕ) → May m s (bytes b) → (q : ℕ) → looks w b q ≡ true → (q ≤ length kept) ⊎ IsSent kept sent s b q

  -- a header that stands behind that of the front f
  abbrev pub Behind : Pages → Reading → Type 0
  Behind f r = (h : Header) → shown w r ≡ Some h → h.page.0 < length f

  abbrev pub Settled : Meaning → Slot → Pages → Type 0
  Settled m t f = (r : Reading) → May m (header_place (other t)) r → Behind f r

  -- a snapshot at its last write
  pub record Rising (kept : Pages) (highest : ℕ) (m : Meaning) (t : Slot) (f to : Pages) : Type 0 where
    pub rest : Pages
    pub front : kept ≡ to ++ rest
    pub longer : length f < length to
    pub body : Saved m (other t) to
    pub bound : notices_count w to ≤ highest
    pub head : (r : Reading) → May m (header_place (other t)) r → Behind f r ⊎ (r ≡ bytes (header_sector_bytes (head_of to)))

  pub rising_shrinks : {kept : Pages} {highest : ℕ} {m m' : Meaning} {t : Slot} {f to : Pages} → Shrinks m m' → Rising kept highest m t f to → Rising kept highest m' t f to
  rising_shrinks le s = record {
    rest = s.rest;
    front = s.front;
    longer = s.longer;
    body = λ i l r h. s.body i l r (le _ r h);
    bound = s.bound;
    head = λ r h. s.head r (le _ r h);
  }

  module _ {kept : Pages} {sent : Option Sent} {highest : ℕ} {m m' : Meaning} {t : Slot} {f : Pages} where
    pub safe_shrinks : Whole m' → Shrinks m m' → Safe kept sent highest m t f → Safe kept sent highest m' t f
    safe_shrinks wh le s = record {
      whole = wh;
      full = s.full;
      total = s.total;
      rest = s.rest;
      front = s.front;
      head = λ r h. s.head r (le _ r h);
      body = λ i l r h. s.body i l r (le _ r h);
      bound = s.bound;
      pages = λ es p ls e l r h. s.pages es p ls e l r (le _ r h);
      strays = λ a l u b h. s.strays a l u b (le _ _ h);
    }

    -- the next page is written, or was cut while it was
    pub safe_sends : (draft : List Command) → Whole m' → NextFits kept draft → Gains m (op.Write (sector w (suc (length kept))) (page_after kept draft)) m' → suc (length kept) ≤ length f + journal w.size → Clean kept m
        → Safe kept sent highest m t f → Safe kept (Some (record { number = suc (length kept); page = draft })) highest m' t f
    safe_sends draft wh nf n room clean s = record {
      whole = wh;
      full = s.full;
      total = s.total;
      rest = s.rest;
      front = s.front;
      head = λ r h. s.head r (low (header_place t) (below_journal t) r h);
      body = λ i l r h. s.body i l r (low (body_at t i) (body_below t i l) r h);
      bound = s.bound;
      pages = λ es p ls e l r h. s.pages es p ls e l r (elsewhere m m' _ _ n _ (apart_from es p ls e l) r h);
      strays = λ a l u b h q k. stray a l u b h q k;
    }
      where
        low : (a : ℕ) → a < 8 → (r : Reading) → May m' a r → May m a r
        low a l = elsewhere m m' _ _ n a (λ e. let j = in_journal w laws (suc (length kept)) in omega arith)

        apart_from : (es : Pages) (p : List Command) (ls : Pages) → kept ≡ es ++ (p ∷ ls) → length f ≤ length es → sector w (suc (length es)) ≢ sector w (suc (length kept))
        apart_from es p ls e l k =
            let n1 : length kept ≡ length es + suc (length ls) = ap length e ∙ length-append es (p ∷ ls) in
            let same = apart w laws (length f) (length es) (length kept) l (omega arith) (omega arith) (omega arith) k in
            omega arith

        stray : (a : ℕ) → 8 ≤ a → a < w.size → (b : List ℕ) → May m' a (bytes b) → (q : ℕ) → looks w b q ≡ true
            → (q ≤ length kept) ⊎ IsSent kept (Some (record { number = suc (length kept); page = draft })) a b q
        stray a l u b h q k = elim (n a (bytes b) h) [ inl old ↦ inl (clean a l u b old q k) | inr new ↦ inr (is_sent new) ]
          where
            -- only the new page, and not torn
            image : (bytes b ≡ bytes (page_after kept draft)) ⊎ (bytes b ≡ torn) → b ≡ page_after kept draft
            image (inl e) = bytes_inj (bytes b) b (page_after kept draft) refl e
            image (inr e) = absurd (torn_bytes b (sym e))

            is_sent : (a ≡ sector w (suc (length kept))) × ((bytes b ≡ bytes (page_after kept draft)) ⊎ (bytes b ≡ torn)) → IsSent kept (Some (record { number = suc (length kept); page = draft })) a b q
            is_sent new =
                let same = image new.1 in
                let next = laws.page_looks_only _ q _ _ (page_fits kept draft s.full nf) (subst (λ z. looks w z q ≡ true) same k) in
                record { page = draft; is = refl; next = next; place = new.0 ∙ ap (sector w) (sym next); image = same; fits = nf }

  -- whatever looks like a page is no page above the record with one page more
  pub adds_clean : {kept : Pages} {sent : Option Sent} {highest : ℕ} {m : Meaning} {t : Slot} {f : Pages} (p : List Command)
      → Safe kept sent highest m t f → Clean (kept ++ (p ∷ [])) m
  adds_clean {kept} {sent} p s a l u b h q k = go (s.strays a l u b h q k)
    where
      longer : length (kept ++ (p ∷ [])) ≡ suc (length kept)
      longer = length-append kept (p ∷ []) ∙ omega arith

      go : (q ≤ length kept) ⊎ IsSent kept sent a b q → q ≤ length (kept ++ (p ∷ []))
      go (inl k) = let e = longer in omega arith
      go (inr k) = let e = longer in let e2 = k.next in omega arith

  -- the sent page joins the record
  pub safe_adds : {kept : Pages} {sent : Option Sent} {highest : ℕ} {m : Meaning} {t : Slot} {f : Pages} (p : List Command)
      → NextFits kept p → Only m (sector w (suc (length kept))) (bytes (page_after kept p)) → Safe kept sent highest m t f → Safe (kept ++ (p ∷ [])) sent highest m t f
  safe_adds {kept} {sent} {highest} {m} {t} {f} p nf o s = record {
    whole = s.whole;
    full = full_snoc kept p s.full nf.full;
    total = (let e = ap length (flat_snoc kept p) ∙ length-append (flat kept) p in let n = nf.total in omega arith);
    rest = s.rest ++ (p ∷ []);
    front = ap (λ l. l ++ (p ∷ [])) s.front ∙ append_assoc f s.rest (p ∷ []);
    head = s.head;
    body = s.body;
    bound = s.bound;
    pages = λ es q ls e l. at_end es q (snoc_split kept p es q ls e) l;
    strays = λ a l u b h q k. inl (adds_clean p s a l u b h q k);
  }
    where
      at_end : (es : Pages) (q : List Command) {ls : Pages} → Inside kept p es q ls ⊎ AtEnd kept p es q → length f ≤ length es → Only m (sector w (suc (length es))) (bytes (page_after es q))
      at_end es q (inl i) l = s.pages es q i.back i.split l
      at_end es q (inr i) l = subst₂ (λ es q. Only m (sector w (suc (length es))) (bytes (page_after es q))) (sym i.earlier) (sym i.last) o

  -- a write beside the covered slot and the journal
  pub safe_aside : {kept : Pages} {sent : Option Sent} {highest : ℕ} {m m' : Meaning} {t : Slot} {f : Pages} (a : ℕ) (b : List ℕ)
      → Whole m' → Gains m (op.Write a b) m' → a < 8 → header_place t ≢ a → ((i : ℕ) → i < 3 → body_at t i ≢ a) → Safe kept sent highest m t f → Safe kept sent highest m' t f
  safe_aside {m = m} {m' = m'} {t = t} a b wh n l nh nb s = record {
    whole = wh;
    full = s.full;
    total = s.total;
    rest = s.rest;
    front = s.front;
    head = λ r h. s.head r (keep _ nh r h);
    body = λ i k r h. s.body i k r (keep _ (nb i k) r h);
    bound = s.bound;
    pages = λ es p ls e k r h. s.pages es p ls e k r (keep _ (λ z. let j = in_journal w laws (suc (length es)) in omega arith) r h);
    strays = λ c k u x h. s.strays c k u x (keep c (λ z. omega arith) _ h);
  }
    where
      keep : (c : ℕ) → c ≢ a → (r : Reading) → May m' c r → May m c r
      keep = elsewhere m m' a b n

  -- the covered front, and a page of the record, keep the limits
  module _ {kept : Pages} {sent : Option Sent} {highest : ℕ} {m : Meaning} {t : Slot} {f : Pages} (s : Safe kept sent highest m t f) where
    front_total : length (flat f) ≤ N
    front_total = let e = ap (λ z. length (flat z)) s.front ∙ ap length (flat_append f s.rest) ∙ length-append (flat f) (flat s.rest) in let n = s.total in omega arith

    pub front_fits : HeadFits f
    front_fits = head_fits f (full_front f s.rest (subst AllFull s.front s.full)) front_total

    pub front_last : w.rules.count (market_after w f) ≡ length (flat f)
    front_last = let z = laws.last_fresh in let n = front_total in last_after w laws w.rules.start (flat f) laws.fresh_valid (omega arith) ∙ omega arith

    pub inside_fits : (es : Pages) (p : List Command) (ls : Pages) → kept ≡ es ++ (p ∷ ls) → PageFits (suc (length es)) (suc (length (flat es))) p
    inside_fits es p ls e =
        let a = subst AllFull e s.full in
        let n1 = ap (λ z. length (flat z)) e ∙ ap length (flat_append es (p ∷ ls)) ∙ length-append (flat es) (p ++ flat ls) in
        let n2 = length-append p (flat ls) in
        let n3 = s.total in
        page_fits es p (full_front es (p ∷ ls) a) (record { full = full_at es p ls a; total = omega arith })

  behind : (f to : Pages) (r : Reading) → HeadFits f → r ≡ bytes (header_sector_bytes (head_of f)) → length f < length to → Behind to r
  behind f to r fit e l h g =
      let same : Some (head_of f) ≡ Some h = sym (laws.header_good _ _ _ fit) ∙ sym (ap (shown w) e) ∙ g in
      let p : length f ≡ h.page.0 = ap (λ (z : Header). z.page.0) (same_Some _ _ same) in
      omega arith

  pub other_other : (t : Slot) → other (other t) ≡ t
  other_other Zero = refl
  other_other One = refl

  -- slot t covers f, and the other slot has nothing newer
  pub record Rested (kept : Pages) (sent : Option Sent) (highest : ℕ) (m : Meaning) (t : Slot) (f : Pages) : Type 0 where
    pub safe : Safe kept sent highest m t f
    pub settled : Settled m t f

  module _ {kept : Pages} {sent : Option Sent} {highest : ℕ} {m : Meaning} {t : Slot} {f : Pages} where
    -- the newer header is there: its slot covers now
    pub risen : {to : Pages} → Safe kept sent highest m t f → Rising kept highest m t f to → Single m → m.reads (header_place (other t)) ≡ bytes (header_sector_bytes (head_of to))
        → Rested kept sent highest m (other t) to
    risen {to} s v one e = record {
      safe = record {
        whole = s.whole;
        full = s.full;
        total = s.total;
        rest = v.rest;
        front = v.front;
        head = λ r h. one _ r h ∙ e;
        body = v.body;
        bound = v.bound;
        pages = λ es p ls k l. s.pages es p ls k (let q = v.longer in omega arith);
        strays = s.strays;
      };
      settled = λ r h. behind f to r (front_fits s) (s.head r (subst (λ z. May m (header_place z) r) (other_other t) h)) v.longer;
    }

    -- after a sync there is a slot that covers, and nothing newer
    pub rests : Safe kept sent highest m t f → Settled m t f ⊎ ((to : Pages) × Rising kept highest m t f to) → Single m → (u : Slot) × (g : Pages) × Rested kept sent highest m u g
    rests s (inl k) one = (t, f, record { safe = s; settled = k })
    rests s (inr (to, v)) one = pick (v.head _ (own m s.whole _ (head_within (other t))))
      where
        pick : Behind f (m.reads (header_place (other t))) ⊎ (m.reads (header_place (other t)) ≡ bytes (header_sector_bytes (head_of to))) → (u : Slot) × (g : Pages) × Rested kept sent highest m u g
        pick (inl k) = (t, f, record { safe = s; settled = λ r h. subst (Behind f) (sym (one _ r h)) k })
        pick (inr e) = (other t, to, risen s v one e)
