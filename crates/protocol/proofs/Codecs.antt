-- The laws of markets and records that runs rest on, from the market's own laws and from what is proved of the records.
use Rattle.std.proofs.Common.{◌≡◌, ℕ, suc, ◌+◌, ◌-◌, ◌*◌, ◌^◌, ◌<◌, ◌≤◌, true, false, ◌&&◌, eqb, leb, List, ◌++◌, length, take, drop, Some, None, sym, refl, ap, ◌∙◌, arith, length-drop, take-append-drop, take_all, drop-drop, lt-ltb, eq-eqb, eqb-true, le-leb, leb-true}
use Rattle.std.proofs.lemmas.Bool.{and_from, and_parts, cond-true}
use Rattle.records.specs.Pages.{page_of, all_good, decoded_page, good_page}
use Rattle.records.specs.Headers.{good_header}
use Rattle.records.specs.declared.commands.Command.{Command}
use Rattle.records.specs.declared.headers.Header.{Header}
use Rattle.records.proofs.PageTheorems.{page_kept}
use Rattle.records.proofs.HeaderLaws.{header_comes_back}
use Rattle.journal.specs.Choices.{own_header_in}
use Rattle.records.proofs.PageTheorems as pages
use Rattle.records.proofs.HeaderLaws as headers
use Rattle.journal.specs.Choices as choices
use Rattle.protocol.specs.Worlds.{N, World, Fits, blank, page_head, page_image, looks, header_for, header_image, part}
use Rattle.protocol.specs.Witness.{MarketLaws}

-- a page of 1 to 16 good commands, none with a number above N
pub record PageFits (p first : ℕ) (cs : List Command) : Type 0 where
  pub number : (1 ≤ p) × (p ≤ N)
  pub from_one : 1 ≤ first
  pub count : (1 ≤ length cs) × (length cs ≤ 16)
  pub each : all_good cs ≡ true
  pub limit : first + length cs ≤ suc N

-- counts of a header that go together
pub record HeaderFits (pages commands notices : ℕ) : Type 0 where
  pub pages_few : pages ≤ commands
  pub commands_few : commands ≤ 16 * pages
  pub limit : commands ≤ N
  pub notices_few : notices ≤ 64 * commands

pub record Laws {S : Type 0} (w : World S) : Type 1 where
  pub valid : S → Type 0
  pub roomy : 9 ≤ w.size
  pub fresh_valid : valid w.rules.start
  pub next_valid : (s : S) (c : Command) → valid s → valid (w.rules.step s c).0
  pub last_fresh : w.rules.count w.rules.start ≡ 0
  pub last_next : (s : S) (c : Command) → valid s → w.rules.count s < N → w.rules.count (w.rules.step s c).0 ≡ suc (w.rules.count s)
  pub gives_few : (s : S) (c : Command) → valid s → length (w.rules.step s c).1 ≤ 64
  pub load_saved : (s : S) → valid s → w.rules.loads (part w s 0 ++ (part w s 1 ++ part w s 2)) ≡ Some s
  pub page_looks : (p first : ℕ) (cs : List Command) → PageFits p first cs → looks w (page_image w p first cs) p ≡ true
  pub page_looks_only : (p q first : ℕ) (cs : List Command) → PageFits p first cs → looks w (page_image w p first cs) q ≡ true → q ≡ p
  pub page_good : (p first : ℕ) (cs : List Command) → PageFits p first cs → decoded_page (page_image w p first cs) ≡ Some (page_of (page_head w p first) cs)
  pub header_good : (pages commands notices : ℕ) → HeaderFits pages commands notices → own_header_in w.house w.rules.code (header_image w pages commands notices) ≡ Some (header_for w pages commands notices)
  pub zeros_look : (p : ℕ) → looks w blank p ≡ false
  pub zeros_no_header : own_header_in w.house w.rules.code blank ≡ None

-- three sectors' bytes, joined again
pub parts_join : (b : List ℕ) → length b ≡ 1536 → take 512 b ++ (take 512 (drop 512 b) ++ take 512 (drop 1024 b)) ≡ b
parts_join b l =
    let n : length (drop 1024 b) ≤ 512 = (let k = length-drop 1024 b in omega arith) in
    let e : take 512 (drop 1024 b) ≡ drop 512 (drop 512 b) = take_all 512 (drop 1024 b) n ∙ sym (drop-drop 512 512 b) in
    ap (λ z. take 512 b ++ (take 512 (drop 512 b) ++ z)) e ∙ ap (λ z. take 512 b ++ z) (take-append-drop 512 (drop 512 b)) ∙ take-append-drop 512 b

module _ {S : Type 0} (w : World S) (fits : Fits w) where
  pub good_contents : (p first : ℕ) (cs : List Command) → PageFits p first cs → good_page (page_of (page_head w p first) cs) ≡ true
  good_contents p first cs f =
      let n = f.number in
      let o = f.from_one in
      let c = f.count in
      let l = f.limit in
      and_from _ _
      (and_from _ _ fits.house (lt-ltb p (256 ^ 8) (omega arith)))
      (and_from _ _
      (and_from _ _ (le-leb 1 p n.0) (and_from _ _ (le-leb 1 first o) (and_from _ _ (and_from _ _ (le-leb 1 (length cs) c.0) (le-leb (length cs) 16 c.1)) (le-leb (first + length cs - 1) 1_000_000_000_000 (omega arith)))))
      f.each)

  kept_page : (p first : ℕ) (cs : List Command) → PageFits p first cs → (q : ℕ) → looks w (page_image w p first cs) q ≡ (eqb w.house.0 w.house.0 && eqb p q)
  kept_page p first cs f q = (page_kept (page_of (page_head w p first) cs) (good_contents p first cs f)).looks w.house (record { 0 = q })

  good_counts : (pages commands notices : ℕ) → HeaderFits pages commands notices → good_header (header_for w pages commands notices) ≡ true
  good_counts pages commands notices f =
      let a = f.pages_few in
      let b = f.commands_few in
      let c = f.limit in
      let d = f.notices_few in
      and_from _ _
      (and_from _ _ fits.house (and_from _ _ (lt-ltb pages (256 ^ 8) (omega arith)) (and_from _ _ (lt-ltb commands (256 ^ 8) (omega arith)) (and_from _ _ (lt-ltb notices (256 ^ 8) (omega arith)) fits.code))))
      (and_from _ _ (le-leb pages commands a) (and_from _ _ (le-leb commands 1_000_000_000_000 c) (and_from _ _ (le-leb commands (16 * pages) b) (le-leb notices (64 * commands) d))))

  own_taken : (h : Header) → h.house.0 ≡ w.house.0 → h.market ≡ w.rules.code → choices.own w.house w.rules.code (Some h) ≡ Some h
  own_taken h e f = cond-true _ _ _ (and_from _ _ (eq-eqb _ _ e) (eq-eqb _ _ f))

  blank_looks : (p : ℕ) → looks w blank p ≡ false
  unfolding blank
  blank_looks p = pages.zeros_look w.house (record { 0 = p })

  blank_none : own_header_in w.house w.rules.code blank ≡ None
  unfolding blank
  blank_none = ap (choices.own w.house w.rules.code) headers.zeros_no_header

  size_parts : (9 ≤ w.size) × (w.size ≤ 4096)
  size_parts = let p = and_parts (leb 9 w.size) (leb w.size 4096) fits.size in (leb-true 9 w.size p.0, leb-true w.size 4096 p.1)

  pub laws_of : (valid : S → Type 0) → MarketLaws w.rules valid → Laws w
  laws_of valid m = record {
    valid = valid;
    roomy = size_parts.0;
    fresh_valid = m.starts.0;
    next_valid = m.keeps;
    last_fresh = m.starts.1;
    last_next = λ s c v l. m.counts s c ∙ cond-true _ _ _ (lt-ltb (w.rules.count s) N l) ∙ omega arith;
    gives_few = m.few;
    load_saved = λ s v. ap w.rules.loads (parts_join (w.rules.body s) (m.sized s v)) ∙ m.back s v;
    page_looks = λ p first cs f. kept_page p first cs f p ∙ and_from _ _ (eq-eqb w.house.0 w.house.0 refl) (eq-eqb p p refl);
    page_looks_only = λ p q first cs f e. sym (eqb-true p q (and_parts (eqb w.house.0 w.house.0) (eqb p q) (sym (kept_page p first cs f q) ∙ e)).1);
    page_good = λ p first cs f. (page_kept (page_of (page_head w p first) cs) (good_contents p first cs f)).back;
    header_good = λ a b c f. ap (choices.own w.house w.rules.code) (header_comes_back (header_for w a b c) (good_counts a b c f)) ∙ own_taken (header_for w a b c) refl refl;
    zeros_look = blank_looks;
    zeros_no_header = blank_none;
  }
