-- A book with a page more.
use Rattle.std.proofs.Common.{◌≡◌, ℕ, suc, ◌+◌, List, [], ◌∷◌, ◌++◌, map, length, vec_items, sym, ap, ◌∙◌, arith}
use Rattle.std.proofs.lemmas.List.{length-map, map-append}
use Rattle.records.specs.declared.commands.Command.{Command}
use Rattle.records.specs.declared.numbers.HouseNumber.{HouseNumber}
use Rattle.market.specs.declared.interface.Market as market
use Rattle.protocol.specs.Worlds.{World, after, given}
use Rattle.protocol.specs.Steps.{handed}
use Rattle.protocol.specs.Promises.{Pages, flat, market_after, notices_count}
use Rattle.runner.specs.declared.log.HandedOut.{HandedOut}
use Rattle.runner.specs.Events.{handed_out}
use Rattle.audit.specs.Answers.{answer}
use Rattle.audit.specs.Books.{world, IsBook}
use Rattle.audit.specs.declared.books.Book.{Book}
use Rattle.batches.proofs.Fronts.{length_counted}
use Rattle.audit.proofs.Pages.{answers_more, length_answers, market_more, count_more, flat_length}

module _ {M : Type 0} (m : market.Ghosts M) (house : HouseNumber) (size : ℕ) where
  abbrev w : World m.State
  w = world m house size

  -- how many pages it has
  pub pages_of : (kept : Pages) (b : Book M) → IsBook m house size kept b → length (vec_items b.pages) ≡ length kept
  pages_of kept b i = sym (length-map (vec_items b.pages) handed_out) ∙ ap length i.answers ∙ length_answers w [] kept

  -- a book with one answer more
  pub record Added (page : List Command) (b c : Book M) (new : HandedOut) : Type 0 where
    pub of_house : c.house ≡ b.house
    pub pages : vec_items c.pages ≡ vec_items b.pages ++ (new ∷ [])
    pub its_house : new.receipt.house ≡ b.house
    pub its_page : new.receipt.page.0 ≡ length (vec_items b.pages) + 1
    pub its_first : new.receipt.first.0 ≡ b.commands + 1
    pub its_commands : new.receipt.commands ≡ length page
    pub its_notice : new.receipt.notice.0 ≡ b.notices + 1
    pub its_count : new.receipt.notices ≡ length (vec_items new.notices)
    pub its_notices : vec_items new.notices ≡ handed w b.notices (m.means b.market) page
    pub commands : c.commands ≡ b.commands + length page
    pub notices : c.notices ≡ b.notices + length (vec_items new.notices)
    pub market : m.means c.market ≡ after w (m.means b.market) page

  pub book_more : (kept : Pages) (page : List Command) (b c : Book M) (new : HandedOut) → Added page b c new → IsBook m house size kept b → IsBook m house size (kept ++ (page ∷ [])) c
  book_more kept page b c new a i =
      let many : length (vec_items new.notices) ≡ length (given w (m.means b.market) page) = ap length a.its_notices ∙ length_counted b.notices (given w (m.means b.market) page) in
      let number : new.receipt.page.0 ≡ suc (length kept) = (let e = pages_of kept b i in omega (arith, a.its_page, e)) in
      let first : new.receipt.first.0 ≡ suc (length (flat kept)) = (let e = i.commands in omega (arith, a.its_first, e)) in
      let notice : new.receipt.notice.0 ≡ suc (notices_count w kept) = (let e = i.notices in omega (arith, a.its_notice, e)) in
      let count : new.receipt.notices ≡ length (given w (market_after w kept) page) = a.its_count ∙ many ∙ ap (λ s. length (given w s page)) i.market in
      let list : vec_items new.notices ≡ handed w (notices_count w kept) (market_after w kept) page = a.its_notices ∙ (λ j. handed w (i.notices j) (i.market j) page) in
      let same : handed_out new ≡ answer w kept page =
      (λ j. record { receipt = record { house = (a.its_house ∙ i.of_house) j; page = record { 0 = number j }; first = record { 0 = first j }; commands = a.its_commands j; notice = record { 0 = notice j }; notices = count j }; notices = list j }) in
      record {
        of_house = a.of_house ∙ i.of_house;
        answers = ap (map handed_out) a.pages ∙ map-append handed_out (vec_items b.pages) (new ∷ []) ∙ (λ j. i.answers j ++ (same j ∷ [])) ∙ sym (answers_more w kept page);
        commands = a.commands ∙ ap (λ n. n + length page) i.commands ∙ sym (flat_length w kept page);
        notices = a.notices ∙ ap (λ n. b.notices + n) many ∙ (λ j. i.notices j + length (given w (i.market j) page)) ∙ sym (count_more w kept page);
        market = a.market ∙ ap (λ s. after w s page) i.market ∙ sym (market_more w kept page);
      }
