-- The four checks are the promises.
use Rattle.std.proofs.Common.{◌≡◌, ℕ, Bool, ◌&&◌, vec_items, Decides, subst}
use Rattle.std.proofs.lemmas.Bool.Decides.{Decides-and, Decides-like}
use Rattle.market.specs.declared.interface.Market as market
use Rattle.device.specs.declared.Device as device
use Rattle.protocol.specs.declared.phases.Phase.TheVariants.{Live}
use Rattle.protocol.specs.Worlds.{rules_of}
use Rattle.protocol.specs.Promises.{History, ledger, recorded, highest_delivered, EachKept, RunsOver, Promised}
use Rattle.exchange.specs.declared.state.Exchange.{Exchange}
use Rattle.exchange.specs.Views.{view}
use Rattle.audit.specs.Delivered.{delivered_in, CoveredTo}
use Rattle.audit.specs.Books.{world}
use Rattle.audit.specs.Readings.{Reads}
use Rattle.audit.specs.declared.readings.Reader.{Reader}
use Rattle.audit.proofs.Openings.{serves_kept, kept_serves}
use Rattle.audit.proofs.Deliveries.{covered_no_gap, no_gap_covered}
use Rattle.protocol.proofs.Growth.{grows}

module _ {M D : Type 0} (m : market.Ghosts M) (d : device.Ghosts D) (x : Exchange M D) where
  abbrev size : ℕ
  size = (d.meaning x.device).size

  pub promised : (h : History) (r : Reader M) (covered kept carried : Bool) → Reads m x.house size h r →
      Decides covered (CoveredTo (vec_items r.delivered) r.highest) → Decides kept (EachKept (world m x.house size) (recorded h) h) → Decides carried ((view m d x).phase ≡ Live → RunsOver (world m x.house size) (recorded h) (view m d x)) →
      Decides (((r.served && covered) && kept) && carried) (Promised (rules_of m) h (view m d x))
  promised h r covered kept carried i c k l =
      let w = world m x.house size in
      let covers : Decides covered (CoveredTo (delivered_in h) (highest_delivered h)) = subst (λ z. Decides covered (CoveredTo z (highest_delivered h))) i.delivered (subst (λ n. Decides covered (CoveredTo (vec_items r.delivered) n)) i.highest c) in
      Decides-like (((r.served && covered) && kept) && carried)
      (λ (((s, v), e), t). record { lasting = e; live = t; growth = λ later before q p. grows q (ledger before); openings = kept_serves w h s; no_gap = covered_no_gap h v })
      (λ p. (((serves_kept w h p.openings, no_gap_covered h p.no_gap), p.lasting), p.live))
      (Decides-and ((r.served && covered) && kept) carried (Decides-and (r.served && covered) kept (Decides-and r.served covered i.served covers) k) l)
