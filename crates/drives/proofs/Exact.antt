-- What a drive does to the byte is what a device may do.
use Rattle.std.proofs.Common.{◌≡◌, ℕ, ◌<◌, Bool, true, false, ltb, List, [], length, Some, None, Ok, Err, Option, sym, refl, ap, ◌∙◌, subst, append-nil}
use Rattle.std.proofs.lemmas.Bool.{ltb-true, ltb-false}
use Rattle.device.specs.Meaning.{Reading, bytes, torn}
use Rattle.device.specs.Calls.{Answer, DidRead, DidWrite, DidSync, Woken, WasCut, Kept, Joined, Written, Synced}
use Rattle.device.specs.declared.fault.DeviceFault.TheVariants.{OutOfRange, Cut, Torn}
use Rattle.image.specs.Image.{size_of, filled}
use Rattle.image.specs.Fuses.{cutting}
use Rattle.image.specs.Waiting.{meant, settled}
use Rattle.image.specs.declared.fuse.Fuse.{Fuse}
use Rattle.image.specs.declared.fuse.Plan.{Plan}
use Rattle.image.specs.declared.pending.Pending.{Pending}
use Rattle.image.proofs.Meanings.{admitted, emptied as all-down, cut_settled, cut_settled_write, cut_dark, cut_dark_write, woken, seen_inside}
use Rattle.drives.specs.Drives.{State, Gate, Past, Dark, Blown, Through, meaning_of, gate_of, gate_at, by_plan, cut_off, ReadBy, DriveRead, WriteBy, DriveWrite, SyncBy, DriveSync, read_answer, newest, roused}

-- what is known of a call by how far it came
abbrev pub Came : Gate → Bool → Bool → Type 0
Came Past within lit = within ≡ false
Came Dark within lit = (within ≡ true) × (lit ≡ false)
Came (Blown plan) within lit = (within ≡ true) × (lit ≡ true)
Came Through within lit = (within ≡ true) × (lit ≡ true)

by_plan_came : (o : Option Plan) → Came (by_plan o) true true
by_plan_came None = (refl, refl)
by_plan_came (Some p) = (refl, refl)

pub came : (within lit : Bool) (fuse : Option Fuse) → Came (gate_of within lit fuse) within lit
came false lit fuse = refl
came true false fuse = (refl, refl)
came true true fuse = by_plan_came (cutting fuse)

at_answer : (P : Answer → Type 0) (r q : Answer) → r ≡ q → P q → P r
at_answer P r q e h = subst P (sym e) h

at_state : (P : State → Type 0) (d e : State) → d ≡ e → P e → P d
at_state P d e q h = subst P (sym q) h

meant_of : (d e : State) → e ≡ d → meaning_of e ≡ meaning_of d
meant_of d e q = ap meaning_of q

blown_cut : (plan : Plan) (d : State) → WasCut (meaning_of d) (Kept (meaning_of d)) (meaning_of (cut_off plan [] d))
blown_cut plan d =
    subst (λ (ps : List Pending). WasCut (meaning_of d) (Kept (meaning_of d)) (meant (settled plan d.image ps) [] false)) (sym (append-nil d.waiting)) (cut_settled plan d.image d.waiting d.lit)

-- a read that went through, by what the sector reads as
through_read : (d e : State) (at : ℕ) (old new : List ℕ) (x : Reading) (r : Answer) → at < size_of d.image → d.lit ≡ true → (meaning_of d).reads at ≡ x → r ≡ read_answer at x → new ≡ filled old x → meaning_of e ≡ meaning_of d → DidRead (meaning_of d) at old r new (meaning_of e)
through_read d e at old new (bytes b) r h l n f g q = at_answer (λ (z : Answer). DidRead (meaning_of d) at old z new (meaning_of e)) r (Ok tt) f (record { within = h; was_lit = l; here = n ∙ ap bytes (sym g); same = q })
through_read d e at old new torn r h l n f g q = at_answer (λ (z : Answer). DidRead (meaning_of d) at old z new (meaning_of e)) r (Err (Torn at)) f (refl, record { within = h; was_lit = l; here = n; same = q }, g)

read_by : (g : Gate) (d e : State) (at : ℕ) (old new : List ℕ) (r : Answer) → Came g (ltb at (size_of d.image)) d.lit → ReadBy g d at old r new e → DidRead (meaning_of d) at old r new (meaning_of e)
read_by Past d e at old new r k (f, g, q) =
    at_answer (λ (z : Answer). DidRead (meaning_of d) at old z new (meaning_of e)) r (Err (OutOfRange at)) f (refl, ltb-false at (size_of d.image) k, meant_of d e q, g)
read_by Dark d e at old new r k (f, g, q) =
    at_answer (λ (z : Answer). DidRead (meaning_of d) at old z new (meaning_of e)) r (Err (Cut at)) f
    (refl, ltb-true at (size_of d.image) k.0, at_state (λ (z : State). WasCut (meaning_of d) (Kept (meaning_of d)) (meaning_of z)) e d q (cut_dark d.image d.waiting d.lit k.1), g)
read_by (Blown plan) d e at old new r k (f, g, q) =
    at_answer (λ (z : Answer). DidRead (meaning_of d) at old z new (meaning_of e)) r (Err (Cut at)) f
    (refl, ltb-true at (size_of d.image) k.0, at_state (λ (z : State). WasCut (meaning_of d) (Kept (meaning_of d)) (meaning_of z)) e _ q (blown_cut plan d), g)
read_by Through d e at old new r k (f, g, q) =
    let h = ltb-true at (size_of d.image) k.0 in
    through_read d e at old new (newest d at) r h k.1 (sym (seen_inside d.image d.waiting at h)) f g (ap meaning_of q)

pub read_did : (d e : State) (at : ℕ) (old new : List ℕ) (r : Answer) → DriveRead d at old r new e → DidRead (meaning_of d) at old r new (meaning_of e)
read_did d e at old new r h = read_by (gate_at d at) d e at old new r (came (ltb at (size_of d.image)) d.lit d.fuse) h

write_by : (g : Gate) (room : ℕ) (d e : State) (p : Pending) (r : Answer) → length p.bytes ≡ 512 → Came g (ltb p.sector (size_of d.image)) d.lit → WriteBy g room d p r e → DidWrite (meaning_of d) p.sector p.bytes r (meaning_of e)
write_by Past room d e p r l k (f, q) =
    at_answer (λ (z : Answer). DidWrite (meaning_of d) p.sector p.bytes z (meaning_of e)) r (Err (OutOfRange p.sector)) f (refl, ltb-false p.sector (size_of d.image) k, meant_of d e q)
write_by Dark room d e p r l k (f, q) =
    at_answer (λ (z : Answer). DidWrite (meaning_of d) p.sector p.bytes z (meaning_of e)) r (Err (Cut p.sector)) f
    (refl, ltb-true p.sector (size_of d.image) k.0, at_state (λ (z : State). WasCut (meaning_of d) (Joined (meaning_of d) p.sector p.bytes) (meaning_of z)) e d q (cut_dark_write d.image d.waiting d.lit p.sector p.bytes k.1))
write_by (Blown plan) room d e p r l k (f, q) =
    at_answer (λ (z : Answer). DidWrite (meaning_of d) p.sector p.bytes z (meaning_of e)) r (Err (Cut p.sector)) f
    (refl, ltb-true p.sector (size_of d.image) k.0, at_state (λ (z : State). WasCut (meaning_of d) (Joined (meaning_of d) p.sector p.bytes) (meaning_of z)) e _ q (cut_settled_write plan d.image d.waiting d.lit p))
write_by Through room d e p r l k (f, q) =
    at_answer (λ (z : Answer). DidWrite (meaning_of d) p.sector p.bytes z (meaning_of e)) r (Ok tt) f
    (at_state (λ (z : State). Written (meaning_of d) p.sector p.bytes (meaning_of z)) e _ q (admitted room d.image d.waiting d.lit p (ltb-true p.sector (size_of d.image) k.0) l k.1))

pub write_did : (room : ℕ) (d e : State) (at : ℕ) (new : List ℕ) (r : Answer) → length new ≡ 512 → DriveWrite room d at new r e → DidWrite (meaning_of d) at new r (meaning_of e)
write_did room d e at new r l h = write_by (gate_at d at) room d e (record { sector = at; bytes = new }) r l (came (ltb at (size_of d.image)) d.lit d.fuse) h

sync_by : (g : Gate) (d e : State) (r : Answer) → Came g true d.lit → SyncBy g d r e → DidSync (meaning_of d) r (meaning_of e)
sync_by Past d e r k h = absurd h
sync_by Dark d e r k (f, q) =
    at_answer (λ (z : Answer). DidSync (meaning_of d) z (meaning_of e)) r (Err (Cut 0)) f (refl, at_state (λ (z : State). WasCut (meaning_of d) (Kept (meaning_of d)) (meaning_of z)) e d q (cut_dark d.image d.waiting d.lit k.1))
sync_by (Blown plan) d e r k (f, q) =
    at_answer (λ (z : Answer). DidSync (meaning_of d) z (meaning_of e)) r (Err (Cut 0)) f (refl, at_state (λ (z : State). WasCut (meaning_of d) (Kept (meaning_of d)) (meaning_of z)) e _ q (blown_cut plan d))
sync_by Through d e r k (f, q) =
    at_answer (λ (z : Answer). DidSync (meaning_of d) z (meaning_of e)) r (Ok tt) f (at_state (λ (z : State). Synced (meaning_of d) (meaning_of z)) e _ q (all-down d.image d.waiting d.lit k.1))

pub sync_did : (d e : State) (r : Answer) → DriveSync d r e → DidSync (meaning_of d) r (meaning_of e)
sync_did d e r h = sync_by (gate_of true d.lit d.fuse) d e r (came true d.lit d.fuse) h

pub wake_did : (d e : State) → e ≡ roused d → Woken (meaning_of d) (meaning_of e)
wake_did d e q = at_state (λ (z : State). Woken (meaning_of d) (meaning_of z)) e (roused d) q (woken d.image d.waiting d.lit true refl)
