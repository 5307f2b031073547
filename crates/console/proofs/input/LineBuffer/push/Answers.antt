use Rattle.std.proofs.Common.{◌≡◌, ◌<◌, [], ◌∷◌, ◌++◌, ℕ, length, Ok, Err, Result, IsOk, OnOk, OnErr, ap, refl, sym, subst}
use Rattle.arrayvec.specs.ArrayVec.{ArrayVec}
use Rattle.console.proofs.Lines.{Kept, kept, dropped}
use Rattle.console.proofs.input.LineBuffer.push.Goals as goal

after : {U E : Type 0} (r : Result U E) (x y : ArrayVec ℕ) (b : ℕ) → (IsOk r → length x.items < 256) → OnOk r (y.items ≡ x.items ++ b ∷ []) →
    OnErr r (y ≡ x) → OnErr r (length x.items ≡ 256) → Kept 255 x.items b y.items
after (Ok u) x y b room ok err full = subst (Kept 255 x.items b) (sym ok) (kept 255 x.items b (room refl))
after (Err e) x y b room ok err full = subst (Kept 255 x.items b) (sym (ap (λ v. v.items) err)) (dropped 255 x.items b full)

pub returns : goal.returns
returns c =
    let e = c.try_push.ensures in
    let k = after c.try_push.result c.args.self.now.bytes c.try_push.new.self c.args.byte e.variant.0 e.ok e.err e.full in
    record { bytes = k.0; long = k.1 }
