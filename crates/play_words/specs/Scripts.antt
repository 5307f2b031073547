-- What each line makes of the script that was read so far. Assumes nothing.
use Rattle.std.specs.Prelude.{◌≡◌, ℕ, ◌⊎◌, List, [], ◌∷◌, ◌++◌, Some, None, vec_items, codes}
use Rattle.pile_words.specs.Spellings.{SpellsPile}
use Rattle.piles.specs.declared.shape.PileShape.{PileShape}
use Rattle.records.specs.declared.numbers.HouseNumber.{HouseNumber}
use Rattle.runner.specs.declared.script.Call.{Call}
use Rattle.words.specs.Spellings.{Writes}
use Rattle.play_words.specs.Markets.{market_word}
use Rattle.play_words.specs.Spellings.{SpellsCall}
use Rattle.play_words.specs.declared.script.MarketKind.{MarketKind}
use Rattle.play_words.specs.declared.script.Reader.{Reader}
use Rattle.play_words.specs.declared.script.Script.{Script}
use Rattle.play_words.specs.declared.script.Reader.TheVariants as reader

-- set up was not said, so there is no script yet
abbrev pub Unfinished : Reader → Type 0
Unfinished x = (s : Script) → x ≡ reader.Calls s → ⊥

-- the house, the market or the device is said, which was not before
abbrev pub SaysHouse : List ℕ → Reader → Reader → Type 0
SaysHouse w (reader.Setup x m p) y = (h : HouseNumber) × Writes w h.0 × (x ≡ None) × (y ≡ reader.Setup (Some h) m p)
SaysHouse w (reader.Calls s) y = ⊥

abbrev pub SaysMarket : List ℕ → Reader → Reader → Type 0
SaysMarket w (reader.Setup h x p) y = (m : MarketKind) × (w ≡ market_word m) × (x ≡ None) × (y ≡ reader.Setup h (Some m) p)
SaysMarket w (reader.Calls s) y = ⊥

abbrev pub SaysPile : List (List ℕ) → Reader → Reader → Type 0
SaysPile ws (reader.Setup h m x) y = (p : PileShape) × SpellsPile ws p [] × (x ≡ None) × (y ≡ reader.Setup h m (Some p))
SaysPile ws (reader.Calls s) y = ⊥

-- set up is said, once, where all three are: they begin the script, and no call does
abbrev pub SaysSetup : Reader → Reader → Type 0
SaysSetup x (reader.Calls s) = (x ≡ reader.Setup (Some s.house) (Some s.market) (Some s.pile)) × (vec_items s.calls ≡ [])
SaysSetup x (reader.Setup h m p) = ⊥

-- one call more, below the set up
abbrev pub Calls : List (List ℕ) → Reader → Reader → Type 0
Calls ws (reader.Calls s) (reader.Calls t) =
    (c : Call) × SpellsCall ws c × (vec_items t.calls ≡ vec_items s.calls ++ (c ∷ [])) × (t.house ≡ s.house) × (t.market ≡ s.market) × (t.pile ≡ s.pile)
Calls ws x y = ⊥

-- what a line that was taken made of the script
abbrev pub Took : List (List ℕ) → Reader → Reader → Type 0
Took ws x y =
    ((w : List ℕ) × (ws ≡ codes "house" ∷ (w ∷ [])) × SaysHouse w x y)
    ⊎ (((w : List ℕ) × (ws ≡ codes "market" ∷ (w ∷ [])) × SaysMarket w x y)
    ⊎ (((rest : List (List ℕ)) × (ws ≡ codes "device" ∷ rest) × SaysPile rest x y)
    ⊎ (((ws ≡ codes "setup" ∷ []) × SaysSetup x y)
    ⊎ Calls ws x y)))
