use Rattle.std.proofs.Common.{rules, length, subst, le_refl}
use Rattle.std.proofs.lemmas.List.{take_all}
use Rattle.std.specs.Io.KnownBytes.{Consumes}
use Rattle.std.specs.Io.BufRead.{FillKeeps}
use Rattle.console.proofs.Pieces.{none-found}
use Rattle.console.proofs.Going.{shown-taken}
use Rattle.console.proofs.input.lines.take_piece.Goals as goal

pub returns-in-None : goal.returns-in-None
returns-in-None g c =
    let bytes = c.in_ok-bytes.bytes.now in
    let rested = c.fill_buf.follows.lender-at-none in
    let filled = subst (FillKeeps _ (g.R.Read.remaining rested) (g.R.BufRead.consumable_len rested)) c.in_ok-bytes.was c.fill_buf.follows.holds-at-none in
    let taken = shown-taken _ _ _ _ bytes (length bytes) (le_refl _) c.in_ok-bytes.ensures.front filled.0 filled.1 c.consume.ensures.bytes in
    (bytes, search rules, none-found bytes (search rules), c.extend.ensures, subst (Consumes _ _) (take_all (length bytes) bytes (le_refl _)) taken)
