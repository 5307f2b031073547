use Rattle.std.proofs.Common.{◌≡◌, take, sym, ◌∙◌, rules}
use Rattle.console.proofs.Lines.{whole}
use Rattle.console.proofs.input.LineBuffer.text.Goals as goal

pub returns : goal.returns
returns c =
    let all : take 255 c.args.self.now.bytes.items ≡ c.args.self.now.bytes.items =
    whole 255 _ c.is_full.ensures.fits (sym c.is_full.ensures.value ∙ c.if-is_full.false) in
    search rules
