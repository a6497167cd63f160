use Rattle.std.proofs.Common.{◌≡◌, length, rules}
use Rattle.aat_characters.proofs.KeptTexts.{kept_more}
use Rattle.aat_characters.proofs.kept.KnownWritings.keep.Goals as goal

pub returns : goal.returns
returns c =
    let known = c.args.self.now in
    let n : length known.characters ≡ 128 = search rules in
    let m : length known.writings ≡ 128 = search rules in
    λ has is all. kept_more has known c.args.at c.args.character c.args.writing c.requires n m is all
