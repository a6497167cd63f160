use Rattle.std.proofs.Common.{List, ℕ, [], ◌∷◌, ◌++◌, ap, append_assoc, ◌∙◌}
use Rattle.std.proofs.lemmas.Result.{on_ok_weaker}
use Rattle.aat_write_machine.specs.Words.{long_bytes, word_bytes}
use Rattle.aat_write_machine.proofs.write.append_feature.Goals as goal

pub returns : goal.returns
returns c =
    let f = c.args.feature.now in
    let words = word_bytes (f.kind ∷ f.setting ∷ []) in
    let longs = long_bytes (f.enable_flags ∷ f.disable_flags ∷ []) in
    on_ok_weaker
    c.append_longs.result
    (λ made. made ∙ ap (λ (bs : List ℕ). bs ++ longs) c.in_ok-append_words.ensures ∙ append_assoc c.args.out.now.items words longs)
    c.append_longs.ensures
