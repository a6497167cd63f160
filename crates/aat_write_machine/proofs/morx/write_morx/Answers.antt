use Rattle.std.proofs.Common.{rules, ◌≡◌, ℕ, List, map, Result, Ok, sym, ap, ◌∙◌, subst}
use Rattle.aat_machine_tables.specs.declared.morx.Chain.{Chain}
use Rattle.aat_read_extended.specs.morx.Chains.{value_of_chain, values_of_morx}
use Rattle.aat_write_machine.specs.ChainBytes.{chains_written}
use Rattle.aat_write_machine.specs.ChainWriteErrors.{RefusesWithin, WritesWithin, error_of_subtable}
use Rattle.aat_write_machine.specs.MorxBytes.{chain_content, contents_written, each_written, morx_written}
use Rattle.aat_write_machine.specs.declared.chain_error.ChainWriteError.{ChainWriteError}
use Rattle.aat_write_machine.proofs.EachWritten.{each_made}
use Rattle.aat_write_machine.proofs.ChainRefusals.{refused, within}
use Rattle.aat_write_machine.proofs.morx.write_morx.Goals as goal

pub returns-in_err-contents : goal.returns-in_err-contents
returns-in_err-contents c =
    let e = c.in_err-contents.field-0.0 in
    let refuses : RefusesWithin (morx_written (values_of_morx c.args.morx.now)) (error_of_subtable e) =
    subst (λ (chains : List Chain). RefusesWithin (morx_written (map value_of_chain chains)) (error_of_subtable e))
    c.chains.ensures.chains (refused c.chains.result.now e c.in_err-contents.ensures) in
    search rules

pub returns : goal.returns
returns c =
    let contents = c.deref.result.now in
    let made : each_written chain_content (map value_of_chain c.chains.result.now) ≡ Ok c.in_ok-contents.contents.items =
    each_made value_of_chain chain_content c.chains.result.now ∙ c.in_ok-contents.ensures in
    let written : morx_written (values_of_morx c.args.morx.now) ≡ chains_written contents =
    ap (λ (chains : List Chain). morx_written (map value_of_chain chains)) (sym c.chains.ensures.chains)
    ∙ ap contents_written made
    ∙ ap chains_written (sym c.deref.ensures.value) in
    subst (λ (w : Result (List ℕ) ChainWriteError). WritesWithin c.write_chains.result w) (sym written)
    (within c.write_chains.result (chains_written contents) c.write_chains.ensures)
