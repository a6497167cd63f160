use Rattle.std.proofs.Common.{rules, ◌+◌, [], ◌∷◌, ◌++◌, length, sym, ap, ◌∙◌, arith}
use Rattle.std.specs.List.{filter_map}
use Rattle.std.proofs.lemmas.List.{length-append}
use Rattle.std.proofs.lemmas.List.Elements.{filter_map-append}
use Rattle.aat_read_machine.specs.Within.{RefusesWithin}
use Rattle.aat_read_machine.specs.facts.Turns.{fails, goes_on, refuses, starts}
use Rattle.aat_read_extended.specs.kerx.KerxSubtables.{KerxStart, subtable_at}
use Rattle.aat_read_extended.specs.kerx.KerxTables.{first_subtable, kerning_of, left_out_of, value_of_subtables}
use Rattle.aat_read_extended.proofs.kerx.ReadSubtables.{filter_map_short, refused_value}
use Rattle.aat_read_extended.proofs.kerx.table.subtables.Goals as goal

pub loop-number-init : goal.loop-number-init
loop-number-init c =
    let f = subtable_at c.args.bytes.now c.args.glyph_count c.args.count in
    ([], starts f c.args.count first_subtable, c.new-kerning.ensures.items, c.new-left_out.ensures.items, omega arith, c.requires)

pub loop-number-preserved : goal.loop-number-preserved
loop-number-preserved c =
    let f = subtable_at c.args.bytes.now c.args.glyph_count c.args.count in
    let inv = c.loop-number.invariant in
    let reads = inv.0 in
    let read = c.in_ok-read.read in
    let here : KerxStart = record { place = c.loop-number.place; number = c.loop-number.number } in
    let next : KerxStart = record { place = c.in_ok-read.end; number = c.loop-number.number + 1 } in
    let long = inv.4 in
    let more = length-append reads (read ∷ []) in (
      reads ++ read ∷ [],
      inv.1 ∙ goes_on f c.args.count reads c.loop-number.number here next read c.loop-number-test.true c.in_ok-read.ensures.gives,
      c.in_ok-keep.ensures.kerning ∙ ap (λ xs. xs ++ filter_map kerning_of (read ∷ [])) inv.2
          ∙ sym (filter_map-append kerning_of reads (read ∷ [])),
      c.in_ok-keep.ensures.left_out ∙ ap (λ xs. xs ++ filter_map left_out_of (read ∷ [])) inv.3
          ∙ sym (filter_map-append left_out_of reads (read ∷ [])),
      omega (arith, long, more),
      c.in_ok-read.ensures.inside,
    )

pub returns-in_err-read-clause-gives : goal.returns-in_err-read-clause-gives
returns-in_err-read-clause-gives c =
    let f = subtable_at c.args.bytes.now c.args.glyph_count c.args.count in
    let inv = c.loop-number.invariant in
    let here : KerxStart = record { place = c.loop-number.place; number = c.loop-number.number } in
    let all = value_of_subtables c.args.bytes.now c.args.glyph_count c.args.count in
    let refuse : RefusesWithin all c.in_err-read.field-0.0 =
    refuses (f here) all c.in_err-read.field-0.0
    (λ fault is. refused_value c.args.bytes.now c.args.glyph_count c.args.count fault
    (inv.1 ∙ fails f c.args.count inv.0 c.loop-number.number here fault c.loop-number-test.true is))
    c.in_err-read.ensures.gives
    in
    search rules

pub returns-clause-few : goal.returns-clause-few
returns-clause-few c =
    let inv = c.loop-number.invariant in
    let kept = c.loop-number.kerning.ok.0 in
    let same = ap length inv.2 in
    let short = filter_map_short kerning_of inv.0 in
    let few = inv.4 in
    omega (arith, kept, same, short, few, c.loop-number.auto)
