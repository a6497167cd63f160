use Rattle.std.proofs.Common.{rules, ◌≡◌, ℕ, ◌+◌, ◌-◌, [], ◌∷◌, ◌++◌, length, Ok, sym, ap, ◌∙◌, arith}
use Rattle.std.specs.List.{filter_map}
use Rattle.std.proofs.lemmas.List.{length-append}
use Rattle.std.proofs.lemmas.List.Elements.{filter_map-append}
use Rattle.aat_read_kern.specs.Kern.{KernStart, first_start, kerning_of, left_out_of, subtable_at, value_of_subtables}
use Rattle.aat_read_machine.specs.Within.{RefusesWithin}
use Rattle.aat_read_machine.specs.facts.Turns.{behind, fails, goes_on, refuses, starts}
use Rattle.aat_read_kern.proofs.ReadSubtables.{filter_map_short, refused_value}
use Rattle.aat_read_kern.proofs.kern.subtables.Goals as goal

pub loop-number-init : goal.loop-number-init
loop-number-init c =
    let list = c.args.list in
    let f = subtable_at c.args.bytes.now list in
    let begin : ℕ → KernStart = λ n. record { place = list.place; left = n } in
    let whole : list.count ≡ list.count - 0 = omega arith in (
      [],
      starts f list.count (first_start list) ∙ ap (λ n. behind f list.count [] 0 (begin n)) whole,
      c.new-kerning.ensures.items,
      c.new-left_out.ensures.items,
      omega arith,
      c.requires,
    )

pub loop-number-preserved : goal.loop-number-preserved
loop-number-preserved c =
    let list = c.args.list in
    let f = subtable_at c.args.bytes.now list in
    let inv = c.loop-number.invariant in
    let reads = inv.0 in
    let read = c.in_ok-read.read in
    let i = c.loop-number.number in
    let here : KernStart = record { place = c.loop-number.place; left = list.count - i } in
    let next : KernStart = record { place = c.in_ok-read.end; left = list.count - i - 1 } in
    let behind_it : KernStart = record { place = c.in_ok-read.end; left = list.count - (i + 1) } in
    let fewer : list.count - i - 1 ≡ list.count - (i + 1) = omega arith in
    let same : next ≡ behind_it = ap (λ n. record { place = c.in_ok-read.end; left = n }) fewer in
    let is : f here ≡ Ok (read, behind_it) = rw (← same) c.in_ok-read.ensures.gives in
    let long = inv.4 in
    let more = length-append reads (read ∷ []) in (
      reads ++ read ∷ [],
      inv.1 ∙ goes_on f list.count reads i here behind_it read c.loop-number-test.true is,
      c.in_ok-keep.ensures.kerning ∙ ap (λ xs. xs ++ filter_map kerning_of (read ∷ [])) inv.2
          ∙ sym (filter_map-append kerning_of reads (read ∷ [])),
      c.in_ok-keep.ensures.left_out ∙ ap (λ xs. xs ++ filter_map left_out_of (read ∷ [])) inv.3
          ∙ sym (filter_map-append left_out_of reads (read ∷ [])),
      omega (arith, long, more),
      c.in_ok-read.ensures.inside,
    )

pub returns-in_err-read-clause-gives : goal.returns-in_err-read-clause-gives
returns-in_err-read-clause-gives c =
    let list = c.args.list in
    let f = subtable_at c.args.bytes.now list in
    let inv = c.loop-number.invariant in
    let here : KernStart = record { place = c.loop-number.place; left = list.count - c.loop-number.number } in
    let all = value_of_subtables c.args.bytes.now list in
    let refuse : RefusesWithin all c.in_err-read.field-0.0 =
    refuses (f here) all c.in_err-read.field-0.0
    (λ fault is. refused_value c.args.bytes.now list fault
    (inv.1 ∙ fails f list.count inv.0 c.loop-number.number here fault c.loop-number-test.true is))
    c.in_err-read.ensures.gives
    in
    search rules

pub returns-clause-few : goal.returns-clause-few
returns-clause-few c =
    let inv = c.loop-number.invariant in
    let kept = c.loop-number.kerning.ok.0 in
    let same = ap length inv.2 in
    let short = filter_map_short kerning_of inv.0 in
    let few = inv.4 in
    omega (arith, kept, same, short, few, c.loop-number.auto)
