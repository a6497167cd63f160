-- How a subtable kerns is read again.
use Rattle.std.proofs.Common.{◌≡◌, ℕ, ◌+◌, ◌<◌, ◌≤◌, ◌^◌, List, [], ◌++◌, length, map, Ok, refl, sym, ap, ◌∙◌, subst, arith}
use Rattle.std.specs.Prelude.{nat_lt}
use Rattle.std.specs.List.{range_with_len}
use Rattle.std.proofs.lemmas.Bool.{ltb-false}
use Rattle.std.proofs.lemmas.List.{append-nil}
use Rattle.aat_kerning_tables.specs.declared.kern.KernKind.{KernKind}
use Rattle.aat_kerning_tables.specs.declared.kern.KernKind.TheVariants.{Classes, Machine, Pairs}
use Rattle.aat_read_kern.specs.Kern.{as_kind, kern_kind_at}
use Rattle.aat_kerning_tables.specs.Classes.{ClassValues}
use Rattle.aat_kerning_tables.specs.KerningTables.{KernMachineTables}
use Rattle.aat_read_kern.specs.KernMachines.{kern_machine_at}
use Rattle.aat_read_pairs.specs.KernClasses.{kern_classes_at}
use Rattle.aat_read_pairs.specs.ListedPairs.{kern_pairs_at}
use Rattle.aat_write_machine.specs.Words.{word_bytes}
use Rattle.aat_write_machine.specs.facts.WordPlaces.{length_words}
use Rattle.aat_write_truetype.specs.kern.ClassBytes.{classes_refusal, classes_words, classes_written}
use Rattle.aat_write_truetype.specs.kern.KernBytes.{format_number, kind_written}
use Rattle.aat_write_truetype.specs.kern.KernLaws.{AreByClasses, ArePairs, IsKernMachine, IsKind}
use Rattle.aat_write_truetype.specs.kern.MachineBytes.{entries_words, header_words, machine_bytes, machine_refusal, machine_written}
use Rattle.aat_write_truetype.specs.kern.PairBytes.{pair_words, pairs_words, pairs_written}
use Rattle.aat_write_truetype.specs.declared.kern.error.KernWriteError.TheVariants.{TooManyPairs}
use Rattle.aat_write_truetype.proofs.kern.Chunks.{chunks_long}
use Rattle.aat_write_truetype.proofs.kern.ClassFacts.{are_fit}
use Rattle.aat_write_truetype.proofs.kern.ClassesAgain.{read_whole, words_are}
use Rattle.aat_write_truetype.proofs.kern.MachineAgain.{bytes_long, machine_is_read}
use Rattle.aat_write_truetype.proofs.kern.Opened.{not_chosen, not_refused}
use Rattle.aat_write_truetype.proofs.kern.PairsAgain.{pairs_are_read}
use Rattle.aat_write_truetype.proofs.kern.Readers.{Apple}
use Rattle.aat_write_truetype.proofs.kern.RuleFacts.{are_whole}

-- pairs behind a front
pairs_again :
    (pairs : List _) (body front : List ℕ) → pairs_written pairs ≡ Ok body → ArePairs pairs
    → kern_pairs_at (front ++ body) (length front) ≡ Ok pairs
pairs_again pairs body front is small =
    let made = not_chosen (nat_lt 65535 (length pairs)) TooManyPairs (word_bytes (pairs_words pairs)) body is in
    let few : length pairs ≤ 65535 = ltb-false 65535 (length pairs) made.0 in
    let bytes : List ℕ = word_bytes (pairs_words pairs) in
    subst (λ (b : List ℕ). kern_pairs_at (front ++ b) (length front) ≡ Ok pairs) (append-nil bytes ∙ made.1)
    (pairs_are_read pairs front [] small few)

pairs_short : (pairs : List _) (body : List ℕ) → pairs_written pairs ≡ Ok body → length body < 2 ^ 31 + 2 ^ 16
pairs_short pairs body is =
    let made = not_chosen (nat_lt 65535 (length pairs)) TooManyPairs (word_bytes (pairs_words pairs)) body is in
    let few : length pairs ≤ 65535 = ltb-false 65535 (length pairs) made.0 in
    omega (arith, few, ap length made.1, length_words (pairs_words pairs), chunks_long pair_words 3 (λ p. refl) pairs)

-- pairs by classes behind a front
classes_again :
    (p : ClassValues) (body front : List ℕ) (place : ℕ) → classes_written p ≡ Ok body → AreByClasses p
    → length front ≡ place + 8 → kern_classes_at (front ++ body) place (place + 8) ≡ Ok p
classes_again p body front place is small long =
    let bytes : List ℕ = word_bytes (classes_words p) in
    let made = not_refused (classes_refusal p) bytes body is in
    subst (λ (b : List ℕ). kern_classes_at (front ++ b) place (place + 8) ≡ Ok p) (append-nil bytes ∙ made.1)
    (read_whole p front place (are_fit p made.0) small long)

classes_short : (p : ClassValues) (body : List ℕ) → classes_written p ≡ Ok body → length body < 2 ^ 31 + 2 ^ 16
classes_short p body is =
    let bytes : List ℕ = word_bytes (classes_words p) in
    let made = not_refused (classes_refusal p) bytes body is in
    let fit = are_fit p made.0 in
    let few = fit.few in
    let near = fit.near in
    omega (arith, few, near, ap length made.1, length_words (classes_words p), words_are p)

-- a machine behind a front
machine_again :
    (t : KernMachineTables) (body front : List ℕ) → machine_written t ≡ Ok body → IsKernMachine t
    → kern_machine_at (front ++ body) (length front) ≡ Ok t
machine_again t body front is small =
    let made = not_refused (machine_refusal t) (machine_bytes t) body is in
    let header : List ℕ = word_bytes (header_words t) in
    let classes : List ℕ = map (λ pair. pair.1) t.state_table.classes in
    let indexes : List ℕ = range_with_len 0 (length t.state_table.rules) in
    let last : List ℕ = word_bytes (entries_words t) in
    let fit = are_whole t.state_table.class_count t.state_table.classes t.state_table.rules (length t.values) made.0 in
    let read : kern_machine_at (front ++ machine_bytes t) (length front) ≡ Ok t =
    subst (λ (b : List ℕ). kern_machine_at (front ++ (header ++ (classes ++ (indexes ++ b)))) (length front) ≡ Ok t) (append-nil last)
    (machine_is_read t front small fit) in
    subst (λ (b : List ℕ). kern_machine_at (front ++ b) (length front) ≡ Ok t) made.1 read

machine_short : (t : KernMachineTables) (body : List ℕ) → machine_written t ≡ Ok body → length body < 2 ^ 31 + 2 ^ 16
machine_short t body is =
    let made = not_refused (machine_refusal t) (machine_bytes t) body is in
    let fit = are_whole t.state_table.class_count t.state_table.classes t.state_table.rules (length t.values) made.0 in
    let near = fit.near in
    let few = fit.count in
    omega (arith, near, few, ap length made.1, bytes_long t)

-- each kind at the place of its subtable, of which a front has the header
pub kind_is_read :
    (kind : KernKind) (body front : List ℕ) (place : ℕ)
    → kind_written kind ≡ Ok body → IsKind kind → length front ≡ place + 8
    → kern_kind_at (front ++ body) Apple place (format_number kind) ≡ Ok kind
unfolding kern_kind_at
kind_is_read (Pairs pairs) body front place is small long =
    ap (λ n. as_kind Pairs (kern_pairs_at (front ++ body) n)) (sym long)
    ∙ ap (as_kind Pairs) (pairs_again pairs body front is small)
kind_is_read (Machine machine) body front place is small long =
    ap (λ n. as_kind Machine (kern_machine_at (front ++ body) n)) (sym long)
    ∙ ap (as_kind Machine) (machine_again machine body front is small)
kind_is_read (Classes pairs) body front place is small long = ap (as_kind Classes) (classes_again pairs body front place is small long)

-- no kind has more bytes than a length can say
pub kind_is_short : (kind : KernKind) (body : List ℕ) → kind_written kind ≡ Ok body → length body < 2 ^ 31 + 2 ^ 16
kind_is_short (Pairs pairs) body is = pairs_short pairs body is
kind_is_short (Machine machine) body is = machine_short machine body is
kind_is_short (Classes pairs) body is = classes_short pairs body is
