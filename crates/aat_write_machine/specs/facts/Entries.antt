-- What is written of an entry is read again, for each kind of machine.
use Rattle.std.proofs.Common.{◌≡◌, ℕ, ◌+◌, ◌*◌, List, refl, ap, ◌∙◌, arith}
use Rattle.aat_bytes.specs.Numbers.{be16}
use Rattle.aat_machine_tables.specs.declared.entries.ContextualEntryData.{ContextualEntryData}
use Rattle.aat_machine_tables.specs.declared.entries.InsertionEntryData.{InsertionEntryData}
use Rattle.aat_read_machine.specs.Entries.{contextual_at, insertion_at}
use Rattle.aat_write_machine.specs.EntryLaws.{HasSize, ReadsAgain}
use Rattle.aat_write_machine.specs.EntryWords.{contextual_words, insertion_words, no_words, one_word}

pub nothing_has_size : HasSize 0 no_words
nothing_has_size x = refl

pub nothing_reads_again : ReadsAgain (λ _ _. tt) no_words
nothing_reads_again bytes place x each = refl

pub number_has_size : HasSize 2 one_word
number_has_size x = refl

first_place : (bytes : List ℕ) (place : ℕ) → be16 bytes place ≡ be16 bytes (place + 2 * 0)
first_place bytes place = let same : place ≡ place + 2 * 0 = omega arith in ap (be16 bytes) same

second_place : (bytes : List ℕ) (place : ℕ) → be16 bytes (place + 2) ≡ be16 bytes (place + 2 * 1)
second_place bytes place = let same : place + 2 ≡ place + 2 * 1 = omega arith in ap (be16 bytes) same

pub number_reads_again : ReadsAgain be16 one_word
number_reads_again bytes place x each = first_place bytes place ∙ each 0 (omega arith)

pub contextual_has_size : HasSize 4 contextual_words
contextual_has_size x = refl

pub contextual_reads_again : ReadsAgain contextual_at contextual_words
contextual_reads_again bytes place x each =
    let mark : be16 bytes place ≡ x.mark_index = first_place bytes place ∙ each 0 (omega arith) in
    let current : be16 bytes (place + 2) ≡ x.current_index = second_place bytes place ∙ each 1 (omega arith) in
    let of_mark : ℕ → ContextualEntryData = λ m. record { mark_index = m; current_index = be16 bytes (place + 2) } in
    let of_current : ℕ → ContextualEntryData = λ c. record { mark_index = x.mark_index; current_index = c } in
    ap of_mark mark ∙ ap of_current current

pub insertion_has_size : HasSize 4 insertion_words
insertion_has_size x = refl

pub insertion_reads_again : ReadsAgain insertion_at insertion_words
insertion_reads_again bytes place x each =
    let current : be16 bytes place ≡ x.current_insert_index = first_place bytes place ∙ each 0 (omega arith) in
    let marked : be16 bytes (place + 2) ≡ x.marked_insert_index = second_place bytes place ∙ each 1 (omega arith) in
    let of_current : ℕ → InsertionEntryData =
    λ c. record { current_insert_index = c; marked_insert_index = be16 bytes (place + 2) } in
    let of_marked : ℕ → InsertionEntryData =
    λ m. record { current_insert_index = x.current_insert_index; marked_insert_index = m } in
    ap of_current current ∙ ap of_marked marked
