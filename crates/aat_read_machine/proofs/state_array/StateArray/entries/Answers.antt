use Rattle.std.proofs.Common.{ℕ, ◌+◌, ◌*◌, ◌≤◌, [], ◌∷◌, ◌++◌, sym, ap, ◌∙◌, zero-add, le_refl, arith}
use Rattle.std.proofs.lemmas.List.FromFn.{map-range_with_len_more}
use Rattle.std.proofs.lemmas.Nat.{mul-le}
use Rattle.aat_read_machine.specs.Entries.{entry_at}
use Rattle.aat_read_machine.specs.inside.OfRows.{entries_of}
use Rattle.aat_read_machine.proofs.state_array.StateArray.entries.Goals as goal

pub entry-requires-clause-inside : goal.entry-requires-clause-inside
entry-requires-clause-inside g c =
    let m = c.args.self.now in
    let i = c.loop-index.index in
    let more : m.entry_size * (i + 1) ≤ m.entry_size * c.args.count = mul-le m.entry_size (i + 1) m.entry_size c.args.count (le_refl m.entry_size) (omega arith) in
    omega (arith, more, c.requires.inside)

pub loop-index-preserved : goal.loop-index-preserved
loop-index-preserved g c =
    let m = c.args.self.now in
    let index = c.loop-index.index in
    c.in_ok-push.ensures.items
    ∙ ap (λ xs. xs ++ c.entry.result ∷ []) c.loop-index.invariant
    ∙ ap (λ e. entries_of g.T.EntryRead.extra_at m index ++ e ∷ []) c.entry.ensures
    ∙ sym (map-range_with_len_more (λ (i : ℕ). entry_at g.T.EntryRead.extra_at m.bytes (m.entries + m.entry_size * i)) 0 index index (zero-add index))
