use Rattle.aat_lookup.proofs.lookup.Lookup.of_rising_list.Goals as goal

pub invariant_of-result : goal.invariant_of-result
invariant_of-result g c = (c.requires, rw c.deref.ensures.value at c.in_ok-dense.ensures.answers)
