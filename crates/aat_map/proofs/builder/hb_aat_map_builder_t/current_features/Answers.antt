use Rattle.aat_map.proofs.builder.hb_aat_map_builder_t.current_features.Goals as goal

pub returns-clause-rising : goal.returns-clause-rising
returns-clause-rising g c = rw c.deref.ensures.value c.self.invariant.1
