-- The laws of the rearrangement act.
use Rattle.std.proofs.Common.{◌≡◌, ℕ, ◌+◌, ◌-◌, ◌<◌, ◌≤◌, ◌&&◌, min, List, ◌++◌, length, take, drop, refl, ◌∙◌, arith, length-append, length-take, length-drop}
use Rattle.std.proofs.lemmas.Bool.Decides.{nat_tests}
use Rattle.std.proofs.lemmas.List.{length-reverse}
use Rattle.std.specs.Prelude.{slice_range}
use Rattle.aat_buffer.specs.Buffer.{Buffer}
use Rattle.aat_buffer.specs.Marks.{merge_clusters}
use Rattle.aat_glyph.specs.declared.glyph.hb_glyph_info_t.{hb_glyph_info_t}
use Rattle.aat_machine_tables.specs.Entries.{has_flag}
use Rattle.aat_run.specs.Laws.{KeepsFit, PassesFit, FitsFresh, FitsWhereFresh, Pays, Bounded, Lengthens, KeepsLength, KeepsCursor, KeepsPositions, KeepsSettings, SameSettings}
use Rattle.aat_kinds.specs.declared.verb.Part.{Part}
use Rattle.aat_kinds.specs.declared.verb.Part.TheVariants.{Nothing, One, Two, TwoTurned}
use Rattle.aat_kinds.specs.declared.verb.Verb.{Verb}
use Rattle.aat_kinds.specs.Rearrangement.{Entry, Registers, IsFit, IsFresh, act, moved, rearranged, size_of, in_its_order, with_marks, is_within, verb_of, actionable, fresh}
use Rattle.aat_run.specs.facts.InPlace.{Keeps, KeepsAll, pays_in_place, bounded_in_place, lengthens_in_place}
use Rattle.aat_buffer.specs.facts.Cases.{chosen}
use Rattle.aat_buffer.specs.facts.Lines.{length_slice, length_of_span, length_merge, of_merge}

-- a part has as many glyphs as it is put down
pub length_put_down : {X : Type 0} (p : Part) (xs : List X) → length (in_its_order p xs) ≡ length xs
length_put_down Nothing xs = refl
length_put_down One xs = refl
length_put_down Two xs = refl
length_put_down TwoTurned xs = length-reverse xs

pub length_rearranged : {X : Type 0} (v : Verb) (xs : List X) → size_of v.front + size_of v.back ≤ length xs → length (rearranged v xs) ≡ length xs
unfolding rearranged
length_rearranged v xs room =
    let left = size_of v.front in
    let right = length xs - size_of v.back in
    let middle : length (slice_range xs left right) ≡ right - left = length_slice left right xs (omega arith) (omega arith) in
    let back : length (in_its_order v.back (drop right xs)) ≡ length xs - right = length_put_down v.back (drop right xs) ∙ length-drop right xs in
    let front : length (in_its_order v.front (take left xs)) ≡ min left (length xs) = length_put_down v.front (take left xs) ∙ length-take left xs in
    rw (length-append (in_its_order v.back (drop right xs)) (slice_range xs left right ++ in_its_order v.front (take left xs)), length-append (slice_range xs left right) (in_its_order v.front (take left xs)), middle, back, front) (omega arith)

-- a fact of the buffer that only the line changes
of_moved : {A : Type 0} (f : Buffer → A) (v : Verb) (r : Registers) (b : Buffer) → ((d : Buffer) (gs : List hb_glyph_info_t) → f (record d { line = gs }) ≡ f d) → f (moved v r b) ≡ f b
unfolding moved
of_moved f v r b same =
    let one = merge_clusters b r.start (min (b.cursor + 1) (length b.line)) in
    same (merge_clusters one r.start r.end) _ ∙ (of_merge f one r.start r.end (same one) ∙ of_merge f b r.start (min (b.cursor + 1) (length b.line)) (same b))

pub length_moved : (v : Verb) (r : Registers) (b : Buffer) → size_of v.front + size_of v.back ≤ r.end - r.start → r.start < r.end → r.end ≤ length b.line → length (moved v r b).line ≡ length b.line
unfolding moved
length_moved v r b room some within =
    let one = merge_clusters b r.start (min (b.cursor + 1) (length b.line)) in
    let two = merge_clusters one r.start r.end in
    let long : length two.line ≡ length b.line = length_merge one r.start r.end ∙ length_merge b r.start (min (b.cursor + 1) (length b.line)) in
    let inside : r.end ≤ length two.line = omega (arith, long) in
    let span : length (slice_range two.line r.start r.end) ≡ r.end - r.start = length_slice r.start r.end two.line (omega arith) inside in
    length_of_span (rearranged v) r.start r.end two.line (length_rearranged v _ (omega (arith, span))) (omega arith) inside ∙ long

pub fits_fresh : FitsFresh IsFit fresh
fits_fresh n = omega arith

pub fits_where_fresh : FitsWhereFresh IsFresh IsFit
fits_where_fresh r same n = rw same (fits_fresh n)

pub passes_fit : PassesFit IsFit
passes_fit r p n fit below = fit

module _ (bound : ℕ) where
  -- what both outcomes of an act have
  pub of_act : (P : Buffer → Type 0) (e : Entry) (r : Registers) (b : Buffer) → IsFit r b.cursor (length b.line) → P b
      → ((v : Verb) (s : Registers) → size_of v.front + size_of v.back ≤ s.end - s.start → s.start < s.end → s.end ≤ length b.line → P (moved v s b)) → P (act bound e r b).buffer
  unfolding act
  of_act P e r b fit same does =
      let s = with_marks e r b.cursor (length b.line) in
      let within : s.end ≤ length b.line = chosen (λ n. n ≤ length b.line) (has_flag e 0x2000) (min (b.cursor + 1) (length b.line)) r.end (λ _. omega arith) (λ _. fit) in
      chosen P (actionable e s b.cursor (length b.line) && is_within bound (verb_of e) s) (moved (verb_of e) s b) b
      (λ yes. does (verb_of e) s (grind (arith, nat_tests, yes)) (grind (arith, nat_tests, yes)) within) (λ _. same)

  pub keeps : KeepsAll (act bound) IsFit
  keeps e r b fit =
      of_act (Keeps (act bound) IsFit b) e r b fit (record { length = refl; cursor = refl; budget = refl })
      (λ v s room some within. record {
        length = length_moved v s b room some within;
        cursor = of_moved (λ (d : Buffer). d.cursor) v s b (λ d gs. refl);
        budget = of_moved (λ (d : Buffer). d.max_ops) v s b (λ d gs. refl);
      })

  pub keeps_fit : KeepsFit (act bound) IsFit
  unfolding act
  keeps_fit e r b fit below =
      let long = (keeps e r b fit).length in
      chosen (λ n. n ≤ length (act bound e r b).buffer.line) (has_flag e 0x2000) (min (b.cursor + 1) (length b.line)) r.end (λ _. omega (arith, long)) (λ _. omega (arith, long, fit))

  pub pays : Pays (act bound) IsFit
  pays = pays_in_place _ _ keeps

  pub bounded : Bounded (act bound) IsFit
  bounded = bounded_in_place _ _ keeps

  pub lengthens : Lengthens (act bound) IsFit
  lengthens = lengthens_in_place _ _ keeps

  pub keeps_length : KeepsLength (act bound) IsFit
  keeps_length e r b fit = (keeps e r b fit).length

  pub keeps_cursor : KeepsCursor (act bound) IsFit
  keeps_cursor e r b fit = (keeps e r b fit).cursor

  pub keeps_positions : KeepsPositions (act bound) IsFit
  keeps_positions e r b fit = of_act (λ d. d.positions ≡ b.positions) e r b fit refl (λ v s room some within. of_moved (λ (d : Buffer). d.positions) v s b (λ d gs. refl))

  pub keeps_settings : KeepsSettings (act bound) IsFit
  keeps_settings e r b fit =
      of_act (SameSettings b) e r b fit (record { direction = refl; cluster_level = refl; flags = refl; scratch_flags = refl; max_len = refl; successful = refl })
      (λ v s room some within. record {
        direction = of_moved (λ (d : Buffer). d.direction) v s b (λ d gs. refl);
        cluster_level = of_moved (λ (d : Buffer). d.cluster_level) v s b (λ d gs. refl);
        flags = of_moved (λ (d : Buffer). d.flags) v s b (λ d gs. refl);
        scratch_flags = of_moved (λ (d : Buffer). d.scratch_flags) v s b (λ d gs. refl);
        max_len = of_moved (λ (d : Buffer). d.max_len) v s b (λ d gs. refl);
        successful = of_moved (λ (d : Buffer). d.successful) v s b (λ d gs. refl);
      })
