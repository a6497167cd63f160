-- The drawing of a glyph, step by step.
use Rattle.std.proofs.Common.{◌≡◌, ◌≢◌, ◌∙◌, ap, refl, sym, ℕ, zero, suc, ◌+◌, ◌-◌, ◌<◌, ◌≤◌, List, [], ◌∷◌, length, get_or, drop, drop-cons, Option, Some, None, Result, Ok, Err, add-one, arith}
use Rattle.std.proofs.lemmas.List.{drop_all}
use Rattle.aat_bytes.specs.Faults.{after}
use Rattle.aat_bytes.specs.declared.error.Fault.{Fault}
use Rattle.aat_read_outlines.specs.Components.{components_from}
use Rattle.aat_read_outlines.specs.Composites.{Drawing, drawn_at, drawn_or, drawn_with, joined, plain_outline}
use Rattle.aat_read_outlines.specs.Glyphs.{GlyphBytes}
use Rattle.aat_read_outlines.specs.Offsets.{OutlineTables, glyph_bytes}
use Rattle.aat_read_outlines.specs.Outlines.{PointLists, no_points}
use Rattle.aat_read_outlines.specs.declared.components.Component.{Component}

-- what is drawn of the bytes of a composite glyph
abbrev of_components : OutlineTables → ℕ → ℕ → GlyphBytes → Result Drawing Fault
of_components tables depth left bytes =
    after (components_from bytes 10 left) (λ components.
    drawn_with (drawn_at tables depth) components (record {
      outline = no_points;
      left = left - length components;
    }))

flat : (tables : OutlineTables) (left glyph : ℕ)
    → drawn_at tables 0 left glyph ≡ drawn_or tables left glyph (λ bytes. Ok (record { outline = no_points; left = left }))
unfolding drawn_at
flat tables left glyph = refl

deep : (tables : OutlineTables) (depth left glyph : ℕ)
    → drawn_at tables (suc depth) left glyph ≡ drawn_or tables left glyph (of_components tables depth left)
unfolding drawn_at
deep tables depth left glyph = refl

-- each drawing is one of bytes
composed : (tables : OutlineTables) (depth left glyph : ℕ)
    → (composite : GlyphBytes → Result Drawing Fault)
    × (drawn_at tables depth left glyph ≡ drawn_or tables left glyph composite)
composed tables zero left glyph = (λ bytes. Ok (record { outline = no_points; left = left }), flat tables left glyph)
composed tables (suc depth) left glyph = (of_components tables depth left, deep tables depth left glyph)

abbrev by_plain : ℕ → (GlyphBytes → Result Drawing Fault) → GlyphBytes → Option PointLists → Result Drawing Fault
by_plain left composite bytes plain = elim plain [
  | Some outline ↦ Ok (record { outline = outline; left = left })
  | None ↦ composite bytes
]

module _ (tables : OutlineTables) (depth left glyph : ℕ) where
  pub no_bytes : (fault : Fault) → glyph_bytes tables glyph ≡ Err fault → drawn_at tables depth left glyph ≡ Err fault
  no_bytes fault missing =
      let is = composed tables depth left glyph in
      is.1 ∙ ap (λ r. after r (λ bytes. after (plain_outline bytes) (by_plain left is.0 bytes))) missing

  module _ (bytes : GlyphBytes) (there : glyph_bytes tables glyph ≡ Ok bytes) where
    read : (composite : GlyphBytes → Result Drawing Fault)
        → drawn_or tables left glyph composite ≡ after (plain_outline bytes) (by_plain left composite bytes)
    read composite = ap (λ r. after r (λ b. after (plain_outline b) (by_plain left composite b))) there

    pub no_outline :
        (fault : Fault) → plain_outline bytes ≡ Err fault → drawn_at tables depth left glyph ≡ Err fault
    no_outline fault missing =
        let is = composed tables depth left glyph in
        is.1 ∙ read is.0 ∙ ap (λ r. after r (by_plain left is.0 bytes)) missing

    pub plain :
        (outline : PointLists)
        → plain_outline bytes ≡ Ok (Some outline)
        → drawn_at tables depth left glyph ≡ Ok (record { outline = outline; left = left })
    plain outline found =
        let is = composed tables depth left glyph in
        is.1 ∙ read is.0 ∙ ap (λ r. after r (by_plain left is.0 bytes)) found

    module _ (composite : plain_outline bytes ≡ Ok None) where
      pub too_deep : depth ≡ 0 → drawn_at tables depth left glyph ≡ Ok (record { outline = no_points; left = left })
      too_deep end =
          let none : GlyphBytes → Result Drawing Fault = λ b. Ok (record { outline = no_points; left = left }) in
          ap (λ d. drawn_at tables d left glyph) end
          ∙ flat tables left glyph
          ∙ read none
          ∙ ap (λ r. after r (by_plain left none bytes)) composite

      within : depth ≢ 0 → drawn_at tables depth left glyph ≡ of_components tables (depth - 1) left bytes
      within some =
          let d = depth - 1 in
          let same : depth ≡ suc d = omega (arith, some) in
          ap (λ k. drawn_at tables k left glyph) same
          ∙ deep tables d left glyph
          ∙ read (of_components tables d left)
          ∙ ap (λ r. after r (by_plain left (of_components tables d left) bytes)) composite

      pub no_components :
          depth ≢ 0
          → (fault : Fault) → components_from bytes 10 left ≡ Err fault → drawn_at tables depth left glyph ≡ Err fault
      no_components some fault missing =
          within some
          ∙ ap (λ r. after r (λ components. drawn_with (drawn_at tables (depth - 1)) components (record { outline = no_points; left = left - length components }))) missing

      pub drawn :
          depth ≢ 0
          → (components : List Component)
          → components_from bytes 10 left ≡ Ok components
          → drawn_with (drawn_at tables (depth - 1)) components (record { outline = no_points; left = left - length components })
          ≡ drawn_at tables depth left glyph
      drawn some components found =
          sym (
          within some
          ∙ ap (λ r. after r (λ cs. drawn_with (drawn_at tables (depth - 1)) cs (record { outline = no_points; left = left - length cs }))) found
          )

-- the drawing that a loop begins with
pub begun :
    (draw : ℕ → ℕ → Result Drawing Fault) (components : List Component) (outline : PointLists) (some unused : ℕ)
    (all : Result Drawing Fault)
    → drawn_with draw components (record { outline = no_points; left = some }) ≡ all
    → outline ≡ no_points
    → unused ≡ some
    → drawn_with draw (drop 0 components) (record { outline = outline; left = unused }) ≡ all
begun draw components outline some unused all is empty same =
    ap (λ (o : PointLists). drawn_with draw components (record { outline = o; left = unused })) empty
    ∙ ap (λ n. drawn_with draw components (record { outline = no_points; left = n })) same
    ∙ is

-- one component of a list
module _ (draw : ℕ → ℕ → Result Drawing Fault) (components : List Component) (i : ℕ) (drawing : Drawing)
    (all : Result Drawing Fault) (was : drawn_with draw (drop i components) drawing ≡ all) where
  pub no_more : length components ≤ i → all ≡ Ok drawing
  no_more past = sym was ∙ ap (λ cs. drawn_with draw cs drawing) (drop_all i components past)

  module _ (below : i < length components) (d : Component) where
    abbrev component : Component
    component = get_or components i d

    abbrev next : Drawing → Result Drawing Fault
    next inner =
        drawn_with draw (drop (i + 1) components) (record {
          outline = joined drawing.outline component inner.outline;
          left = inner.left;
        })

    left : drop i components ≡ component ∷ drop (i + 1) components
    left =
        let place : suc i ≡ i + 1 = omega arith in
        drop-cons components i d below ∙ ap (λ k. component ∷ drop k components) place

    now : after (draw drawing.left component.glyph) next ≡ all
    now = sym (ap (λ cs. drawn_with draw cs drawing) left) ∙ was

    pub not_drawn : (fault : Fault) → draw drawing.left component.glyph ≡ Err fault → all ≡ Err fault
    not_drawn fault missing = sym now ∙ ap (λ r. after r next) missing

    pub one_drawn :
        (inner : Drawing) (outline : PointLists)
        → draw drawing.left component.glyph ≡ Ok inner
        → outline ≡ joined drawing.outline component inner.outline
        → drawn_with draw (drop (i + 1) components) (record { outline = outline; left = inner.left }) ≡ all
    one_drawn inner outline found made =
        ap (λ (o : PointLists). drawn_with draw (drop (i + 1) components) (record { outline = o; left = inner.left })) made
        ∙ sym (ap (λ r. after r next) found)
        ∙ now
