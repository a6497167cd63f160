-- Runs that keep parts: over the line turned round, one after another, and where all glyphs are attached.
use Rattle.std.proofs.Common.{◌≡◌, ◌∙◌, ℕ, ℤ, ◌+◌, ◌-◌, true, List, [], ◌∷◌, ◌++◌, length, map, reverse, Option, Some, None, option_map, refl, ap, sym, subst, arith, length-append}
use Rattle.std.proofs.lemmas.Bool.{and_parts}
use Rattle.std.proofs.lemmas.List.{length-map, length-reverse, map-append, reverse-append}
use Rattle.std.specs.List.{AllByRecursion}
use Rattle.std.specs.Prelude.{unwrap_or}
use Rattle.aat_buffer.specs.Buffer.{Buffer, position_list, reversed}
use Rattle.aat_glyph.specs.declared.glyph.GlyphPosition.{GlyphPosition}
use Rattle.aat_kerning_machines.specs.Positions.{attached_as, on_positions}
use Rattle.aat_cut_kinds.specs.KerningCuts.{KeepsParts, KernedRun, RunsKeepParts, RunsLeavePlacesInParts, StandIn, attaching, kerned_by_all, seen_of, turned}
use Rattle.aat_cut_kinds.specs.facts.AnchorParts.{anchors_keep_parts}
use Rattle.aat_cut_kinds.specs.facts.KerningParts.{keeps_those_of_line}
use Rattle.aat_cut_kinds.specs.facts.StackParts.{kern_keeps_parts, kerx_keeps_parts}

pub map_reverse : {X Y : Type 0} (f : X → Y) (xs : List X) → map f (reverse xs) ≡ reverse (map f xs)
map_reverse f [] = refl
map_reverse f (x ∷ xs) =
    ap (map f) (reverse-append (x ∷ []) xs)
    ∙ (map-append f (reverse xs) (x ∷ [])
    ∙ (ap (λ t. t ++ f x ∷ []) (map_reverse f xs) ∙ sym (reverse-append (f x ∷ []) (map f xs))))

-- the list of positions that are changed together
list_of : (f : List GlyphPosition → List GlyphPosition) → f [] ≡ [] → (o : Option (List GlyphPosition)) → unwrap_or (option_map f o) [] ≡ f (unwrap_or o [])
list_of f none None = sym none
list_of f none (Some ps) = refl

turned_list : (b : Buffer) → position_list (reversed b) ≡ reverse (position_list b)
turned_list b = list_of reverse refl b.positions

-- parts of the line turned round
pub stand_turned : (kern_mask q : ℕ) (w f g : Buffer) → StandIn kern_mask q w f g → StandIn kern_mask (length g.line) (reversed w) (reversed g) (reversed f)
stand_turned kern_mask q w f g h = record {
  front_direction = h.back_direction;
  back_direction = h.front_direction;
  front_length = length-reverse g.line;
  glyphs = (let s = seen_of kern_mask in
      map_reverse s w.line ∙ (ap reverse h.glyphs ∙ (reverse-append (map s f.line) (map s g.line)
      ∙ (ap (λ t. t ++ reverse (map s f.line)) (sym (map_reverse s g.line)) ∙ ap (λ t. map s (reverse g.line) ++ t) (sym (map_reverse s f.line))))));
  positions = turned_list w ∙ (ap reverse h.positions ∙ (reverse-append (position_list f) (position_list g)
      ∙ (ap (λ t. t ++ reverse (position_list f)) (sym (turned_list g)) ∙ ap (λ t. position_list (reversed g) ++ t) (sym (turned_list f)))));
  front_placed = ap length (turned_list g) ∙ (length-reverse (position_list g) ∙ (h.back_placed ∙ sym (length-reverse g.line)));
  back_placed = ap length (turned_list f) ∙ (length-reverse (position_list f) ∙ (h.front_placed ∙ sym (length-reverse f.line)));
}

pub long_whole : (kern_mask q : ℕ) (w f g : Buffer) → StandIn kern_mask q w f g → length w.line ≡ q + length g.line
long_whole kern_mask q w f g h =
    let e : length (map (seen_of kern_mask) w.line) ≡ length (map (seen_of kern_mask) f.line ++ map (seen_of kern_mask) g.line) = ap length h.glyphs in
    omega (arith, e, h.front_length, length-append (map (seen_of kern_mask) f.line) (map (seen_of kern_mask) g.line), length-map w.line (seen_of kern_mask), length-map f.line (seen_of kern_mask), length-map g.line (seen_of kern_mask))

pub turned_keeps_parts : (kern_mask : ℕ) (r : KernedRun) → KeepsParts kern_mask r → KeepsParts kern_mask (turned r)
turned_keeps_parts kern_mask r keeps = record {
  direction = λ b. keeps.direction (reversed b);
  long = λ b. length-reverse (r.left (reversed b)).line ∙ (keeps.long (reversed b) ∙ length-reverse b.line);
  spends = λ b. keeps.spends (reversed b);
  parts = λ q least w f g h behind inside opens some lasts enough. (
      let long = long_whole kern_mask q w f g h in
      let place : length w.line - q ≡ length g.line = omega (arith, long) in
      let opens_there : r.opens (length g.line) (reversed w) ≡ true = ap (λ k. r.opens k (reversed w)) (sym place) ∙ opens in
      let left = keeps.parts (length g.line) least (reversed w) (reversed g) (reversed f) (stand_turned kern_mask q w f g h) (omega (arith, long, inside)) (omega (arith, long, behind, length-reverse w.line)) opens_there some lasts
      (record { front = enough.back; back = enough.front }) in
      let kept : length (r.left (reversed f)).line ≡ q = keeps.long (reversed f) ∙ (length-reverse f.line ∙ h.front_length) in
      let back = stand_turned kern_mask (length g.line) (r.left (reversed w)) (r.left (reversed g)) (r.left (reversed f)) left.0 in (
        subst (λ (k : ℕ). StandIn kern_mask k (reversed (r.left (reversed w))) (reversed (r.left (reversed f))) (reversed (r.left (reversed g)))) kept back,
        record { front = left.1.back; back = left.1.front },
      ));
}

pub attaching_keeps_parts : (kern_mask kind : ℕ) (chain : ℤ) → KeepsParts kern_mask (attaching kind chain)
attaching_keeps_parts kern_mask kind chain = record {
  direction = λ b. refl;
  long = λ b. refl;
  spends = λ b. omega arith;
  parts = λ q least w f g h behind inside opens some lasts enough. (
    record {
      front_direction = h.front_direction;
      back_direction = h.back_direction;
      front_length = h.front_length;
      glyphs = h.glyphs;
      positions = attached_list w ∙ (ap (map attach) h.positions ∙ (map-append attach (position_list f) (position_list g)
          ∙ (ap (λ t. t ++ map attach (position_list g)) (sym (attached_list f)) ∙ ap (λ t. position_list (on_positions attach f) ++ t) (sym (attached_list g)))));
      front_placed = ap length (attached_list f) ∙ (length-map (position_list f) attach ∙ h.front_placed);
      back_placed = ap length (attached_list g) ∙ (length-map (position_list g) attach ∙ h.back_placed);
    },
    record { front = enough.front; back = enough.back },
  );
}
  where
    attach : GlyphPosition → GlyphPosition
    attach = attached_as kind chain

    attached_list : (b : Buffer) → position_list (on_positions (attached_as kind chain) b) ≡ map (attached_as kind chain) (position_list b)
    attached_list b = list_of (map (attached_as kind chain)) refl b.positions

pub in_order_keeps_parts : (kern_mask : ℕ) (rs : List KernedRun) → AllByRecursion (KeepsParts kern_mask) rs → KeepsParts kern_mask (kerned_by_all rs)
in_order_keeps_parts kern_mask [] each = record {
  direction = λ b. refl;
  long = λ b. refl;
  spends = λ b. omega arith;
  parts = λ q least w f g h behind inside opens some lasts enough. (h, enough);
}
in_order_keeps_parts kern_mask (r ∷ rs) each = both (in_order_keeps_parts kern_mask rs each.1)
  where
    both : KeepsParts kern_mask (kerned_by_all rs) → KeepsParts kern_mask (kerned_by_all (r ∷ rs))
    both rest = record {
      direction = λ b. rest.direction (r.left b) ∙ each.0.direction b;
      long = λ b. rest.long (r.left b) ∙ each.0.long b;
      spends = λ b. (let more = rest.spends (r.left b) in let first = each.0.spends b in omega (arith, more, first));
      parts = λ q least w f g h behind inside opens some lasts enough. (
          let both_open = and_parts (r.opens q w) ((kerned_by_all rs).opens q (r.left w)) opens in
          let more = rest.spends (r.left w) in
          let one = each.0.parts q least w f g h behind inside both_open.0 some (omega (arith, more, lasts)) enough in
          let long = each.0.long w in
          rest.parts q least (r.left w) (r.left f) (r.left g) one.0 behind (omega (arith, inside, long)) both_open.1 some lasts one.1);
    }

pub runs_keep_parts : RunsKeepParts
runs_keep_parts = record {
  kern = kern_keeps_parts;
  kerx = kerx_keeps_parts;
  anchors = anchors_keep_parts;
  turned_round = turned_keeps_parts;
  attached = attaching_keeps_parts;
  in_order = in_order_keeps_parts;
}

pub runs_leave_parts : RunsLeavePlacesInParts
runs_leave_parts = record {
  kern = λ pays_first is_cross kern_mask values table free. keeps_those_of_line kern_mask _ (kern_keeps_parts pays_first is_cross kern_mask values table free);
  kerx = λ pays_first is_cross kern_mask tuple_count values table free. keeps_those_of_line kern_mask _ (kerx_keeps_parts pays_first is_cross kern_mask tuple_count values table free);
  anchors = λ pays_first points pairs table. keeps_those_of_line 0 _ (anchors_keep_parts pays_first 0 points pairs table refl);
  each = keeps_those_of_line;
}
