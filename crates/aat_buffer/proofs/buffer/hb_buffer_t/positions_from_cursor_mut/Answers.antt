use Rattle.std.proofs.Common.{◌≡◌, ◌≤◌, ◌-◌, ◌∙◌, rules, sym, true, arith, length}
use Rattle.std.specs.Prelude.{vec_len}
use Rattle.aat_buffer.specs.inside.Inside.{buffer_of}
use Rattle.aat_buffer.proofs.Filled.{drop_count, from_count, positions_left, positions_lent, shown_stand}
use Rattle.aat_buffer.proofs.buffer.hb_buffer_t.positions_from_cursor_mut.Goals as goal

pub returns : goal.returns
returns g c =
    let a = c.self.inside in
    let p = c.cursor-cursor.result in
    let n = vec_len a.positions in
    let stand : a.have_positions ≡ true = shown_stand a.have_positions a.positions.items (rw (← c.self.view_is) at c.requires) in
    let count : length a.positions.items ≡ length a.line.glyphs = sym a.positions.ok.0 ∙ c.self.invariant.placed stand in
    let within : p ≤ length a.positions.items = omega (arith, count, c.self.invariant.in_line, c.cursor-cursor.ensures.place) in
    let many : length c.slice_mut.result.now ≡ length a.positions.items - p = from_count a.positions.items c.slice_mut.result.now p n a.positions.ok.0 c.slice_mut.ensures.value in
    let glyphs : length c.rest.result.now ≡ length a.line.glyphs - a.line.cursor = drop_count a.line.glyphs c.rest.result.now a.line.cursor c.rest.ensures in (
      (search rules, λ w. positions_left c.args.self.now (buffer_of a) a.have_positions a.positions.items w p n c.self.view_is stand c.cursor-cursor.ensures.place a.positions.ok.0 within),
      record {
        writes_back = tt;
        glyphs = rw (← c.self.view_is) c.rest.ensures;
        positions = positions_lent c.args.self.now (buffer_of a) a.have_positions a.positions.items c.slice_mut.result.now p n c.self.view_is stand c.cursor-cursor.ensures.place a.positions.ok.0 c.slice_mut.ensures.value;
        placed = omega (arith, many, glyphs, count, c.cursor-cursor.ensures.place);
      },
    )
