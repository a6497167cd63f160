use Rattle.std.proofs.Common.{rules, ◌≡◌}
use Rattle.aat_buffer.specs.Removal.{is_deleted, removed}
use Rattle.aat_buffer.specs.facts.Removed.{ids_of_undeleted, none_deleted}
use Rattle.aat_kerning.proofs.deleted.hb_aat_layout_remove_deleted_glyphs.Goals as goal

pub returns-clause-none : goal.returns-clause-none
returns-clause-none g c =
    let is : c.delete_glyphs_inplace.new.self ≡ removed is_deleted c.args.buffer.now = search rules in
    rw is (none_deleted c.args.buffer.now)

pub returns-clause-others : goal.returns-clause-others
returns-clause-others g c =
    let is : c.delete_glyphs_inplace.new.self ≡ removed is_deleted c.args.buffer.now = search rules in
    rw is (ids_of_undeleted c.args.buffer.now)
