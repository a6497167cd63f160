use Rattle.std.proofs.Common.{rules, ◌≡◌, true, false}
use Rattle.std.specs.Option.{option_copied}
use Rattle.aat_kerning.specs.Positioning.{is_for_text}
use Rattle.aat_kerning.proofs.Positioned.{asked_attached, asked_for_text, asked_left_out, asked_noted, asked_run, for_text, passed_over}
use Rattle.aat_kerning.proofs.kerning_subtable.kern_by_subtable.Goals as goal

pub returns-then-not-is_for_text-clause-positioned : goal.returns-then-not-is_for_text-clause-positioned
returns-then-not-is_for_text-clause-positioned g c turns =
    let b = c.args.buffer.now in
    let kern_mask = c.args.plan.now.kern_mask in
    let points = option_copied c.args.ankr in
    let k = g.S.KerningSubtable.kerning kern_mask points c.args.subtable.now in
    let answer : c.is_for_text.result ≡ false = search rules in
    let outside : is_for_text k b ≡ false =
    asked_for_text k b c.direction.result c.is_for_text.result false c.direction.ensures (c.is_for_text.ensures kern_mask points) answer in
    passed_over c.args.plan.now.requested_kerning k b turns c.args.is_attached.now outside

pub returns-then-is_left_out-clause-positioned : goal.returns-then-is_left_out-clause-positioned
returns-then-is_left_out-clause-positioned g c turns =
    let b = c.args.buffer.now in
    let d = c.attach_once.new.buffer in
    let kern_mask = c.args.plan.now.kern_mask in
    let points = option_copied c.args.ankr in
    let k = g.S.KerningSubtable.kerning kern_mask points c.args.subtable.now in
    let requested = c.args.plan.now.requested_kerning in
    let was = c.args.is_attached.now in
    let answer : c.is_for_text.result ≡ true = search rules in
    let inside : is_for_text k b ≡ true =
    asked_for_text k b c.direction.result c.is_for_text.result true c.direction.ensures (c.is_for_text.ensures kern_mask points) answer in
    let out : c.is_left_out.result ≡ true = search rules in
    let across = c.has_cross_stream.ensures kern_mask points in
    for_text requested k (record { buffer = b; turns = turns; is_attached = was }) d d 0 c.attach_once.new.is_attached inside
    (asked_attached k c.has_cross_stream.result was across b d c.attach_once.ensures.attached)
    (asked_left_out requested k d c.is_of_pairs.result c.is_left_out.result (c.is_of_pairs.ensures kern_mask points) c.is_left_out.ensures out)
    (asked_noted k c.has_cross_stream.result was across c.attach_once.new.is_attached c.attach_once.ensures.noted)

pub returns-clause-positioned : goal.returns-clause-positioned
returns-clause-positioned g c turns =
    let b = c.args.buffer.now in
    let d = c.attach_once.new.buffer in
    let e = c.run.new.buffer in
    let n = c.run.result in
    let kern_mask = c.args.plan.now.kern_mask in
    let points = option_copied c.args.ankr in
    let k = g.S.KerningSubtable.kerning kern_mask points c.args.subtable.now in
    let requested = c.args.plan.now.requested_kerning in
    let was = c.args.is_attached.now in
    let answer : c.is_for_text.result ≡ true = search rules in
    let inside : is_for_text k b ≡ true =
    asked_for_text k b c.direction.result c.is_for_text.result true c.direction.ensures (c.is_for_text.ensures kern_mask points) answer in
    let stays : c.is_left_out.result ≡ false = search rules in
    let across = c.has_cross_stream.ensures kern_mask points in
    for_text requested k (record { buffer = b; turns = turns; is_attached = was }) d e n c.attach_once.new.is_attached inside
    (asked_attached k c.has_cross_stream.result was across b d c.attach_once.ensures.attached)
    (asked_run requested k d c.is_of_pairs.result c.is_left_out.result (c.is_of_pairs.ensures kern_mask points) c.is_left_out.ensures
    (record { buffer = e; turns = n }) stays c.run.ensures.run)
    (asked_noted k c.has_cross_stream.result was across c.attach_once.new.is_attached c.attach_once.ensures.noted)
