use Rattle.std.proofs.Common.{◌≡◌, [], false, ◌∙◌, replicate, length, rules, sym, subst}
use Rattle.picture.specs.Drawings.{columns_of}
use Rattle.picture.specs.Messages.{NoMessages}
use Rattle.picture.specs.Tracks.{NothingSince, nothing}
use Rattle.picture.proofs.Follows.{begun, nothing_yet}
use Rattle.picture.proofs.drawing.Drawing.new.Goals as goal

pub returns : goal.returns
returns c =
    let first : c.in_ok-vec.field-0.items ≡ replicate (length c.args.trains.now) nothing = c.in_ok-vec.ensures.items_if_clones_equal (λ y e. e) in
    let noted : c.note_moment.new.self.since.items ≡ replicate (length c.args.trains.now) nothing = search (rules, c.in_ok-note_moment.ensures.since.since, first) in
    let none : NothingSince c.note_moment.new.self.since.items = subst NothingSince (sym noted) (nothing_yet (length c.args.trains.now)) in
    let count : length c.note_moment.new.self.since.items ≡ length c.args.trains.now = search (rules, noted) in
    let no_restarts : c.draw.new.self.restarts.items ≡ [] = search rules in
    let not_restarted : c.draw.new.self.restarted ≡ false = search rules in
    let kept = c.in_ok-note_moment.ensures.lines in
    let columns : c.draw.new.self.columns ≡ columns_of c.args.extent (length c.args.trains.now) = search rules in
    let messages : NoMessages c.note_moment.new.self.messages = search rules in
    begun _ _ _ c.note_moment.new.self _ c.in_ok-new_tracks.ensures (kept.scale ∙ c.scale.ensures) kept.events c.in_ok-note_moment.ensures.since.ticks kept.tracks kept.nearest
    c.draw.ensures.scale c.draw.ensures.events c.draw.ensures.ticks c.draw.ensures.nearest c.in_ok-draw.ensures.tracks count none no_restarts not_restarted columns messages c.in_ok-draw.ensures.messages
