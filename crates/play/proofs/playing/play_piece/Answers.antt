use Rattle.std.proofs.Common.{◌≡◌, ◌<◌, length, arith}
use Rattle.line.specs.Steps.{state}
use Rattle.text.specs.Lines.{left}
use Rattle.play.proofs.Pieces.{piece_played, less_left, no_event_left, no_more_told}
use Rattle.std.proofs.lemmas.Bool.Decides.{nat_tests}
use Rattle.play.proofs.playing.play_piece.Goals as goal

pub returns-then-is_empty-clause-none : goal.returns-then-is_empty-clause-none
returns-then-is_empty-clause-none c =
    let read = c.read_events.ensures.read in
    let items = c.as_slice-items.ensures.value in
    let none : length c.as_slice-items.result.now ≡ 0 = grind (arith, nat_tests, c.if-is_empty.ensures) in
    let empty : length c.read_events.new.events.items ≡ 0 = rw items at none in
    no_more_told c.no_more.result c.in_ok-stop.stop _
    (no_event_left _ _ c.args.size c.read_events.new.lines.items c.read_events.new.events.items c.in_ok-stop.stop c.requires empty read c.in_ok-stop.ensures.stopped) c.no_more.ensures

pub returns-in-None-clause-some : goal.returns-in-None-clause-some
returns-in-None-clause-some c text head played =
    let read = c.read_events.ensures.read in
    let items = c.as_slice-items.ensures.value in
    piece_played text head (left c.args.reader.now) (left c.read_events.new.reader) (state c.args.line.now.parts) (state c.run-run.new.self.parts) c.args.gaps c.run-run.result.gaps c.and.result
    c.read_events.new.lines.items c.read_events.new.events.items c.run-run.result.done
    (rw items at (rw c.in-None.is at c.run-run.ensures.ended)) played read
    (rw items at c.run-run.ensures.can_be) (rw items at c.run-run.ensures.state) (rw items at c.run-run.ensures.gaps) c.and.ensures

pub returns-in-None-clause-less : goal.returns-in-None-clause-less
returns-in-None-clause-less c =
    let read = c.read_events.ensures.read in
    let items = c.as_slice-items.ensures.value in
    let some : 0 < length c.as_slice-items.result.now = grind (arith, nat_tests, c.if-is_empty.ensures) in
    less_left _ _ c.read_events.new.lines.items c.read_events.new.events.items (rw items at some) read
