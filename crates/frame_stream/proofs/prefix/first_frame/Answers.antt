use Rattle.std.proofs.Common.{◌≡◌, ◌<◌, length, rules}
use Rattle.pam_wire.specs.declared.prefix.FirstFrame.TheVariants.{Open, OutOfRange, Whole}
use Rattle.pam_wire.specs.Read.{first_frame_of}
use Rattle.frame_stream.proofs.CutFrameFacts.{empty_front, many_front, open_front, out_front, frame_front}
use Rattle.frame_stream.proofs.prefix.first_frame.Goals as goal

pub returns-then-is_empty : goal.returns-then-is_empty
returns-then-is_empty c =
    let none : length c.args.held.now ≡ 0 = search rules in
    empty_front c.first_frame_settles.ensures c.args.before c.args.held.now none

pub returns-then-before-ge-MAX_FRAMES : goal.returns-then-before-ge-MAX_FRAMES
returns-then-before-ge-MAX_FRAMES c =
    let some : 0 < length c.args.held.now = search rules in
    many_front c.first_frame_settles.ensures _ _ c.if-before-ge-MAX_FRAMES.true some

pub returns-in-Open : goal.returns-in-Open
returns-in-Open c =
    let some : 0 < length c.args.held.now = search rules in
    let front : first_frame_of c.args.held.now ≡ Open = search rules in
    open_front c.first_frame_settles.ensures _ _ c.if-before-ge-MAX_FRAMES.false some front

pub returns-in-OutOfRange : goal.returns-in-OutOfRange
returns-in-OutOfRange c =
    let front : first_frame_of c.args.held.now ≡ OutOfRange = search rules in
    out_front c.first_frame_settles.ensures _ _ c.if-before-ge-MAX_FRAMES.false front

pub returns-in-Whole : goal.returns-in-Whole
returns-in-Whole c =
    let front : first_frame_of c.args.held.now ≡ Whole c.in-Whole.size = search rules in
    frame_front c.first_frame_settles.ensures _ _ _ c.if-before-ge-MAX_FRAMES.false front
