use Rattle.std.proofs.Common.{◌∙◌, sym, ap, ◌++◌, ◌∷◌, [], refl, drop, length, arith, Some}
use Rattle.std.proofs.lemmas.List.{length-drop}
use Rattle.fc_wire.specs.Frames.{frame_len}
use Rattle.fc_hub.specs.declared.event.Act.TheVariants.{Shut}
use Rattle.fc_peers.specs.Streams.{frames, rest}
use Rattle.fc_peers.proofs.Acts.{acts_none, acts_on, acts_same, until_here, until_same}
use Rattle.fc_peers.proofs.Cut.{without_partial, without_whole}
use Rattle.fc_control.specs.ControlNode.{comes, first_heard, has_ended, hears}
use Rattle.fc_control.specs.Controls.{control_of}
use Rattle.fc_control.proofs.Framing.{heard_all, heard_ended, heard_more, heard_no_message, heard_until}
use Rattle.fc_control.proofs.delivery.deliver.Goals as goal

pub frames-init : goal.frames-init
frames-init g c = record { heard = ([], acts_none _, refl); count = refl }

pub frames-preserved : goal.frames-preserved
frames-preserved g c =
    let (acts, done, is) = c.frames.invariant.heard in
    let (le, message) = rw c.in-Ok-Arrived.field-0-is at c.in-Ok-Arrived.ensures.next in
    let told = c.in-Ok.ensures in
    let bytes = c.frames.splitter in
    let left = c.in-Ok-Arrived.ensures.left ∙ without_whole bytes le in
    let peer = c.args.peer in
    let element = c.args.element in
    let old = control_of c.frames.control in
    let turn = comes peer element c.in-Ok-Arrived.message old in
    let all = acts ++ turn.acts in
    let goes = ap has_ended (sym told.ok) ∙ sym c.has_ended.ensures ∙ c.if-has_ended.false in
    let more = heard_more _ acts peer element bytes c.in-Ok-Arrived.message old is le message goes in
    record {
      heard = (
        all,
        acts_on _ _ _ acts _ done told.acts,
        more ∙ ap (λ n. first_heard all (hears peer element (frames (drop (frame_len bytes) bytes)) (rest (drop (frame_len bytes) bytes)) n)) (sym told.ok)
            ∙ ap (λ l. first_heard all (hears peer element (frames l) (rest l) (control_of c.hear.new.self))) (sym left),
      );
      count = told.count ∙ c.frames.invariant.count;
    }

pub frames-smaller : goal.frames-smaller
frames-smaller g c =
    let (le, message) = rw c.in-Ok-Arrived.field-0-is at c.in-Ok-Arrived.ensures.next in
    omega (arith, ap length (c.in-Ok-Arrived.ensures.left ∙ without_whole c.frames.splitter le), length-drop (frame_len c.frames.splitter) c.frames.splitter, le)

pub returns-in-Ok-Nothing-clause-left : goal.returns-in-Ok-Nothing-clause-left
returns-in-Ok-Nothing-clause-left g c =
    let (acts, done, is) = c.frames.invariant.heard in
    let lt = rw c.in-Ok-Nothing.field-0-is at c.in-Ok-Nothing.ensures.next in
    ap Some (c.in-Ok-Nothing.ensures.left ∙ without_partial c.frames.splitter lt)
    ∙ sym (ap (λ h. h.left) (heard_all _ acts c.args.peer c.args.element c.frames.splitter (control_of c.frames.control) is lt))

pub returns-in-Ok-Nothing-clause-control : goal.returns-in-Ok-Nothing-clause-control
returns-in-Ok-Nothing-clause-control g c =
    let (acts, done, is) = c.frames.invariant.heard in
    let lt = rw c.in-Ok-Nothing.field-0-is at c.in-Ok-Nothing.ensures.next in
    sym (ap (λ h. h.state) (heard_all _ acts c.args.peer c.args.element c.frames.splitter (control_of c.frames.control) is lt))

pub returns-in-Ok-Nothing-clause-acts : goal.returns-in-Ok-Nothing-clause-acts
returns-in-Ok-Nothing-clause-acts g c =
    let (acts, done, is) = c.frames.invariant.heard in
    let lt = rw c.in-Ok-Nothing.field-0-is at c.in-Ok-Nothing.ensures.next in
    acts_same _ _ acts _ done (ap (λ h. h.acts) (heard_all _ acts c.args.peer c.args.element c.frames.splitter (control_of c.frames.control) is lt))

pub returns-in-Err-hear-clause-err : goal.returns-in-Err-hear-clause-err
returns-in-Err-hear-clause-err g c =
    let (acts, done, is) = c.frames.invariant.heard in
    let (le, message) = rw c.in-Ok-Arrived.field-0-is at c.in-Ok-Arrived.ensures.next in
    heard_until c.in-Err-hear.stop _ _ _ _ acts c.args.peer c.args.element c.frames.splitter c.in-Ok-Arrived.message (control_of c.frames.control) is le message done c.in-Err-hear.ensures.err

pub returns-then-has_ended-clause-left : goal.returns-then-has_ended-clause-left
returns-then-has_ended-clause-left g c =
    let (acts, done, is) = c.frames.invariant.heard in
    let (le, message) = rw c.in-Ok-Arrived.field-0-is at c.in-Ok-Arrived.ensures.next in
    let ended = ap has_ended (sym c.in-Ok.ensures.ok) ∙ sym c.has_ended.ensures ∙ c.if-has_ended.true in
    ap Some c.new.ensures ∙ sym (ap (λ h. h.left) (heard_ended _ acts c.args.peer c.args.element c.frames.splitter c.in-Ok-Arrived.message (control_of c.frames.control) is le message ended))

pub returns-then-has_ended-clause-control : goal.returns-then-has_ended-clause-control
returns-then-has_ended-clause-control g c =
    let (acts, done, is) = c.frames.invariant.heard in
    let (le, message) = rw c.in-Ok-Arrived.field-0-is at c.in-Ok-Arrived.ensures.next in
    let ended = ap has_ended (sym c.in-Ok.ensures.ok) ∙ sym c.has_ended.ensures ∙ c.if-has_ended.true in
    c.in-Ok.ensures.ok ∙ sym (ap (λ h. h.state) (heard_ended _ acts c.args.peer c.args.element c.frames.splitter c.in-Ok-Arrived.message (control_of c.frames.control) is le message ended))

pub returns-then-has_ended-clause-acts : goal.returns-then-has_ended-clause-acts
returns-then-has_ended-clause-acts g c =
    let (acts, done, is) = c.frames.invariant.heard in
    let (le, message) = rw c.in-Ok-Arrived.field-0-is at c.in-Ok-Arrived.ensures.next in
    let ended = ap has_ended (sym c.in-Ok.ensures.ok) ∙ sym c.has_ended.ensures ∙ c.if-has_ended.true in
    acts_same _ _ _ _ (acts_on _ _ _ acts _ done c.in-Ok.ensures.acts)
    (ap (λ h. h.acts) (heard_ended _ acts c.args.peer c.args.element c.frames.splitter c.in-Ok-Arrived.message (control_of c.frames.control) is le message ended))

pub returns-in-Ok-shut-clause-left : goal.returns-in-Ok-shut-clause-left
returns-in-Ok-shut-clause-left g c =
    let (acts, done, is) = c.frames.invariant.heard in
    let (le, none) = rw c.in-Ok-NoMessage.field-0-is at c.in-Ok-NoMessage.ensures.next in
    sym (ap (λ h. h.left) (heard_no_message _ acts c.args.peer c.args.element c.frames.splitter (control_of c.frames.control) is le none))

pub returns-in-Ok-shut-clause-control : goal.returns-in-Ok-shut-clause-control
returns-in-Ok-shut-clause-control g c =
    let (acts, done, is) = c.frames.invariant.heard in
    let (le, none) = rw c.in-Ok-NoMessage.field-0-is at c.in-Ok-NoMessage.ensures.next in
    sym (ap (λ h. h.state) (heard_no_message _ acts c.args.peer c.args.element c.frames.splitter (control_of c.frames.control) is le none))

pub returns-in-Ok-shut-clause-acts : goal.returns-in-Ok-shut-clause-acts
returns-in-Ok-shut-clause-acts g c =
    let (acts, done, is) = c.frames.invariant.heard in
    let (le, none) = rw c.in-Ok-NoMessage.field-0-is at c.in-Ok-NoMessage.ensures.next in
    acts_same _ _ _ _ (acts_on _ _ _ acts (Shut c.args.peer ∷ []) done c.in-Ok-shut.ensures.ok)
    (ap (λ h. h.acts) (heard_no_message _ acts c.args.peer c.args.element c.frames.splitter (control_of c.frames.control) is le none))

pub returns-in-Err-shut-clause-err : goal.returns-in-Err-shut-clause-err
returns-in-Err-shut-clause-err g c =
    let (acts, done, is) = c.frames.invariant.heard in
    let (le, none) = rw c.in-Ok-NoMessage.field-0-is at c.in-Ok-NoMessage.ensures.next in
    let stop = c.in-Err-shut.stop in
    until_same stop _ _ _ _ (until_here stop _ _ _ acts (Shut c.args.peer) [] done c.in-Err-shut.ensures.err)
    (ap (λ h. h.acts) (heard_no_message _ acts c.args.peer c.args.element c.frames.splitter (control_of c.frames.control) is le none))
