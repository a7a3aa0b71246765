use Rattle.std.proofs.Common.{◌∙◌, sym, ap, ◌++◌, ◌∷◌, [], refl, drop, length, arith}
use Rattle.std.proofs.lemmas.List.{length-drop}
use Rattle.fc_wire.specs.Frames.{frame_len}
use Rattle.fc_element.specs.declared.input.ElIn.TheVariants.{Arrived}
use Rattle.fc_element.specs.ElementMachine.{step}
use Rattle.fc_hub.specs.declared.event.Act.TheVariants.{Shut}
use Rattle.fc_peers.specs.Streams.{frames, rest}
use Rattle.fc_peers.proofs.Acts.{acts_none, acts_on, acts_same, until_here, until_longer, until_on, until_same}
use Rattle.fc_peers.proofs.Cut.{without_partial, without_whole}
use Rattle.fc_peers.proofs.Streaming.{rest_all, rest_more}
use Rattle.fc_serving.specs.ElementNode.{hears, sent}
use Rattle.fc_serving.proofs.Hearing.{before, heard_all, heard_more, heard_no_message}
use Rattle.fc_serving.proofs.delivery.deliver.Goals as goal

pub frames-init : goal.frames-init
frames-init g c = record { heard = ([], acts_none _, refl); left = refl; count = refl }

pub frames-preserved : goal.frames-preserved
frames-preserved g c =
    let (acts, done, is) = c.frames.invariant.heard in
    let (le, message) = rw c.in-Ok-Arrived.field-0-is at c.in-Ok-Arrived.ensures.next in
    let told = c.in-Ok.ensures in
    let bytes = c.frames.splitter in
    let left = c.in-Ok-Arrived.ensures.left ∙ without_whole bytes le in
    let peer = c.args.peer in
    let turn = step c.frames.element (Arrived peer c.in-Ok-Arrived.message) in
    let all = acts ++ sent turn.outs in
    let more = heard_more _ acts c.frames.element peer bytes c.in-Ok-Arrived.message is le message in
    record {
      heard = (
        all,
        acts_on _ _ _ acts _ done told.acts,
        more ∙ ap (λ e. before all (hears e peer (frames (drop (frame_len bytes) bytes)))) (sym told.ok)
            ∙ ap (λ l. before all (hears c.give.new.element peer (frames l))) (sym left),
      );
      left = c.frames.invariant.left ∙ rest_more bytes le ∙ ap rest (sym left);
      count = told.count ∙ c.frames.invariant.count;
    }

pub frames-smaller : goal.frames-smaller
frames-smaller g c =
    let (le, message) = rw c.in-Ok-Arrived.field-0-is at c.in-Ok-Arrived.ensures.next in
    omega (arith, ap length (c.in-Ok-Arrived.ensures.left ∙ without_whole c.frames.splitter le), length-drop (frame_len c.frames.splitter) c.frames.splitter, le)

pub returns-in-Ok-Nothing-clause-stays : goal.returns-in-Ok-Nothing-clause-stays
returns-in-Ok-Nothing-clause-stays g c =
    let (acts, done, is) = c.frames.invariant.heard in
    let lt = rw c.in-Ok-Nothing.field-0-is at c.in-Ok-Nothing.ensures.next in
    sym (ap (λ h. h.stays) (heard_all _ acts c.frames.element c.args.peer c.frames.splitter is lt))

pub returns-in-Ok-Nothing-clause-element : goal.returns-in-Ok-Nothing-clause-element
returns-in-Ok-Nothing-clause-element g c =
    let (acts, done, is) = c.frames.invariant.heard in
    let lt = rw c.in-Ok-Nothing.field-0-is at c.in-Ok-Nothing.ensures.next in
    sym (ap (λ h. h.element) (heard_all _ acts c.frames.element c.args.peer c.frames.splitter is lt))

pub returns-in-Ok-Nothing-clause-rest : goal.returns-in-Ok-Nothing-clause-rest
returns-in-Ok-Nothing-clause-rest g c =
    let lt = rw c.in-Ok-Nothing.field-0-is at c.in-Ok-Nothing.ensures.next in
    λ stays. c.in-Ok-Nothing.ensures.left ∙ without_partial c.frames.splitter lt ∙ sym (c.frames.invariant.left ∙ rest_all c.frames.splitter lt)

pub returns-in-Ok-Nothing-clause-acts : goal.returns-in-Ok-Nothing-clause-acts
returns-in-Ok-Nothing-clause-acts g c =
    let (acts, done, is) = c.frames.invariant.heard in
    let lt = rw c.in-Ok-Nothing.field-0-is at c.in-Ok-Nothing.ensures.next in
    acts_same _ _ acts _ done (ap (λ h. h.acts) (heard_all _ acts c.frames.element c.args.peer c.frames.splitter is lt))

pub returns-in-Err-give-clause-err : goal.returns-in-Err-give-clause-err
returns-in-Err-give-clause-err g c =
    let (acts, done, is) = c.frames.invariant.heard in
    let (le, message) = rw c.in-Ok-Arrived.field-0-is at c.in-Ok-Arrived.ensures.next in
    let more = heard_more _ acts c.frames.element c.args.peer c.frames.splitter c.in-Ok-Arrived.message is le message in
    let stop = c.in-Err-give.stop in
    until_same stop _ _ _ _ (until_longer stop _ _ _ _ (until_on stop _ _ _ acts _ done c.in-Err-give.ensures.err)) (ap (λ h. h.acts) more)

pub returns-in-Ok-shut-clause-stays : goal.returns-in-Ok-shut-clause-stays
returns-in-Ok-shut-clause-stays g c =
    let (acts, done, is) = c.frames.invariant.heard in
    let (le, none) = rw c.in-Ok-NoMessage.field-0-is at c.in-Ok-NoMessage.ensures.next in
    sym (ap (λ h. h.stays) (heard_no_message _ acts c.frames.element c.args.peer c.frames.splitter is le none))

pub returns-in-Ok-shut-clause-element : goal.returns-in-Ok-shut-clause-element
returns-in-Ok-shut-clause-element g c =
    let (acts, done, is) = c.frames.invariant.heard in
    let (le, none) = rw c.in-Ok-NoMessage.field-0-is at c.in-Ok-NoMessage.ensures.next in
    sym (ap (λ h. h.element) (heard_no_message _ acts c.frames.element c.args.peer c.frames.splitter is le none))

pub returns-in-Ok-shut-clause-acts : goal.returns-in-Ok-shut-clause-acts
returns-in-Ok-shut-clause-acts g c =
    let (acts, done, is) = c.frames.invariant.heard in
    let (le, none) = rw c.in-Ok-NoMessage.field-0-is at c.in-Ok-NoMessage.ensures.next in
    acts_same _ _ _ _ (acts_on _ _ _ acts (Shut c.args.peer ∷ []) done c.in-Ok-shut.ensures.ok)
    (ap (λ h. h.acts) (heard_no_message _ acts c.frames.element c.args.peer c.frames.splitter is le none))

pub returns-in-Err-shut-clause-err : goal.returns-in-Err-shut-clause-err
returns-in-Err-shut-clause-err g c =
    let (acts, done, is) = c.frames.invariant.heard in
    let (le, none) = rw c.in-Ok-NoMessage.field-0-is at c.in-Ok-NoMessage.ensures.next in
    let stop = c.in-Err-shut.stop in
    until_same stop _ _ _ _ (until_here stop _ _ _ acts (Shut c.args.peer) [] done c.in-Err-shut.ensures.err)
    (ap (λ h. h.acts) (heard_no_message _ acts c.frames.element c.args.peer c.frames.splitter is le none))
