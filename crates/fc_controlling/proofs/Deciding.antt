-- A known input, a known hub and the round that was taken decide how `control` ends.
use Rattle.std.proofs.Common.{◌≡◌, ◌≢◌, ◌<◌, ◌≤◌, ◌+◌, ◌^◌, ◌&&◌, ℕ, Bool, true, false, nat_lt, List, [], ◌∷◌, ◌++◌, length, map, refl, sym, ap, subst, ◌∙◌, append-nil, arith, length-append, Option, Some, None, Result, Ok, Err}
use Rattle.std.proofs.lemmas.List.{map-append}
use Rattle.std.specs.Io.KnownBytes.{Appends}
use Rattle.fc_base.specs.Ids.{IsRound}
use Rattle.fc_hub.specs.Hubs.{Held, holds}
use Rattle.fc_hub.specs.Rounds.{Given}
use Rattle.fc_hub.specs.declared.event.HubEvent.{HubEvent}
use Rattle.fc_hub.specs.declared.event.Act.{Act}
use Rattle.fc_documents.specs.Plans.{Planned}
use Rattle.fc_library.specs.declared.fault.LibFault.{LibFault}
use Rattle.fc_control.specs.ControlNode.{ControlState, NodeState, acts_of, has_ended, node_after}
use Rattle.fc_control.specs.Pieces.{unnumbered}
use Rattle.fc_control.specs.Reports.{is_done, report_of}
use Rattle.fc_control.specs.Serving.{AreAll, Goes, Went}
use Rattle.fc_control.proofs.Runs.{is_plain, plain}
use Rattle.fc_endings.specs.Looks.{LookEnds}
use Rattle.fc_endings.specs.declared.input.Look.TheVariants as look
use Rattle.fc_endings.proofs.Looking.{all_read, front_read, whole_long}
use Rattle.fc_controlling.specs.ControlRun.{ActedSo, ControlEnds, ControlWent, EndedSo, Gave, control_text, if_done, no_round_text, refused_text, report_after}
use Rattle.fc_controlling.specs.Meanings.{node_given, plan_for}
use Rattle.fc_controlling.specs.Outcomes.{CameTo, IsRunOut, Outcome, acts_held, is_round, last_end, outcome, outcome_by, outcome_by_round, outcome_of}
use Rattle.fc_controlling.specs.declared.asked.Asked.{Asked}
use Rattle.fc_controlling.specs.declared.asked.ControlEnd.{ControlEnd}
use Rattle.fc_controlling.specs.declared.asked.ControlEnd.TheVariants.{Deposed, Done, HubFault, NoRound, ReadFault, Refused, RoundsFault, TooLong, Turns, Unfinished}
use Rattle.fc_controlling.proofs.Prefixes.{all_acts, all_after, front_of}

-- ---- what is decided

is_less : (a b : ℕ) → a < b → nat_lt a b ≡ true
is_less a b lt = grind arith

is_no_less : (a b : ℕ) → b ≤ a → nat_lt a b ≡ false
is_no_less a b le = grind arith

round_is : (round : ℕ) → IsRound round → is_round round ≡ true
round_is round (some, few) = rw (is_less 0 round some, is_less round (2 ^ 24) few) refl

round_is_none : (round : ℕ) → 2 ^ 24 ≤ round → is_round round ≡ false
round_is_none round long =
    let some : 0 < round = omega (arith, long) in
    rw (is_less 0 round some, is_no_less round (2 ^ 24) long) refl

-- the document was read whole
whole_is : (limit : ℕ) (asked : Asked) (document bytes : List ℕ) (left : Option (List ℕ)) (round : ℕ) (coming : List HubEvent) → LookEnds limit (Ok look.Whole) bytes (Some document) left
    → outcome_of limit asked document round coming ≡ outcome_by false asked (plan_for asked.addresses bytes) round coming
whole_is limit asked document bytes left round coming (consumed, end, le) =
    let same = all_read document bytes left consumed end in
    let short : length document ≤ limit = omega (arith, ap length same, le) in
    ap (λ b. outcome_by b asked (plan_for asked.addresses document) round coming) (is_no_less limit (length document) short)
    ∙ ap (λ l. outcome_by false asked (plan_for asked.addresses l) round coming) same

long_is : (limit : ℕ) (asked : Asked) (document bytes : List ℕ) (left : Option (List ℕ)) (round : ℕ) (coming : List HubEvent) → LookEnds limit (Ok look.TooLong) bytes (Some document) left
    → outcome_of limit asked document round coming ≡ outcome TooLong [] []
long_is limit asked document bytes left round coming (consumes, long) =
    let (more, split) = front_read document bytes left consumes in
    let lt : limit < length document = omega (arith, ap length split, length-append bytes more, long) in
    ap (λ b. outcome_by b asked (plan_for asked.addresses document) round coming) (is_less limit (length document) lt)

refused_is : (asked : Asked) (meant : Result Planned LibFault) (fault : LibFault) (round : ℕ) (coming : List HubEvent) → meant ≡ Err fault
    → outcome_by false asked meant round coming ≡ outcome Refused (refused_text meant) []
refused_is asked meant fault round coming is = ap (λ m. outcome_by false asked m round coming) is ∙ ap (λ m. outcome Refused (refused_text m) []) (sym is)

planned_is : (asked : Asked) (meant : Result Planned LibFault) (plan : Planned) (round : ℕ) (coming : List HubEvent) → meant ≡ Ok plan
    → outcome_by false asked meant round coming ≡ outcome_by_round (is_round round) (node_given asked.ce round meant) round coming
planned_is asked meant plan round coming is =
    ap (λ m. outcome_by false asked m round coming) is ∙ ap (λ m. outcome_by_round (is_round round) (node_given asked.ce round m) round coming) (sym is)

-- ---- what was done and written

-- what came, by what was told
came : (o told : Outcome) (end : ControlEnd) (written : List ℕ) (done : List (ℕ × Act)) (new : Option Held) (old : List ℕ) (text : Option (List ℕ)) → o ≡ told → end ≡ told.end → written ≡ told.text
    → acts_held new ≡ Some (unnumbered done ++ told.acts) → Appends (Some old) text written → CameTo o end done new old text
came o told end written done new old None is ends writes acts wrote = absurd wrote
came o told end written done new old (Some text) is ends writes acts wrote = record {
  end = ends ∙ ap (λ x. x.end) (sym is);
  acts = acts ∙ ap (λ x. Some (unnumbered done ++ x.acts)) (sym is);
  text = ap Some (wrote ∙ ap (λ l. old ++ l) (writes ∙ ap (λ x. x.text) (sym is)));
}

-- nothing was done on the hub
kept_acts : (coming : List HubEvent) (taken : ℕ) (done : List (ℕ × Act)) (new : Option Held) → new ≡ Some (holds coming taken done) → acts_held new ≡ Some (unnumbered done ++ [])
kept_acts coming taken done new is = ap acts_held is ∙ ap Some (sym (append-nil (unnumbered done)))

-- these events were taken, and all acts are theirs
went_acts : (coming events : List HubEvent) (taken : ℕ) (n : NodeState) (done : List (ℕ × Act)) (new : Option Held) → Went (Some (holds coming taken done)) new n events
    → plain n coming ≡ plain n events → acts_held new ≡ Some (unnumbered done ++ unnumbered (acts_of 0 n coming))
went_acts coming events taken n done new (rest, split, is) same =
    ap acts_held is ∙ ap Some (map-append (λ act. act.1) done (acts_of taken n events))
    ∙ ap (λ l. Some (unnumbered done ++ l)) (is_plain taken n events ∙ sym same ∙ sym (is_plain 0 n coming))

-- the end of a run, by what was left of the node
ran : (o : Outcome) (n : NodeState) (round : ℕ) (end : ControlEnd) (coming events : List HubEvent) (taken : ℕ) (done : List (ℕ × Act)) (new : Option Held) (old : List ℕ) (text : Option (List ℕ)) (written : List ℕ) (b : Bool)
    → o ≡ outcome_by_round true n round coming → Went (Some (holds coming taken done)) new n events → plain n coming ≡ plain n events → node_after n coming ≡ node_after n events
    → has_ended (node_after n events).control ≡ b → end ≡ last_end b (node_after n events).control → written ≡ report_after n events → Appends (Some old) text written → CameTo o end done new old text
ran o n round end coming events taken done new old text written b is went same left at ends writes wrote =
    came o (outcome_by_round true n round coming) end written done new old text is
    (ends ∙ ap (λ b. last_end b (node_after n events).control) (sym at) ∙ ap (λ (m : NodeState). last_end (has_ended m.control) m.control) (sym left))
    (writes ∙ ap (λ (m : NodeState). report_of m.control) (sym left))
    (went_acts coming events taken n done new went same) wrote

-- all events were taken
ran_all : (o : Outcome) (n : NodeState) (round : ℕ) (done_or_not : Bool) (coming events : List HubEvent) (taken : ℕ) (done : List (ℕ × Act)) (new : Option Held) (old : List ℕ) (text : Option (List ℕ)) (written : List ℕ)
    → o ≡ outcome_by_round true n round coming → Went (Some (holds coming taken done)) new n events → coming ≡ events → Goes n events → is_done (node_after n events).control ≡ done_or_not
    → written ≡ report_after n events → Appends (Some old) text written → CameTo o (if_done done_or_not) done new old text
ran_all o n round b coming events taken done new old text written is went all goes at writes wrote =
    ran o n round (if_done b) coming events taken done new old text written false is went (ap (plain n) all) (ap (node_after n) all) goes (ap if_done (sym at)) writes wrote

-- it was deposed before all were, or by the last one
ran_deposed : (o : Outcome) (n : NodeState) (round : ℕ) (coming events : List HubEvent) (taken : ℕ) (done : List (ℕ × Act)) (new : Option Held) (old : List ℕ) (text : Option (List ℕ)) (written : List ℕ)
    → o ≡ outcome_by_round true n round coming → Went (Some (holds coming taken done)) new n events → has_ended (node_after n events).control ≡ true
    → written ≡ report_after n events → Appends (Some old) text written → CameTo o Deposed done new old text
ran_deposed o n round coming events taken done new old text written is (rest, split, went) ended writes wrote =
    ran o n round Deposed coming events taken done new old text written true is (rest, split, went) (ap (plain n) split ∙ all_acts n events rest ended)
    (ap (node_after n) split ∙ all_after n events rest ended) ended refl writes wrote

-- the number that was taken is the last that was given
last_is : (round : ℕ) (given gave : Given) → Gave round given gave → round ≡ gave.last
last_is round given gave (is, after) = sym (ap (λ g. g.last) is)

-- the outcome of a document that means a plan, at a number that is a round
begun_is : (limit : ℕ) (asked : Asked) (document bytes : List ℕ) (left : Option (List ℕ)) (round : ℕ) (given gave : Given) (coming : List HubEvent) (plan : Planned) → LookEnds limit (Ok look.Whole) bytes (Some document) left
    → plan_for asked.addresses bytes ≡ Ok plan → Gave round given gave → IsRound round
    → outcome_of limit asked document gave.last coming ≡ outcome_by_round true (node_given asked.ce round (plan_for asked.addresses bytes)) round coming
begun_is limit asked document bytes left round given gave coming plan read means took is =
    let meant = plan_for asked.addresses bytes in
    ap (λ r. outcome_of limit asked document r coming) (sym (last_is round given gave took)) ∙ whole_is limit asked document bytes left round coming read
    ∙ planned_is asked meant plan round coming means ∙ ap (λ b. outcome_by_round b (node_given asked.ce round meant) round coming) (round_is round is)

pub decided : (e : ControlEnd) (limit : ℕ) (asked : Asked) (document : List ℕ) (left : Option (List ℕ)) (given gave : Given) (coming : List HubEvent) (taken : ℕ) (done : List (ℕ × Act)) (new : Option Held) (old : List ℕ) (text : Option (List ℕ)) (source hub rounds : ℕ × ℕ)
    → IsRunOut e → ControlEnds limit asked source hub rounds (Ok e) (Some document) left given gave (Some (holds coming taken done)) new (Some old) text
    → CameTo (outcome_of limit asked document gave.last coming) e done new old text
decided Done limit asked document left given gave coming taken done new old text f h r out (written, (bytes, round, events, read, ((plan, means), (took, is), (few, goes, went, all, at), writes), counts), wrote) =
    ran_all _ _ round true coming events taken done new old text written (begun_is limit asked document bytes left round given gave coming plan read means took is) went all goes at writes wrote
decided Unfinished limit asked document left given gave coming taken done new old text f h r out (written, (bytes, round, events, read, ((plan, means), (took, is), (few, goes, went, all, at), writes), counts), wrote) =
    ran_all _ _ round false coming events taken done new old text written (begun_is limit asked document bytes left round given gave coming plan read means took is) went all goes at writes wrote
decided Deposed limit asked document left given gave coming taken done new old text f h r out (written, (bytes, round, events, read, ((plan, means), (took, is), (before, last, split, few, goes, went, ended), writes), counts), wrote) =
    ran_deposed _ _ round coming events taken done new old text written (begun_is limit asked document bytes left round given gave coming plan read means took is) went ended writes wrote
decided NoRound limit asked document left given gave coming taken done new old text f h r out (written, (bytes, round, events, read, ((plan, means), (took, long), kept, writes), counts), wrote) =
    let meant = plan_for asked.addresses bytes in
    came _ (outcome NoRound (no_round_text round) []) NoRound written done new old text
    (ap (λ r. outcome_of limit asked document r coming) (sym (last_is round given gave took)) ∙ whole_is limit asked document bytes left round coming read
    ∙ planned_is asked meant plan round coming means ∙ ap (λ b. outcome_by_round b (node_given asked.ce round meant) round coming) (round_is_none round long))
    refl writes (kept_acts coming taken done new kept) wrote
decided Refused limit asked document left given gave coming taken done new old text f h r out (written, (bytes, round, events, read, ((fault, means), gives, kept, writes), counts), wrote) =
    let meant = plan_for asked.addresses bytes in
    came _ (outcome Refused (refused_text meant) []) Refused written done new old text
    (whole_is limit asked document bytes left gave.last coming read ∙ refused_is asked meant fault gave.last coming means) refl writes (kept_acts coming taken done new kept) wrote
decided TooLong limit asked document left given gave coming taken done new old text f h r out (written, (bytes, round, events, read, (means, gives, kept, writes), counts), wrote) =
    came _ (outcome TooLong [] []) TooLong written done new old text (long_is limit asked document bytes left gave.last coming read) refl writes (kept_acts coming taken done new kept) wrote
decided Turns limit asked document left given gave coming taken done new old text f h r out ends = absurd out
decided HubFault limit asked document left given gave coming taken done new old text f h r out ends = absurd out
decided RoundsFault limit asked document left given gave coming taken done new old text f h r out ends = absurd out
decided ReadFault limit asked document left given gave coming taken done new old text f h r out ends = absurd out

-- ---- as many events as are to be taken

-- all were taken, and they are fewer
over_turns : (held : Held) (n m : NodeState) (turns : ℕ) (events others : List HubEvent) (new other : Option Held) → length events < turns → Went (Some held) new n events → held.coming ≡ events
    → length others ≡ turns → Went (Some held) other m others → ⊥
over_turns held n m turns events others new other few went all count (rest, split, goes) = absurd (omega (arith, ap length all, ap length split, length-append others rest, few, count))

-- it was deposed before
deposed_turns : (held : Held) (n : NodeState) (turns : ℕ) (before events others : List HubEvent) (last : HubEvent) (new other : Option Held) → events ≡ before ++ last ∷ [] → length before < turns
    → Went (Some held) new n events → has_ended (node_after n events).control ≡ true → length others ≡ turns → Went (Some held) other n others → Goes n others → ⊥
deposed_turns held n turns before events others last new other is few (rest, split, went) ended count (more, parts, goes) going =
    let size : length events ≡ length before + 1 = ap length is ∙ length-append before (last ∷ []) in
    let (after, longer) = front_of events others rest more (sym split ∙ parts) (omega (arith, size, few, count)) in
    let same : node_after n others ≡ node_after n events = ap (node_after n) longer ∙ all_after n events after ended in
    let late : has_ended (node_after n others).control ≡ true = ap (λ (m : NodeState). has_ended m.control) same ∙ ended in
    absurd (cc (sym going ∙ late))

-- two runs of one input took one number, and so begin with one node
same_round : (given gave : Given) (round other : ℕ) → Gave round given gave → Gave other given gave → round ≡ other
same_round given gave round other one two = last_is round given gave one ∙ sym (last_is other given gave two)

same_bytes : (limit : ℕ) (document one two : List ℕ) (l k : Option (List ℕ)) → LookEnds limit (Ok look.Whole) one (Some document) l → LookEnds limit (Ok look.Whole) two (Some document) k → one ≡ two
same_bytes limit document one two l k (consumed, end, le) (read, finish, short) = sym (all_read document one l consumed end) ∙ all_read document two k read finish

pub never_turns : (e : ControlEnd) (limit : ℕ) (asked : Asked) (document : List ℕ) (l k : Option (List ℕ)) (given gave : Given) (held : Held) (new other : Option Held) (o p n m : Option (List ℕ)) (read reads served serves took takes : ℕ × ℕ) → IsRunOut e
    → ControlEnds limit asked read served took (Ok e) (Some document) l given gave (Some held) new o n → ControlEnds limit asked reads serves takes (Ok Turns) (Some document) k given gave (Some held) other p m → ⊥
never_turns Done limit asked document l k given gave held new other o p n m a b c d f h out (written, (bytes, round, events, read, (means, took, (few, goes, went, all, at), writes), counts), wrote) (line, (reads, number, others, looked, (meant, (gives, is), (count, going, goes_on), says), tells), writes_on) =
    over_turns held _ _ asked.turns events others new other few went all count goes_on
never_turns Unfinished limit asked document l k given gave held new other o p n m a b c d f h out (written, (bytes, round, events, read, (means, took, (few, goes, went, all, at), writes), counts), wrote) (line, (reads, number, others, looked, (meant, (gives, is), (count, going, goes_on), says), tells), writes_on) =
    over_turns held _ _ asked.turns events others new other few went all count goes_on
never_turns Deposed limit asked document l k given gave held new other o p n m a b c d f h out (written, (bytes, round, events, read, (means, (took, is_one), (before, last, split, few, goes, went, ended), writes), counts), wrote) (line, (reads, number, others, looked, (meant, (gives, is), (count, going, goes_on), says), tells), writes_on) =
    let here : NodeState = node_given asked.ce round (plan_for asked.addresses bytes) in
    let same : node_given asked.ce number (plan_for asked.addresses reads) ≡ here =
    ap (λ r. node_given asked.ce r (plan_for asked.addresses reads)) (same_round given gave number round gives took)
    ∙ ap (λ b. node_given asked.ce round (plan_for asked.addresses b)) (same_bytes limit document reads bytes k l looked read) in
    deposed_turns held here asked.turns before events others last new other split few went ended count
    (subst (λ (x : NodeState). Went (Some held) other x others) same goes_on) (subst (λ (x : NodeState). Goes x others) same going)
never_turns NoRound limit asked document l k given gave held new other o p n m a b c d f h out (written, (bytes, round, events, read, (means, (took, long), kept, writes), counts), wrote) (line, (reads, number, others, looked, (meant, (gives, is), (count, going, goes_on), says), tells), writes_on) =
    absurd (omega (arith, same_round given gave round number took gives, long, is.1))
never_turns Refused limit asked document l k given gave held new other o p n m a b c d f h out (written, (bytes, round, events, read, ((fault, means), took, kept, writes), counts), wrote) (line, (reads, number, others, looked, ((plan, meant), (gives, is), (count, going, goes_on), says), tells), writes_on) =
    let same : Err fault ≡ Ok plan = sym means ∙ ap (plan_for asked.addresses) (same_bytes limit document bytes reads l k read looked) ∙ meant in
    absurd (cc same)
never_turns TooLong limit asked document l k given gave held new other o p n m a b c d f h out (written, (bytes, round, events, read, (means, took, kept, writes), counts), wrote) (line, (reads, number, others, looked, (meant, (gives, is), (count, going, goes_on), says), tells), writes_on) =
    absurd (whole_long limit document reads bytes k l looked read)
never_turns Turns limit asked document l k given gave held new other o p n m a b c d f h out one two = absurd out
never_turns HubFault limit asked document l k given gave held new other o p n m a b c d f h out one two = absurd out
never_turns RoundsFault limit asked document l k given gave held new other o p n m a b c d f h out one two = absurd out
never_turns ReadFault limit asked document l k given gave held new other o p n m a b c d f h out one two = absurd out
