-- The heartbeats to associations and their peers, one by one.
use Rattle.std.proofs.Common.{◌≡◌, ◌≤◌, ◌+◌, ℕ, List, [], ◌∷◌, ◌++◌, length, take, slice_get, refl, sym, ap, ◌∙◌, append_assoc, Option, Some, None, inl, inr}
use Rattle.std.specs.Option.{option_map}
use Rattle.std.proofs.lemmas.Option.{slice_get_within, get_or_from_slice_get, slice_get_cases, slice_get-map}
use Rattle.std.proofs.lemmas.List.{take_more, take_all, length-map}
use Rattle.std.specs.FinMap.{entries}
use Rattle.fc_assoc.specs.Associations.{AssociationMap}
use Rattle.fc_assoc.specs.declared.heard.Heard.{Heard}
use Rattle.fc_performing.specs.Sending.{out}
use Rattle.fc_performing.specs.declared.out.Out.{Out}
use Rattle.fc_element.specs.ElementMachine.{beats_of, heartbeat_of}
use Rattle.fc_element.specs.Notices.{peers_of}

abbrev beat : ℕ → ℕ × Heard → Out
beat id pair = out pair.1.peer (heartbeat_of id pair.0)

abbrev seen : ℕ × Heard → ℕ × ℕ
seen pair = (pair.0, pair.1.peer)

abbrev beat_to : ℕ → ℕ × ℕ → Out
beat_to id pair = out pair.1 (heartbeat_of id pair.0)

by_seen : (id : ℕ) (o : Option (ℕ × Heard)) (p : Option (ℕ × ℕ)) → p ≡ option_map seen o → option_map (beat_to id) p ≡ option_map (beat id) o
by_seen id None p is = ap (option_map (beat_to id)) is
by_seen id (Some pair) p is = ap (option_map (beat_to id)) is

-- the heartbeat at a place, from what was seen there
pub at_place : (id place : ℕ) (m : AssociationMap) (p : Option (ℕ × ℕ)) → p ≡ option_map seen (slice_get (entries m) place)
    → option_map (beat_to id) p ≡ slice_get (beats_of id m) place
at_place id place m p is = by_seen id (slice_get (entries m) place) p is ∙ sym (slice_get-map (beat id) (entries m) place)

-- one more
pub one_more : {A : Type 0} (beats before now : List A) (place : ℕ) (next : A) → Some next ≡ slice_get beats place → now ≡ before ++ take place beats
    → now ++ next ∷ [] ≡ before ++ take (place + 1) beats
one_more beats before now place next at so_far =
    let within = slice_get_within beats place next (sym at) in
    let more : take (place + 1) beats ≡ take place beats ++ next ∷ [] = take_more beats place next within ∙ ap (λ x. take place beats ++ x ∷ []) (get_or_from_slice_get beats place next next (sym at)) in
    rw (more, so_far, append_assoc) refl

-- none stands past the last
pub none_past : {A : Type 0} (beats : List A) (place : ℕ) → None ≡ slice_get beats place → length beats ≤ place
none_past {A = A} beats place none =
    elim (slice_get_cases beats place).1 [
      | inl (x, lt, some, same) ↦ absurd (let e : ◌≡◌ {A = Option A} None (Some x) = none ∙ some in cc)
      | inr (le, is) ↦ le
    ]

-- all of them
pub all_sent : {A : Type 0} (beats before now : List A) (place : ℕ) → length beats ≤ place → now ≡ before ++ take place beats → now ≡ before ++ beats
all_sent beats before now place le is = is ∙ ap (λ l. before ++ l) (take_all place beats le)

-- as many as there are associations
pub beats_length : (id : ℕ) (m : AssociationMap) → length (beats_of id m) ≡ length (entries m)
beats_length id m = length-map (entries m) (beat id)

-- ---- peers
pub peers_length : (m : AssociationMap) → length (peers_of m) ≡ length (entries m)
peers_length m = length-map (entries m) seen

pub peer_at : (place : ℕ) (m : AssociationMap) (p : Option (ℕ × ℕ)) → p ≡ option_map seen (slice_get (entries m) place) → p ≡ slice_get (peers_of m) place
peer_at place m p is = is ∙ sym (slice_get-map seen (entries m) place)

pub peer_more : (m : AssociationMap) (place : ℕ) (before now : List (ℕ × ℕ)) (x : ℕ × ℕ) (ce : ℕ) → Some x ≡ option_map seen (slice_get (entries m) place) → ce ≡ x.0 → before ≡ take place (peers_of m)
    → now ≡ before ++ (ce, x.1) ∷ [] → now ≡ take (place + 1) (peers_of m)
peer_more m place before now x ce at same so_far is =
    is ∙ ap (λ (k : ℕ). before ++ (k, x.1) ∷ []) same ∙ one_more (peers_of m) [] before place x (peer_at place m (Some x) at) so_far
