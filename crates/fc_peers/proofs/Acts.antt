-- Acts one after the other.
use Rattle.std.proofs.Common.{◌≡◌, ℕ, true, false, List, [], ◌∷◌, ◌++◌, refl, sym, ap, ◌∙◌, append_assoc, append-nil, Option, Some, None, Result, Ok, Err}
use Rattle.std.specs.Prelude.{IfErr, OnErr, OnOk}
use Rattle.std.specs.Option.{option_map}
use Rattle.std.proofs.lemmas.List.{map-append}
use Rattle.fc_hub.specs.Hubs.{Held, holds}
use Rattle.fc_hub.specs.declared.event.Act.{Act}
use Rattle.fc_hub.specs.declared.event.Act.TheVariants.{Sent}
use Rattle.fc_peers.specs.declared.acting.NodeStop.{NodeStop}
use Rattle.fc_peers.specs.declared.acting.NodeStop.TheVariants.{HubFault, NoMemory}
use Rattle.fc_msg.specs.declared.message.Message.{Message}
use Rattle.fc_msg.specs.Messages.{canonical, message_fits}
use Rattle.fc_peers.specs.Acting.{Acts, ActsUntil, AreLeft, acted, numbered, sending}

acted_none : (h : Held) → acted [] h ≡ h
acted_none h = let e = append-nil h.acts in ap (λ acts. holds h.coming h.taken acts) e

acted_both : (h : Held) (xs ys : List Act) → acted ys (acted xs h) ≡ acted (xs ++ ys) h
acted_both h xs ys =
    ap (λ acts. holds h.coming h.taken acts)
    (append_assoc h.acts (numbered h.taken xs) (numbered h.taken ys) ∙ ap (λ l. h.acts ++ l) (sym (map-append (λ act. (h.taken, act)) xs ys)))

-- nothing was done
pub acts_none : (a : Option Held) → Acts a a []
acts_none None = refl
acts_none (Some h) = ap Some (sym (acted_none h))

twice : (a : Option Held) (xs ys : List Act) → option_map (acted ys) (option_map (acted xs) a) ≡ option_map (acted (xs ++ ys)) a
twice None xs ys = refl
twice (Some h) xs ys = ap Some (acted_both h xs ys)

pub acts_on : (a b c : Option Held) (xs ys : List Act) → Acts a b xs → Acts b c ys → Acts a c (xs ++ ys)
acts_on a b c xs ys first second = second ∙ ap (λ o. option_map (acted ys) o) first ∙ twice a xs ys

-- the first acts were done, and then a front of the others
pub until_on : (stop : NodeStop) (a b c : Option Held) (xs ys : List Act) → Acts a b xs → ActsUntil stop b c ys → ActsUntil stop a c (xs ++ ys)
until_on stop a b c xs ys first (front, left, split, some, second) =
    (xs ++ front, left, ap (λ l. xs ++ l) split ∙ sym (append_assoc xs front left), some, acts_on a b c xs front first second)

-- an act is left
is_left : (stop : NodeStop) (act : Act) (acts : List Act) → AreLeft stop (act ∷ acts)
is_left HubFault act acts = λ none. cc none
is_left NoMemory act acts = tt

-- the first acts were done, and the next was not
pub until_here : (stop : NodeStop) (a b c : Option Held) (xs : List Act) (act : Act) (ys : List Act) → Acts a b xs → c ≡ b → ActsUntil stop a c (xs ++ act ∷ ys)
until_here stop a b c xs act ys first same = (xs, act ∷ ys, refl, is_left stop act ys, same ∙ first)

-- one act was to be done, and was not
pub until_one : (result : Result (Unit {0}) NodeStop) (a b : Option Held) (act : Act) → OnErr result (b ≡ a) → IfErr result (λ stop. ActsUntil stop a b (act ∷ []))
until_one (Ok x) a b act kept = tt
until_one (Err stop) a b act kept = until_here stop a a b [] act [] (acts_none a) kept

-- nothing was done of some acts
pub until_none : (stop : NodeStop) (a : Option Held) (xs : List Act) → AreLeft stop xs → ActsUntil stop a a xs
until_none stop a xs some = ([], xs, refl, some, acts_none a)

-- ---- a message

sends : (m : Message) (peer : ℕ) → message_fits m ≡ true → sending peer m ≡ Sent peer (canonical m) ∷ []
sends m peer fits = rw fits refl

sends_none : (m : Message) (peer : ℕ) → message_fits m ≡ false → sending peer m ≡ []
sends_none m peer long = rw long refl

sent_by : (result : Result (Unit {0}) NodeStop) (a b : Option Held) (act : Act) (acts : List Act) → acts ≡ act ∷ [] → OnOk result (Acts a b (act ∷ [])) → OnOk result (Acts a b acts)
sent_by (Ok x) a b act acts is done = done ∙ ap (λ l. option_map (acted l) a) (sym is)
sent_by (Err stop) a b act acts is done = tt

unsent_by : (result : Result (Unit {0}) NodeStop) (a b : Option Held) (act : Act) (acts : List Act) → acts ≡ act ∷ [] → OnErr result (b ≡ a) → IfErr result (λ stop. ActsUntil stop a b acts)
unsent_by (Ok x) a b act acts is kept = tt
unsent_by (Err stop) a b act acts is kept = let (front, left, split, some, done) = until_here stop a a b [] act [] (acts_none a) kept in (front, left, is ∙ split, some, done)

act_of : (peer : ℕ) (m : Message) (bytes : List ℕ) → message_fits m ≡ true → bytes ≡ canonical m → sending peer m ≡ Sent peer bytes ∷ []
act_of peer m bytes fits is = sends m peer fits ∙ ap (λ b. Sent peer b ∷ []) (sym is)

-- its bytes were sent
pub sent_whole : (result : Result (Unit {0}) NodeStop) (a b : Option Held) (peer : ℕ) (m : Message) (bytes : List ℕ) → message_fits m ≡ true → bytes ≡ canonical m
    → OnOk result (Acts a b (Sent peer bytes ∷ [])) → OnOk result (Acts a b (sending peer m))
sent_whole result a b peer m bytes fits is done = sent_by result a b (Sent peer bytes) (sending peer m) (act_of peer m bytes fits is) done

-- they were not
pub sent_not : (result : Result (Unit {0}) NodeStop) (a b : Option Held) (peer : ℕ) (m : Message) (bytes : List ℕ) → message_fits m ≡ true → bytes ≡ canonical m
    → OnErr result (b ≡ a) → IfErr result (λ stop. ActsUntil stop a b (sending peer m))
sent_not result a b peer m bytes fits is kept = unsent_by result a b (Sent peer bytes) (sending peer m) (act_of peer m bytes fits is) kept

-- it is one that is not sent
pub sent_nothing : (a : Option Held) (peer : ℕ) (m : Message) → message_fits m ≡ false → Acts a a (sending peer m)
sent_nothing a peer m long = acts_none a ∙ ap (λ l. option_map (acted l) a) (sym (sends_none m peer long))

all_left : (stop : NodeStop) (xs ys : List Act) → AreLeft stop xs → AreLeft stop (xs ++ ys)
all_left HubFault [] ys some = absurd (some refl)
all_left HubFault (x ∷ xs) ys some = is_left HubFault x (xs ++ ys)
all_left NoMemory xs ys some = tt

-- a front of the acts is one of these and more
pub until_longer : (stop : NodeStop) (a b : Option Held) (xs ys : List Act) → ActsUntil stop a b xs → ActsUntil stop a b (xs ++ ys)
until_longer stop a b xs ys (front, left, split, some, done) =
    (front, left ++ ys, ap (λ l. l ++ ys) split ∙ append_assoc front left ys, all_left stop left ys some, done)

pub acts_same : (a b : Option Held) (xs ys : List Act) → Acts a b xs → ys ≡ xs → Acts a b ys
acts_same a b xs ys done is = done ∙ ap (λ l. option_map (acted l) a) (sym is)

pub until_same : (stop : NodeStop) (a b : Option Held) (xs ys : List Act) → ActsUntil stop a b xs → ys ≡ xs → ActsUntil stop a b ys
until_same stop a b xs ys (front, left, split, some, done) is = (front, left, is ∙ split, some, done)
