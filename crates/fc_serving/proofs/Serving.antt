-- One event more.
use Rattle.std.proofs.Common.{◌≡◌, ◌≢◌, ◌+◌, ℕ, suc, List, [], ◌∷◌, ◌++◌, length, refl, sym, ap, ◌∙◌, append_assoc, append-nil, length-append, arith, Option, Some, None}
use Rattle.std.specs.Option.{option_map}
use Rattle.fc_hub.specs.Hubs.{Held, holds, after_next, IsFirst, IsNext}
use Rattle.fc_hub.specs.declared.event.HubEvent.{HubEvent}
use Rattle.fc_hub.specs.declared.event.HubEvent.TheVariants.{Over}
use Rattle.fc_hub.specs.declared.event.Act.{Act}
use Rattle.fc_peers.specs.Acting.{Acts, ActsUntil, acted, numbered}
use Rattle.fc_peers.specs.declared.acting.NodeStop.{NodeStop}
use Rattle.fc_serving.specs.ElementNode.{NodeState, acts_of, node_after, node_step}
use Rattle.fc_serving.specs.Serving.{AreAll, Went, WentInto}

same_held : (h : Held) (t : ℕ) (acts : List (ℕ × Act)) → h.taken ≡ t → h.acts ≡ acts → h ≡ holds h.coming t acts
same_held h t acts a b = let same : holds h.coming h.taken h.acts ≡ holds h.coming t acts = rw (a, b) refl in same

ap2 : {A B C : Type 0} {a x : A} {b y : B} (f : A → B → C) → a ≡ x → b ≡ y → f a b ≡ f x y
ap2 f p q = rw (p, q) refl

count_more : (t : ℕ) (es : List HubEvent) (e : HubEvent) → t + length es + 1 ≡ t + length (es ++ e ∷ [])
count_more t es e = omega (arith, length-append es (e ∷ []))

pub after_more : (n : NodeState) (es : List HubEvent) (e : HubEvent) → node_after n (es ++ e ∷ []) ≡ (node_step (node_after n es) e).state
after_more n [] e = refl
after_more n (x ∷ xs) e = after_more (node_step n x).state xs e

zero_more : (t : ℕ) → t + 1 ≡ t + 0 + 1
zero_more t = omega arith

one_more : (t k : ℕ) → t + 1 + k + 1 ≡ t + suc k + 1
one_more t k = omega arith

acts_more : (t : ℕ) (n : NodeState) (es : List HubEvent) (e : HubEvent)
    → acts_of t n (es ++ e ∷ []) ≡ acts_of t n es ++ numbered (t + length es + 1) (node_step (node_after n es) e).acts
acts_more t n [] e = append-nil (numbered (t + 1) (node_step n e).acts) ∙ ap (λ k. numbered k (node_step n e).acts) (zero_more t)
acts_more t n (x ∷ xs) e =
    let moved = node_step n x in
    let last = (node_step (node_after moved.state xs) e).acts in
    ap (λ l. numbered (t + 1) moved.acts ++ l) (acts_more (t + 1) moved.state xs e ∙ ap (λ k. acts_of (t + 1) moved.state xs ++ numbered k last) (one_more t (length xs)))
    ∙ sym (append_assoc (numbered (t + 1) moved.acts) (acts_of (t + 1) moved.state xs) (numbered (t + suc (length xs) + 1) last))

-- no event was taken
pub went_none : (held : Option Held) (n : NodeState) → Went held held n []
went_none None n = refl
went_none (Some h) n = (h.coming, refl, ap Some (same_held h (h.taken + 0) (h.acts ++ []) (omega arith) (sym (append-nil h.acts))))

-- these events were taken and one more, of which no act was done yet
abbrev pub Took : Option Held → Option Held → NodeState → List HubEvent → HubEvent → Type 0
Took None new n es e = new ≡ None
Took (Some h) new n es e =
    (coming : List HubEvent) × (h.coming ≡ es ++ e ∷ coming) × (new ≡ Some (holds coming (h.taken + length es + 1) (h.acts ++ acts_of h.taken n es)))

took_from : (h : Held) (new : Option Held) (n : NodeState) (es coming : List HubEvent) (e : HubEvent) → h.coming ≡ es ++ coming
    → new ≡ Some (after_next (holds coming (h.taken + length es) (h.acts ++ acts_of h.taken n es))) → IsFirst coming e → e ≢ Over → Took (Some h) new n es e
took_from h new n es [] e split is first other = absurd (other first)
took_from h new n es (x ∷ xs) e split is first other = (xs, split ∙ ap (λ y. es ++ y ∷ xs) (sym first.0), is)

pub took : (old mid new : Option Held) (n : NodeState) (es : List HubEvent) (e : HubEvent) → Went old mid n es → new ≡ option_map after_next mid → IsNext mid e
    → e ≢ Over → Took old new n es e
took None mid new n es e went is next other = is ∙ ap (option_map after_next) went
took (Some h) mid new n es e (coming, split, went) is next other =
    took_from h new n es coming e split (is ∙ ap (option_map after_next) went) (rw went at next) other

-- its acts were done
pub went_more : (old new next : Option Held) (n : NodeState) (es : List HubEvent) (e : HubEvent) → Took old new n es e
    → Acts new next (node_step (node_after n es) e).acts → Went old next n (es ++ e ∷ [])
went_more None new next n es e took acts = acts ∙ ap (option_map (acted (node_step (node_after n es) e).acts)) took
went_more (Some h) new next n es e (coming, split, took) acts =
    let last = (node_step (node_after n es) e).acts in
    let t = h.taken in (
      coming,
      split ∙ sym (append_assoc es (e ∷ []) coming),
      acts ∙ ap (option_map (acted last)) took
          ∙ ap Some (ap2 (holds coming) (count_more t es e) (append_assoc h.acts (acts_of t n es) (numbered (t + length es + 1) last) ∙ ap (λ l. h.acts ++ l) (sym (acts_more t n es e)))),
    )

-- a front of its acts was done
pub went_into : (stop : NodeStop) (old new next : Option Held) (n : NodeState) (es : List HubEvent) (e : HubEvent) → Took old new n es e
    → ActsUntil stop new next (node_step (node_after n es) e).acts → WentInto stop old next n es e
went_into stop None new next n es e took (front, left, parts, some, acts) = acts ∙ ap (option_map (acted front)) took
went_into stop (Some h) new next n es e (coming, split, took) (front, left, parts, some, acts) =
    (coming, front, left, split, parts, some, acts ∙ ap (option_map (acted front)) took)

ended : (h : Held) (new : Option Held) (n : NodeState) (es coming : List HubEvent) → h.coming ≡ es ++ coming
    → new ≡ Some (after_next (holds coming (h.taken + length es) (h.acts ++ acts_of h.taken n es))) → IsFirst coming Over
    → Went (Some h) new n es × (h.coming ≡ es)
ended h new n es [] split is first = (([], split, is), split ∙ append-nil es)
ended h new n es (x ∷ xs) split is first = absurd (first.1 refl)

-- the end came
pub at_over : (old mid new : Option Held) (n : NodeState) (es : List HubEvent) → Went old mid n es → new ≡ option_map after_next mid → IsNext mid Over
    → Went old new n es × AreAll old es
at_over None mid new n es went is next = (is ∙ ap (option_map after_next) went, tt)
at_over (Some h) mid new n es (coming, split, went) is next = ended h new n es coming split (is ∙ ap (option_map after_next) went) (rw went at next)

-- a call that failed left all as it was
pub went_kept : (old mid new : Option Held) (n : NodeState) (es : List HubEvent) → Went old mid n es → new ≡ mid → Went old new n es
went_kept None mid new n es went same = same ∙ went
went_kept (Some h) mid new n es (coming, split, went) same = (coming, split, same ∙ went)
